-- The behavior of the site, with what the request's bytes are read as written out: so it computes.
use Rattle.std.proofs.Common.{◌≡◌, ℕ, Bool, true, false, List, ◌++◌, if◌then◌else◌, refl, sym, ap, ◌∙◌}
use Rattle.std.proofs.Math.Path.{fun_ext}
use Rattle.shared_rules.specs.Keys.{same_key}
use Rattle.shared_rules.specs.KeyLaws.{same_key-eq}
use Rattle.client_line.specs.Records.{At, Came, Head, Present, Dropping, Over}
use Rattle.client_line.specs.Lines.{settled}
use Rattle.client_line.specs.Feeding.{Fed, led, fed}
use Rattle.strand_contract.specs.declared.turns.Place.TheVariants as place
use Rattle.strand_contract.specs.Actions.{LocalAction, Did, Bytes}
use Rattle.strand_contract.specs.Behaviors.{Behavior}
use Rattle.strand_contract.specs.Laws.{IsQuiet}
use Rattle.strand_plans.specs.Ledgers.{Ledger}
use Rattle.strand_plans.specs.Moves.{Move}
use Rattle.strand_plans.specs.Plans.{Plan, behavior_of}
use Rattle.strand_plans.proofs.Executions as executions
use Rattle.connection_plan.specs.Services.{Service, Both}
use Rattle.connection_plan.specs.Connections.{came_at, connection_turn, connection_plan}
use Rattle.run_contract.specs.declared.stored.NoJob.{NoJob}
use Rattle.lua_run.specs.Runs.{Run}
use Rattle.lua_run.specs.Services.{lua_service}
use Rattle.site_examples.specs.Site.{hi_site, hi_behavior}
use Rattle.site_examples.specs.Exchange.{request}
use Rattle.site_examples.proofs.Asking.{known, known-is}

abbrev led_so : At → List ℕ → Fed
led_so Head bytes = if same_key bytes request then known else led Head bytes
led_so at bytes = led at bytes

abbrev fed_so : Came → List ℕ → Fed
fed_so before piece = let came = settled before.at (before.held ++ piece) in led_so came.at came.held

at-head : (c : Bool) (bytes : List ℕ) → same_key bytes request ≡ c → (if c then known else led Head bytes) ≡ led Head bytes
at-head true bytes h = known-is ∙ ap (led Head) (sym (same_key-eq bytes request h))
at-head false bytes h = refl

led-is : (at : At) (bytes : List ℕ) → led_so at bytes ≡ led at bytes
led-is Head bytes = at-head (same_key bytes request) bytes refl
led-is (Present body kind skips) bytes = refl
led-is (Dropping far) bytes = refl
led-is (Over code) bytes = refl

fed-is : (before : Came) (piece : List ℕ) → fed_so before piece ≡ fed before piece
fed-is before piece = let came = settled before.at (before.held ++ piece) in led-is came.at came.held

abbrev site : Service NoJob Run
site = lua_service hi_site

abbrev Turns : Type 0
Turns = ℕ → LocalAction NoJob → Ledger NoJob → Both Run → Move NoJob (Both Run)

abbrev turns_so : Turns
turns_so now (Did (Bytes place.Client bytes)) b s = came_at site now s.client.stage (fed_so s.client.came bytes) s
turns_so now a b s = connection_turn site now a b s

turn-is : (now : ℕ) (a : LocalAction NoJob) (b : Ledger NoJob) (s : Both Run) → turns_so now a b s ≡ connection_turn site now a b s
turn-is now (Did (Bytes place.Client bytes)) b s = ap (λ f. came_at site now s.client.stage f s) (fed-is s.client.came bytes)
turn-is now a b s = refl

turns-are : turns_so ≡ connection_turn site
turns-are = fun_ext λ now. fun_ext λ a. fun_ext λ b. fun_ext λ s. turn-is now a b s

abbrev plan_by : Turns → Plan NoJob (Both Run)
plan_by turns = record (connection_plan site) { turn = turns }

abbrev pub behavior : Behavior NoJob
behavior = behavior_of (plan_by turns_so)

pub behavior-is : behavior ≡ hi_behavior
behavior-is = ap (λ (t : Turns). behavior_of (plan_by t)) turns-are

pub quiet : IsQuiet behavior
quiet = executions.quiet (plan_by turns_so)
