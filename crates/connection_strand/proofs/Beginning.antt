-- How a connection begins, for a client or for a job.
use Rattle.std.proofs.Common.{◌≡◌, ℕ, Bool, true, false, [], ◌∷◌, Some, None, refl, sym, ap, ◌∙◌, subst, arith}
use Rattle.strand_contract.specs.declared.turns.Place.TheVariants as place
use Rattle.strand_contract.specs.declared.turns.Start.{Start}
use Rattle.strand_contract.specs.declared.turns.Start.TheVariants as start
use Rattle.strand_contract.specs.Actions.{Did, Began}
use Rattle.strand_plans.specs.Ledgers.{Ledger, empty_ledger, entered, is_place}
use Rattle.strand_plans.specs.Moves.{Done, Performed, perform}
use Rattle.strand_plans.specs.Plans.{unborn_state, stepped}
use Rattle.strand_plans.proofs.Ledgers.{begun-is}
use Rattle.run_contract.specs.declared.turns.RunTurn.{RunTurn}
use Rattle.run_contract.specs.Runs.{Waits, waits_at_first}
use Rattle.run_contract.specs.Calls as calls
use Rattle.run_contract.specs.Conditions.{IsRun, IsBlank, Leaves}
use Rattle.connection_plan.specs.Clients.{new_client}
use Rattle.connection_plan.specs.Clients as stage
use Rattle.connection_plan.specs.Services.{Both}
use Rattle.connection_plan.specs.Timers as timer
use Rattle.connection_plan.specs.Turns.{begin_timer, run_turn}
use Rattle.connection_plan.specs.Connections.{connection_plan}
use Rattle.connection_strand.specs.Views.{View, service}
use Rattle.connection_strand.specs.declared.state.Connection.{Connection}
use Rattle.connection_strand.specs.declared.state.Progress.{Progress}
use Rattle.connection_strand.specs.Kept.{Kept, kept, fresh, waits_of}
use Rattle.connection_strand.specs.Standing.{plain, places, Came, before}
use Rattle.connection_strand.specs.Turns.{Took}
use Rattle.connection_strand.specs.Following.{Follows}
use Rattle.connection_strand.proofs.Losing.{To}
use Rattle.connection_strand.proofs.Telling.{took-turn}

-- the ledger as it begins
abbrev pub first : {J : Type 0} → ℕ → Start J → Ledger J
first now begin = entered (Did (Began now begin)) empty_ledger

client-blank : {J : Type 0} (now n : ℕ) → IsBlank {J = J} (first now (start.Client n))
client-blank now n = record { no_thread = refl; no_deadline = refl; no_socket = λ k. refl; none_asked = refl; unused = λ k l. (refl, refl, refl) }

job-blank : {J : Type 0} (now n : ℕ) (premature : Bool) (job : J) → IsBlank (first now (start.Job n premature job))
job-blank now n premature job = record { no_thread = refl; no_deadline = refl; no_socket = λ k. refl; none_asked = refl; unused = λ k l. (refl, refl, refl) }

module _ {R J I : Type 0} (v : View R J I) (now : ℕ) where
  -- to what the first turn comes
  abbrev pub begun : Start J → Performed J (Both I)
  begun begin = stepped (connection_plan (service v)) now (Did (Began now begin)) (unborn_state (connection_plan (service v)))

  pub follows : (begin : Start J) (c : Connection R) (u : Progress J) → Came v (begun begin) c u
      → Follows v c (Did (Began now begin) ∷ []) × (u.acts.items ≡ (begun begin).acts)
  follows begin c u x = (
    record { stays = x.stays; taking = λ there. x.taking there ∙ ap (is_place place.Client) (sym (begun-is (connection_plan (service v)) (Did (Began now begin) ∷ []))) },
    sym x.acts,
  )

  pub begins-client : (n : ℕ) (c : Connection R) (u : Progress J) → kept c.client ≡ fresh v.serving.default_times true → c.sockets.items ≡ [] → c.count ≡ 0 → c.keeping ≡ None
      → c.is_taking ≡ false → u.acts.items ≡ [] → u.is_offered ≡ false
      → To v (plain stage.Head) (begun (start.Client n)) c u (begin_timer (service v) now timer.Header Done)
  begins-client n c u client socks count keeping taking acts offered =
      let b : Ledger J = first now (start.Client n) in
      let s : Both I = record { client = new_client v.serving.default_times; run = v.meaning.plan.unborn } in
      record {
        ledger = b;
        inner = s;
        within = record {
          serves = record {
            client = client;
            sockets = sym (ap (places true) socks);
            count = count;
            keeping = keeping;
            offered = λ there. offered;
            taking = λ there. taking;
            counted = omega arith;
            once = tt;
            none_asked = refl;
            on = tt;
          };
          at = refl;
          run = tt;
          known = client-blank now n;
          blank = λ e. absurd (let f : false ≡ true = e in cc);
          made = refl;
        };
        leads = ap (λ xs. before xs (perform (begin_timer (service v) now timer.Header Done) b s)) (sym acts);
      }

  pub begins-job : IsRun v.meaning.plan v.meaning.holds → (n : ℕ) (premature : Bool) (job : J) (run : R) (turn : RunTurn J) (c c' : Connection R) (u : Progress J)
      → calls.BeginsJob v.meaning now premature job run turn
      → kept c.client ≡ fresh v.serving.default_times false → waits_of c.waits ≡ waits_at_first false → c.sockets.items ≡ [] → c.count ≡ 0 → c.keeping ≡ None
      → kept c'.client ≡ record (kept c.client) { stage = stage.Busy } → c'.run ≡ Some run → c'.waits ≡ c.waits → c'.sockets ≡ c.sockets → c'.count ≡ c.count → c'.keeping ≡ c.keeping
      → u.acts.items ≡ [] → Took v now turn (begun (start.Job n premature job)) c' u Done
  begins-job lawful n premature job run turn c c' u begins client waits socks count keeping client' is waits' socks' count' keeping' acts =
      let b : Ledger J = first now (start.Job n premature job) in
      let s : Both I = record { client = record (new_client v.serving.default_times) { stage = stage.Busy }; run = v.meaning.plan.unborn } in
      let t = v.meaning.plan.begun_job now premature job b in
      took-turn v now t turn (begun (start.Job n premature job)) c' u Done b s run (record {
        client = client' ∙ ap (λ (k : Kept). record k { stage = stage.Busy }) client;
        sockets = sym (ap (places false) (ap (λ v. v.items) socks' ∙ socks));
        count = count' ∙ count;
        keeping = keeping' ∙ keeping;
        offered = λ there. absurd (let f : false ≡ true = there in cc);
        taking = λ there. absurd (let f : false ≡ true = there in cc);
        counted = omega arith;
        once = tt;
        none_asked = refl;
        on = tt;
      }) refl is (begins b (job-blank now n premature job) refl)
      (subst (λ (w : Waits). Leaves v.meaning.plan v.meaning.holds w t b) (sym (ap waits_of waits' ∙ waits)) (lawful.begins_job now premature job b (job-blank now n premature job)))
      (ap (λ xs. before xs (perform (run_turn (service v) now t Done) b s)) (sym acts))
