-- What a scripted strand does: its client's first byte names the program that its thread goes by.
use Rattle.std.specs.Prelude.{ℕ, ◌+◌, ◌-◌, ◌^◌, min, List, [], ◌∷◌, if◌then◌else◌}
use Rattle.resty_base.specs.declared.names.Ms.{Ms}
use Rattle.strand_contract.specs.declared.turns.Place.TheVariants as place
use Rattle.strand_contract.specs.Actions.{LocalAction, Did, Bytes, Ended, Broken, Ready, Put, Lost, Run, Due, Halted}
use Rattle.strand_contract.specs.Alone.{is_some_left}
use Rattle.strand_contract.specs.Behaviors.{Behavior}
use Rattle.strand_plans.specs.Ledgers.{Ledger, left_at}
use Rattle.strand_plans.specs.Moves.{Move, Done, Unready, Send, Arm, Cancel, Set, Look, End}
use Rattle.strand_plans.specs.Moves as move
use Rattle.strand_plans.specs.Plans.{Plan, behavior_of}
use Rattle.strand_scripts.specs.declared.program.Op.{Op}
use Rattle.strand_scripts.specs.declared.program.Op.TheVariants as op
use Rattle.strand_scripts.specs.declared.program.Site.{Site}
use Rattle.strand_scripts.specs.declared.strand.Wait.{Wait}
use Rattle.strand_scripts.specs.declared.strand.Wait.TheVariants.{Asking, Going, Sleeping, Sending}
use Rattle.strand_scripts.specs.Programs.{ops_of}

-- beside its ledger a strand keeps what it waits for, and the rest of its program
pub record Script : Type 0 where
  pub wait : Wait
  pub rest : List Op

abbrev pub script : Wait → List Op → Script
script wait rest = record { wait = wait; rest = rest }

abbrev pub waits : Wait → List Op → Script → Script
waits wait rest s = script wait rest

-- so long after now, a moment that a number of 64 bits can tell
abbrev pub later : ℕ → Ms → Ms
later now span = record { 0 = min (now + span.0) (2 ^ 64 - 1) }

-- what the thread does until it waits, where there is memory for it. Once the program is over, the life ends as soon as all is taken
abbrev pub goes : {J : Type 0} → ℕ → List Op → Move J Script
goes now [] = Set (waits Sending []) (Look (λ b s. if is_some_left (left_at place.Client b) then Done else End))
goes now (op.Sleep span ∷ ops) = Set (waits Sleeping ops) (Arm 2 (later now span) Done)
goes now (op.Yield ∷ ops) = Set (waits Going ops) (move.Ready 0 Done)
goes now (op.Log line ∷ ops) = move.Log line (goes now ops)
goes now (op.Say text ∷ ops) = Send place.Client text (goes now ops)
goes now (op.Recall ∷ ops) = move.Ready 1 (Unready 1 (goes now ops))
goes now (op.Fail ∷ ops) = goes now ops

-- the first byte that a client sends names its program, and what it sends to a sleeper wakes it
abbrev pub hears_by : {J : Type 0} → List Op → Wait → Script → Move J Script
hears_by ops Asking s = Set (waits Going ops) (move.Ready 0 Done)
hears_by ops Sleeping s = Set (waits Going s.rest) (Cancel 2 (move.Ready 0 Done))
hears_by ops w s = Done

abbrev pub hears : {J : Type 0} → Site → List ℕ → Script → Move J Script
hears site [] s = Done
hears site (x ∷ xs) s = hears_by (ops_of x site.programs.items) s.wait s

-- a client that sends no more before it named its program ends the life
abbrev pub hears_end : {J : Type 0} → Wait → Move J Script
hears_end Asking = End
hears_end w = Done

-- all that was sent is taken
abbrev pub is_taken : {J : Type 0} → Wait → Ledger J → Move J Script
is_taken Sending b = if is_some_left (left_at place.Client b) then Done else End
is_taken w b = Done

abbrev pub script_turn : {J : Type 0} → Site → ℕ → LocalAction J → Ledger J → Script → Move J Script
script_turn site now (Did (Bytes q bytes)) b s = hears site bytes s
script_turn site now (Did (Ended q)) b s = hears_end s.wait
script_turn site now (Did (Run k)) b s = goes now s.rest
script_turn site now (Did (Due n)) b s = Set (waits Going s.rest) (move.Ready 0 Done)
script_turn site now (Did (Put q bytes)) b s = is_taken s.wait b
script_turn site now (Did (Ready q)) b s = Send q [] Done
script_turn site now (Did (Broken q)) b s = End
script_turn site now (Did (Lost q)) b s = End
script_turn site now (Did Halted) b s = End
script_turn site now a b s = Done

-- of a site; it has no dictionary
abbrev pub script_plan : {J : Type 0} → Site → Plan J Script
script_plan site = record {
  unborn = script Asking [];
  turn = script_turn site;
  zones = 0;
  zone_name = λ n. [];
  zone_size = λ n. 0;
  connections = site.connections;
}

abbrev pub script_behavior : {J : Type 0} → Site → Behavior J
script_behavior site = behavior_of (script_plan site)
