-- What the code of a scripted run returns: what its turn does, and to what it comes.
use Rattle.std.specs.Prelude.{ℕ, ◌+◌, ◌*◌, Bool, true, false, List, [], ◌∷◌, ◌++◌, Option, Some, None, if◌then◌else◌}
use Rattle.resty_base.specs.declared.names.Ms.{Ms}
use Rattle.strand_contract.specs.declared.turns.Act.TheVariants as act
use Rattle.run_contract.specs.declared.stored.NoJob.{NoJob}
use Rattle.run_contract.specs.declared.turns.Asking.{Asking}
use Rattle.run_contract.specs.declared.turns.LocationTimes.{LocationTimes}
use Rattle.run_contract.specs.declared.turns.RunAct.{RunAct}
use Rattle.run_contract.specs.declared.turns.RunAct.TheVariants as made
use Rattle.run_contract.specs.declared.turns.RunSeen.{RunSeen}
use Rattle.run_contract.specs.declared.turns.RunSeen.TheVariants as seen
use Rattle.run_contract.specs.declared.turns.Said.TheVariants as said
use Rattle.run_scripts.specs.declared.run.Progress.{Progress}
use Rattle.run_scripts.specs.declared.run.Progress.TheVariants.{Counting, Asked, Sleeping, Woken, Gone, Over}
use Rattle.run_scripts.specs.declared.run.ScriptedRun.{ScriptedRun}
use Rattle.run_scripts.specs.declared.script.Script.{Script}
use Rattle.run_scripts.specs.declared.script.Step.{Step}
use Rattle.run_scripts.specs.Scripted.{count_of, run_at, later}

abbrev pub Made : Type 0
Made = List (RunAct NoJob)

-- ---- steps

abbrev pub moved : Option LocationTimes → Made
moved None = []
moved (Some times) = made.Say (said.Times times) ∷ []

abbrev pub logged : Option (List ℕ) → Made
logged None = []
logged (Some line) = made.Act (act.Log line) ∷ []

abbrev pub sent : Option (List ℕ) → Made
sent None = []
sent (Some text) = made.Say (said.Send text) ∷ []

abbrev pub step_made : Step → Made
step_made x = moved x.moves_on ++ logged x.logs ++ sent x.says

abbrev pub end_made : Bool → Made
end_made closes = made.Act (act.Unready 0) ∷ made.Act (act.Cancel 2) ∷ made.Say (said.Ended closes) ∷ made.Say said.Over ∷ []

abbrev pub sleep_made : Ms → Made
sleep_made until = made.Act (act.Arm 2 until) ∷ []

abbrev pub count_made : List ℕ → Made
count_made key = made.Act (act.Dict 0 (count_of key)) ∷ []

-- ---- turns

pub record Took : Type 0 where
  pub does : Made
  pub run : ScriptedRun

abbrev pub turn : Made → ScriptedRun → Took
turn does run = record { does = does; run = run }

abbrev pub begun : Script → Option (List ℕ) → Took
begun script None = turn (step_made script.first) (run_at Asked true)
begun script (Some key) = turn (count_made key) (run_at Counting true)

abbrev pub asks_first : Asking → Option (List ℕ) → Option Asking
asks_first q None = Some q
asks_first q (Some key) = None

abbrev pub heard : Script → Bool → Progress → Took
heard script client Asked = turn (step_made script.answered ++ end_made script.closes) (run_at Over client)
heard script client p = turn (step_made script.later ++ end_made script.closes) (run_at Over client)

abbrev pub slept : Script → ℕ → Bool → Took
slept script now client = turn (step_made script.not_yet ++ sleep_made (later now script.sleeps)) (run_at Sleeping client)

abbrev pub ran : Script → Bool → Progress → Took
ran script client Woken = turn (step_made script.woken ++ end_made script.closes) (run_at Over client)
ran script client p = turn (end_made script.closes) (run_at Over client)

abbrev pub client_ended : Script → Bool → Progress → Took
client_ended script client Sleeping = turn (step_made script.client_ends) (run_at Sleeping client)
client_ended script client Woken = turn (step_made script.client_ends) (run_at Woken client)
client_ended script client p = turn [] (run_at p client)

abbrev pub let_go : Progress → Took
let_go Sleeping = turn (made.Act (act.Cancel 2) ∷ made.Act (act.Ready 0) ∷ []) (run_at Gone false)
let_go p = turn [] (run_at p false)

-- told this
abbrev pub told : Script → ℕ → RunSeen → ScriptedRun → Took
told script now (seen.Run k) r = ran script r.has_client r.progress
told script now (seen.Due n) r = turn (made.Act (act.Ready 0) ∷ []) (run_at Woken r.has_client)
told script now (seen.Body content waited) r = heard script r.has_client r.progress
told script now (seen.BodyRefused code) r = heard script r.has_client r.progress
told script now seen.AllTaken r = heard script r.has_client r.progress
told script now seen.NotYet r = slept script now r.has_client
told script now seen.ClientEnded r = client_ended script r.has_client r.progress
told script now seen.ClientGone r = let_go r.progress
told script now (seen.Sock k s) r = turn [] r

-- ---- how much is left

-- how many turns: those of its answer, of its thread, and one as the client goes
abbrev pub turns_at : Progress → ℕ
turns_at Counting = 4
turns_at Asked = 3
turns_at Sleeping = 2
turns_at Woken = 1
turns_at Gone = 1
turns_at Over = 0

-- each does at most seven things
abbrev pub left_of : ScriptedRun → ℕ
left_of run = 8 * (turns_at run.progress + (if run.has_client then 1 else 0))
