-- Runs by a script, for example laws: such a run asks at most one thing, and its script has what it does as it begins and with each answer.
use Rattle.std.specs.Prelude.{ℕ, true, false, List, [], ◌∷◌, codes}
use Rattle.strand_contract.specs.declared.turns.Place.TheVariants as place
use Rattle.strand_contract.specs.declared.turns.Act.{Act}
use Rattle.strand_contract.specs.Actions.{LocalAction, Did, Dial}
use Rattle.strand_plans.specs.Questions as question
use Rattle.strand_plans.specs.Ledgers.{Ledger}
use Rattle.strand_plans.specs.Plans.{state_of, acts_of}
use Rattle.run_contract.specs.declared.turns.RunSeen.{RunSeen}
use Rattle.run_contract.specs.declared.turns.RunSeen.TheVariants as seen
use Rattle.run_contract.specs.declared.turns.Said.TheVariants as said
use Rattle.run_contract.specs.declared.turns.Asking.{Asking}
use Rattle.run_contract.specs.declared.turns.Asking.TheVariants as asking
use Rattle.run_contract.specs.declared.turns.LocationTimes.{LocationTimes}
use Rattle.run_contract.specs.Deeds.{Deed, Arm, Cancel, Log, Say, Turn, Asks, Nothing, Outside, Within, within}
use Rattle.run_contract.specs.Runs.{Waits, RunPlan, waits_at_first, waits_longer}
use Rattle.connection_plan.specs.Services.{Service}
use Rattle.connection_plan.specs.Connections.{connection_plan}
use Rattle.connection_plan.specs.Examples.{example_times}

-- what it does as it begins, and what it asks then; what it does with an answer that comes at once; where what it asked for isn't there yet, and once
-- that is there; and as its client sends no more
pub record Script : Type 0 where
  pub first : List Deed
  pub asks : Asks ℕ
  pub answered : List Deed
  pub not_yet : List Deed
  pub later : List Deed
  pub ended : List Deed

-- how far it is: it began; what it asked for isn't there yet; it was answered
pub data Progress : Type 0 where
  Begun : Progress
  Waiting : Progress
  Answered : Progress

-- it does these, and asks nothing
abbrev pub goes_on : List Deed → Progress → Turn ℕ Progress
goes_on does r = record { does = does; asks = Nothing; run = r }

abbrev pub script_waits : Script → Progress → Waits
script_waits script Begun = record (waits_at_first true) { asks = within script.asks }
script_waits script Waiting = waits_longer (within script.asks) (waits_at_first true)
script_waits script Answered = waits_at_first true

abbrev pub script_told : Progress → ℕ
script_told Begun = 3
script_told Waiting = 2
script_told Answered = 1

abbrev pub script_turn : Script → ℕ → RunSeen → Ledger ℕ → Progress → Turn ℕ Progress
script_turn script now (seen.Body content waited) b Begun = goes_on script.answered Answered
script_turn script now seen.AllTaken b Begun = goes_on script.answered Answered
script_turn script now seen.NotYet b Begun = goes_on script.not_yet Waiting
script_turn script now (seen.Body content waited) b Waiting = goes_on script.later Answered
script_turn script now seen.AllTaken b Waiting = goes_on script.later Answered
script_turn script now seen.ClientEnded b r = goes_on script.ended r
script_turn script now s b r = goes_on [] r

abbrev pub script_plan : Script → RunPlan ℕ Progress
script_plan script = record {
  unborn = Begun;
  waits = script_waits script;
  tells_left = script_told;
  begun = λ now head target b. record { does = script.first; asks = script.asks; run = Begun };
  begun_job = λ now premature job b. goes_on [] Answered;
  turn = script_turn script;
  answered = λ now x b r. goes_on script.answered Answered;
  zones = 0;
  zone_name = λ n. [];
  zone_size = λ n. 0;
}

abbrev pub script_site : Script → Service ℕ Progress
script_site script = record {
  runs = script_plan script;
  default_times = example_times;
  times_of = λ head target. example_times;
  refusal = λ code now. code ∷ [];
  connections = 512;
}

-- what its connection sent to the client, the acts of its last turn, and the deadlines that are armed, after what happened to it
abbrev pub script_sent : Script → List (LocalAction ℕ) → List ℕ
script_sent script es = (state_of (connection_plan (script_site script)) es).ledger.sent place.Client

abbrev pub script_acts : Script → List (LocalAction ℕ) → List (Act ℕ)
script_acts script es = acts_of (connection_plan (script_site script)) es

abbrev pub script_armed : Script → List (LocalAction ℕ) → List (ℕ × ℕ)
script_armed script es = (state_of (connection_plan (script_site script)) es).ledger.armed

-- ---- the scripts

abbrev pub say : List ℕ → Deed
say bytes = Say (said.Send bytes)

-- the reply is whole and its connection closes after it, and nothing of the run is left
abbrev pub whole : List Deed
whole = Say (said.Ended true) ∷ Say said.Over ∷ []

-- nothing is done
abbrev pub idle : Script
idle = record { first = []; asks = Nothing; answered = []; not_yet = []; later = []; ended = [] }

-- it connects a socket, and then does these
abbrev pub dials : List Deed → Script
dials does = record idle { asks = Outside (question.Dial (127 ∷ []) 80); answered = does }

-- its socket is there
abbrev pub dialled : LocalAction ℕ
dialled = Did (Dial (127 ∷ []) 80 true)

-- of two threads the first asks this, and then says "child "; the second says "parent ", and where it goes on alone it sleeps until the moment 1,030
abbrev pub two_threads : List Deed → Asking → Script
two_threads first q = record {
  first = first;
  asks = Within q;
  answered = say (codes "child ") ∷ say (codes "parent ") ∷ whole;
  not_yet = say (codes "parent ") ∷ Arm 0 (record { 0 = 1_030 }) ∷ [];
  later = say (codes "child ") ∷ Cancel 0 ∷ whole;
  ended = [];
}

-- the times of another location, and the word for them
abbrev pub other_times : LocationTimes
other_times = record { keepalive = record { 0 = 2 }; body = record { 0 = 3 }; send = record { 0 = 4 } }

abbrev pub moves_on : Deed
moves_on = Say (said.Times other_times)

-- it reads the body, with these deeds before it asks, and these where the body isn't there yet
abbrev pub reads : (first not_yet : List Deed) → Script
reads first not_yet = record idle { first = first; asks = Within (asking.Body 5); not_yet = not_yet }

-- it replies at another location, and the client may ask for more
abbrev pub replies_elsewhere : Script
replies_elsewhere = record idle { first = moves_on ∷ say (codes "x") ∷ Say (said.Ended false) ∷ Say said.Over ∷ [] }

-- it sleeps, and as its client ends it logs a line and says something
abbrev pub minds_the_end : Script
minds_the_end = record idle { first = Arm 0 (record { 0 = 1_030 }) ∷ []; ended = Log (codes "ended") ∷ say (codes "bye") ∷ [] }
