-- What a run does that goes by a script: it is counted where the script says so, begins, asks its connection one thing, and ends with the answer,
-- or once its thread wakes first.
use Rattle.std.specs.Prelude.{◌≡◌, ℕ, ◌≤◌, ◌+◌, ◌-◌, ◌^◌, pos, min, Bool, true, false, List, [], ◌∷◌, codes, Option, Some, None, if◌then◌else◌}
use Rattle.std.proofs.Common.{arith}
use Rattle.resty_base.specs.declared.names.Ms.{Ms}
use Rattle.resty_base.specs.declared.dictionary.DictCall.{DictCall}
use Rattle.resty_base.specs.declared.dictionary.DictCall.TheVariants as dict
use Rattle.strand_contract.specs.declared.turns.Place.TheVariants as place
use Rattle.strand_plans.specs.Questions.{Question}
use Rattle.strand_plans.specs.Questions as question
use Rattle.strand_plans.specs.Ledgers.{Ledger, has, numbers}
use Rattle.run_contract.specs.declared.turns.Asking.{Asking}
use Rattle.run_contract.specs.declared.turns.LocationTimes.{LocationTimes}
use Rattle.run_contract.specs.declared.turns.RunSeen.{RunSeen}
use Rattle.run_contract.specs.declared.turns.RunSeen.TheVariants as seen
use Rattle.run_contract.specs.declared.turns.Said.TheVariants as said
use Rattle.run_contract.specs.Alike.{own_deadlines}
use Rattle.run_contract.specs.Conditions.{IsUnused}
use Rattle.run_contract.specs.Deeds.{Deed, Ready, Unready, Arm, Cancel, Log, Say, Turn, Nothing, Outside, Within}
use Rattle.run_contract.specs.Runs.{Waits, RunPlan, waits_at_first, waits_longer}
use Rattle.connection_plan.specs.Serving.{Serving}
use Rattle.connection_plan.specs.Stored.{minute}
use Rattle.run_scripts.specs.declared.run.Progress.{Progress}
use Rattle.run_scripts.specs.declared.run.Progress.TheVariants.{Counting, Asked, Sleeping, Woken, Gone, Over}
use Rattle.run_scripts.specs.declared.run.ScriptedRun.{ScriptedRun}
use Rattle.run_scripts.specs.declared.script.Script.{Script}
use Rattle.run_scripts.specs.declared.script.Step.{Step}

-- ---- steps, and what comes after them

abbrev pub moves_on : Option LocationTimes → List Deed → List Deed
moves_on None ds = ds
moves_on (Some times) ds = Say (said.Times times) ∷ ds

abbrev pub logs : Option (List ℕ) → List Deed → List Deed
logs None ds = ds
logs (Some line) ds = Log line ∷ ds

abbrev pub says : Option (List ℕ) → List Deed → List Deed
says None ds = ds
says (Some text) ds = Say (said.Send text) ∷ ds

abbrev pub step : Step → List Deed → List Deed
step x ds = moves_on x.moves_on (logs x.logs (says x.says ds))

-- nothing waits any more, the reply is whole, and the run is over
abbrev pub ends : Bool → List Deed
ends closes = Unready 0 ∷ Cancel 0 ∷ Say (said.Ended closes) ∷ Say said.Over ∷ []

-- so long after now, a moment that a number of 64 bits can tell
abbrev pub later : ℕ → Ms → Ms
later now span = record { 0 = min (now + span.0) (2 ^ 64 - 1) }

-- ---- turns

abbrev pub run_at : Progress → Bool → ScriptedRun
run_at progress client = record { progress = progress; has_client = client }

-- it does these, asks nothing, and comes to this
abbrev pub does : {J : Type 0} → List Deed → ScriptedRun → Turn J ScriptedRun
does ds r = record { does = ds; asks = Nothing; run = r }

-- its first step, and what it asks its connection
abbrev pub opened : {J : Type 0} → Script → Bool → Turn J ScriptedRun
opened script client = record { does = step script.first []; asks = Within script.asks; run = run_at Asked client }

-- one more under the key
abbrev pub count_of : List ℕ → DictCall
count_of key = dict.Incr key (pos 1) (Some (pos 0)) 0

-- before its first step it is counted, where there is a key
abbrev pub begun : {J : Type 0} → Script → Option (List ℕ) → Turn J ScriptedRun
begun script None = opened script true
begun script (Some key) = record { does = []; asks = Outside (question.Dict 0 (count_of key)); run = run_at Counting true }

-- it has its answer
abbrev pub heard : {J : Type 0} → Script → Bool → Progress → Turn J ScriptedRun
heard script client Asked = does (step script.answered (ends script.closes)) (run_at Over client)
heard script client p = does (step script.later (ends script.closes)) (run_at Over client)

-- its thread runs: after its sleep, or because the client is gone
abbrev pub ran : {J : Type 0} → Script → Bool → Progress → Turn J ScriptedRun
ran script client Woken = does (step script.woken (ends script.closes)) (run_at Over client)
ran script client p = does (ends script.closes) (run_at Over client)

-- the client sends no more
abbrev pub client_ended : {J : Type 0} → Script → Bool → Progress → Turn J ScriptedRun
client_ended script client Sleeping = does (step script.client_ends []) (run_at Sleeping client)
client_ended script client Woken = does (step script.client_ends []) (run_at Woken client)
client_ended script client p = does [] (run_at p client)

-- the client is gone: a thread that sleeps is woken
abbrev pub let_go : {J : Type 0} → Progress → Turn J ScriptedRun
let_go Sleeping = does (Cancel 0 ∷ Ready 0 ∷ []) (run_at Gone false)
let_go p = does [] (run_at p false)

abbrev pub scripted_turn : {J : Type 0} → Script → ℕ → RunSeen → Ledger J → ScriptedRun → Turn J ScriptedRun
scripted_turn script now (seen.Run k) b r = ran script r.has_client r.progress
scripted_turn script now (seen.Due n) b r = does (Ready 0 ∷ []) (run_at Woken r.has_client)
scripted_turn script now (seen.Body content waited) b r = heard script r.has_client r.progress
scripted_turn script now (seen.BodyRefused code) b r = heard script r.has_client r.progress
scripted_turn script now seen.AllTaken b r = heard script r.has_client r.progress
scripted_turn script now seen.NotYet b r = does (step script.not_yet (Arm 0 (later now script.sleeps) ∷ [])) (run_at Sleeping r.has_client)
scripted_turn script now seen.ClientEnded b r = client_ended script r.has_client r.progress
scripted_turn script now seen.ClientGone b r = let_go r.progress
scripted_turn script now (seen.Sock k s) b r = does [] r

-- ---- the plan

-- what it waits for while its client is there
abbrev pub waits_at : Asking → Progress → Waits
waits_at q Asked = record (waits_at_first true) { asks = Some q }
waits_at q Sleeping = waits_longer (Some q) (waits_at_first true)
waits_at q Woken = waits_longer (Some q) (waits_at_first true)
waits_at q p = waits_at_first true

abbrev pub scripted_waits : Script → ScriptedRun → Waits
scripted_waits script r = if r.has_client then waits_at script.asks r.progress else waits_at_first false

-- how often it can still be told of its client
abbrev pub tells_at : Progress → ℕ
tells_at Asked = 2
tells_at Sleeping = 1
tells_at Woken = 1
tells_at p = 0

abbrev pub scripted_plan : {J : Type 0} → Script → RunPlan J ScriptedRun
scripted_plan script = record {
  unborn = run_at Asked true;
  waits = scripted_waits script;
  tells_left = λ r. tells_at r.progress + (if r.has_client then 1 else 0);
  begun = λ now head target b. begun script script.counts;
  begun_job = λ now premature job b. does (Ready 0 ∷ []) (run_at Gone false);
  turn = scripted_turn script;
  answered = λ now x b r. opened script r.has_client;
  zones = 1;
  zone_name = λ n. script.dictionary;
  zone_size = λ n. 12_288;
}

-- ---- what it knows

-- the threads that are queued, the deadlines that are armed, and what is asked of the outside, when it has come so far
abbrev pub threads_at : Progress → List ℕ
threads_at Woken = 0 ∷ []
threads_at Gone = 0 ∷ []
threads_at p = []

abbrev pub deadlines_at : Progress → List ℕ
deadlines_at Sleeping = 2 ∷ []
deadlines_at p = []

abbrev pub counting : {J : Type 0} → Option (List ℕ) → Option (Question J)
counting None = None
counting (Some key) = Some (question.Dict 0 (count_of key))

abbrev pub asked_at : {J : Type 0} → Progress → Bool → Option (List ℕ) → Option (Question J)
asked_at Counting true key = counting key
asked_at p client key = None

-- it has no socket
pub record ScriptedHolds {J : Type 0} (script : Script) (b : Ledger J) (r : ScriptedRun) : Type 0 where
  pub threads : b.threads ≡ threads_at r.progress
  pub deadlines : numbers (own_deadlines b.armed) ≡ deadlines_at r.progress
  pub asked : b.asked ≡ asked_at r.progress r.has_client script.counts
  pub no_socket : (k : ℕ) → has (place.Sock k) b.opened ≡ false
  pub unused : (k : ℕ) → b.count ≤ k → IsUnused (place.Sock k) b

-- ---- its site

abbrev pub scripted_serving : Serving
scripted_serving = record { default_times = minute; times_of = λ head target. minute; refusal = λ code now. codes "refused"; connections = 512 }

pub most : 41 ≤ 41
most = omega arith
