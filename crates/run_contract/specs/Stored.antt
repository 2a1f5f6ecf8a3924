-- Runs that answer each request with what a dictionary keeps under a key, and close the connection.
use Rattle.std.specs.Prelude.{◌≡◌, ℕ, ◌≤◌, Bool, true, false, List, [], ◌∷◌, Option, Some, None, if◌then◌else◌}
use Rattle.resty_base.specs.declared.dictionary.DictValue.TheVariants as value
use Rattle.resty_base.specs.declared.dictionary.DictCall.TheVariants as dict
use Rattle.resty_base.specs.declared.dictionary.DictAnswer.TheVariants as given
use Rattle.strand_contract.specs.declared.turns.Place.TheVariants as place
use Rattle.strand_contract.specs.declared.turns.Answer.{Answer}
use Rattle.strand_contract.specs.declared.turns.Answer.TheVariants as answer
use Rattle.strand_contract.specs.Actions.{Action, Dict}
use Rattle.strand_plans.specs.Questions.{Question}
use Rattle.strand_plans.specs.Questions as question
use Rattle.strand_plans.specs.Ledgers.{Ledger, has}
use Rattle.run_contract.specs.declared.stored.Progress.{Progress}
use Rattle.run_contract.specs.declared.stored.Progress.TheVariants.{Queued, Asked, Replied}
use Rattle.run_contract.specs.declared.turns.RunSeen.{RunSeen}
use Rattle.run_contract.specs.declared.turns.RunSeen.TheVariants as seen
use Rattle.run_contract.specs.declared.turns.Said.TheVariants as said
use Rattle.run_contract.specs.Deeds.{Deed, Ready, Say, Turn, Nothing, Outside}
use Rattle.run_contract.specs.Runs.{RunPlan, waits_at_first}
use Rattle.run_contract.specs.Alike.{own_deadlines}
use Rattle.run_contract.specs.Conditions.{IsUnused}

-- how far it has come, and whether the client is there
pub record Stored : Type 0 where
  pub progress : Progress
  pub client : Bool

-- the reply, whole, after which nothing is left
abbrev pub reply_said : List ℕ → List Deed
reply_said bytes = Say (said.Send bytes) ∷ Say (said.Ended true) ∷ Say said.Over ∷ []

-- the text that was found, or the other one
abbrev pub given_text : List ℕ → Answer → List ℕ
given_text otherwise (answer.Dict (given.Found (value.Text text) flags)) = text
given_text otherwise a = otherwise

abbrev pub silent : {J : Type 0} → Stored → Turn J Stored
silent r = record { does = []; asks = Nothing; run = r }

-- its thread waits for its run
abbrev pub queued : {J : Type 0} → Stored → Turn J Stored
queued r = record { does = Ready 0 ∷ []; asks = Nothing; run = r }

-- the thread asks for what is kept under the key
abbrev pub stored_turn : {J : Type 0} → List ℕ → ℕ → RunSeen → Ledger J → Stored → Turn J Stored
stored_turn key now (seen.Run k) b r = record { does = []; asks = Outside (question.Dict 0 (dict.Get key)); run = record r { progress = Asked } }
stored_turn key now seen.ClientGone b r = silent (record r { client = false })
stored_turn key now s b r = silent r

-- and sends that
abbrev pub stored_answered : {J : Type 0} → List ℕ → ℕ → Action J → Ledger J → Stored → Turn J Stored
stored_answered otherwise now (Dict zone call a) b r =
    record { does = reply_said (given_text otherwise (answer.Dict a)); asks = Nothing; run = record r { progress = Replied } }
stored_answered otherwise now x b r = silent r

abbrev pub stored_plan : {J : Type 0} → (name key otherwise : List ℕ) → RunPlan J Stored
stored_plan name key otherwise = record {
  unborn = record { progress = Queued; client = true };
  waits = λ r. waits_at_first r.client;
  tells_left = λ r. if r.client then 1 else 0;
  begun = λ now head target b. queued (record { progress = Queued; client = true });
  begun_job = λ now premature job b. queued (record { progress = Queued; client = false });
  turn = stored_turn key;
  answered = stored_answered otherwise;
  zones = 1;
  zone_name = λ n. name;
  zone_size = λ n. 12_288;
}

-- the threads that are queued, and what is asked, when it has come so far
abbrev pub threads_at : Progress → List ℕ
threads_at Queued = 0 ∷ []
threads_at p = []

abbrev pub asked_at : {J : Type 0} → List ℕ → Progress → Option (Question J)
asked_at key Asked = Some (question.Dict 0 (dict.Get key))
asked_at key p = None

-- it has no deadline and no socket, and sends to none
pub record StoredHolds {J : Type 0} (key : List ℕ) (b : Ledger J) (r : Stored) : Type 0 where
  pub threads : b.threads ≡ threads_at r.progress
  pub asked : b.asked ≡ asked_at key r.progress
  pub no_deadline : own_deadlines b.armed ≡ []
  pub no_socket : (k : ℕ) → has (place.Sock k) b.opened ≡ false
  pub unused : (k : ℕ) → b.count ≤ k → IsUnused (place.Sock k) b

-- how much it can do: three things to say, before them an act, each in a turn
abbrev pub left_at : Progress → ℕ
left_at Queued = 6
left_at Asked = 4
left_at Replied = 0
