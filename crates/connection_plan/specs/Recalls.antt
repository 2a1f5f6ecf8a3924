-- A run whose reply tells what was sent to its client before: it meets the contract of a run all the same.
use Rattle.std.specs.Prelude.{◌≡◌, ℕ, ◌≤◌, Bool, true, false, List, [], ◌∷◌, drop, None, if◌then◌else◌}
use Rattle.strand_contract.specs.declared.turns.Place.TheVariants as place
use Rattle.strand_contract.specs.Actions.{LocalAction}
use Rattle.strand_plans.specs.Ledgers.{Ledger, has}
use Rattle.strand_plans.specs.Plans.{state_of}
use Rattle.run_contract.specs.declared.turns.RunSeen.{RunSeen}
use Rattle.run_contract.specs.declared.turns.RunSeen.TheVariants as seen
use Rattle.run_contract.specs.declared.turns.Said.TheVariants as said
use Rattle.run_contract.specs.Deeds.{Ready, Say, Turn, Nothing}
use Rattle.run_contract.specs.Runs.{RunPlan, waits_at_first}
use Rattle.run_contract.specs.Alike.{own_deadlines}
use Rattle.run_contract.specs.Conditions.{IsUnused}
use Rattle.connection_plan.specs.Services.{Service}
use Rattle.connection_plan.specs.Connections.{connection_plan}
use Rattle.connection_plan.specs.Examples.{example_times}

-- it keeps whether it has a client
abbrev pub recalls_turn : {J : Type 0} → ℕ → RunSeen → Ledger J → Bool → Turn J Bool
recalls_turn now (seen.Run k) b r = record { does = Say said.Over ∷ []; asks = Nothing; run = r }
recalls_turn now seen.ClientGone b r = record { does = []; asks = Nothing; run = false }
recalls_turn now s b r = record { does = []; asks = Nothing; run = r }

-- all that was sent to the client before, after a byte
abbrev pub recalls_plan : {J : Type 0} → RunPlan J Bool
recalls_plan = record {
  unborn = true;
  waits = waits_at_first;
  tells_left = λ r. if r then 1 else 0;
  begun = λ now head target b. record {
    does = Say (said.Send (1 ∷ b.sent place.Client)) ∷ Say (said.Ended false) ∷ Say said.Over ∷ [];
    asks = Nothing;
    run = true;
  };
  begun_job = λ now premature job b. record { does = Ready 0 ∷ []; asks = Nothing; run = false };
  turn = recalls_turn;
  answered = λ now x b r. record { does = []; asks = Nothing; run = r };
  zones = 0;
  zone_name = λ n. [];
  zone_size = λ n. 0;
}

-- it has no deadline and no socket, sends to none, asks nothing, and has one thread at most
pub record RecallsHolds {J : Type 0} (b : Ledger J) (r : Bool) : Type 0 where
  pub threads : drop 1 b.threads ≡ []
  pub asked : b.asked ≡ None
  pub no_deadline : own_deadlines b.armed ≡ []
  pub no_socket : (k : ℕ) → has (place.Sock k) b.opened ≡ false
  pub unused : (k : ℕ) → b.count ≤ k → IsUnused (place.Sock k) b

abbrev pub recalls_site : {J : Type 0} → Service J Bool
recalls_site = record {
  runs = recalls_plan;
  default_times = example_times;
  times_of = λ head target. example_times;
  refusal = λ code now. code ∷ [];
  connections = 512;
}

-- what its connection sent, after what happened to that
abbrev pub recalled : List (LocalAction ℕ) → List ℕ
recalled es = (state_of (connection_plan recalls_site) es).ledger.sent place.Client
