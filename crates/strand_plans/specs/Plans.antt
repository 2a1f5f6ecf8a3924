-- A strand as a plan: what each action makes it do; and the behavior of a plan.
use Rattle.std.specs.Prelude.{ℕ, List, [], ◌∷◌, if◌then◌else◌}
use Rattle.strand_contract.specs.declared.turns.Act.{Act}
use Rattle.strand_contract.specs.Actions.{LocalAction}
use Rattle.strand_contract.specs.Alone.{moment}
use Rattle.strand_contract.specs.Behaviors.{Behavior}
use Rattle.strand_contract.specs.Laws.{is_still}
use Rattle.strand_plans.specs.Ledgers.{Ledger, empty_ledger, entered}
use Rattle.strand_plans.specs.Moves.{Move, Done, State, Performed, perform}

pub record Plan (J S : Type 0) : Type 0 where
  -- what is beside the ledger before the strand begins
  pub unborn : S
  -- the moves of an action that comes now; the ledger is that in which the action was entered
  pub turn : (now : ℕ) → LocalAction J → Ledger J → S → Move J S
  -- as in a behavior
  pub zones : ℕ
  pub zone_name : ℕ → List ℕ
  pub zone_size : ℕ → ℕ
  pub connections : ℕ

abbrev pub unborn_state : {J S : Type 0} → Plan J S → State J S
unborn_state p = record { ledger = empty_ledger; inner = p.unborn }

-- what is no turn makes no move
abbrev pub move_of : {J S : Type 0} → Plan J S → ℕ → LocalAction J → State J S → Move J S
move_of p now a st = if is_still a then Done else p.turn now a (entered a st.ledger) st.inner

abbrev pub stepped : {J S : Type 0} → Plan J S → ℕ → LocalAction J → State J S → Performed J S
stepped p now a st = perform (move_of p now a st) (entered a st.ledger) st.inner

-- what the strand came to, after what happened to it
abbrev pub state_of : {J S : Type 0} → Plan J S → List (LocalAction J) → State J S
state_of p [] = unborn_state p
state_of p (a ∷ es) = (stepped p (moment (a ∷ es)) a (state_of p es)).state

-- the acts of the newest turn
abbrev pub acts_of : {J S : Type 0} → Plan J S → List (LocalAction J) → List (Act J)
acts_of p [] = []
acts_of p (a ∷ es) = (stepped p (moment (a ∷ es)) a (state_of p es)).acts

abbrev pub behavior_of : {J S : Type 0} → Plan J S → Behavior J
behavior_of p = record {
  acts = acts_of p;
  sent = λ q es. (state_of p es).ledger.sent q;
  zones = p.zones;
  zone_name = p.zone_name;
  zone_size = p.zone_size;
  connections = p.connections;
}
