-- What a plan has to show of its turns, so that its strands keep the laws of the contract.
use Rattle.std.specs.Prelude.{◌≡◌, ℕ, ◌≤◌, ◌<◌, Bool, true, ◌||◌, Some}
use Rattle.shared_rules.specs.Ranges.{IsInRange}
use Rattle.strand_contract.specs.declared.turns.Place.{Place}
use Rattle.strand_contract.specs.declared.turns.Start.TheVariants as start
use Rattle.strand_contract.specs.Actions.{LocalAction, Did, Began, Ready, Lost, Due, Halted}
use Rattle.strand_contract.specs.Alone.{is_some_left}
use Rattle.strand_contract.specs.Laws.{IsMild, IsEnding}
use Rattle.strand_plans.specs.Questions.{Question}
use Rattle.strand_plans.specs.Questions as question
use Rattle.strand_plans.specs.Ledgers.{Ledger, has, has_offer, left_at}
use Rattle.strand_plans.specs.Moves.{Move, Done, Unready, Send, Arm, Cancel, HangUp, Log, Set, Look, Ask, End, State}
use Rattle.strand_plans.specs.Moves as move
use Rattle.strand_plans.specs.Plans.{Plan, unborn_state, stepped}
use Rattle.strand_plans.specs.Turns.{Comes}

-- where something of an open place is left, the place was put off, or its offer is queued or begun
abbrev pub IsServed : {J : Type 0} → Place → Ledger J → Type 0
IsServed q b = has q b.opened ≡ true → is_some_left (left_at q b) ≡ true → (b.put_off q || has_offer q b) ≡ true

-- the question fits: the dictionary is there and the call in range, and a socket is kept for 99,999,999,999 milliseconds at most
abbrev pub Fits : {J S : Type 0} → Plan J S → Question J → Type 0
Fits p (question.Dict zone call) = (zone < p.zones) × IsInRange call
Fits p (question.Keep k key idle size) = idle.0 ≤ 99_999_999_999
Fits p x = Unit {0}

-- `holds` is what the plan knows of its states, and `may_ask` what it may ask
pub record IsPlan {J S : Type 0} (p : Plan J S) (holds : State J S → Type 0) (may_ask : Question J → Type 0) : Type 0 where
  pub begins : holds (unborn_state p)
  pub stays : (now : ℕ) (a : LocalAction J) (st : State J S) → holds st → Comes p now a st → holds (stepped p now a st).state
  -- a place of which a write broke is hung up, or offered again
  pub lost : (now : ℕ) (q : Place) (st : State J S) → holds st → Comes p now (Did (Lost q)) st → IsServed q (stepped p now (Did (Lost q)) st).state.ledger
  -- and so is one that takes bytes again
  pub again : (now : ℕ) (q : Place) (st : State J S) → holds st → Comes p now (Did (Ready q)) st → IsServed q (stepped p now (Did (Ready q)) st).state.ledger
  pub asks : (st : State J S) (x : Question J) → holds st → st.ledger.asked ≡ Some x → may_ask x
  pub fits : (x : Question J) → may_ask x → Fits p x
  -- a deadline that is taken, and a job that begins, only wake
  pub due : (now n : ℕ) (st : State J S) → holds st → Comes p now (Did (Due n)) st → IsMild (stepped p now (Did (Due n)) st).acts
  pub job : (now at n : ℕ) (premature : Bool) (job : J) → IsMild (stepped p now (Did (Began at (start.Job n premature job))) (unborn_state p)).acts
  -- Stop ends the life
  pub ends : (now : ℕ) (st : State J S) → holds st → IsEnding (stepped p now (Did Halted) st).acts

-- moves by their form: none asks
abbrev pub NeverAsks : {J S : Type 0} → Move J S → Type 0
NeverAsks Done = Unit {0}
NeverAsks (move.Ready k m) = NeverAsks m
NeverAsks (Unready k m) = NeverAsks m
NeverAsks (Send q bytes m) = NeverAsks m
NeverAsks (Arm n at m) = NeverAsks m
NeverAsks (Cancel n m) = NeverAsks m
NeverAsks (HangUp q m) = NeverAsks m
NeverAsks (Log line m) = NeverAsks m
NeverAsks (Set f m) = NeverAsks m
NeverAsks {J} {S} (Look go) = (b : Ledger J) (s : S) → NeverAsks (go b s)
NeverAsks (Ask x) = ⊥
NeverAsks End = Unit {0}

-- none asks or arms
abbrev pub OnlyWakes : {J S : Type 0} → Move J S → Type 0
OnlyWakes Done = Unit {0}
OnlyWakes (move.Ready k m) = OnlyWakes m
OnlyWakes (Unready k m) = OnlyWakes m
OnlyWakes (Send q bytes m) = OnlyWakes m
OnlyWakes (Arm n at m) = ⊥
OnlyWakes (Cancel n m) = OnlyWakes m
OnlyWakes (HangUp q m) = OnlyWakes m
OnlyWakes (Log line m) = OnlyWakes m
OnlyWakes (Set f m) = OnlyWakes m
OnlyWakes {J} {S} (Look go) = (b : Ledger J) (s : S) → OnlyWakes (go b s)
OnlyWakes (Ask x) = ⊥
OnlyWakes End = Unit {0}

-- none asks or arms, nor cancels or logs
abbrev pub OnlyQueues : {J S : Type 0} → Move J S → Type 0
OnlyQueues Done = Unit {0}
OnlyQueues (move.Ready k m) = OnlyQueues m
OnlyQueues (Unready k m) = OnlyQueues m
OnlyQueues (Send q bytes m) = OnlyQueues m
OnlyQueues (Arm n at m) = ⊥
OnlyQueues (Cancel n m) = ⊥
OnlyQueues (HangUp q m) = OnlyQueues m
OnlyQueues (Log line m) = ⊥
OnlyQueues (Set f m) = OnlyQueues m
OnlyQueues {J} {S} (Look go) = (b : Ledger J) (s : S) → OnlyQueues (go b s)
OnlyQueues (Ask x) = ⊥
OnlyQueues End = Unit {0}

-- the last ends the life, and the others take back, hang up and log
abbrev pub EndsLife : {J S : Type 0} → Move J S → Type 0
EndsLife Done = ⊥
EndsLife (move.Ready k m) = ⊥
EndsLife (Unready k m) = EndsLife m
EndsLife (Send q bytes m) = ⊥
EndsLife (Arm n at m) = ⊥
EndsLife (Cancel n m) = EndsLife m
EndsLife (HangUp q m) = EndsLife m
EndsLife (Log line m) = EndsLife m
EndsLife (Set f m) = EndsLife m
EndsLife {J} {S} (Look go) = (b : Ledger J) (s : S) → EndsLife (go b s)
EndsLife (Ask x) = ⊥
EndsLife End = Unit {0}
