-- What is known of a strand where an action comes to it: of its ledger before that.
use Rattle.std.specs.Prelude.{◌≡◌, ℕ, ◌-◌, ◌%◌, ◌<◌, true, List, [], ◌∷◌, take, length, Some, None}
use Rattle.shared_rules.specs.Ranges.{MayAnswer}
use Rattle.strand_contract.specs.declared.turns.Place.{Place}
use Rattle.strand_contract.specs.declared.turns.Place.TheVariants as place
use Rattle.strand_contract.specs.Actions.{LocalAction, Did, Began, Bytes, Ended, Broken, Ready, Dialled, Refused}
use Rattle.strand_contract.specs.Actions.{Put, Later, Lost, Dict, Take, Dial, Keep, Timer, Run, Due}
use Rattle.strand_contract.specs.Alone.{due, is_some_left, IsPrefixOf}
use Rattle.strand_plans.specs.Questions as question
use Rattle.strand_plans.specs.Ledgers.{Ledger, has, left_at}
use Rattle.strand_plans.specs.Moves.{State}
use Rattle.strand_plans.specs.Plans.{Plan, unborn_state}

-- at rest both queues are empty, and no question waits
pub record IsFree {J : Type 0} (b : Ledger J) : Type 0 where
  pub no_thread : b.threads ≡ []
  pub no_place : b.places ≡ []
  pub none_asked : b.asked ≡ None

-- at rest, and the place is open
pub record IsFreeAt {J : Type 0} (b : Ledger J) (q : Place) : Type 0 where
  pub free : IsFree b
  pub opened : has q b.opened ≡ true

-- the place is open, its offer was begun, and something of it is left
pub record IsTaking {J : Type 0} (b : Ledger J) (q : Place) : Type 0 where
  pub opened : has q b.opened ≡ true
  pub begun : b.begun ≡ Some q
  pub some : is_some_left (left_at q b) ≡ true
  pub none_asked : b.asked ≡ None

-- these are some bytes of the next piece
pub record IsTaken {J : Type 0} (b : Ledger J) (q : Place) (bytes : List ℕ) : Type 0 where
  pub taking : IsTaking b q
  pub some : 0 < length bytes
  pub prefix : IsPrefixOf bytes (take (16_384 - b.taken q % 16_384) (left_at q b))

-- the deadline is the one that is due
pub record IsDue {J : Type 0} (now : ℕ) (b : Ledger J) (n : ℕ) : Type 0 where
  pub at : ℕ
  pub first : due now b.armed ≡ Some (n, at)
  pub none_asked : b.asked ≡ None

-- the action may come now: what is given is given at rest, a thread that runs is the first of its queue, and an answer is one to what was asked
abbrev pub Comes : {J S : Type 0} → Plan J S → ℕ → LocalAction J → State J S → Type 0
Comes p now (Did (Began at begin)) st = st ≡ unborn_state p
Comes p now (Did (Bytes q bytes)) st = IsFreeAt st.ledger q × (0 < length bytes)
Comes p now (Did (Ended q)) st = IsFreeAt st.ledger q
Comes p now (Did (Broken q)) st = IsFreeAt st.ledger q
Comes p now (Did (Ready q)) st = IsFreeAt st.ledger q
Comes p now (Did (Dialled k)) st = IsFreeAt st.ledger (place.Sock k)
Comes p now (Did (Refused k)) st = IsFreeAt st.ledger (place.Sock k)
Comes p now (Did (Put q bytes)) st = IsTaken st.ledger q bytes
Comes p now (Did (Later q)) st = IsTaking st.ledger q
Comes p now (Did (Lost q)) st = IsTaking st.ledger q
Comes p now (Did (Run k)) st = IsPrefixOf (k ∷ []) st.ledger.threads × (st.ledger.asked ≡ None)
Comes p now (Did (Due n)) st = IsDue now st.ledger n
Comes p now (Did (Dict zone call answer)) st = (st.ledger.asked ≡ Some (question.Dict zone call)) × MayAnswer call answer
Comes p now (Did (Take key uses)) st = st.ledger.asked ≡ Some (question.Take key)
Comes p now (Did (Dial host port done)) st = st.ledger.asked ≡ Some (question.Dial host port)
Comes p now (Did (Keep k key idle size)) st = (st.ledger.asked ≡ Some (question.Keep k key idle size)) × (has (place.Sock k) st.ledger.opened ≡ true)
Comes {J} p now (Did (Timer at answer)) st = (job : J) × (st.ledger.asked ≡ Some (question.Timer at job))
Comes p now a st = Unit {0}
