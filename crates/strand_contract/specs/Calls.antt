-- What the calls of a strand speak of: what it is shown and answered, as actions, and what each call may be given and does.
use Rattle.std.specs.Prelude.{◌≡◌, ℕ, Bool, true, false, List, [], ◌∷◌, take, Option, Some, None}
use Rattle.strand_contract.specs.declared.turns.Act.{Act}
use Rattle.strand_contract.specs.declared.turns.Act.TheVariants as act
use Rattle.strand_contract.specs.declared.turns.Seen.{Seen}
use Rattle.strand_contract.specs.declared.turns.Seen.TheVariants as seen
use Rattle.strand_contract.specs.declared.turns.Answer.{Answer}
use Rattle.strand_contract.specs.declared.turns.Answer.TheVariants as answer
use Rattle.resty_base.specs.declared.names.Ms.{Ms}
use Rattle.strand_contract.specs.declared.turns.Place.{Place}
use Rattle.strand_contract.specs.declared.turns.Start.{Start}
use Rattle.strand_contract.specs.Actions.{Action, LocalAction, Did, Began, Bytes, Ended, Broken, Ready, Dialled, Refused}
use Rattle.strand_contract.specs.Actions.{Put, Later, Lost, Dict, Take, Dial, Keep, Timer, Run, Due, Halted}
use Rattle.strand_contract.specs.Behaviors.{Behavior, Meaning}
use Rattle.strand_contract.specs.Alone.{lives, moment, piece, todo, IsExecution}

-- the action that a strand is shown: of a write, the bytes that were taken of the piece
abbrev pub action_of : {J : Type 0} → Behavior J → List (LocalAction J) → Seen → Action J
action_of b es (seen.Bytes q bytes) = Bytes q bytes
action_of b es (seen.Ended q) = Ended q
action_of b es (seen.Broken q) = Broken q
action_of b es (seen.Ready q) = Ready q
action_of b es (seen.Took q n) = Put q (take n (piece b q es))
action_of b es (seen.Later q) = Later q
action_of b es (seen.Lost q) = Lost q
action_of b es (seen.Dialled k) = Dialled k
action_of b es (seen.Refused k) = Refused k
action_of b es (seen.Due n) = Due n
action_of b es (seen.Run k) = Run k
action_of b es seen.Stop = Halted

-- the action of an answer to the act that awaits it; none where the answer isn't of the act's kind
abbrev pub answered : {J : Type 0} → List (Act J) → Answer → Option (Action J)
answered (act.Dict zone call ∷ []) (answer.Dict given) = Some (Dict zone call given)
answered (act.Take key ∷ []) (answer.Took uses) = Some (Take key uses)
answered (act.Dial host port ∷ []) (answer.Dialled done) = Some (Dial host port done)
answered (act.Keep k key idle size ∷ []) answer.Kept = Some (Keep k key idle size)
answered (act.Timer at job ∷ []) (answer.Timer given) = Some (Timer at given)
answered acts given = None

-- the strand takes this turn by itself, and not for something that the world gave
abbrev pub is_own_turn : Seen → Bool
is_own_turn (seen.Took q n) = true
is_own_turn (seen.Later q) = true
is_own_turn (seen.Lost q) = true
is_own_turn (seen.Due n) = true
is_own_turn (seen.Run k) = true
is_own_turn seen.Stop = true
is_own_turn s = false

module _ {S J : Type 0} (m : Meaning S J) where
  -- a strand begins, with these acts
  abbrev pub Begins : Ms → Start J → S → List (Act J) → Type 0
  Begins now start strand acts = m.stands strand (Did (Began now.0 start) ∷ []) × (acts ≡ m.behavior.acts (Did (Began now.0 start) ∷ []))

  -- its execution, with the action that it is shown
  abbrev pub with_shown : Seen → List (LocalAction J) → List (LocalAction J)
  with_shown shown es = Did (action_of m.behavior es shown) ∷ es

  -- the strand may be shown this: the moment is the present one of its execution, in which the action may come next
  abbrev pub MayBeShown : Ms → Seen → S → Type 0
  MayBeShown now shown strand =
      (es : List (LocalAction J)) × m.stands strand es × (now.0 ≡ moment es) × IsExecution m.behavior (with_shown shown es)

  -- it took the turn that begins with what it was shown, with these acts
  abbrev pub TakesTurn : Ms → Seen → S → S → List (Act J) → Type 0
  TakesTurn now shown old new acts =
      (es : List (LocalAction J)) → m.stands old es → now.0 ≡ moment es → IsExecution m.behavior (with_shown shown es)
      → m.stands new (with_shown shown es) × (acts ≡ m.behavior.acts (with_shown shown es))

  -- the strand may be given this answer: it answers the act that awaits one
  abbrev pub MayBeAnswered : Ms → Answer → S → Type 0
  MayBeAnswered now given strand =
      (es : List (LocalAction J)) × (x : Action J) × m.stands strand es × (now.0 ≡ moment es)
      × (answered (todo m.behavior es) given ≡ Some x) × IsExecution m.behavior (Did x ∷ es)

  -- it took the turn that begins with the answer, with these acts
  abbrev pub TakesAnswer : Ms → Answer → S → S → List (Act J) → Type 0
  TakesAnswer now given old new acts =
      (es : List (LocalAction J)) (x : Action J) → m.stands old es → now.0 ≡ moment es
      → answered (todo m.behavior es) given ≡ Some x → IsExecution m.behavior (Did x ∷ es)
      → m.stands new (Did x ∷ es) × (acts ≡ m.behavior.acts (Did x ∷ es))

  -- while the strand lives and has no act to carry out, the piece that is offered next at the place
  abbrev pub HasPiece : S → Place → List ℕ → Type 0
  HasPiece strand q bytes =
      (es : List (LocalAction J)) → m.stands strand es → IsExecution m.behavior es → lives es ≡ true → todo m.behavior es ≡ []
      → bytes ≡ piece m.behavior q es
