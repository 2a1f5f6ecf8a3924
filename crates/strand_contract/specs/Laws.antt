-- The laws of a behavior: what whoever holds a strand takes for granted of what it does.
use Rattle.std.specs.Prelude.{◌≡◌, ◌≤◌, ◌<◌, Bool, true, false, List, [], ◌∷◌}
use Rattle.shared_rules.specs.Ranges.{IsInRange}
use Rattle.strand_contract.specs.declared.turns.Place.{Place}
use Rattle.strand_contract.specs.declared.turns.Place.TheVariants as place
use Rattle.strand_contract.specs.declared.turns.Start.TheVariants as start
use Rattle.strand_contract.specs.declared.turns.Act.{Act}
use Rattle.strand_contract.specs.declared.turns.Act.TheVariants as act
use Rattle.strand_contract.specs.Actions.{LocalAction, Told, Did, Began, Close, Log, Dropped, Offer, Due, Halted, Gone}
use Rattle.strand_contract.specs.Behaviors.{Behavior}
use Rattle.strand_contract.specs.Alone.{lives, is_open, todo, IsExecution, IsPrefixOf, HasNoWork, KeepsNothingBack}

-- the action is no turn: no call of the strand is made for it
abbrev pub is_still : {J : Type 0} → LocalAction J → Bool
is_still (Told w) = true
is_still (Did (Close q)) = true
is_still (Did (Log line done)) = true
is_still (Did (Offer q)) = true
is_still (Did Gone) = true
is_still (Did Dropped) = true
is_still a = false

-- what is no turn gives no acts
abbrev pub IsQuiet : {J : Type 0} → Behavior J → Type 0
IsQuiet {J} b = (a : LocalAction J) (es : List (LocalAction J)) → is_still a ≡ true → b.acts (a ∷ es) ≡ []

-- and sends nothing
abbrev pub IsSilent : {J : Type 0} → Behavior J → Type 0
IsSilent {J} b = (q : Place) (a : LocalAction J) (es : List (LocalAction J)) → is_still a ≡ true → b.sent q (a ∷ es) ≡ b.sent q es

-- what was sent stays sent: more comes after it
abbrev pub Grows : {J : Type 0} → Behavior J → Type 0
Grows {J} b = (q : Place) (a : LocalAction J) (es : List (LocalAction J)) → IsExecution b (a ∷ es) → IsPrefixOf (b.sent q es) (b.sent q (a ∷ es))

-- only the last act awaits an answer or ends the strand's life
abbrev pub IsLastAct : {J : Type 0} → List (Act J) → Type 0
IsLastAct [] = Unit {0}
IsLastAct (act.Dict zone call ∷ acts) = acts ≡ []
IsLastAct (act.Take key ∷ acts) = acts ≡ []
IsLastAct (act.Dial host port ∷ acts) = acts ≡ []
IsLastAct (act.Keep k key idle size ∷ acts) = acts ≡ []
IsLastAct (act.Timer at job ∷ acts) = acts ≡ []
IsLastAct (act.Gone ∷ acts) = acts ≡ []
IsLastAct (a ∷ acts) = IsLastAct acts

abbrev pub AsksLast : {J : Type 0} → Behavior J → Type 0
AsksLast {J} b = (es : List (LocalAction J)) → IsLastAct (b.acts es)

-- a dictionary that is to be called is there, and the call is in range; a socket that is to be kept is open, and for at most so long
abbrev pub IsAskedRight : {J : Type 0} → Behavior J → List (LocalAction J) → List (Act J) → Type 0
IsAskedRight b es (act.Dict zone call ∷ acts) = (zone < b.zones) × IsInRange call
IsAskedRight b es (act.Keep k key idle size ∷ acts) = (is_open (place.Sock k) es ≡ true) × (idle.0 ≤ 99_999_999_999)
IsAskedRight b es acts = Unit {0}

abbrev pub AsksFit : {J : Type 0} → Behavior J → Type 0
AsksFit {J} b = (es : List (LocalAction J)) → IsExecution b es → IsAskedRight b es (todo b es)

-- a living strand hangs up what is open
abbrev pub HangsUpOpen : {J : Type 0} → Behavior J → Type 0
HangsUpOpen {J} b = (es : List (LocalAction J)) (q : Place) (rest : List (Act J)) → IsExecution b es → todo b es ≡ act.HangUp q ∷ rest
    → (lives es ≡ true) × (is_open q es ≡ true)

-- its life is over only once nothing of it is open
abbrev pub LeavesNothingOpen : {J : Type 0} → Behavior J → Type 0
LeavesNothingOpen {J} b = (es : List (LocalAction J)) (q : Place) → IsExecution b es → todo b es ≡ act.Gone ∷ [] → is_open q es ≡ false

-- at rest it holds nothing back
abbrev pub Keeps : {J : Type 0} → Behavior J → Type 0
Keeps {J} b = (es : List (LocalAction J)) → IsExecution b es → lives es ≡ true → HasNoWork b es → KeepsNothingBack b es

-- the acts await no answer and arm nothing
abbrev pub IsMild : {J : Type 0} → List (Act J) → Type 0
IsMild [] = Unit {0}
IsMild (act.Ready k ∷ acts) = IsMild acts
IsMild (act.Unready k ∷ acts) = IsMild acts
IsMild (act.Offer q ∷ acts) = IsMild acts
IsMild (act.Cancel n ∷ acts) = IsMild acts
IsMild (act.HangUp q ∷ acts) = IsMild acts
IsMild (act.Log line ∷ acts) = IsMild acts
IsMild (act.Gone ∷ acts) = IsMild acts
IsMild (a ∷ acts) = ⊥

-- the action begins what a moment brings about: a deadline is taken, or a job begins
abbrev pub is_waking_turn : {J : Type 0} → LocalAction J → Bool
is_waking_turn (Did (Due n)) = true
is_waking_turn (Did (Began now (start.Job j premature job))) = true
is_waking_turn a = false

-- a deadline that is taken and a job that begins have such acts, so that what one moment brings about comes to an end
abbrev pub WakesQuietly : {J : Type 0} → Behavior J → Type 0
WakesQuietly {J} b = (a : LocalAction J) (es : List (LocalAction J)) → IsExecution b (a ∷ es) → is_waking_turn a ≡ true → IsMild (b.acts (a ∷ es))

-- the acts take turns and deadlines out, hang up and log, and at last end the life
abbrev pub IsEnding : {J : Type 0} → List (Act J) → Type 0
IsEnding [] = ⊥
IsEnding (act.Unready k ∷ acts) = IsEnding acts
IsEnding (act.Cancel n ∷ acts) = IsEnding acts
IsEnding (act.HangUp q ∷ acts) = IsEnding acts
IsEnding (act.Log line ∷ acts) = IsEnding acts
IsEnding (act.Gone ∷ acts) = acts ≡ []
IsEnding (a ∷ acts) = ⊥

-- Stop ends the life of a strand
abbrev pub EndsAtStop : {J : Type 0} → Behavior J → Type 0
EndsAtStop {J} b = (es : List (LocalAction J)) → IsExecution b (Did Halted ∷ es) → IsEnding (b.acts (Did Halted ∷ es))
