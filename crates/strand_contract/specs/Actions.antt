-- What happens to one strand. Lists of actions have the newest first.
use Rattle.std.specs.Prelude.{ℕ, Bool, true, false, List, Option, ◌==◌}
use Rattle.resty_base.specs.declared.names.Ms.{Ms}
use Rattle.resty_base.specs.declared.dictionary.DictCall.{DictCall}
use Rattle.resty_base.specs.declared.dictionary.DictAnswer.{DictAnswer}
use Rattle.resty_world.specs.declared.answers.TimerAnswer.{TimerAnswer}
use Rattle.strand_contract.specs.declared.turns.Place.{Place}
use Rattle.strand_contract.specs.declared.turns.Place.TheVariants as place
use Rattle.strand_contract.specs.declared.turns.Start.{Start}
use Rattle.strand_contract.specs.declared.turns.Start.TheVariants as start

-- what all living strands are told
pub data Word : Type 0 where
  Moment : (t : ℕ) → Word
  Stop : Word

-- what happens to one strand; J is what a job starts with. An action that leaves an entry in the history has that entry's name
pub data Action (J : Type 0) : Type 0 where
  -- it begins, at a moment
  Began : (now : ℕ) (start : Start J) → Action J
  -- what is given at its places; sockets are numbered by its own count
  Bytes : (at : Place) (bytes : List ℕ) → Action J
  Ended : (at : Place) → Action J
  Broken : (at : Place) → Action J
  Ready : (at : Place) → Action J
  Dialled : (sock : ℕ) → Action J
  Refused : (sock : ℕ) → Action J
  -- what it does, with the answer
  Put : (at : Place) (bytes : List ℕ) → Action J
  Later : (at : Place) → Action J
  Lost : (at : Place) → Action J
  Close : (at : Place) → Action J
  Log : (line : List ℕ) (done : Bool) → Action J
  Dict : (zone : ℕ) (call : DictCall) (answer : DictAnswer) → Action J
  Take : (key : List ℕ) (uses : Option ℕ) → Action J
  Dial : (host : List ℕ) (port : ℕ) (done : Bool) → Action J
  Keep : (sock : ℕ) (key : List ℕ) (idle : Ms) (size : ℕ) → Action J
  Timer : (due : Ms) (answer : TimerAnswer) → Action J
  -- it is given up, out of memory: while it lives, or in the place of its beginning
  Dropped : Action J
  -- internal, without an entry: a thread runs, an offer of a place begins, a deadline is taken, Stop ends it, its life is over
  Run : (thread : ℕ) → Action J
  Offer : (at : Place) → Action J
  Due : (number : ℕ) → Action J
  Halted : Action J
  Gone : Action J

-- of what one strand's own execution is made: what it is told with all others, and what happens to it alone
pub data LocalAction (J : Type 0) : Type 0 where
  Told : (w : Word) → LocalAction J
  Did : (x : Action J) → LocalAction J

-- two places are the same
abbrev pub same_place : Place → Place → Bool
same_place place.Client place.Client = true
same_place (place.Sock k) (place.Sock j) = k == j
same_place place.Client (place.Sock j) = false
same_place (place.Sock k) place.Client = false

-- actions that leave no entry
abbrev pub is_internal : {J : Type 0} → Action J → Bool
is_internal (Run k) = true
is_internal (Offer q) = true
is_internal (Due n) = true
is_internal Halted = true
is_internal Gone = true
is_internal x = false

-- actions that begin a turn which is an event of the strand's own: something given, a deadline, the beginning, the end by Stop
abbrev pub is_event : {J : Type 0} → Action J → Bool
is_event (Began now start) = true
is_event (Bytes q b) = true
is_event (Ended q) = true
is_event (Broken q) = true
is_event (Ready q) = true
is_event (Dialled k) = true
is_event (Refused k) = true
is_event (Due n) = true
is_event Halted = true
is_event x = false

-- events that the world gives; a job's beginning isn't one
abbrev pub is_given : {J : Type 0} → Action J → Bool
is_given (Began now (start.Job j premature job)) = false
is_given (Due n) = false
is_given Halted = false
is_given x = is_event x
