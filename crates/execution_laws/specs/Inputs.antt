-- What the world gives and answers, read off a history.
-- Who decides what comes next: the world, which event is given, how much a write takes, whether a log line is written or a dial begins, and where
-- memory runs out; the strand, its acts and what it sends; the definitions, whose turn it is, what shared things answer, and how long a piece is.
use Rattle.std.specs.Prelude.{ℕ, Bool, List, [], ◌∷◌, ◌++◌, length, is_some}
use Rattle.resty_base.specs.declared.names.StrandId.{StrandId}
use Rattle.resty_world.specs.declared.event.Event.{Event}
use Rattle.resty_world.specs.declared.entry.Entry.{Entry}
use Rattle.resty_world.specs.declared.entry.Entry.TheVariants as entry

-- one thing that the world decides
pub data Input : Type 0 where
  -- an event
  Gives : (e : Event) → Input
  -- of what a write offers so many bytes are taken, none for now, or none any more
  Takes : (count : ℕ) → Input
  Delays : Input
  Loses : Input
  -- whether a log line was written, and whether a dial began
  Records : (done : Bool) → Input
  Connects : (done : Bool) → Input

-- the input in an entry, none where strands do it by themselves
abbrev pub input_of : Entry → List Input
input_of (entry.Given e) = Gives e ∷ []
input_of (entry.Put i bytes) = Takes (length bytes) ∷ []
input_of (entry.Later i) = Delays ∷ []
input_of (entry.Lost i) = Loses ∷ []
input_of (entry.Log s line done) = Records done ∷ []
input_of (entry.Dial s host port n) = Connects (is_some n) ∷ []
input_of e = []

-- the inputs in a history, the newest first
abbrev pub inputs : List Entry → List Input
inputs [] = []
inputs (e ∷ h) = input_of e ++ inputs h

-- the event in an entry
abbrev pub event_of : Entry → List Event
event_of (entry.Given e) = e ∷ []
event_of e = []

-- the given events of a history, the newest first
abbrev pub events : List Entry → List Event
events [] = []
events (e ∷ h) = event_of e ++ events h

-- the strand whose drop is the entry
abbrev pub drop_of : Entry → List StrandId
drop_of (entry.Dropped s) = s ∷ []
drop_of e = []

-- the strands that were dropped in a history, the newest first
abbrev pub drops : List Entry → List StrandId
drops [] = []
drops (e ∷ h) = drop_of e ++ drops h
