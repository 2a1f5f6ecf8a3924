-- How serving ends.
use Rattle.std.specs.Prelude.{◌≡◌, ◌⊎◌, ℕ, ◌≤◌, false, List, [], ◌∷◌, length, IfSome}
use Rattle.resty_base.specs.Counting.{Rose}
use Rattle.resty_world.specs.declared.entry.Entry.{Entry}
use Rattle.resty_world.specs.declared.entry.Entry.TheVariants as entry
use Rattle.resty_world.specs.declared.event.Event.{Event}
use Rattle.resty_world.specs.declared.event.Event.TheVariants as event
use Rattle.resty_world.specs.Book.{Book}
use Rattle.resty_world.specs.Given.{IsBadLine, IsCaused}
pub use Rattle.engine_turns.specs.Worked.{to_event, has_failed_log, HasFailedLog}
use Rattle.engine.specs.declared.server.Ended.{Ended}
use Rattle.engine.specs.declared.server.Ended.TheVariants as ended

-- the events that were given, the newest first
abbrev pub events_of : List Entry → List Event
events_of [] = []
events_of (entry.Given e ∷ h) = e ∷ events_of h
events_of (e ∷ h) = events_of h

-- no more than so many events were given
abbrev pub HasAtMost : ℕ → List Entry → Type 0
HasAtMost events h = length (events_of h) ≤ events

-- Stop was given last
abbrev pub IsStopped : List Entry → Type 0
IsStopped h = (before : List Event) × (events_of h ≡ event.Stop ∷ before)

-- Stop wasn't given
abbrev pub HasNoStop : List Event → Type 0
HasNoStop [] = Unit {0}
HasNoStop (event.Stop ∷ es) = ⊥
HasNoStop (e ∷ es) = HasNoStop es

-- so many events were given, and none of them was Stop
pub record IsSpent (events : ℕ) (h : List Entry) : Type 0 where
  pub count : length (events_of h) ≡ events
  pub no_stop : HasNoStop (events_of h)

-- each log line was written
abbrev pub HasNoFailedLog : List Entry → Type 0
HasNoFailedLog h = has_failed_log h ≡ false

-- no fault was counted, and each log line was written
pub record NothingFailed (old new : Book) : Type 0 where
  pub faults : new.faults ≡ old.faults
  pub logs : IfSome new.history HasNoFailedLog

-- the world failed as its schedule has it, where Stop was still to be given, and each log line was written
pub record WorldFailed (book : Book) (h : List Entry) : Type 0 where
  pub fault : IsCaused book event.Fault
  pub no_stop : HasNoStop (events_of h)
  pub logs : HasNoFailedLog h

-- a log line wasn't written, and each up to the newest event was
pub record LogFailed (h : List Entry) : Type 0 where
  pub failed : HasFailedLog h
  pub before : HasNoFailedLog (to_event h)

-- how serving ends: by Stop, once all events are given, by a fault, at a bad line, or out of memory
abbrev pub EndsBy : ℕ → Book → Book → Ended → Type 0
EndsBy events old new ended.Stopped = IfSome new.history IsStopped × NothingFailed old new
EndsBy events old new (ended.Spent n) = (n ≡ events) × IfSome new.history (IsSpent events) × NothingFailed old new
EndsBy events old new ended.WorldFault = Rose old.faults new.faults × IfSome new.history (λ h. WorldFailed new h ⊎ LogFailed h)
EndsBy events old new (ended.BadLine n) = IsBadLine new n × NothingFailed old new
EndsBy events old new ended.Memory = NothingFailed old new
