-- What a step of the engine does to the world.
use Rattle.std.specs.Prelude.{◌≡◌, Bool, true, false}
use Rattle.std.specs.Option.{option_map}
use Rattle.resty_world.specs.Book.{Book}
use Rattle.resty_world.specs.declared.event.Event.{Event}
use Rattle.resty_world.specs.declared.event.Event.TheVariants as event
use Rattle.engine.specs.declared.engine.Stepped.{Stepped}
use Rattle.engine.specs.declared.engine.Stepped.TheVariants as to
use Rattle.engine_turns.specs.Worked.{to_event, Logs}

-- a world some calls later, of which no event was asked, and which listens where it listened
pub record Goes {V : Type 0} (same : V → V → Type 0) (book : V → Book) (old new : V) : Type 0 where
  pub later : same old new
  pub event : option_map to_event (book new).history ≡ option_map to_event (book old).history
  pub port : (book new).port ≡ (book old).port

abbrev pub is_stop : Event → Bool
is_stop event.Stop = true
is_stop e = false

-- what a step came to, by its event and by the world's book before and after it: whether the event was Stop, or a log line of
-- this step wasn't written
abbrev pub Steps : Event → Book → Book → Stepped → Type 0
Steps e old new to.Went = (is_stop e ≡ false) × Logs old false new
Steps e old new to.Stopped = (is_stop e ≡ true) × Logs old false new
Steps e old new to.LogFailed = Logs old true new
