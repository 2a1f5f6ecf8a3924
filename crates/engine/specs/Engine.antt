-- What the engine stands for, between two steps and at an event.
use Rattle.resty_world.specs.Book.{Book}
use Rattle.resty_world.specs.declared.event.Event.{Event}
use Rattle.strand_contract.specs.Behaviors.{Meaning}
use Rattle.engine_turns.specs.Turns as turns
use Rattle.engine.specs.Events as given
use Rattle.engine.specs.declared.engine.Engine.{Engine}

module _ {J S : Type 0} (m : Meaning S J) where
  -- the engine stands for some execution, and nothing is left to be done
  abbrev pub Rests : Engine S → Book → Type 0
  Rests e book = turns.Rests m e.turns book

  -- the world gave this event at rest
  abbrev pub IsGiven : Engine S → Book → Event → Type 0
  IsGiven e book event = given.IsGiven m e.turns book event
