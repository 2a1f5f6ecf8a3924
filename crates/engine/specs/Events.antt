-- What the world gave at rest.
use Rattle.std.specs.Prelude.{◌≡◌, Some}
use Rattle.resty_base.specs.declared.names.Id.{Id}
use Rattle.resty_world.specs.Book.{Book}
use Rattle.resty_world.specs.Given.{Gave}
use Rattle.resty_world.specs.declared.event.Event.{Event}
use Rattle.strand_contract.specs.declared.turns.Seen.{Seen}
use Rattle.strand_contract.specs.Behaviors.{Meaning}
use Rattle.engine_base.specs.Shown.{shown}
use Rattle.engine_turns.specs.declared.turns.Turns.{Turns}
use Rattle.engine_turns.specs.Turns.{Rests}

module _ {J S : Type 0} (m : Meaning S J) where
  -- the world gave this event at rest
  abbrev pub IsGiven : Turns S → Book → Event → Type 0
  IsGiven turns book given = (before : Book) × Rests m turns before × Gave before book given

  -- the world gave an event at rest that is for this id
  abbrev pub IsShown : Turns S → Book → Id → Seen → Type 0
  IsShown turns book i s = (before : Book) × (given : Event) × Rests m turns before × Gave before book given × (shown given ≡ Some (i, s))
