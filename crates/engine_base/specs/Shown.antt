-- Whom an event is for.
use Rattle.std.specs.Prelude.{Option, Some, None}
use Rattle.resty_base.specs.declared.names.Id.{Id}
use Rattle.resty_world.specs.declared.event.Event.{Event}
use Rattle.resty_world.specs.declared.event.Event.TheVariants as event
use Rattle.strand_contract.specs.declared.turns.Place.TheVariants as place
use Rattle.strand_contract.specs.declared.turns.Seen.{Seen}
use Rattle.strand_contract.specs.declared.turns.Seen.TheVariants as seen

-- whom an event is for, and what the strand is shown
abbrev pub shown : Event → Option (Id × Seen)
shown (event.Bytes i bytes) = Some (i, seen.Bytes place.Client bytes)
shown (event.Ended i) = Some (i, seen.Ended place.Client)
shown (event.Broken i) = Some (i, seen.Broken place.Client)
shown (event.Ready i) = Some (i, seen.Ready place.Client)
shown e = None
