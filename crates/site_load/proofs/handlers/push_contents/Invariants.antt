use Rattle.std.proofs.Common.{◌≡◌, ◌++◌, take}
use Rattle.site_load.specs.Handlers.{contents_in}
use Rattle.site_load.proofs.handlers.push_contents.Given as goal

abbrev pub invariant-loop-location : goal.invariant-loop-location
invariant-loop-location l = l.contents.items ≡ l.initial.contents.items ++ contents_in (take l.location-index l.locations)
