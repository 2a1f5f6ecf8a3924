use Rattle.std.proofs.Common.{◌≡◌, ◌++◌, map}
use Rattle.conf.specs.Entries.{zone_of}
use Rattle.conf.proofs.zones.listing_of.Given as goal

abbrev pub invariant-loop-name : goal.invariant-loop-name
invariant-loop-name l = l.zones ++ map zone_of l.name-iterator ≡ map zone_of l.fn.sizes.entries
