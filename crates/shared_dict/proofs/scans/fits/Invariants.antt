use Rattle.std.proofs.Common.{◌+◌, ◌<◌, ◌^◌, length}
use Rattle.shared_dict.proofs.Progress.{IsAhead}
use Rattle.shared_dict.proofs.scans.fits.Given as goal

abbrev pub invariant-loop-other : goal.invariant-loop-other
invariant-loop-other l = record { ahead : IsAhead l.key l.size l.more l.fn.entries l.entries l.rest l.most; small : l.rest + l.more < 2 ^ 128 }

abbrev pub decreases-loop-other : goal.decreases-loop-other
decreases-loop-other l = length l.entries
