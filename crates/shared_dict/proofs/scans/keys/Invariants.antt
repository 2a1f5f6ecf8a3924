use Rattle.std.proofs.Common.{length}
use Rattle.shared_dict.proofs.Progress.{IsListed}
use Rattle.shared_dict.proofs.scans.keys.Given as goal

abbrev pub invariant-loop-key : goal.invariant-loop-key
invariant-loop-key l = IsListed l.flush l.now.0 l.most l.fn.entries l.entries l.keys.items

abbrev pub decreases-loop-key : goal.decreases-loop-key
decreases-loop-key l = length l.entries
