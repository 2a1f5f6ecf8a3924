use Rattle.std.proofs.Common.{length}
use Rattle.shared_dict.proofs.Progress.{IsCountedSo}
use Rattle.shared_dict.proofs.scans.count_doomed.Given as goal

abbrev pub invariant-loop-kept : goal.invariant-loop-kept
invariant-loop-kept l = IsCountedSo l.flush l.now.0 l.most l.fn.entries l.entries l.count

abbrev pub decreases-loop-kept : goal.decreases-loop-kept
decreases-loop-kept l = length l.entries
