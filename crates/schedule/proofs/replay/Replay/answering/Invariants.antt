use Rattle.std.proofs.Common.{◌-◌, ◌≤◌, length}
use Rattle.schedule.specs.ReplayBook.{IsQuietTo}
use Rattle.schedule.proofs.replay.Replay.answering.Given as goal

abbrev pub invariant-loop-index : goal.invariant-loop-index
invariant-loop-index l = (l.fn.self.passed ≤ l.index) × IsQuietTo l.fn.self l.index

abbrev pub decreases-loop-index : goal.decreases-loop-index
decreases-loop-index l = length l.fn.self.course - l.index
