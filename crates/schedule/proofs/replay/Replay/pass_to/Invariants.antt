use Rattle.std.proofs.Common.{◌-◌, ◌≤◌}
use Rattle.schedule.specs.ReplayBook.{IsPast}
use Rattle.schedule.proofs.replay.Replay.pass_to.Given as goal

abbrev pub invariant-loop-self : goal.invariant-loop-self
invariant-loop-self l = IsPast l.fn.self l.self × (l.self.passed ≤ l.fn.index)

abbrev pub decreases-loop-self : goal.decreases-loop-self
decreases-loop-self l = l.fn.index - l.self.passed
