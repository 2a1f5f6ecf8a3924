use Rattle.std.proofs.Common.{rules}
use Rattle.schedule.proofs.replay.Replay.ahead.Goals as goal

pub returns-in-FailNext-clause-next : goal.returns-in-FailNext-clause-next
returns-in-FailNext-clause-next c = search rules
