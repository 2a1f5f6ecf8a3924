-- A socket that is found is idle.
use Rattle.std.proofs.Common.{ap, ◌∙◌, is_some}
use Rattle.sock_pool.proofs.Entries.{idle-is}
use Rattle.sock_pool.proofs.pool.Pool.idle_gave.Goals as goal

pub returns-clause-was_idle : goal.returns-clause-was_idle
returns-clause-was_idle c = c.is_some.ensures ∙ ap is_some c.take_out.ensures.idle ∙ idle-is c.args.sock c.args.self.now
