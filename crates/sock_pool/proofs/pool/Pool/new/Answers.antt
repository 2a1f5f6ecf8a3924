-- None of the parts has anything.
use Rattle.sock_pool.proofs.Pooled.{empty-is}
use Rattle.sock_pool.proofs.pool.Pool.new.Goals as goal

pub invariant_of-result : goal.invariant_of-result
invariant_of-result c = empty-is c.new.result c.new-2.result c.new-3.result c.new.ensures c.new-2.ensures c.new-3.ensures
