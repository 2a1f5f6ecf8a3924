use Rattle.std.proofs.Common.{arith}
use Rattle.shared_dict.proofs.Entries.{taken-used, without-is}
use Rattle.shared_dict.proofs.items.Items.bytes_without.Goals as goal

pub overflow_sub-result : goal.overflow_sub-result
overflow_sub-result c = let u = taken-used c.self.inside.flush c.args.key.now c.self.inside.recent in omega (arith, c.bytes_at.ensures, c.self.invariant.counted)

pub returns-clause-bytes : goal.returns-clause-bytes
returns-clause-bytes c =
    let u = taken-used c.self.inside.flush c.args.key.now c.self.inside.recent in
    rw (← c.self.view_is, without-is c.self.inside.flush c.args.key.now c.self.inside.recent) (omega (arith, c.bytes_at.ensures, c.self.invariant.counted))
