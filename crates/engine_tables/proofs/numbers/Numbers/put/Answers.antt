-- The strand's own numbers are those that were written.
use Rattle.std.proofs.Common.{sym, Some, rules}
use Rattle.engine_tables.proofs.Own.{written, unchanged}
use Rattle.engine_tables.proofs.numbers.Numbers.put.Goals as goal

pub returns-in-Ok-clause-done : goal.returns-in-Ok-clause-done
returns-in-Ok-clause-done c s j =
    written c.args.self.now.by_strand.entries c.args.who s j c.args.k (Some c.args.number) c.in-Some.own.now c.put_own.new.own _ (sym c.in-Some.ensures.value) (((c.get_mut.follows.holds c.put_own.new.own).3 (search rules)).0 s) (c.in-Ok.ensures.done j)

pub returns-in-Err-clause-kept : goal.returns-in-Err-clause-kept
returns-in-Err-clause-kept c s j =
    unchanged c.args.self.now.by_strand.entries c.args.who s j c.in-Some.own.now c.put_own.new.own _ (sym c.in-Some.ensures.value) (((c.get_mut.follows.holds c.put_own.new.own).3 (search rules)).0 s) (c.in-Err.ensures.kept j)
