use Rattle.std.proofs.Common.{Some}
use Rattle.std.specs.Ordering.{nat_cmp}
use Rattle.std.specs.BTreeMap.{is_at}
use Rattle.engine_tables.proofs.Totals.{write-total}
use Rattle.engine_tables.proofs.seats.Seats.put_back.Goals as goal

pub returns-in-Some-clause-total : goal.returns-in-Some-clause-total
returns-in-Some-clause-total g c f =
    rw (c.get_mut.follows.holds (Some c.args.x)).0 (write-total f (is_at (nat_cmp c.args.connection)) c.args.x c.args.self.now.by_connection.entries)
