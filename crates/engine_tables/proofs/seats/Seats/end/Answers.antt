use Rattle.std.specs.Ordering.{nat_cmp}
use Rattle.std.specs.BTreeMap.{is_at}
use Rattle.engine_tables.proofs.Totals.{remove-total}
use Rattle.engine_tables.proofs.seats.Seats.end.Goals as goal

pub returns-in-Conn-clause-total : goal.returns-in-Conn-clause-total
returns-in-Conn-clause-total g c f = rw c.remove-content.ensures.entries (remove-total f (is_at (nat_cmp c.in-Conn.connection)) c.args.self.now.by_connection.entries)
