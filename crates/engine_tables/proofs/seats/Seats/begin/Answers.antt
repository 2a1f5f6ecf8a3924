use Rattle.engine_tables.proofs.Totals.{insert-total}
use Rattle.engine_tables.proofs.seats.Seats.begin.Goals as goal

pub returns-in-Ok-clause-total : goal.returns-in-Ok-clause-total
returns-in-Ok-clause-total g c f = rw c.in-Ok.ensures.entries (insert-total f c.args.connection c.args.x c.args.self.now.by_connection.entries)
