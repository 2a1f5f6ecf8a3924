use Rattle.std.proofs.Common.{◌+◌, None, ap, ◌∙◌}
use Rattle.std.specs.Map.{set_value}
use Rattle.std.specs.Ordering.{nat_cmp}
use Rattle.std.specs.BTreeMap.{is_at}
use Rattle.engine_tables.specs.Seats.{content, entries_total, value_of}
use Rattle.engine_tables.proofs.Totals.{vacate-total}
use Rattle.engine_tables.proofs.seats.Seats.take.Goals as goal

pub returns-clause-total : goal.returns-clause-total
returns-clause-total g c f =
    let test = is_at (nat_cmp c.in-Conn.connection) in
    let es = c.args.self.now.by_connection.entries in
    ap (λ l. entries_total f l + value_of f c.take.result) ((c.get_mut.follows.holds c.take.new.self).0 ∙ ap (set_value test es) c.take.ensures.after)
    ∙ ap (λ o. entries_total f (set_value test es None) + value_of f o) (c.take.ensures.value ∙ ap content c.in_ok-get_mut.ensures.value) ∙ vacate-total f test es
