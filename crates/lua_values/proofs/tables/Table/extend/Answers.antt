use Rattle.std.proofs.Common.{sym, ap, ◌∙◌}
use Rattle.lua_values.proofs.OutlineLemmas.{on_both, put-last}
use Rattle.lua_values.proofs.tables.Table.extend.Goals as goal

pub returns-else-is_nil-clause-done : goal.returns-else-is_nil-clause-done
returns-else-is_nil-clause-done c =
    rw (← c.self.view_is) (on_both c.push_next.result (λ absent done. ap (λ ps. record { pairs = ps; meta = c.self.inside.meta })
    (done ∙ put-last c.self.inside.pairs c.args.key.now c.args.value absent (sym c.is_nil.ensures ∙ c.if-is_nil.false))) c.push_next.ensures.absent c.push_next.ensures.done)
