use Rattle.std.proofs.Common.{◌∙◌}
use Rattle.lua_values.proofs.TableLemmas.{border-few}
use Rattle.lua_values.proofs.OutlineLemmas.{full-border, flagged-border}
use Rattle.lua_values.proofs.tables.Table.border.Goals as goal

pub returns-in-Full-clause-least : goal.returns-in-Full-clause-least
returns-in-Full-clause-least c =
    let known = rw c.in-Full.is at c.self.invariant in
    rw (← c.self.view_is) (c.len-entries.ensures.len ∙ full-border c.self.inside.pairs known.0)

pub returns-in-Flagged-clause-least : goal.returns-in-Flagged-clause-least
returns-in-Flagged-clause-least c =
    let known = rw c.in-Flagged.is at c.self.invariant in
    rw (← c.self.view_is) (c.unwrap_or-border.ensures ∙ flagged-border c.self.inside.pairs c.self.inside.holes c.first_from.result c.len-entries.result known.marks_holes c.first_from.ensures c.len-entries.ensures.len)

pub returns-in-Walked-clause-few : goal.returns-in-Walked-clause-few
returns-in-Walked-clause-few c = border-few c.self.inside.pairs c.len-entries.result c.walk_border-border.result c.len-entries.ensures.len c.len-entries.ensures.few c.walk_border-border.ensures
