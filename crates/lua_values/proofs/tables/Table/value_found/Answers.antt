use Rattle.std.proofs.Common.{is_some, sym, ap, ◌∙◌}
use Rattle.lua_values.proofs.EntryLemmas.{index-has, index-there, index-value}
use Rattle.lua_values.proofs.tables.Table.value_found.Goals as goal

pub returns-in-None-clause-entry : goal.returns-in-None-clause-entry
returns-in-None-clause-entry c = λ key is. ap is_some (sym c.in-None.is ∙ is) ∙ index-there c.args.self.now.pairs key

pub returns-in-Some-clause-entry : goal.returns-in-Some-clause-entry
returns-in-Some-clause-entry c = λ key is. sym (index-has c.args.self.now.pairs key c.in-Some.index (sym (sym c.in-Some.is ∙ is)))

pub returns-in-Some-clause-value : goal.returns-in-Some-clause-value
returns-in-Some-clause-value c = λ key is.
    index-value c.args.self.now.pairs key _ c.in-Some.index (sym (sym c.in-Some.is ∙ is)) (rw (← c.self.view_is) c.value.ensures)
