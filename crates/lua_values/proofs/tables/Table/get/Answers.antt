use Rattle.lua_values.proofs.tables.Table.get.Goals as goal

pub returns-clause-entry : goal.returns-clause-entry
returns-clause-entry c = c.value_found.ensures.entry c.args.key.now (rw (← c.self.view_is) c.index_of.ensures.index)

pub returns-clause-value : goal.returns-clause-value
returns-clause-value c = c.value_found.ensures.value c.args.key.now (rw (← c.self.view_is) c.index_of.ensures.index)
