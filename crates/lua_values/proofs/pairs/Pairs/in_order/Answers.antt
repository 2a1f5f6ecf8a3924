use Rattle.lua_values.proofs.NumberedLemmas.{counted, first-in_order}
use Rattle.lua_values.proofs.pairs.Pairs.in_order.Goals as goal

pub returns : goal.returns
returns c = rw (← c.self.view_is, counted c.len.result c.self.inside.numbered c.len.ensures) (first-in_order c.self.inside.numbered.items c.self.inside.others.entries)
