use Rattle.std.proofs.lemmas.Bool.{leb-true}
use Rattle.lua_values.proofs.ShiftLemmas.{order-sources}
use Rattle.lua_values.proofs.tables.Table.has_sources.Goals as goal

pub returns : goal.returns
returns c = rw (← c.self.view_is) (λ h. order-sources c.self.inside.pairs c.args.shift c.in_order.result c.in_order.ensures c.requires (leb-true _ _ h))
