use Rattle.std.proofs.Common.{length, sym, ap, arith}
use Rattle.lua_values.specs.declared.values.Value.TheVariants.{Text}
use Rattle.lua_values.proofs.NumberedLemmas.{counted, length-all, index-after, index-nowhere, none_of-text}
use Rattle.lua_values.proofs.pairs.Pairs.index_of_text.Goals as goal

pub returns-in-Some-clause-index : goal.returns-in-Some-clause-index
returns-in-Some-clause-index c =
    rw (← c.self.view_is, counted c.len.result c.self.inside.numbered c.len.ensures)
    (sym (index-after c.self.inside.numbered.items c.self.inside.others.entries (Text c.args.name.now) c.in-Some.index (none_of-text c.args.name.now (length c.self.inside.numbered.items)) (sym c.in-Some.ensures.index)))

pub returns-in-Some-clause-within : goal.returns-in-Some-clause-within
returns-in-Some-clause-within c =
    omega (arith, length-all c.self.inside.numbered.items c.self.inside.others.entries, ap length c.self.view_is, c.in-Some.ensures.within, counted c.len.result c.self.inside.numbered c.len.ensures)

pub returns-in-None-clause-index : goal.returns-in-None-clause-index
returns-in-None-clause-index c =
    rw (← c.self.view_is)
    (sym (index-nowhere c.self.inside.numbered.items c.self.inside.others.entries (Text c.args.name.now) (none_of-text c.args.name.now (length c.self.inside.numbered.items)) (sym c.in-None.ensures.index)))
