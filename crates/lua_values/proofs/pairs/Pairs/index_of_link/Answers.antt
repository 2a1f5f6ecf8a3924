use Rattle.std.proofs.Common.{length, sym, ap, ◌∙◌, arith}
use Rattle.lua_values.specs.Pairs.{link_key}
use Rattle.lua_values.proofs.NumberedLemmas.{counted, length-all, index-after, index-nowhere, none_of-link, link-within}
use Rattle.lua_values.proofs.pairs.Pairs.index_of_link.Goals as goal

pub returns-in-Some-clause-index : goal.returns-in-Some-clause-index
returns-in-Some-clause-index c =
    rw (← c.self.view_is, counted c.len.result c.self.inside.numbered c.len.ensures)
    (sym (index-after c.self.inside.numbered.items c.self.inside.others.entries link_key c.in-Some.index (none_of-link (length c.self.inside.numbered.items)) (sym c.self.invariant.1 ∙ c.in-Some.is)))

pub returns-in-Some-clause-within : goal.returns-in-Some-clause-within
returns-in-Some-clause-within c =
    omega (arith, length-all c.self.inside.numbered.items c.self.inside.others.entries, ap length c.self.view_is, link-within c.self.inside.others.entries c.in-Some.index (sym c.self.invariant.1 ∙ c.in-Some.is), counted c.len.result c.self.inside.numbered c.len.ensures)

pub returns-in-None-clause-index : goal.returns-in-None-clause-index
returns-in-None-clause-index c =
    rw (← c.self.view_is)
    (sym (index-nowhere c.self.inside.numbered.items c.self.inside.others.entries link_key (none_of-link (length c.self.inside.numbered.items)) (sym c.self.invariant.1 ∙ c.in-None.is)))
