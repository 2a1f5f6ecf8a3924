use Rattle.std.proofs.Common.{◌<◌, length, sym, ap, subst, None, arith}
use Rattle.lua_values.specs.TableFlags.{IsHoleOf}
use Rattle.lua_values.proofs.NumberedLemmas.{counted, IsNoneOf, length-all, index-numbered, index-after, index-nowhere, none_of-hole}
use Rattle.lua_values.proofs.pairs.Pairs.index_of.Goals as goal

pub returns-in-Some-clause-index : goal.returns-in-Some-clause-index
returns-in-Some-clause-index c =
    let within : c.in-Some.index < length c.self.inside.numbered.items = omega (arith, c.in-Some.ensures.0, counted c.len-count.result c.self.inside.numbered c.len-count.ensures) in
    rw (← c.self.view_is) (sym (index-numbered c.self.inside.numbered.items c.self.inside.others.entries c.in-Some.index c.args.key.now within c.in-Some.ensures.1))

pub returns-in-Some-clause-within : goal.returns-in-Some-clause-within
returns-in-Some-clause-within c =
    omega (arith, length-all c.self.inside.numbered.items c.self.inside.others.entries, ap length c.self.view_is, c.in-Some.ensures.0, counted c.len-count.result c.self.inside.numbered c.len-count.ensures)

pub returns-in-Some-index_among-clause-index : goal.returns-in-Some-index_among-clause-index
returns-in-Some-index_among-clause-index c =
    let none : IsNoneOf c.args.key.now (length c.self.inside.numbered.items) = none_of-hole c.args.key.now (length c.self.inside.numbered.items) (subst (λ n. IsHoleOf c.args.key.now n None) (counted c.len-count.result c.self.inside.numbered c.len-count.ensures) c.in-None.ensures) in
    rw (← c.self.view_is, counted c.len-count.result c.self.inside.numbered c.len-count.ensures)
    (sym (index-after c.self.inside.numbered.items c.self.inside.others.entries c.args.key.now c.in-Some-index_among.index none (sym c.in-Some-index_among.ensures.index)))

pub returns-in-Some-index_among-clause-within : goal.returns-in-Some-index_among-clause-within
returns-in-Some-index_among-clause-within c =
    omega (arith, length-all c.self.inside.numbered.items c.self.inside.others.entries, ap length c.self.view_is, c.in-Some-index_among.ensures.within, counted c.len-count.result c.self.inside.numbered c.len-count.ensures)

pub returns-in-None-index_among-clause-index : goal.returns-in-None-index_among-clause-index
returns-in-None-index_among-clause-index c =
    let none : IsNoneOf c.args.key.now (length c.self.inside.numbered.items) = none_of-hole c.args.key.now (length c.self.inside.numbered.items) (subst (λ n. IsHoleOf c.args.key.now n None) (counted c.len-count.result c.self.inside.numbered c.len-count.ensures) c.in-None.ensures) in
    rw (← c.self.view_is)
    (sym (index-nowhere c.self.inside.numbered.items c.self.inside.others.entries c.args.key.now none (sym c.in-None-index_among.ensures.index)))
