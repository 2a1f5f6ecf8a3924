use Rattle.std.proofs.Common.{◌≡◌, Some, position, sym, ap, ◌∙◌}
use Rattle.std.specs.Map.{keys_of}
use Rattle.lua_values.specs.Values.{same}
use Rattle.lua_values.proofs.PairLemmas.{next-found, next-missing}
use Rattle.lua_values.proofs.tables.Table.next.Goals as goal

pub returns-in-Some : goal.returns-in-Some
returns-in-Some c =
    let at : position (same c.args.key.now) (keys_of c.args.self.now.pairs) ≡ Some c.in-Some.index = sym (c.in-Some.ensures.index ∙ ap (λ t. position (same c.args.key.now) (keys_of t.pairs)) c.self.view_is) in
    rw (← next-found c.args.self.now.pairs c.args.key.now c.in-Some.index (sym c.is_nil.ensures ∙ c.if-is_nil.false) at) c.live_from-in-Some.ensures

pub returns-in-None : goal.returns-in-None
returns-in-None c =
    rw (← c.self.view_is) (next-missing c.self.inside.pairs c.args.key.now (sym c.is_nil.ensures ∙ c.if-is_nil.false) (sym c.in-None.ensures.index))
