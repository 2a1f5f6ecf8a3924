use Rattle.std.proofs.Common.{◌≡◌, Some, position, ap, ◌∙◌, inr, sym}
use Rattle.std.specs.Map.{keys_of}
use Rattle.lua_values.specs.Values.{same, is_nil}
use Rattle.lua_values.proofs.PairLemmas.{insert-with}
use Rattle.lua_values.proofs.EntryLemmas.{index-has, index-value, index-write}
use Rattle.lua_values.proofs.OutlineLemmas.{outline-renewed}
use Rattle.lua_values.proofs.tables.Table.renew_found.Goals as goal

pub invariant_of-self : goal.invariant_of-self
invariant_of-self c =
    rw c.replace.ensures.done (outline-renewed c.self.inside.outline c.self.inside.pairs c.in-Some.index c.args.value c.value.result.now c.self.inside.live c.self.inside.holes c.self.invariant
    c.value.ensures (sym c.is_nil-else-is_nil.ensures ∙ c.if-is_nil-2.false) (sym c.is_nil.ensures ∙ c.if-is_nil.false))

pub returns-else-is_nil-2-clause-there : goal.returns-else-is_nil-2-clause-there
returns-else-is_nil-2-clause-there c = λ key is.
    let at : position (same key) (keys_of c.args.self.now.pairs) ≡ Some c.in-Some.index = sym (sym c.in-Some.is ∙ is) in
    sym (ap is_nil (index-value c.args.self.now.pairs key c.value.result.now c.in-Some.index at (rw (← c.self.view_is) c.value.ensures)))
    ∙ sym c.is_nil-else-is_nil.ensures ∙ c.if-is_nil-2.false

pub returns-else-is_nil-2-clause-done : goal.returns-else-is_nil-2-clause-done
returns-else-is_nil-2-clause-done c = λ key is.
    let at : position (same key) (keys_of c.self.inside.pairs) ≡ Some c.in-Some.index = ap (λ t. position (same key) (keys_of t.pairs)) c.self.view_is ∙ sym (sym c.in-Some.is ∙ is) in
    rw (← c.self.view_is, c.replace.ensures.done) (ap (λ ps. record { pairs = ps; meta = c.self.inside.meta })
    (index-write c.self.inside.pairs key c.args.value c.in-Some.index at ∙ insert-with c.self.inside.pairs key c.args.value (inr (index-has c.self.inside.pairs key c.in-Some.index at))))
