use Rattle.std.proofs.Common.{◌≡◌, Some, position, ap, ◌∙◌, inr, subst, sym}
use Rattle.std.specs.Map.{keys_of}
use Rattle.lua_values.proofs.PairLemmas.{insert-with}
use Rattle.lua_values.proofs.EntryLemmas.{index-has, index-value, index-write}
use Rattle.lua_values.proofs.TableLemmas.{indexed-write}
use Rattle.lua_values.proofs.OutlineLemmas.{full-written}
use Rattle.lua_values.specs.TableFlags.{IsHoleOf}
use Rattle.lua_values.specs.Values.{same}
use Rattle.lua_values.proofs.tables.Table.replace.Goals as goal

pub invariant_of-self : goal.invariant_of-self
invariant_of-self c =
    let at : position (same c.args.key.now) (keys_of c.self.inside.pairs) ≡ Some c.args.index = ap (λ t. position (same c.args.key.now) (keys_of t.pairs)) c.self.view_is ∙ c.requires in
    let known = rw c.in-Flagged.is at c.self.invariant in
    rw (c.in-Flagged.is, c.set_at.ensures, c.set.ensures, c.is_nil-nil.ensures, c.replace-before.ensures.done, index-write c.self.inside.pairs c.args.key.now c.args.value c.args.index at)
    (indexed-write c.self.inside.pairs c.args.key.now c.args.value c.self.inside.live c.self.inside.holes c.args.index c.hole_of-hole.result known at
    (subst (λ n. IsHoleOf c.args.key.now n c.hole_of-hole.result) c.len.ensures.len c.hole_of-hole.ensures))

pub invariant_of-self-else-nil : goal.invariant_of-self-else-nil
invariant_of-self-else-nil c =
    let at : position (same c.args.key.now) (keys_of c.self.inside.pairs) ≡ Some c.args.index = ap (λ t. position (same c.args.key.now) (keys_of t.pairs)) c.self.view_is ∙ c.requires in
    let known = rw c.in-Full.is at c.self.invariant in
    rw (c.in-Full.is, c.replace-before.ensures.done)
    (full-written c.self.inside.pairs c.args.index c.args.key.now c.args.value c.self.inside.live c.self.inside.holes known at (sym c.is_nil-nil.ensures ∙ c.if-nil.false))

pub returns-in-Flagged-clause-done : goal.returns-in-Flagged-clause-done
returns-in-Flagged-clause-done c =
    let at : position (same c.args.key.now) (keys_of c.self.inside.pairs) ≡ Some c.args.index = ap (λ t. position (same c.args.key.now) (keys_of t.pairs)) c.self.view_is ∙ c.requires in
    rw (← c.self.view_is, c.replace-before.ensures.done) (ap (λ ps. record { pairs = ps; meta = c.self.inside.meta })
    (index-write c.self.inside.pairs c.args.key.now c.args.value c.args.index at ∙ insert-with c.self.inside.pairs c.args.key.now c.args.value (inr (index-has c.self.inside.pairs c.args.key.now c.args.index at))))

pub returns-in-Flagged-clause-before : goal.returns-in-Flagged-clause-before
returns-in-Flagged-clause-before c =
    let at : position (same c.args.key.now) (keys_of c.self.inside.pairs) ≡ Some c.args.index = ap (λ t. position (same c.args.key.now) (keys_of t.pairs)) c.self.view_is ∙ c.requires in
    rw (← c.self.view_is) (index-value c.self.inside.pairs c.args.key.now c.replace-before.result c.args.index at c.replace-before.ensures.before)

pub returns-then-nil-clause-done : goal.returns-then-nil-clause-done
returns-then-nil-clause-done c =
    let at : position (same c.args.key.now) (keys_of c.self.inside.pairs) ≡ Some c.args.index = ap (λ t. position (same c.args.key.now) (keys_of t.pairs)) c.self.view_is ∙ c.requires in
    rw (← c.self.view_is, c.replace-before.ensures.done) (ap (λ ps. record { pairs = ps; meta = c.self.inside.meta })
    (index-write c.self.inside.pairs c.args.key.now c.args.value c.args.index at ∙ insert-with c.self.inside.pairs c.args.key.now c.args.value (inr (index-has c.self.inside.pairs c.args.key.now c.args.index at))))

pub returns-then-nil-clause-before : goal.returns-then-nil-clause-before
returns-then-nil-clause-before c =
    let at : position (same c.args.key.now) (keys_of c.self.inside.pairs) ≡ Some c.args.index = ap (λ t. position (same c.args.key.now) (keys_of t.pairs)) c.self.view_is ∙ c.requires in
    rw (← c.self.view_is) (index-value c.self.inside.pairs c.args.key.now c.replace-before.result c.args.index at c.replace-before.ensures.before)

pub returns-else-nil-clause-done : goal.returns-else-nil-clause-done
returns-else-nil-clause-done c =
    let at : position (same c.args.key.now) (keys_of c.self.inside.pairs) ≡ Some c.args.index = ap (λ t. position (same c.args.key.now) (keys_of t.pairs)) c.self.view_is ∙ c.requires in
    rw (← c.self.view_is, c.replace-before.ensures.done) (ap (λ ps. record { pairs = ps; meta = c.self.inside.meta })
    (index-write c.self.inside.pairs c.args.key.now c.args.value c.args.index at ∙ insert-with c.self.inside.pairs c.args.key.now c.args.value (inr (index-has c.self.inside.pairs c.args.key.now c.args.index at))))

pub returns-else-nil-clause-before : goal.returns-else-nil-clause-before
returns-else-nil-clause-before c =
    let at : position (same c.args.key.now) (keys_of c.self.inside.pairs) ≡ Some c.args.index = ap (λ t. position (same c.args.key.now) (keys_of t.pairs)) c.self.view_is ∙ c.requires in
    rw (← c.self.view_is) (index-value c.self.inside.pairs c.args.key.now c.replace-before.result c.args.index at c.replace-before.ensures.before)

pub returns-in-Walked-clause-done : goal.returns-in-Walked-clause-done
returns-in-Walked-clause-done c =
    let at : position (same c.args.key.now) (keys_of c.self.inside.pairs) ≡ Some c.args.index = ap (λ t. position (same c.args.key.now) (keys_of t.pairs)) c.self.view_is ∙ c.requires in
    rw (← c.self.view_is, c.replace-before.ensures.done) (ap (λ ps. record { pairs = ps; meta = c.self.inside.meta })
    (index-write c.self.inside.pairs c.args.key.now c.args.value c.args.index at ∙ insert-with c.self.inside.pairs c.args.key.now c.args.value (inr (index-has c.self.inside.pairs c.args.key.now c.args.index at))))

pub returns-in-Walked-clause-before : goal.returns-in-Walked-clause-before
returns-in-Walked-clause-before c =
    let at : position (same c.args.key.now) (keys_of c.self.inside.pairs) ≡ Some c.args.index = ap (λ t. position (same c.args.key.now) (keys_of t.pairs)) c.self.view_is ∙ c.requires in
    rw (← c.self.view_is) (index-value c.self.inside.pairs c.args.key.now c.replace-before.result c.args.index at c.replace-before.ensures.before)
