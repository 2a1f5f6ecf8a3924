use Rattle.std.proofs.Common.{sym, ◌∙◌, arith}
use Rattle.lua_values.proofs.OutlineLemmas.{walk-stops, walk-ends}
use Rattle.lua_values.proofs.outlines.walk_border.Goals as goal

pub returns-then-is_hole : goal.returns-then-is_hole
returns-then-is_hole c =
    walk-stops c.args.pairs.now c.loop-n.n c.loop-n.invariant (sym c.is_hole.ensures ∙ c.if-is_hole.true) (omega (arith, c.loop-n-test.true, c.len-n-end.ensures.len))

pub returns : goal.returns
returns c = c.len.ensures.len ∙ walk-ends c.args.pairs.now (λ k lt. c.loop-n.invariant k (omega (arith, lt, c.loop-n-test.false, c.len-n-end.ensures.len)))
