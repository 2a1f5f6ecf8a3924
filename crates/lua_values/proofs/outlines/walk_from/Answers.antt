use Rattle.std.proofs.Common.{sym, ◌∙◌, arith}
use Rattle.lua_values.proofs.OutlineLemmas.{walk-here, walk-none, walk-more}
use Rattle.lua_values.proofs.outlines.walk_from.Goals as goal

pub returns-then-not-is_nil : goal.returns-then-not-is_nil
returns-then-not-is_nil c =
    rw (← walk-here c.args.pairs.now c.args.from c.loop-index.index c.value.result.now (omega (arith, c.loop-index.auto.index)) c.loop-index.invariant c.value.ensures (sym c.is_nil.ensures ∙ c.if-not-is_nil.true)) c.pair.ensures

pub loop-index-preserved : goal.loop-index-preserved
loop-index-preserved c = walk-more c.args.pairs.now c.args.from c.loop-index.index c.value.result.now c.loop-index.invariant c.value.ensures (sym c.is_nil.ensures ∙ c.if-not-is_nil.false)

pub returns : goal.returns
returns c = walk-none c.args.pairs.now c.args.from (λ k a lt. c.loop-index.invariant k a (omega (arith, lt, c.loop-index-test.false, c.len-index-end.ensures.len)))
