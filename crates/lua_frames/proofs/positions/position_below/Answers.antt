use Rattle.std.proofs.Common.{◌∙◌, ap, sym, arith, List, drop}
use Rattle.lua_meaning.specs.Works.{Caller}
use Rattle.lua_meaning.specs.Positions.{position_of}
use Rattle.lua_frames.proofs.StackLemmas.{one_more, skipped, positioned_here, positioned_around, no_function}
use Rattle.lua_frames.proofs.positions.position_below.Goals as goal

pub loop-i-preserved-then-skip-gt0 : goal.loop-i-preserved-then-skip-gt0
loop-i-preserved-then-skip-gt0 c = (
  omega (arith, c.loop-i.invariant.0),
  λ S e.
      c.loop-i.invariant.1 S e
      ∙ ap (λ (a : List Caller). position_of S (drop c.loop-i.skip a)) (one_more c.args.frames.now c.loop-i.i c.index-frames-i.result c.loop-i-test.true c.loop-i.invariant.0 c.index-frames-i.is)
      ∙ skipped S c.index-frames-i.result _ c.loop-i.skip c.in-Lua.is c.if-skip-gt0.true,
)

pub returns-in-Some : goal.returns-in-Some
returns-in-Some c = λ S e.
    sym (c.loop-i.invariant.1 S e ∙ ap (λ (a : List Caller). position_of S (drop c.loop-i.skip a)) (one_more c.args.frames.now c.loop-i.i c.index-frames-i.result c.loop-i-test.true c.loop-i.invariant.0 c.index-frames-i.is)
    ∙ positioned_here S c.index-frames-i.result _ c.loop-i.skip c.in-Some.position c.in-Lua.is (omega (arith, c.if-skip-gt0.false)) (c.in-Some.ensures S e))

pub loop-i-preserved-in_default-position_in : goal.loop-i-preserved-in_default-position_in
loop-i-preserved-in_default-position_in c = (
  omega (arith, c.loop-i.invariant.0),
  λ S e.
      c.loop-i.invariant.1 S e
      ∙ ap (λ (a : List Caller). position_of S (drop c.loop-i.skip a)) (one_more c.args.frames.now c.loop-i.i c.index-frames-i.result c.loop-i-test.true c.loop-i.invariant.0 c.index-frames-i.is)
      ∙ positioned_around S c.index-frames-i.result _ c.loop-i.skip c.in-Lua.is (omega (arith, c.if-skip-gt0.false)) (c.in_default-position_in.ensures S e),
)

pub loop-i-preserved : goal.loop-i-preserved
loop-i-preserved c = (
  omega (arith, c.loop-i.invariant.0),
  λ S e.
      c.loop-i.invariant.1 S e
      ∙ ap (λ (a : List Caller). position_of S (drop c.loop-i.skip a)) (one_more c.args.frames.now c.loop-i.i c.index-frames-i.result c.loop-i-test.true c.loop-i.invariant.0 c.index-frames-i.is ∙ no_function c.index-frames-i.result _ c.in_default.not-Lua),
)
