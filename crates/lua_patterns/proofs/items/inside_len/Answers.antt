use Rattle.std.proofs.Common.{◌∙◌, arith}
use Rattle.lua_patterns.proofs.Reading.{kept_step, inside_step, one_if, none_if}
use Rattle.lua_patterns.proofs.items.inside_len.Goals as goal
use Rattle.lua_patterns.proofs.items.inside_len.Goals.{then-kept-gt0, else-kept-gt0+else-byte-eq93+then-byte-eq37, else-kept-gt0+else-byte-eq93+else-byte-eq37}

pub loop-index-preserved : goal.loop-index-preserved
loop-index-preserved c =
    elim c.if-kept-gt0.branch [
      | then-kept-gt0 w ↦
          (kept_step _ _ _ _ c.loop-index-test.true w.if-kept-gt0.true w.kept-is ∙ c.loop-index.invariant.0, omega arith)
      | else-kept-gt0+else-byte-eq93+then-byte-eq37 w ↦
          (inside_step _ _ _ _ c.loop-index-test.true w.if-kept-gt0.false w.if-byte-eq93.false (one_if _ _ w.if-byte-eq37.true w.kept-is) ∙ c.loop-index.invariant.0, omega arith)
      | else-kept-gt0+else-byte-eq93+else-byte-eq37 w ↦
          (inside_step _ _ _ _ c.loop-index-test.true w.if-kept-gt0.false w.if-byte-eq93.false (none_if _ _ _ w.if-kept-gt0.false w.if-byte-eq37.false w.kept-is) ∙ c.loop-index.invariant.0, omega arith)
    ]
