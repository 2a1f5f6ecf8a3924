use Rattle.std.proofs.Common.{◌∙◌, arith}
use Rattle.lua_patterns.proofs.Reading.{closes_inner, opens_inner, inside_pair, closes_here, never_closes, pair_starts}
use Rattle.lua_patterns.proofs.matcher.closing_len.Goals as goal
use Rattle.lua_patterns.proofs.matcher.closing_len.Goals.{then-byte-closing+else-others-eq0, else-byte-closing+then-byte-opening, else-byte-closing+else-byte-opening}

pub loop-index-init : goal.loop-index-init
loop-index-init c = (pair_starts c.args.opening c.args.closing c.args.text.now, omega arith)

pub returns-then-others-eq0-clause-value : goal.returns-then-others-eq0-clause-value
returns-then-others-eq0-clause-value c =
    closes_here c.args.opening c.args.closing c.args.text.now c.loop-index.index c.loop-index.others _ c.loop-index-test.true c.if-byte-closing.true c.if-others-eq0.true c.loop-index.invariant.0

pub loop-index-preserved : goal.loop-index-preserved
loop-index-preserved c =
    elim c.if-byte-closing.branch [
      | then-byte-closing+else-others-eq0 w ↦
          (closes_inner _ _ _ _ _ _ c.loop-index-test.true w.if-byte-closing.true w.if-others-eq0.false w.others-is ∙ c.loop-index.invariant.0, omega arith)
      | else-byte-closing+then-byte-opening w ↦
          (opens_inner _ _ _ _ _ _ c.loop-index-test.true w.if-byte-closing.false w.if-byte-opening.true w.others-is ∙ c.loop-index.invariant.0, omega arith)
      | else-byte-closing+else-byte-opening w ↦
          (inside_pair _ _ _ _ _ _ c.loop-index-test.true w.if-byte-closing.false w.if-byte-opening.false w.others-is ∙ c.loop-index.invariant.0, omega arith)
    ]

pub returns-clause-value : goal.returns-clause-value
returns-clause-value c =
    never_closes c.args.opening c.args.closing c.args.text.now c.loop-index.index c.loop-index.others _ c.loop-index-test.false c.loop-index.invariant.0
