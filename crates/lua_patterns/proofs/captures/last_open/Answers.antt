use Rattle.std.proofs.Common.{sym, ◌∙◌}
use Rattle.lua_patterns.proofs.CaptureLemmas.{last_open_at_open, last_open_at_closed}
use Rattle.lua_patterns.proofs.captures.last_open.Goals as goal
use Rattle.lua_patterns.proofs.captures.last_open.Goals.{in-Open, in_default}

pub loop-index-preserved : goal.loop-index-preserved
loop-index-preserved c =
    elim c.match-capture.branch [
      | in-Open w ↦ w.found-is ∙ sym (last_open_at_open _ _ _ _ _ c.loop-index-test.true w.in-Open.is)
      | in_default w ↦ w.found-is ∙ c.loop-index.invariant ∙ sym (last_open_at_closed _ _ _ _ c.loop-index-test.true w.in_default.is)
    ]
