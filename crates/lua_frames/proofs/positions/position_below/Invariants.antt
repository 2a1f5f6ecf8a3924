use Rattle.std.proofs.Common.{◌≡◌, ◌≤◌, [], drop, take, length}
use Rattle.lua_meaning.specs.Setting.{Setting}
use Rattle.lua_meaning.specs.Positions.{position_of}
use Rattle.lua_frames.specs.Around.{around_of}
use Rattle.lua_frames.proofs.positions.position_below.Given as goal

abbrev pub invariant-loop-i : goal.invariant-loop-i
invariant-loop-i l =
    (l.i ≤ length l.fn.frames)
    × ((S : Setting) → S.program ≡ l.fn.program → position_of S (drop l.fn.skip (around_of [] l.fn.frames)) ≡ position_of S (drop l.skip (around_of [] (take l.i l.fn.frames))))

abbrev pub decreases-loop-i : goal.decreases-loop-i
decreases-loop-i l = l.i
