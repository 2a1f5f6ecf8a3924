use Rattle.std.proofs.Common.{◌≤◌, drop, length}
use Rattle.lua_patterns.specs.Balance.{AreWaiting, IsRight}
use Rattle.lua_patterns.proofs.balance.Pair.of.Given as goal

-- what stands after the index is known
abbrev pub invariant-loop-left : goal.invariant-loop-left
invariant-loop-left l =
    IsRight l.opening l.closing (drop l.left l.subject) l.pair × AreWaiting l.opening l.closing (drop l.left l.subject) l.ends.items × (l.left ≤ length l.subject)

abbrev pub decreases-loop-left : goal.decreases-loop-left
decreases-loop-left l = l.left
