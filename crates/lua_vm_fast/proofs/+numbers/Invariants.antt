use Rattle.std.proofs.Common.{◌+◌, ◌*◌}
use Rattle.lua_vm_fast.proofs.+numbers.Given as goal

abbrev pub decreases-numbers::number_of : goal.decreases-numbers::number_of
decreases-numbers::number_of l = 6 * l.levels + 3

abbrev pub decreases-numbers::number_seen : goal.decreases-numbers::number_seen
decreases-numbers::number_seen l = 6 * l.levels + 2

abbrev pub decreases-numbers::operated : goal.decreases-numbers::operated
decreases-numbers::operated l = 6 * l.levels

abbrev pub decreases-places::value_of : goal.decreases-places::value_of
decreases-places::value_of l = 6 * l.levels + 4

abbrev pub decreases-places::seen_of : goal.decreases-places::seen_of
decreases-places::seen_of l = 6 * l.levels + 1

abbrev pub decreases-places::seen_at : goal.decreases-places::seen_at
decreases-places::seen_at l = 6 * l.levels

abbrev pub decreases-places::seen_in : goal.decreases-places::seen_in
decreases-places::seen_in l = 6 * l.levels + 5
