use Rattle.std.proofs.Common.{◌+◌, ◌*◌}
use Rattle.lua_vm_fast.proofs.concatenation.+joining.Given as goal

abbrev pub decreases-joined_of : goal.decreases-joined_of
decreases-joined_of l = 2 * l.levels

abbrev pub decreases-right_of : goal.decreases-right_of
decreases-right_of l = 2 * l.levels + 1
