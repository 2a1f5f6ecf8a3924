use Rattle.std.proofs.Common.{◌+◌, ◌*◌}
use Rattle.lua_vm_fast.proofs.tests.+made.Given as goal

abbrev pub decreases-made_test_of : goal.decreases-made_test_of
decreases-made_test_of l = 2 * l.levels

abbrev pub decreases-joined_test_of : goal.decreases-joined_test_of
decreases-joined_test_of l = 2 * l.levels + 1
