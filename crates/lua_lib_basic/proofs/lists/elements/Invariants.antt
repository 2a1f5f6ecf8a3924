use Rattle.std.proofs.Common.{◌≡◌}
use Rattle.lua_values.specs.StoreCalls.{pairs_of}
use Rattle.lua_lib_basic.specs.Lists.{elements}
use Rattle.lua_lib_basic.proofs.lists.elements.Given as goal

-- the values so far
abbrev pub invariant-loop-k : goal.invariant-loop-k
invariant-loop-k l = l.values.items ≡ elements (pairs_of l.store.heap l.t) l.first l.k
