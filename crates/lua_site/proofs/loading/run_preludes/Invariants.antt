use Rattle.std.proofs.Common.{◌≡◌, drop}
use Rattle.lua_site.specs.Making.{for_each}
use Rattle.lua_site.specs.Loading.{prelude_run}
use Rattle.lua_site.proofs.loading.run_preludes.Given as goal

-- what is left to be made
abbrev pub invariant-loop-function : goal.invariant-loop-function
invariant-loop-function g l = for_each (prelude_run (g.M.Machine.life l.machine)) l.initial.store.heap l.functions ≡ for_each (prelude_run (g.M.Machine.life l.machine)) l.store.heap (drop l.function-index l.functions)
