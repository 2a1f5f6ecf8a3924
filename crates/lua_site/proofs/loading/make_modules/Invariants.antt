use Rattle.std.proofs.Common.{◌≡◌, drop}
use Rattle.lua_site.specs.Making.{for_each}
use Rattle.lua_site.specs.Loading.{module_made}
use Rattle.lua_site.proofs.loading.make_modules.Given as goal

-- what is left to be made
abbrev pub invariant-loop-module : goal.invariant-loop-module
invariant-loop-module l = for_each module_made l.initial.store.heap l.modules ≡ for_each module_made l.store.heap (drop l.module-index l.modules)
