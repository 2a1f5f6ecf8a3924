use Rattle.std.proofs.Common.{drop}
use Rattle.lua_modules.specs.Finding.{with_names}
use Rattle.lua_modules.proofs.Growing.{IsFound}
use Rattle.lua_modules.proofs.finding.find_each.Given as goal

abbrev pub invariant-loop-name : goal.invariant-loop-name
invariant-loop-name l = IsFound (with_names l.set l.initial.names.items l.required) (with_names l.set l.names.items (drop l.name-index l.required)) l.names.items
