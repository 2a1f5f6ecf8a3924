use Rattle.std.proofs.Common.{drop}
use Rattle.lua_vm_tables.proofs.SetLemmas.{Filled}
use Rattle.lua_vm_tables.proofs.constructors.fill_numbers.Given as goal

abbrev pub invariant-loop-value : goal.invariant-loop-value
invariant-loop-value l = Filled l.fn.t l.fn.number l.fn.values l.fn.store l.number (drop l.value-index l.fn.values) l.store
