use Rattle.std.proofs.Common.{arith}
use Rattle.std.proofs.lemmas.Grind.{common_steps}
use Rattle.lua_values.proofs.store.Store.make_closure.Goals as goal

pub returns : goal.returns
returns c = grind (arith, common_steps)
