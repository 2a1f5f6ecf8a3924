use Rattle.lua_meaning_laws.proofs.OperatorEquations.{each_operator}
use Rattle.lua_meaning_laws.proofs.equations.operators_are.Goals as goal

pub returns : goal.returns
returns c = each_operator
