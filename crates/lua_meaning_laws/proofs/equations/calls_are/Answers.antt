use Rattle.lua_meaning_laws.proofs.CallEquations.{each_call}
use Rattle.lua_meaning_laws.proofs.equations.calls_are.Goals as goal

pub returns : goal.returns
returns c = each_call c.evaluator_evaluates.ensures
