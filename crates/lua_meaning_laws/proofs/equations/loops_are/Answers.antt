use Rattle.lua_meaning_laws.proofs.LoopEquations.{each_loop}
use Rattle.lua_meaning_laws.proofs.equations.loops_are.Goals as goal

pub returns : goal.returns
returns c = each_loop c.evaluator_evaluates.ensures c.works_in_order.ensures
