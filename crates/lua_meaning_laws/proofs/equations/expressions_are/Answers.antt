use Rattle.lua_meaning_laws.proofs.ExpressionEquations.{each_expression}
use Rattle.lua_meaning_laws.proofs.equations.expressions_are.Goals as goal

pub returns : goal.returns
returns c = each_expression c.evaluator_evaluates.ensures c.works_in_order.ensures
