use Rattle.lua_meaning_laws.proofs.StatementEquations.{each_statement}
use Rattle.lua_meaning_laws.proofs.equations.statements_are.Goals as goal

pub returns : goal.returns
returns c = each_statement c.evaluator_evaluates.ensures c.works_in_order.ensures
