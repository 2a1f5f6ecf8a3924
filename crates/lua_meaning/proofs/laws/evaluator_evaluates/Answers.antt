use Rattle.lua_meaning.proofs.EvaluatorLemmas.{eval-law}
use Rattle.lua_meaning.proofs.laws.evaluator_evaluates.Goals as goal

pub returns : goal.returns
returns c = eval-law
