use Rattle.lua_meaning.proofs.EvaluatorLemmas.{eval-only}
use Rattle.lua_meaning.proofs.laws.only_evaluator.Goals as goal

pub returns : goal.returns
returns c = eval-only
