use Rattle.lua_meaning.proofs.EvaluatorLemmas.{work-then}
use Rattle.lua_meaning.proofs.laws.works_in_order.Goals as goal

pub returns : goal.returns
returns c = work-then
