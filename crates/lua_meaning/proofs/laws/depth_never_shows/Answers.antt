use Rattle.lua_meaning.proofs.EvaluatorLemmas.{depth-shows}
use Rattle.lua_meaning.proofs.laws.depth_never_shows.Goals as goal

pub returns : goal.returns
returns c = depth-shows
