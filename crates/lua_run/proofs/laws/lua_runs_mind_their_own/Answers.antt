use Rattle.lua_run.proofs.Replies.{minds}
use Rattle.lua_run.proofs.laws.lua_runs_mind_their_own.Goals as goal

pub returns : goal.returns
returns g c site = minds site
