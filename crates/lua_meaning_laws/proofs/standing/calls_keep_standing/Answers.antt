use Rattle.lua_meaning_laws.proofs.Lives.{calls_keep}
use Rattle.lua_meaning_laws.proofs.standing.calls_keep_standing.Goals as goal

pub returns : goal.returns
returns c = calls_keep c.lives_keep_standing.ensures
