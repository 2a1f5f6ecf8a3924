use Rattle.lua_site.proofs.AgreeLemmas.{starts_agree}
use Rattle.lua_site.proofs.laws.starts_agree.Goals as goal

pub returns : goal.returns
returns c = starts_agree
