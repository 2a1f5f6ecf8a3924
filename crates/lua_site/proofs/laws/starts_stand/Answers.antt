use Rattle.lua_site.proofs.StandingLemmas as standing
use Rattle.lua_site.proofs.laws.starts_stand.Goals as goal

pub returns : goal.returns
returns c = standing.starts_stand c.writes_keep_fitting.ensures
