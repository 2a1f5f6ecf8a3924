use Rattle.lua_meaning_laws.proofs.Lives.{resumes_keep}
use Rattle.lua_meaning_laws.proofs.standing.resumes_keep_standing.Goals as goal

pub returns : goal.returns
returns c = resumes_keep c.depth_never_shows.ensures c.still_fits.ensures c.writes_keep_fitting.ensures c.reads_fit.ensures
