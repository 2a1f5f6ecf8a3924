use Rattle.lua_site.proofs.RunTableLemmas.{has_tables}
use Rattle.lua_site.proofs.laws.runs_have_their_tables.Goals as goal

pub returns : goal.returns
returns c = has_tables
