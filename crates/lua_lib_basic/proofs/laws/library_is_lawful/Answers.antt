use Rattle.lua_lib_basic.proofs.LawLemmas.{library_lawful}
use Rattle.lua_lib_basic.proofs.laws.library_is_lawful.Goals as goal

pub returns : goal.returns
returns c = library_lawful c.counting_keeps_lawful.ensures c.reads_fit.ensures c.writes_keep_fitting.ensures
