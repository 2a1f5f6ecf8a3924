use Rattle.lua_lib_base.proofs.LawLemmas.{counting_keeps}
use Rattle.lua_lib_base.proofs.laws.counting_keeps_lawful.Goals as goal

pub returns : goal.returns
returns c = counting_keeps
