use Rattle.lua_grammar.proofs.Uniqueness.{stays_failed}
use Rattle.lua_grammar.proofs.laws.a_failed_reader_stays_failed.Goals as goal

pub returns : goal.returns
returns c = stays_failed
