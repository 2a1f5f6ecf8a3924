use Rattle.lua_grammar.proofs.Firsts.{no_assign}
use Rattle.lua_grammar.proofs.laws.no_program_begins_with_assign.Goals as goal

pub returns : goal.returns
returns c = no_assign
