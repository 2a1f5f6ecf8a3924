use Rattle.lua_grammar.proofs.Wholeness.{program_whole}
use Rattle.lua_grammar.proofs.laws.a_program_is_whole.Goals as goal

pub returns : goal.returns
returns c = program_whole
