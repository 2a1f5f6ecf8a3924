use Rattle.lua_grammar.proofs.OneProgram.{one_program_of}
use Rattle.lua_grammar.proofs.laws.tokens_have_one_program.Goals as goal

pub returns : goal.returns
returns c = one_program_of
