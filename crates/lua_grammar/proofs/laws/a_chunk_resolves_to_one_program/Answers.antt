use Rattle.lua_grammar.proofs.OneProgram.{one_program}
use Rattle.lua_grammar.proofs.laws.a_chunk_resolves_to_one_program.Goals as goal

pub returns : goal.returns
returns c = one_program
