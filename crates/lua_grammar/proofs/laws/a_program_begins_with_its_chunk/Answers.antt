use Rattle.lua_grammar.proofs.Wholeness.{begins_with_chunk}
use Rattle.lua_grammar.proofs.laws.a_program_begins_with_its_chunk.Goals as goal

pub returns : goal.returns
returns c = begins_with_chunk
