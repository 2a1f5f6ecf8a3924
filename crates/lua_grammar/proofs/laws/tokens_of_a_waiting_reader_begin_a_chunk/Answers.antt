use Rattle.lua_grammar.proofs.Beginnings.{begins_a_chunk}
use Rattle.lua_grammar.proofs.laws.tokens_of_a_waiting_reader_begin_a_chunk.Goals as goal

pub returns : goal.returns
returns c = begins_a_chunk
