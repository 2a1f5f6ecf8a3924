use Rattle.lua_grammar.proofs.Dead.{dead_reads_no_chunk}
use Rattle.lua_grammar.proofs.laws.a_dead_reader_reads_no_chunk.Goals as goal

pub returns : goal.returns
returns c = dead_reads_no_chunk
