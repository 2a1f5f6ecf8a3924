use Rattle.lua_grammar.proofs.Live.{goes_on_to_chunk}
use Rattle.lua_grammar.proofs.laws.a_reader_that_has_not_failed_can_go_on.Goals as goal

pub returns : goal.returns
returns c = goes_on_to_chunk
