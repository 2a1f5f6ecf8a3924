use Rattle.lua_grammar.proofs.Uniqueness.{is_read}
use Rattle.lua_grammar.proofs.laws.a_chunk_is_read_from_its_tokens.Goals as goal

pub returns : goal.returns
returns c = is_read
