use Rattle.lua_grammar.proofs.Firsts.{empty_text}
use Rattle.lua_grammar.proofs.laws.the_empty_text_is_the_empty_chunk.Goals as goal

pub returns : goal.returns
returns c = empty_text
