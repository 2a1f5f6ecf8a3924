use Rattle.lua_lexer.proofs.Lexes.{is_lexed}
use Rattle.lua_lexer.proofs.laws.reading_is_lexed.Goals as goal

pub returns : goal.returns
returns c = is_lexed
