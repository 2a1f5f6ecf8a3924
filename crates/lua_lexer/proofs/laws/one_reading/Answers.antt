use Rattle.lua_lexer.proofs.Lexes.{has_one_reading}
use Rattle.lua_lexer.proofs.laws.one_reading.Goals as goal

pub returns : goal.returns
returns c = has_one_reading
