use Rattle.lua_lexer.specs.Writing.{written_out}
use Rattle.lua_lexer.proofs.Lexes.{lexes_of}
use Rattle.lua_lexer.proofs.Written.{reads_back}
use Rattle.lua_lexer.proofs.laws.written_tokens_are_read.Goals as goal

pub returns : goal.returns
returns c = λ line kinds are. let read = reads_back kinds are line 0 in (read.0, lexes_of line (written_out kinds) read.0 read.1, read.2)
