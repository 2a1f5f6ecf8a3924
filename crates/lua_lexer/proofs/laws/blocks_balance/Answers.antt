use Rattle.std.specs.Prelude.{slice_range}
use Rattle.lua_lexer.proofs.Balanced.{balances}
use Rattle.lua_lexer.proofs.Lexes.{lexes_read}
use Rattle.lua_lexer.proofs.laws.blocks_balance.Goals as goal

pub returns : goal.returns
returns c = λ line text from index tokens ends lexes. balances line text from index tokens ends (lexes_read line 0 (slice_range text from index) tokens lexes)
