-- Laws of the definitions.
use Rattle.std.specs.Prelude.{◌≡◌, ◌↔◌, ℕ, List, Ok, Err, ◌⊎◌}
use Rattle.lua_lexer.specs.Lexical.{HasFault, HasTokens, Lexes}
use Rattle.lua_lexer.specs.Tokens.{lexed}
use Rattle.lua_lexer.specs.Writing.{kinds_of, written_out}
use Rattle.lua_lexer.specs.declared.tokens.LexFault.{LexFault}
use Rattle.lua_lexer.specs.declared.tokens.Token.{Token}
use Rattle.lua_lexer.specs.declared.tokens.TokenKind.{TokenKind}

-- by the lexical rules a text has a list of tokens or a fault, never both, and at most one of each
pub record HasOneReading (line : ℕ) (text : List ℕ) : Type 0 where
  pub reads : ((tokens : List Token) × HasTokens line text tokens) ⊎ ((fault : LexFault) × HasFault line text fault)
  pub apart : (tokens : List Token) (fault : LexFault) → HasTokens line text tokens → HasFault line text fault → ⊥
  pub tokens : (some other : List Token) → HasTokens line text some → HasTokens line text other → some ≡ other
  pub faults : (some other : LexFault) → HasFault line text some → HasFault line text other → some ≡ other

-- what the text is by the lexical rules is what the definition that computes it gives
pub record IsLexed (line : ℕ) (text : List ℕ) : Type 0 where
  pub tokens : (tokens : List Token) → HasTokens line text tokens ↔ (lexed line text ≡ Ok tokens)
  pub faults : (fault : LexFault) → HasFault line text fault ↔ (lexed line text ≡ Err fault)

-- the written tokens have, as a text of any length, tokens of the same kinds
abbrev pub ReadsBack : ℕ → List TokenKind → Type 0
ReadsBack line kinds = (tokens : List Token) × Lexes line 0 (written_out kinds) tokens × (kinds_of tokens ≡ kinds)
