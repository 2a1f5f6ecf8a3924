-- How far a piece reaches, and in which there may be line ends.
use Rattle.std.specs.Prelude.{ℕ, ◌<◌, ◌≤◌, Bool, true, false, List, length, Option, Some, None}
use Rattle.lua_lexer.specs.declared.tokens.TokenKind.{TokenKind}
use Rattle.lua_lexer.specs.declared.tokens.TokenKind.TheVariants.{Name, Number, Sign as SignKind, Text, Word as WordKind}
use Rattle.lua_lexer.specs.declared.tokens.Piece.{Piece}

-- the piece has at least one byte, and no more than the text
pub record IsPieceOf (text : List ℕ) (found : Piece) : Type 0 where
  pub some : 0 < found.size
  pub within : found.size ≤ length text

-- blanks, comments and strings may have line ends in them
abbrev pub may_end_lines : Option TokenKind → Bool
may_end_lines None = true
may_end_lines (Some (Text bytes)) = true
may_end_lines (Some (Name bytes)) = false
may_end_lines (Some (Number number)) = false
may_end_lines (Some (WordKind word)) = false
may_end_lines (Some (SignKind sign)) = false
