-- Where tokens and faults stand.
use Rattle.std.specs.Prelude.{ℕ, ◌<◌, ◌≤◌, List, [], ◌∷◌, Option, Some, None}
use Rattle.lua_lexer.specs.declared.tokens.LexFault.{LexFault}
use Rattle.lua_lexer.specs.declared.tokens.LexFault.TheVariants.{BadByte, OpenString, OpenComment, BadEscape, Fraction, Range, TooLong, Memory}
use Rattle.lua_lexer.specs.declared.tokens.Token.{Token}

-- from a line and an index on the tokens stand one after the other, each with at least one byte, and none reaches past
-- the end
abbrev pub AreInOrder : ℕ → ℕ → List Token → ℕ → Type 0
AreInOrder line index [] end = index ≤ end
AreInOrder line index (token ∷ tokens) end =
    (line ≤ token.line) × (index ≤ token.start) × (token.start < token.end) × AreInOrder token.line token.end tokens end

-- the line of a fault
abbrev pub line_of : LexFault → Option ℕ
line_of (BadByte line) = Some line
line_of (OpenString line) = Some line
line_of (OpenComment line) = Some line
line_of (BadEscape line) = Some line
line_of (Fraction line) = Some line
line_of (Range line) = Some line
line_of (TooLong line) = Some line
line_of Memory = None
