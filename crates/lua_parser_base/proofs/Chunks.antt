-- The first token, and the last.
use Rattle.std.proofs.Common.{◌≡◌, ◌-◌, List, [], ◌∷◌, length, Some, None, refl, slice_get, arith}
use Rattle.lua_lexer.specs.declared.tokens.Token.{Token}
use Rattle.lua_grammar.specs.Grammar.{first_line}
use Rattle.lua_grammar.specs.Printing.{lexemes}
use Rattle.lua_parser_base.specs.States.{last_line}

pub line_of_first : (tokens : List Token) (token : Token) → slice_get tokens 0 ≡ Some token → token.line ≡ first_line (lexemes tokens)
line_of_first [] token is = absurd (grind arith)
line_of_first (x ∷ xs) token is = grind arith

pub line_of_none : (tokens : List Token) → slice_get tokens 0 ≡ None → 1 ≡ first_line (lexemes tokens)
line_of_none [] is = refl
line_of_none (x ∷ xs) is = absurd (grind arith)

pub line_of_last_token : (tokens : List Token) (token : Token) → Some token ≡ slice_get tokens (length tokens - 1) → token.line ≡ last_line (lexemes tokens)
line_of_last_token [] token is = absurd (grind arith)
line_of_last_token (x ∷ []) token is = grind arith
line_of_last_token (x ∷ y ∷ xs) token is = line_of_last_token (y ∷ xs) token (grind arith)
