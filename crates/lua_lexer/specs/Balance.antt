-- Braces among tokens.
use Rattle.std.specs.Prelude.{◌≡◌, ℕ, ◌+◌, ◌-◌, ◌==◌, List, [], ◌∷◌, slice_range, Option, Some, None, option_and_then, if◌then◌else◌}
use Rattle.lua_lexer.specs.declared.signs.Sign.TheVariants.{OpenBrace, CloseBrace}
use Rattle.lua_lexer.specs.declared.tokens.Token.{Token}
use Rattle.lua_lexer.specs.declared.tokens.TokenKind.{TokenKind}
use Rattle.lua_lexer.specs.declared.tokens.TokenKind.TheVariants.{Sign as SignKind}
use Rattle.lua_lexer.specs.Lexical.{Lexes}
use Rattle.lua_lexer.specs.Blocks.{block_end_of}

-- how many braces are open after a token; None where it closes one and none is open
abbrev pub braces_after : ℕ → TokenKind → Option ℕ
braces_after depth (SignKind OpenBrace) = Some (depth + 1)
braces_after depth (SignKind CloseBrace) = if depth == 0 then None else Some (depth - 1)
braces_after depth other = Some depth

-- how many braces are open after the tokens
abbrev pub braces_of : ℕ → List Token → Option ℕ
braces_of depth [] = Some depth
braces_of depth (token ∷ tokens) = option_and_then (λ after. braces_of after tokens) (braces_after depth token.kind)

-- where the inside of a block has tokens, it closes each brace that it opens, and no other
abbrev pub Balances : ℕ → List ℕ → ℕ → Type 0
Balances line text from =
    (index : ℕ) (tokens : List Token) → block_end_of text from ≡ Some index → Lexes line 0 (slice_range text from index) tokens
    → braces_of 0 tokens ≡ Some 0
