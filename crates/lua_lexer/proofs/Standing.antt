-- Tokens that stand one after the other, and before a line and an index.
use Rattle.std.proofs.Common.{◌≡◌, ℕ, ◌+◌, ◌<◌, ◌≤◌, List, [], ◌∷◌, ◌++◌, Option, Some, None, arith}
use Rattle.std.proofs.lemmas.List.{append-nil}
use Rattle.lua_lexer.specs.Order.{AreInOrder}
use Rattle.lua_lexer.specs.Tokens.{token_of}
use Rattle.lua_lexer.specs.declared.tokens.Token.{Token}
use Rattle.lua_lexer.specs.declared.tokens.TokenKind.{TokenKind}

abbrev pub StandBefore : ℕ → ℕ → List Token → ℕ → ℕ → Type 0
StandBefore line index [] line' index' = (line ≤ line') × (index ≤ index')
StandBefore line index (token ∷ tokens) line' index' =
    (line ≤ token.line) × (index ≤ token.start) × (token.start < token.end) × StandBefore token.line token.end tokens line' index'

stand_later : (line index : ℕ) (tokens : List Token) (line' index' more size : ℕ) → StandBefore line index tokens line' index'
    → StandBefore line index tokens (line' + more) (index' + size)
stand_later line index [] line' index' more size was = (omega (arith, was.0), omega (arith, was.1))
stand_later line index (token ∷ tokens) line' index' more size was =
    (was.0, was.1, was.2, stand_later token.line token.end tokens line' index' more size was.3)

stand_push : (line index : ℕ) (tokens : List Token) (line' index' more size : ℕ) (kind : TokenKind)
    → StandBefore line index tokens line' index' → 0 < size
    → StandBefore line index (tokens ++ token_of line' index' (Some kind) (index' + size)) (line' + more) (index' + size)
stand_push line index [] line' index' more size kind was some = (was.0, was.1, omega arith, (omega arith, omega arith))
stand_push line index (token ∷ tokens) line' index' more size kind was some =
    (was.0, was.1, was.2, stand_push token.line token.end tokens line' index' more size kind was.3 some)

-- an iteration of the listing
pub stand_after : (line index : ℕ) (tokens pushed : List Token) (line' index' more size : ℕ) (kind : Option TokenKind)
    → StandBefore line index tokens line' index' → 0 < size → pushed ≡ tokens ++ token_of line' index' kind (index' + size)
    → StandBefore line index pushed (line' + more) (index' + size)
stand_after line index tokens pushed line' index' more size (Some kind) was some pushes =
    rw pushes (stand_push line index tokens line' index' more size kind was some)
stand_after line index tokens pushed line' index' more size None was some pushes =
    rw (pushes, append-nil) (stand_later line index tokens line' index' more size was)

pub stand_in_order : (line index : ℕ) (tokens : List Token) (line' index' end : ℕ) → StandBefore line index tokens line' index' → index' ≤ end
    → AreInOrder line index tokens end
stand_in_order line index [] line' index' end was within = omega (arith, was.1)
stand_in_order line index (token ∷ tokens) line' index' end was within =
    (was.0, was.1, was.2, stand_in_order token.line token.end tokens line' index' end was.3 within)
