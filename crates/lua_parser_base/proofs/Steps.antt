-- One token.
use Rattle.std.proofs.Common.{◌≡◌, ℕ, ◌+◌, List, [], ◌∷◌, drop, Some, refl, slice_get, arith, ap, suc, zero, add-one}
use Rattle.lua_lexer.specs.declared.tokens.Token.{Token}
use Rattle.lua_grammar.specs.Printing.{lexemes}
use Rattle.lua_parser_base.specs.declared.cursor.Parser.{Parser}
use Rattle.lua_parser_base.specs.States.{state, Takes}

pub first_left : (tokens : List Token) (index : ℕ) (token : Token) → slice_get tokens index ≡ Some token →
    drop index tokens ≡ token ∷ drop (suc index) tokens
first_left [] index token is = absurd (grind arith)
first_left (x ∷ xs) zero token is = grind arith
first_left (x ∷ xs) (suc n) token is = first_left xs n token (grind arith)

pub taken : (tokens : List Token) (p q : Parser) (token : Token) → slice_get tokens p.index ≡ Some token →
    q ≡ record p { index = p.index + 1; line = token.line } → Takes token.kind token.line (state tokens p) (state tokens q)
unfolding state
taken tokens p q token is e = rw e (record {
  printed = rw (add-one) (ap lexemes (first_left tokens p.index token is));
  last = refl;
  scope = refl;
})
