-- What stands after a field that is a name alone.
use Rattle.std.proofs.Common.{◌≡◌, List, [], ◌∷◌, sym, subst, refl}
use Rattle.lua_lexer.specs.declared.tokens.TokenKind.{TokenKind}
use Rattle.lua_lexer.specs.declared.tokens.TokenKind.TheVariants.{Name, Sign}
use Rattle.lua_lexer.specs.declared.signs.Sign.TheVariants as sign
use Rattle.lua_grammar.specs.Tree.{Exp}
use Rattle.lua_grammar.specs.Tree as tree
use Rattle.lua_grammar.specs.Printing.{Lexeme, print_exp}
use Rattle.lua_grammar.specs.Stopping.{IsLone, IsNoAssign}
use Rattle.lua_parser_base.specs.Kinds.{BeginNamed}
use Rattle.lua_parser_base.specs.Next.{IsName, first_kind}

no_assign : (kind : TokenKind) → (kind ≡ Sign sign.Assign → ⊥) → IsNoAssign kind
no_assign (Sign sign.Assign) h = absurd (h refl)
no_assign kind h = tt

after_lone : (first : Lexeme) (after : List Lexeme) → IsName first.kind → (BeginNamed (first ∷ after) → ⊥) → IsNoAssign (first_kind after)
after_lone first [] name not = tt
after_lone first (next ∷ after) name not = no_assign next.kind (λ is. not (name, is))

pub lone_ends : (e : Exp) (left after : List Lexeme) → left ≡ print_exp e after → (BeginNamed left → ⊥) → IsLone e → IsNoAssign (first_kind after)
unfolding print_exp
lone_ends (tree.prefix (tree.variable l n)) left after printed not lone = after_lone (record { kind = Name n; line = l }) after tt (λ named. not (subst BeginNamed (sym printed) named))
lone_ends e left after printed not lone = absurd lone
