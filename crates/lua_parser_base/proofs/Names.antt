-- Names and parameters that are read one by one.
use Rattle.std.proofs.Common.{◌≡◌, ℕ, true, false, List, [], ◌∷◌, ◌++◌, refl, sym, ap, append_assoc, append-nil, ◌∙◌}
use Rattle.lua_lexer.specs.declared.tokens.TokenKind.{TokenKind}
use Rattle.lua_lexer.specs.declared.tokens.TokenKind.TheVariants.{Sign as SignKind}
use Rattle.lua_lexer.specs.declared.signs.Sign.TheVariants.{Comma, CloseParenthesis, Ellipsis}
use Rattle.lua_grammar.specs.Tree.{Bytes}
use Rattle.lua_grammar.specs.Tree as tree
use Rattle.lua_grammar.specs.Printing.{Lexeme, a_sign, print_names}
use Rattle.lua_grammar.specs.Resolution.{names_of}
use Rattle.lua_parser_base.specs.declared.functions.Parameters.{Parameters}
use Rattle.lua_parser_base.specs.States.{State, Takes}
use Rattle.lua_grammar.specs.Stopping.{IsNoComma}
use Rattle.lua_parser_base.specs.Next.{Begin, IsKind, IsNext, ahead, first_kind}
use Rattle.lua_parser_base.proofs.Moving.{not_first}
use Rattle.lua_parser_base.specs.ReadsNames.{TakesName, ReadsNames, ReadsParameters}

pub names_one : (before : List Bytes) (s : State) (names : List Bytes) (t : State) → TakesName before s names t → ReadsNames before s names t
names_one before s names t r = record {
  tree = tree.first_name r.line r.name;
  printed = r.taken.printed;
  scope = r.taken.scope;
  listed = r.listed;
}

pub names_more : (before : List Bytes) (s : State) (xs : List Bytes) (m n : State) (ys : List Bytes) (t : State) (line : ℕ) →
    ReadsNames before s xs m → Takes (SignKind Comma) line m n → TakesName xs n ys t → ReadsNames before s ys t
names_more before s xs m n ys t line r comma next = record {
  tree = tree.next_name r.tree line next.line next.name;
  printed = r.printed ∙ ap (print_names r.tree) (comma.printed ∙ ap (a_sign Comma line) next.taken.printed);
  scope = next.taken.scope ∙ (comma.scope ∙ r.scope);
  listed = next.listed ∙ (ap (λ zs. zs ++ next.name ∷ []) r.listed ∙ append_assoc before (names_of r.tree) (next.name ∷ []));
}

close_ahead : (left : List Lexeme) → Begin (IsKind (SignKind CloseParenthesis)) left → first_kind left ≡ SignKind CloseParenthesis
close_ahead [] next = absurd next
close_ahead (first ∷ after) next = next

no_comma : (kind : TokenKind) → (IsKind (SignKind Comma) kind → ⊥) → IsNoComma kind
no_comma (SignKind Comma) not = not refl
no_comma other not = tt

-- where no comma is next
pub no_comma_ahead : (s : State) → (IsNext (SignKind Comma) s → ⊥) → IsNoComma (ahead s)
no_comma_ahead s not = no_comma (ahead s) (not_first (SignKind Comma) s.left (λ is. cc) not)

pub no_parameters : (before : List Bytes) (s : State) (p : Parameters) → p.names.items ≡ before → p.vararg ≡ false → IsNext (SignKind CloseParenthesis) s →
    ReadsParameters before s p s
no_parameters before s p names vararg next = record {
  tree = tree.no_params;
  printed = refl;
  scope = refl;
  listed = names ∙ sym (append-nil before);
  vararg = vararg;
  ends = close_ahead s.left next;
}

pub only_vararg : (before : List Bytes) (s t : State) (p : Parameters) (line : ℕ) → Takes (SignKind Ellipsis) line s t → p.names.items ≡ before →
    p.vararg ≡ true → ReadsParameters before s p t
only_vararg before s t p line taken names vararg = record {
  tree = tree.only_vararg line;
  printed = taken.printed;
  scope = taken.scope;
  listed = names ∙ sym (append-nil before);
  vararg = vararg;
  ends = tt;
}

pub only_names : (before : List Bytes) (s t : State) (p : Parameters) → ReadsNames before s p.names.items t → p.vararg ≡ false → (IsNext (SignKind Comma) t → ⊥) →
    ReadsParameters before s p t
only_names before s t p r vararg last = record {
  tree = tree.names r.tree;
  printed = r.printed;
  scope = r.scope;
  listed = r.listed;
  vararg = vararg;
  ends = no_comma_ahead t last;
}

pub names_then_vararg : (before : List Bytes) (s m n t : State) (p : Parameters) (comma line : ℕ) → ReadsNames before s p.names.items m →
    Takes (SignKind Comma) comma m n → Takes (SignKind Ellipsis) line n t → p.vararg ≡ true → ReadsParameters before s p t
names_then_vararg before s m n t p comma line r taken dots vararg = record {
  tree = tree.names_and_vararg r.tree comma line;
  printed = r.printed ∙ ap (print_names r.tree) (taken.printed ∙ ap (a_sign Comma comma) dots.printed);
  scope = dots.scope ∙ (taken.scope ∙ r.scope);
  listed = r.listed;
  vararg = vararg;
  ends = tt;
}
