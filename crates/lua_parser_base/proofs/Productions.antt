-- What is read of the parts of an expression is read of the whole.
use Rattle.std.proofs.Common.{◌≡◌, ℕ, ℤ, ◌<◌, ◌≤◌, min, max, List, [], ◌∷◌, drop, Option, Some, None, true, refl, sym, ap, subst, arith, ◌∙◌, lit≤}
use Rattle.lua_grammar.specs.declared.operators.Operator.{Operator}
use Rattle.lua_grammar.specs.declared.operators.Operator.TheVariants.{Or, And, Plain}
use Rattle.lua_ast.specs.declared.expressions.BinOp.TheVariants.{Add, Sub, Mul, Div, Mod, Pow, Concat, Eq, Ne, Lt, Le, Gt, Ge}
use Rattle.lua_ast.specs.declared.expressions.UnOp.{UnOp}
use Rattle.lua_ast.specs.declared.expressions.ExprKind as kind
use Rattle.lua_lexer.specs.declared.tokens.TokenKind.{TokenKind}
use Rattle.lua_lexer.specs.declared.tokens.TokenKind.TheVariants.{Name as NameKind, Text as TextKind, Number as NumberKind, Word as WordKind, Sign as SignKind}
use Rattle.lua_lexer.specs.declared.signs.Sign.TheVariants.{OpenParenthesis, CloseParenthesis, OpenBrace, OpenBracket, Colon, Dot, Comma, Ellipsis}
use Rattle.lua_lexer.specs.declared.words.Word.TheVariants.{Function as FunctionWord, Nil, True, False}
use Rattle.lua_grammar.specs.Operators.{kind_of, kind_of_unary, left_level, right_level}
use Rattle.lua_grammar.specs.Tree.{Bytes, Exp, PrefixExp}
use Rattle.lua_grammar.specs.Tree as tree
use Rattle.lua_grammar.specs.Printing.{Lexeme, lexemes, a_kind, print_exp, print_explist}
use Rattle.lua_grammar.specs.Levels.{levels, height, prefix_height}
use Rattle.lua_grammar.specs.Validity.{IsValid}
use Rattle.lua_grammar.specs.Resolution.{Resolves, ResolvesPrefix, ResolvesName, ResolvesBody}
use Rattle.lua_parser_base.specs.declared.nesting.Nesting.{Nesting}
use Rattle.lua_parser_base.specs.declared.nodes.Built.{Built}
use Rattle.lua_parser_base.specs.declared.nodes.Prefix.{Prefix}
use Rattle.lua_parser_base.specs.declared.nodes.Values.{Values}
use Rattle.lua_parser_base.specs.declared.nodes.Form.TheVariants.{Variable}
use Rattle.lua_lexer.specs.declared.tokens.Token.{Token}
use Rattle.lua_parser_base.specs.declared.cursor.Parser.{Parser}
use Rattle.lua_parser_base.specs.declared.operators.Infix.{Infix}
use Rattle.lua_parser_base.specs.States.{State, state, Takes, Advances, SkipsOperator, GoesOn, Stops, scope_of}
use Rattle.lua_grammar.specs.Stopping.{EndsAt, IsApart}
use Rattle.lua_parser_base.specs.Next.{ahead, first_kind}
use Rattle.lua_parser_base.specs.Nesting.{IsPart}
use Rattle.lua_parser_base.specs.Nodes.{leaf, IsUnary, IsBinary, IsParen, IsAlone, AddsValue}
use Rattle.lua_parser_base.specs.Reads.{ReadsExp, ReadsPrefix, ReadsList, ReadsTable, ReadsBody}

-- a right operand has never to be of a higher level than a unary operator's
pub right_low : (op : Operator) → right_level op ≤ 7
right_low Or = lit≤ tt
right_low And = lit≤ tt
right_low (Plain Add) = lit≤ tt
right_low (Plain Sub) = lit≤ tt
right_low (Plain Mul) = lit≤ tt
right_low (Plain Div) = lit≤ tt
right_low (Plain Mod) = lit≤ tt
right_low (Plain Pow) = lit≤ tt
right_low (Plain Concat) = lit≤ tt
right_low (Plain Eq) = lit≤ tt
right_low (Plain Ne) = lit≤ tt
right_low (Plain Lt) = lit≤ tt
right_low (Plain Le) = lit≤ tt
right_low (Plain Gt) = lit≤ tt
right_low (Plain Ge) = lit≤ tt

pub right_fits : (op : Operator) (n : ℕ) → min (right_level op) 7 ≤ n → right_level op ≤ n
right_fits op n h = let l = right_low op in omega (arith, l, h)

pub advances_on : (tokens : List Token) (p q u : Parser) → Advances tokens p q → Advances tokens q u → Advances tokens p u
advances_on tokens p q u first then = record {
  forward = let f = first.forward in let g = then.forward in omega (arith, f, g);
  within = then.within;
}

-- where no operator is read, nothing is
pub operator_none : (found : Option Infix) (left lowest : ℕ) (s t : State) → SkipsOperator left lowest found s t →
    ((x : Infix) → found ≡ Some x → ⊥) → t ≡ s
operator_none (Some x) left lowest s t skips none = absurd (none x refl)
operator_none None left lowest s t skips none = skips

pub binary_read : (at inner : Nesting) (s m n t : State) (a b r : Built) (op : Operator) (line : ℕ) →
    ReadsExp at s a m → Takes (kind_of op) line m n → IsPart at inner → ReadsExp inner n b t → EndsAt (right_level op) (ahead t) →
    left_level op ≤ a.level → right_level op ≤ b.level → a.height < at.room → IsBinary a op line b r → ReadsExp at s r t
unfolding print_exp levels height IsValid Resolves
binary_read at inner s m n t a b r op line ra taken part rb tight left right below is =
    let whole = tree.binary ra.tree op line rb.tree in
    let room = part.room in
    let inside = rb.low in
    let few : max a.height b.height < 4_000 = let most = at.low in omega (arith, room, inside, most, below) in
    let high = is.higher few in
    let tall : height whole ≡ r.height = rw (ra.high, rb.high) (sym high) in
    let low : r.height ≤ at.room = omega (arith, high, room, inside, below) in
    let limit : r.height ≤ 4_000 = let most = at.low in omega (arith, low, most) in
    let ends : IsValid at.vararg rb.tree = subst (λ vararg. IsValid vararg rb.tree) part.vararg rb.valid in
    let first : Resolves ra.tree s.scope is.left.value m.scope = subst (λ e. Resolves ra.tree s.scope e m.scope) (sym is.same_left) ra.resolved in
    let then : Resolves rb.tree n.scope is.right.value t.scope = subst (λ e. Resolves rb.tree n.scope e t.scope) (sym is.same_right) rb.resolved in
    let second : Resolves rb.tree m.scope is.right.value t.scope = subst (λ z. Resolves rb.tree z is.right.value t.scope) taken.scope then in
    record {
      tree = whole;
      printed = ra.printed ∙ ap (print_exp ra.tree) (taken.printed ∙ ap (a_kind (kind_of op) line) rb.printed);
      valid = (ra.valid, ends, rw ra.precedes left, rw rb.precedes right, rw tall limit);
      deep = let d = ra.deep in let e = rb.deep in let f = part.depth in omega (arith, d, e, f);
      resolved = (is.left, is.right, m.scope, first, second, is.built);
      high = tall;
      low = low;
      precedes = sym is.own;
      stops = rb.stops;
      ends = (tight, rb.ends);
    }

pub unary_read : (at inner : Nesting) (s m t : State) (b r : Built) (op : UnOp) (line : ℕ) →
    Takes (kind_of_unary op) line s m → IsPart at inner → ReadsExp inner m b t → EndsAt 7 (ahead t) → 7 ≤ b.level → IsUnary op line b r → ReadsExp at s r t
unfolding print_exp levels height IsValid Resolves
unary_read at inner s m t b r op line taken part rb apart tight is =
    let whole = tree.unary op line rb.tree in
    let room = part.room in
    let inside = rb.low in
    let few : b.height < 4_000 = let most = at.low in omega (arith, room, inside, most) in
    let high = is.higher few in
    let tall : height whole ≡ r.height = rw rb.high (sym high) in
    let low : r.height ≤ at.room = omega (arith, high, room, inside) in
    let limit : r.height ≤ 4_000 = let most = at.low in omega (arith, low, most) in
    let ends : IsValid at.vararg rb.tree = subst (λ vararg. IsValid vararg rb.tree) part.vararg rb.valid in
    let first : Resolves rb.tree m.scope is.operand.value t.scope = subst (λ e. Resolves rb.tree m.scope e t.scope) (sym is.same) rb.resolved in
    let from : Resolves rb.tree s.scope is.operand.value t.scope = subst (λ z. Resolves rb.tree z is.operand.value t.scope) taken.scope first in
    record {
      tree = whole;
      printed = taken.printed ∙ ap (a_kind (kind_of_unary op) line) rb.printed;
      valid = (ends, rw rb.precedes tight, rw tall limit);
      deep = let e = rb.deep in let f = part.depth in omega (arith, e, f);
      resolved = (is.operand, from, is.built);
      high = tall;
      low = low;
      precedes = sym is.own;
      stops = rb.stops;
      ends = (apart, rb.ends);
    }

pub unary_tight : (op : UnOp) (line : ℕ) (a b : Built) → IsUnary op line a b → 7 ≤ b.level
unary_tight op line a b is = let own = is.own in omega (arith, own)

pub table_tight : (at : Nesting) (s t : State) (b : Built) → ReadsTable at s b t → 7 ≤ b.level
table_tight at s t b read = let own = read.own in omega (arith, own)

pub closure_read : (at : Nesting) (s m t : State) (line number : ℕ) (before : List Bytes) (r : Built) → Takes (WordKind FunctionWord) line s m →
    ReadsBody at line before m number t → before ≡ [] → r ≡ leaf line (kind.Function number) → ReadsExp at s r t
unfolding print_exp levels height IsValid Resolves
closure_read at s m t line number before r taken rb none is =
    let from : ResolvesBody before line rb.tree s.scope number t.scope = subst (λ z. ResolvesBody before line rb.tree z number t.scope) taken.scope rb.resolved in
    let alone : ResolvesBody [] line rb.tree s.scope number t.scope = subst (λ those. ResolvesBody those line rb.tree s.scope number t.scope) none from in
    rw is (record {
      tree = tree.function line rb.tree;
      printed = taken.printed ∙ ap (a_kind (WordKind FunctionWord) line) rb.printed;
      valid = rb.valid;
      deep = let d = rb.deep in omega (arith, d);
      resolved = (number, alone, refl);
      high = refl;
      low = at.roomy;
      precedes = refl;
      stops = λ ends. absurd ends;
      ends = tt;
    })

pub nil_read : (at : Nesting) (s t : State) (line : ℕ) (r : Built) → Takes (WordKind Nil) line s t → r ≡ leaf line (kind.Nil) → ReadsExp at s r t
unfolding print_exp levels height IsValid Resolves
nil_read at s t line r taken is = rw is (record {
  tree = tree.nil line;
  printed = taken.printed;
  valid = tt;
  deep = let d = at.deep in omega (arith, d);
  resolved = (refl, taken.scope);
  high = refl;
  low = at.roomy;
  precedes = refl;
  stops = λ ends. absurd ends;
  ends = tt;
})

pub true_read : (at : Nesting) (s t : State) (line : ℕ) (r : Built) → Takes (WordKind True) line s t → r ≡ leaf line (kind.True) → ReadsExp at s r t
unfolding print_exp levels height IsValid Resolves
true_read at s t line r taken is = rw is (record {
  tree = tree.true_ line;
  printed = taken.printed;
  valid = tt;
  deep = let d = at.deep in omega (arith, d);
  resolved = (refl, taken.scope);
  high = refl;
  low = at.roomy;
  precedes = refl;
  stops = λ ends. absurd ends;
  ends = tt;
})

pub false_read : (at : Nesting) (s t : State) (line : ℕ) (r : Built) → Takes (WordKind False) line s t → r ≡ leaf line (kind.False) → ReadsExp at s r t
unfolding print_exp levels height IsValid Resolves
false_read at s t line r taken is = rw is (record {
  tree = tree.false_ line;
  printed = taken.printed;
  valid = tt;
  deep = let d = at.deep in omega (arith, d);
  resolved = (refl, taken.scope);
  high = refl;
  low = at.roomy;
  precedes = refl;
  stops = λ ends. absurd ends;
  ends = tt;
})

pub number_read : (at : Nesting) (s t : State) (line : ℕ) (n : ℤ) (r : Built) → Takes (NumberKind n) line s t → r ≡ leaf line (kind.Number n) → ReadsExp at s r t
unfolding print_exp levels height IsValid Resolves
number_read at s t line n r taken is = rw is (record {
  tree = tree.number line n;
  printed = taken.printed;
  valid = tt;
  deep = let d = at.deep in omega (arith, d);
  resolved = (refl, taken.scope);
  high = refl;
  low = at.roomy;
  precedes = refl;
  stops = λ ends. absurd ends;
  ends = tt;
})

pub text_read : (at : Nesting) (s t : State) (line : ℕ) (bytes : Bytes) (r : Built) → Takes (TextKind bytes) line s t → r ≡ leaf line (kind.Text bytes) → ReadsExp at s r t
unfolding print_exp levels height IsValid Resolves
text_read at s t line bytes r taken is = rw is (record {
  tree = tree.string line bytes;
  printed = taken.printed;
  valid = tt;
  deep = let d = at.deep in omega (arith, d);
  resolved = (refl, taken.scope);
  high = refl;
  low = at.roomy;
  precedes = refl;
  stops = λ ends. absurd ends;
  ends = tt;
})

pub dots_read : (at : Nesting) (s t : State) (line : ℕ) (r : Built) → Takes (SignKind Ellipsis) line s t → at.vararg ≡ true → r ≡ leaf line (kind.Vararg) → ReadsExp at s r t
unfolding print_exp levels height IsValid Resolves
dots_read at s t line r taken vararg is = rw is (record {
  tree = tree.dots line;
  printed = taken.printed;
  valid = vararg;
  deep = let d = at.deep in omega (arith, d);
  resolved = (refl, taken.scope);
  high = refl;
  low = at.roomy;
  precedes = refl;
  stops = λ ends. absurd ends;
  ends = tt;
})

apart_kind : (kind : TokenKind) → (GoesOn kind → ⊥) → IsApart kind
apart_kind (TextKind bytes) h = absurd (h tt)
apart_kind (SignKind Dot) h = absurd (h tt)
apart_kind (SignKind Colon) h = absurd (h tt)
apart_kind (SignKind OpenBracket) h = absurd (h tt)
apart_kind (SignKind OpenBrace) h = absurd (h tt)
apart_kind (SignKind OpenParenthesis) h = absurd (h tt)
apart_kind kind h = tt

apart_first : (left : List Lexeme) → ((next : Lexeme) (after : List Lexeme) → left ≡ next ∷ after → GoesOn next.kind → ⊥) → IsApart (first_kind left)
apart_first [] h = tt
apart_first (first ∷ after) h = apart_kind first.kind (h first after refl)

pub apart_there : (t : State) → Stops t → IsApart (ahead t)
apart_there t stops = apart_first t.left stops

pub prefix_exp : (at : Nesting) (s t : State) (p : Prefix) (r : Built) → ReadsPrefix at s p t → Stops t → r.expr ≡ p.expr → r.height ≡ p.height → r.level ≡ 9 →
    ReadsExp at s r t
unfolding print_exp levels height IsValid Resolves
prefix_exp at s t p r rp stops is high own = record {
  tree = tree.prefix rp.tree;
  printed = rp.printed;
  valid = rp.valid;
  deep = let d = rp.deep in omega (arith, d);
  resolved = subst (λ e. ResolvesPrefix rp.tree s.scope e t.scope) (sym is) rp.resolved;
  high = rp.high ∙ sym high;
  low = rw high rp.low;
  precedes = sym own;
  stops = λ _. stops;
  ends = apart_there t stops;
}

pub table_exp : (at : Nesting) (s t : State) (b : Built) → ReadsTable at s b t → ReadsExp at s b t
unfolding print_exp levels height IsValid Resolves
table_exp at s t b rt = record {
  tree = tree.table rt.tree;
  printed = rt.printed;
  valid = rt.valid;
  deep = let d = rt.deep in omega (arith, d);
  resolved = rt.resolved;
  high = rt.high;
  low = rt.low;
  precedes = sym rt.own;
  stops = λ ends. absurd ends;
  ends = tt;
}

pub list_one : (at : Nesting) (s t : State) (b : Built) (v : Values) → ReadsExp at s b t → EndsAt 1 (ahead t) → IsAlone b v → ReadsList at s v t
unfolding print_exp levels height IsValid Resolves
list_one at s t b v rb apart is = record {
  tree = tree.one rb.tree;
  printed = rb.printed;
  valid = rb.valid;
  deep = rb.deep;
  resolved = (b.expr, rb.resolved, is.exprs);
  high = rb.high ∙ sym is.height;
  low = rw is.height rb.low;
  stops = rb.stops;
  ends = (rb.ends, apart);
}

pub list_more : (at : Nesting) (s m n t : State) (v w : Values) (b : Built) (line : ℕ) → ReadsList at s v m → Takes (SignKind Comma) line m n →
    ReadsExp at n b t → EndsAt 1 (ahead t) → AddsValue v b w → ReadsList at s w t
unfolding print_exp levels height IsValid Resolves
list_more at s m n t v w b line rv taken rb apart is =
    let next : Resolves rb.tree m.scope b.expr t.scope = subst (λ z. Resolves rb.tree z b.expr t.scope) taken.scope rb.resolved in
    record {
      tree = tree.more rv.tree line rb.tree;
      printed = rv.printed ∙ ap (print_explist rv.tree) (taken.printed ∙ ap (a_kind (SignKind Comma) line) rb.printed);
      valid = (rv.valid, rb.valid);
      deep = let d = rv.deep in let e = rb.deep in omega (arith, d, e);
      resolved = (v.exprs.items, b.expr, m.scope, rv.resolved, next, is.exprs);
      high = rw (rv.high, rb.high) (sym is.height);
      low = let d = rv.low in let e = rb.low in let h = is.height in omega (arith, d, e, h);
      stops = rb.stops;
      ends = (rb.ends, apart);
    }

pub paren_read : (at inner : Nesting) (s m n t : State) (b : Built) (r : Prefix) (opens closes : ℕ) →
    Takes (SignKind OpenParenthesis) opens s m → IsPart at inner → ReadsExp inner m b n → Takes (SignKind CloseParenthesis) closes n t →
    IsParen b opens r → ReadsPrefix at s r t
unfolding print_exp levels height IsValid Resolves
paren_read at inner s m n t b r opens closes taken part rb close is =
    let whole = tree.paren opens rb.tree closes in
    let room = part.room in
    let inside = rb.low in
    let few : b.height < 4_000 = let most = at.low in omega (arith, room, inside, most) in
    let high = is.higher few in
    let tall : prefix_height whole ≡ r.height = rw rb.high (sym high) in
    let low : r.height ≤ at.room = omega (arith, high, room, inside) in
    let limit : r.height ≤ 4_000 = let most = at.low in omega (arith, low, most) in
    let within : IsValid at.vararg rb.tree = subst (λ vararg. IsValid vararg rb.tree) part.vararg rb.valid in
    let first : Resolves rb.tree m.scope is.inner.value n.scope = subst (λ e. Resolves rb.tree m.scope e n.scope) (sym is.same) rb.resolved in
    let from : Resolves rb.tree s.scope is.inner.value n.scope = subst (λ z. Resolves rb.tree z is.inner.value n.scope) taken.scope first in
    let after : Resolves rb.tree s.scope is.inner.value t.scope = subst (λ z. Resolves rb.tree s.scope is.inner.value z) (sym close.scope) from in
    record {
      tree = whole;
      printed = taken.printed ∙ ap (a_kind (SignKind OpenParenthesis) opens) (rb.printed ∙ ap (print_exp rb.tree) close.printed);
      valid = (within, rw tall limit);
      deep = let e = rb.deep in let f = part.depth in omega (arith, e, f);
      resolved = (is.inner, after, is.built);
      high = tall;
      low = low;
      form = sym is.form;
      ends = sym close.last;
    }

pub name_read : (at : Nesting) (tokens : List Token) (p q u : Parser) (r : Prefix) (line : ℕ) (name : Bytes) →
    Takes (NameKind name) line (state tokens p) (state tokens q) → u.index ≡ q.index → u.line ≡ q.line →
    ResolvesName line name (scope_of q) r.expr (scope_of u) → r.height ≡ 1 → r.form ≡ Variable → ReadsPrefix at (state tokens p) r (state tokens u)
unfolding state print_exp levels height IsValid Resolves
name_read at tokens p q u r line name taken index last named high form = record {
  tree = tree.variable line name;
  printed = taken.printed ∙ ap (λ n. a_kind (NameKind name) line (lexemes (drop n tokens))) (sym index);
  valid = tt;
  deep = let d = at.deep in omega (arith, d);
  resolved = subst (λ z. ResolvesName line name z r.expr (scope_of u)) taken.scope named;
  high = sym high;
  low = rw high at.roomy;
  form = sym form;
  ends = sym (last ∙ taken.last);
}
