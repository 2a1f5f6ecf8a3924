-- What is read of the fields of a table constructor is read of the whole.
use Rattle.std.proofs.Common.{◌≡◌, ℕ, ◌<◌, ◌≤◌, max, refl, sym, ap, subst, arith, ◌∙◌}
use Rattle.lua_ast.specs.declared.expressions.ExprKind as kind
use Rattle.lua_ast.specs.declared.expressions.TableItem.{TableItem}
use Rattle.lua_ast.specs.declared.expressions.TableItem as tableitem
use Rattle.lua_lexer.specs.declared.tokens.TokenKind.TheVariants.{Name as NameKind, Sign as SignKind}
use Rattle.lua_lexer.specs.declared.signs.Sign.TheVariants.{OpenBrace, CloseBrace, OpenBracket, CloseBracket, Assign, Comma, Semicolon}
use Rattle.lua_grammar.specs.Tree.{Bytes}
use Rattle.lua_grammar.specs.Tree as tree
use Rattle.lua_grammar.specs.Printing.{a_kind, print_exp, print_fields, print_field}
use Rattle.lua_grammar.specs.Levels.{levels, height, table_height}
use Rattle.lua_grammar.specs.Validity.{IsValid, IsValidField}
use Rattle.lua_grammar.specs.Resolution.{Resolves, ResolvesFields, ResolvesField}
use Rattle.lua_parser_base.specs.declared.nesting.Nesting.{Nesting}
use Rattle.lua_parser_base.specs.declared.nodes.Built.{Built}
use Rattle.lua_parser_base.specs.declared.nodes.Item.{Item}
use Rattle.lua_parser_base.specs.declared.nodes.Items.{Items}
use Rattle.lua_parser_base.proofs.Heights.{exp_tall}
use Rattle.lua_parser_base.proofs.LoneNames.{lone_ends}
use Rattle.lua_parser_base.specs.States.{State, Takes, TakesSeparator}
use Rattle.lua_grammar.specs.Stopping.{EndsAt}
use Rattle.lua_parser_base.specs.Kinds.{BeginNamed}
use Rattle.lua_parser_base.specs.Next.{ahead}
use Rattle.lua_parser_base.specs.Nesting.{IsPart}
use Rattle.lua_parser_base.specs.Nodes.{leaf, IsTable, AddsItem, AreNone}
use Rattle.lua_parser_base.specs.Reads.{ReadsExp, ReadsTable, ReadsFields, ReadsField}

pub comma_taken : (s t : State) (line : ℕ) → Takes (SignKind Comma) line s t → TakesSeparator s t
comma_taken s t line taken = record { separator = tree.comma line; printed = taken.printed; scope = taken.scope }

pub semicolon_taken : (s t : State) (line : ℕ) → Takes (SignKind Semicolon) line s t → TakesSeparator s t
semicolon_taken s t line taken = record { separator = tree.semicolon line; printed = taken.printed; scope = taken.scope }

pub no_fields_read : (at : Nesting) (s : State) (v : Items) → AreNone v → ReadsFields at s v s
unfolding print_exp levels height IsValid Resolves
no_fields_read at s v is = record {
  tree = tree.no_fields;
  printed = refl;
  valid = tt;
  deep = let d = at.deep in omega (arith, d);
  resolved = (is.items, refl);
  high = sym is.height;
  low = let h = is.height in let r = at.roomy in omega (arith, h, r);
}

pub more_fields_read : (at inner : Nesting) (s m n t : State) (v w : Items) (i : Item) → ReadsFields at s v m → IsPart at inner →
    ReadsField inner m i n → TakesSeparator n t → AddsItem v i w → ReadsFields at s w t
unfolding print_exp levels height IsValid Resolves
more_fields_read at inner s m n t v w i rv part ri taken is =
    let valid : IsValidField at.vararg ri.tree = subst (λ vararg. IsValidField vararg ri.tree) part.vararg ri.valid in
    let next : ResolvesField ri.tree m.scope i.item t.scope = subst (λ z. ResolvesField ri.tree m.scope i.item z) (sym taken.scope) ri.resolved in
    record {
      tree = tree.more_fields rv.tree ri.tree taken.separator;
      printed = rv.printed ∙ ap (print_fields rv.tree) (ri.printed ∙ ap (print_field ri.tree) taken.printed);
      valid = (rv.valid, valid);
      deep = let d = rv.deep in let e = ri.deep in let f = part.depth in omega (arith, d, e, f);
      resolved = (v.items.items, i.item, m.scope, rv.resolved, next, is.items);
      high = rw (rv.high, ri.high) (sym is.height);
      low = let d = rv.low in let e = ri.low in let f = part.room in let h = is.height in omega (arith, d, e, f, h);
    }

pub separated_read : (at : Nesting) (s m n t : State) (v : Items) (r : Built) (opens closes : ℕ) → Takes (SignKind OpenBrace) opens s m →
    ReadsFields at m v n → Takes (SignKind CloseBrace) closes n t → IsTable v opens r → ReadsTable at s r t
unfolding print_exp levels height IsValid Resolves
separated_read at s m n t v r opens closes taken rv close is =
    let whole = tree.separated opens rv.tree closes in
    let inside = rv.low in
    let most = at.low in
    let few : v.height < 4_000 = omega (arith, inside, most) in
    let high = is.higher few in
    let tall : table_height whole ≡ r.height = rw rv.high (sym high) in
    let low : r.height ≤ at.room = omega (arith, high, inside) in
    let limit : r.height ≤ 4_000 = omega (arith, low, most) in
    let listed : ResolvesFields rv.tree m.scope is.list.value.items n.scope = subst (λ es. ResolvesFields rv.tree m.scope es n.scope) (sym is.same) rv.resolved in
    let from : ResolvesFields rv.tree s.scope is.list.value.items n.scope = subst (λ z. ResolvesFields rv.tree z is.list.value.items n.scope) taken.scope listed in
    let after : ResolvesFields rv.tree s.scope is.list.value.items t.scope = subst (λ z. ResolvesFields rv.tree s.scope is.list.value.items z) (sym close.scope) from in
    record {
      tree = whole;
      printed = taken.printed ∙ ap (a_kind (SignKind OpenBrace) opens) (rv.printed ∙ ap (print_fields rv.tree) close.printed);
      valid = (rv.valid, rw tall limit);
      deep = rv.deep;
      resolved = (is.list, after, is.built);
      high = tall;
      low = low;
      ends = sym close.last;
      own = is.own;
    }

pub ending_read : (at inner : Nesting) (s m n k t : State) (v w : Items) (i : Item) (r : Built) (opens closes : ℕ) → Takes (SignKind OpenBrace) opens s m →
    ReadsFields at m v n → IsPart at inner → ReadsField inner n i k → AddsItem v i w → Takes (SignKind CloseBrace) closes k t → IsTable w opens r →
    ReadsTable at s r t
unfolding print_exp levels height IsValid Resolves
ending_read at inner s m n k t v w i r opens closes taken rv part ri more close is =
    let whole = tree.ending opens rv.tree ri.tree closes in
    let inside = rv.low in
    let last = ri.low in
    let room = part.room in
    let most = at.low in
    let added = more.height in
    let few : w.height < 4_000 = omega (arith, inside, last, room, most, added) in
    let high = is.higher few in
    let tall : table_height whole ≡ r.height = rw (rv.high, ri.high, sym added) (sym high) in
    let low : r.height ≤ at.room = omega (arith, high, inside, last, room, added) in
    let limit : r.height ≤ 4_000 = omega (arith, low, most) in
    let valid : IsValidField at.vararg ri.tree = subst (λ vararg. IsValidField vararg ri.tree) part.vararg ri.valid in
    let from : ResolvesFields rv.tree s.scope v.items.items n.scope = subst (λ z. ResolvesFields rv.tree z v.items.items n.scope) taken.scope rv.resolved in
    let after : ResolvesField ri.tree n.scope i.item t.scope = subst (λ z. ResolvesField ri.tree n.scope i.item z) (sym close.scope) ri.resolved in
    record {
      tree = whole;
      printed = taken.printed ∙ ap (a_kind (SignKind OpenBrace) opens) (rv.printed ∙ ap (print_fields rv.tree) (ri.printed ∙ ap (print_field ri.tree) close.printed));
      valid = (rv.valid, valid, rw tall limit);
      deep = let d = rv.deep in let e = ri.deep in let f = part.depth in omega (arith, d, e, f);
      resolved = (is.list, v.items.items, i.item, n.scope, from, after, is.same ∙ more.items, is.built);
      high = tall;
      low = low;
      ends = sym close.last;
      own = is.own;
    }

pub keyed_read : (at : Nesting) (s m n k l t : State) (a b : Built) (i : Item) (opens closes equals : ℕ) → Takes (SignKind OpenBracket) opens s m →
    ReadsExp at m a n → Takes (SignKind CloseBracket) closes n k → Takes (SignKind Assign) equals k l → ReadsExp at l b t →
    EndsAt 1 (ahead t) → i.item ≡ tableitem.Pair a.expr b.expr → i.height ≡ max a.height b.height → ReadsField at s i t
unfolding print_exp levels height IsValid Resolves
keyed_read at s m n k l t a b i opens closes equals taken ra close assign rb apart is high =
    let first : Resolves ra.tree s.scope a.expr n.scope = subst (λ z. Resolves ra.tree z a.expr n.scope) taken.scope ra.resolved in
    let second : Resolves rb.tree n.scope b.expr t.scope = subst (λ z. Resolves rb.tree z b.expr t.scope) (assign.scope ∙ close.scope) rb.resolved in
    record {
      tree = tree.keyed opens ra.tree closes equals rb.tree;
      printed = taken.printed ∙ ap (a_kind (SignKind OpenBracket) opens) (ra.printed ∙ ap (print_exp ra.tree)
          (close.printed ∙ ap (a_kind (SignKind CloseBracket) closes) (assign.printed ∙ ap (a_kind (SignKind Assign) equals) rb.printed)));
      valid = (ra.valid, rb.valid);
      deep = let d = ra.deep in let e = rb.deep in omega (arith, d, e);
      resolved = (a.expr, b.expr, n.scope, first, second, is);
      high = rw (ra.high, rb.high) (sym high);
      low = let d = ra.low in let e = rb.low in omega (arith, d, e, high);
      ends = (rb.ends, apart);
    }

pub named_read : (at : Nesting) (s m n t : State) (a b : Built) (i : Item) (line equals : ℕ) (name : Bytes) → Takes (NameKind name) line s m →
    a ≡ leaf line (kind.Text name) → Takes (SignKind Assign) equals m n → ReadsExp at n b t → EndsAt 1 (ahead t) → i.item ≡ tableitem.Pair a.expr b.expr →
    i.height ≡ max a.height b.height → ReadsField at s i t
unfolding print_exp levels height IsValid Resolves
named_read at s m n t a b i line equals name taken key assign rb apart is high =
    let value : Resolves rb.tree s.scope b.expr t.scope = subst (λ z. Resolves rb.tree z b.expr t.scope) (assign.scope ∙ taken.scope) rb.resolved in
    let least : 1 ≤ b.height = rw rb.high at (exp_tall rb.tree) in
    let one : a.height ≡ 1 = ap (λ b. b.height) key in
    let same : i.height ≡ b.height = omega (arith, high, least, one) in
    record {
      tree = tree.named line name equals rb.tree;
      printed = taken.printed ∙ ap (a_kind (NameKind name) line) (assign.printed ∙ ap (a_kind (SignKind Assign) equals) rb.printed);
      valid = rb.valid;
      deep = rb.deep;
      resolved = (b.expr, value, is ∙ ap (λ k. tableitem.Pair k.expr b.expr) key);
      high = rb.high ∙ sym same;
      low = rw same rb.low;
      ends = (rb.ends, apart);
    }

pub plain_read : (at : Nesting) (s t : State) (b : Built) (i : Item) → ReadsExp at s b t → EndsAt 1 (ahead t) → (BeginNamed s.left → ⊥) → i.item ≡ tableitem.Item b.expr → i.height ≡ b.height →
    ReadsField at s i t
unfolding print_exp levels height IsValid Resolves
plain_read at s t b i rb apart unnamed is high = record {
  tree = tree.plain rb.tree;
  printed = rb.printed;
  valid = rb.valid;
  deep = rb.deep;
  resolved = (b.expr, rb.resolved, is);
  high = rb.high ∙ sym high;
  low = rw high rb.low;
  ends = (rb.ends, apart, lone_ends rb.tree s.left t.left rb.printed unnamed);
}
