-- What begins a prefix that fits, fits, and so does each part after it.
use Rattle.std.proofs.Common.{◌≡◌, ◌≤◌, ◌⊎◌, ℕ, List, inl, inr, sym, subst, arith, ◌∙◌}
use Rattle.lua_ast.specs.declared.expressions.Expr.{Expr}
use Rattle.lua_grammar.specs.Tree.{Line, Bytes, Exp, PrefixExp, Args, ExpList, Table}
use Rattle.lua_grammar.specs.Tree as tree
use Rattle.lua_grammar.specs.Levels.{levels, height, prefix_height, list_levels, list_height}
use Rattle.lua_grammar.specs.Validity.{IsValid, AreValid, IsValidTable, BeginOn, prefix_end}
use Rattle.lua_grammar.specs.Scopes.{Frame, Scope, look}
use Rattle.lua_grammar.specs.Limits.{Few}
use Rattle.lua_grammar.specs.Resolution.{Resolves, ResolvesPrefix}
use Rattle.lua_grammar.specs.Dead.{PrefixFrom}
use Rattle.lua_grammar.proofs.SameFrames.{prefix_alike}
use Rattle.lua_grammar.proofs.Few.{few_before_it}
use Rattle.lua_grammar.proofs.Growing.{exp_keeps, args_keep}
use Rattle.lua_parser_base.proofs.Heights.{exp_tall, exp_deep}
use Rattle.lua_parser_base.specs.declared.nesting.Nesting.{Nesting}
use Rattle.lua_parser_base.specs.Nesting.{IsPart, IsNarrower}
use Rattle.lua_parser_base.specs.Fits.{FitsExp, FitsPrefix, FitsArgs, FitsList, FitsTable}

-- ---- what stands before

item_object_fits : (at : Nesting) (enclosing : List Frame) (p : PrefixExp) (o : Line) (e : Exp) (c : Line) → FitsPrefix at enclosing (tree.item p o e c) → FitsPrefix at enclosing p
unfolding levels height IsValid Resolves
item_object_fits at enclosing p o e c f =
    let (x, y, m, q, r, i) = f.resolvable.resolved in
    record {
      valid = f.valid.0;
      deep = let d = f.deep in omega (arith, d);
      low = let h = f.low in omega (arith, h);
      resolvable = record { before = f.resolvable.before; out = x.value; after = m; same = f.resolvable.same; resolved = q; few = few_before_it (exp_keeps e m y.value f.resolvable.after r) f.resolvable.few };
    }

member_object_fits : (at : Nesting) (enclosing : List Frame) (p : PrefixExp) (d l : Line) (n : Bytes) → FitsPrefix at enclosing (tree.member p d l n) → FitsPrefix at enclosing p
unfolding levels height IsValid Resolves
member_object_fits at enclosing p d l n f =
    let (x, q, i) = f.resolvable.resolved in
    record {
      valid = f.valid.0;
      deep = f.deep;
      low = let h = f.low in omega (arith, h);
      resolvable = record { before = f.resolvable.before; out = x.value; after = f.resolvable.after; same = f.resolvable.same; resolved = q; few = f.resolvable.few };
    }

callee_fits : (at : Nesting) (enclosing : List Frame) (p : PrefixExp) (a : Args) → FitsPrefix at enclosing (tree.call p a) → FitsPrefix at enclosing p
unfolding levels height IsValid Resolves
callee_fits at enclosing p a f =
    let (x, values, m, q, r, i) = f.resolvable.resolved in
    record {
      valid = f.valid.0;
      deep = let d = f.deep in omega (arith, d);
      low = let h = f.low in omega (arith, h);
      resolvable = record { before = f.resolvable.before; out = x.value; after = m; same = f.resolvable.same; resolved = q; few = few_before_it (args_keep a m values.value.items f.resolvable.after r) f.resolvable.few };
    }

method_object_fits : (at : Nesting) (enclosing : List Frame) (p : PrefixExp) (c l : Line) (n : Bytes) (a : Args) → FitsPrefix at enclosing (tree.method p c l n a) → FitsPrefix at enclosing p
unfolding levels height IsValid Resolves
method_object_fits at enclosing p c l n a f =
    let (x, values, m, q, r, i) = f.resolvable.resolved in
    record {
      valid = f.valid.0;
      deep = let d = f.deep in omega (arith, d);
      low = let h = f.low in omega (arith, h);
      resolvable = record { before = f.resolvable.before; out = x.value; after = m; same = f.resolvable.same; resolved = q; few = few_before_it (args_keep a m values.value.items f.resolvable.after r) f.resolvable.few };
    }

pub first_prefix_fits : (at : Nesting) (enclosing : List Frame) (first whole : PrefixExp) → PrefixFrom first whole → FitsPrefix at enclosing whole → FitsPrefix at enclosing first
first_prefix_fits at enclosing first whole PrefixFrom.alone f = f
first_prefix_fits at enclosing first whole (PrefixFrom.item p o e c from) f = first_prefix_fits at enclosing first p from (item_object_fits at enclosing p o e c f)
first_prefix_fits at enclosing first whole (PrefixFrom.member p d l n from) f = first_prefix_fits at enclosing first p from (member_object_fits at enclosing p d l n f)
first_prefix_fits at enclosing first whole (PrefixFrom.call p a from) f = first_prefix_fits at enclosing first p from (callee_fits at enclosing p a f)
first_prefix_fits at enclosing first whole (PrefixFrom.method p c l n a from) f = first_prefix_fits at enclosing first p from (method_object_fits at enclosing p c l n a f)

-- ---- parts

pub variable_few : (at : Nesting) (enclosing : List Frame) (l : Line) (n : Bytes) → FitsPrefix at enclosing (tree.variable l n) → Few (look n enclosing).1
unfolding Resolves
variable_few at enclosing l n f =
    let r = f.resolvable in
    subst (λ fs. Few (look n fs).1) r.same (subst (λ z. Few z.enclosing) r.resolved.scope r.few)

pub paren_inner_fits : (at inner : Nesting) (enclosing : List Frame) (o : Line) (e : Exp) (c : Line) → FitsPrefix at enclosing (tree.paren o e c) → IsPart at inner → FitsExp inner enclosing e
unfolding levels height IsValid Resolves
paren_inner_fits at inner enclosing o e c f part =
    let (x, q, i) = f.resolvable.resolved in
    record {
      valid = subst (λ vararg. IsValid vararg e) (sym part.vararg) f.valid.0;
      deep = let d = f.deep in let n = part.depth in omega (arith, d, n);
      low = let h = f.low in let n = part.room in omega (arith, h, n);
      resolvable = record { before = f.resolvable.before; out = x.value; after = f.resolvable.after; same = f.resolvable.same; resolved = q; few = f.resolvable.few };
    }

pub item_key_fits : (at inner : Nesting) (enclosing : List Frame) (p : PrefixExp) (o : Line) (key : Exp) (c : Line) (s m : Scope) (e : Expr) → FitsPrefix at enclosing (tree.item p o key c) →
    s.enclosing ≡ enclosing → ResolvesPrefix p s e m → IsPart at inner → FitsExp inner m.enclosing key
unfolding levels height IsValid Resolves
item_key_fits at inner enclosing p o key c s m e f here r part =
    let (x, y, k, q, j, i) = f.resolvable.resolved in
    let same : k.enclosing ≡ m.enclosing = (prefix_alike p f.resolvable.before s x.value e k m q r (record { enclosing = f.resolvable.same ∙ sym here })).enclosing in
    record {
      valid = subst (λ vararg. IsValid vararg key) (sym part.vararg) f.valid.1;
      deep = let d = f.deep in let n = part.depth in omega (arith, d, n);
      low = let h = f.low in let n = part.room in omega (arith, h, n);
      resolvable = record { before = k; out = y.value; after = f.resolvable.after; same = same; resolved = j; few = f.resolvable.few };
    }

pub call_args_fit : (at : Nesting) (enclosing : List Frame) (p : PrefixExp) (a : Args) (s m : Scope) (e : Expr) → FitsPrefix at enclosing (tree.call p a) →
    s.enclosing ≡ enclosing → ResolvesPrefix p s e m → FitsArgs at m.enclosing a
unfolding levels height IsValid Resolves
call_args_fit at enclosing p a s m e f here r =
    let (x, values, k, q, j, i) = f.resolvable.resolved in
    let same : k.enclosing ≡ m.enclosing = (prefix_alike p f.resolvable.before s x.value e k m q r (record { enclosing = f.resolvable.same ∙ sym here })).enclosing in
    record {
      valid = f.valid.1;
      deep = let d = f.deep in omega (arith, d);
      low = let h = f.low in omega (arith, h);
      resolvable = record { before = k; out = values.value.items; after = f.resolvable.after; same = same; resolved = j; few = f.resolvable.few };
    }

pub method_args_fit : (at : Nesting) (enclosing : List Frame) (p : PrefixExp) (c l : Line) (n : Bytes) (a : Args) (s m : Scope) (e : Expr) → FitsPrefix at enclosing (tree.method p c l n a) →
    s.enclosing ≡ enclosing → ResolvesPrefix p s e m → FitsArgs at m.enclosing a
unfolding levels height IsValid Resolves
method_args_fit at enclosing p c l n a s m e f here r =
    let (x, values, k, q, j, i) = f.resolvable.resolved in
    let same : k.enclosing ≡ m.enclosing = (prefix_alike p f.resolvable.before s x.value e k m q r (record { enclosing = f.resolvable.same ∙ sym here })).enclosing in
    record {
      valid = f.valid.1;
      deep = let d = f.deep in omega (arith, d);
      low = let h = f.low in omega (arith, h);
      resolvable = record { before = k; out = values.value.items; after = f.resolvable.after; same = same; resolved = j; few = f.resolvable.few };
    }

pub args_list_fits : (at inner : Nesting) (enclosing : List Frame) (o : Line) (es : ExpList) (c : Line) → FitsArgs at enclosing (tree.args o es c) → IsPart at inner → FitsList inner enclosing es
unfolding levels height IsValid Resolves
args_list_fits at inner enclosing o es c f part =
    let r = f.resolvable in
    record {
      valid = subst (λ vararg. AreValid vararg es) (sym part.vararg) f.valid;
      deep = let d = f.deep in let n = part.depth in omega (arith, d, n);
      low = let h = f.low in let n = part.room in omega (arith, h, n);
      resolvable = record { before = r.before; out = r.out; after = r.after; same = r.same; resolved = r.resolved; few = r.few };
    }

pub table_arg_fits : (at inner : Nesting) (enclosing : List Frame) (t : Table) → FitsArgs at enclosing (tree.table_arg t) → IsNarrower at inner → FitsTable inner enclosing t
unfolding levels height IsValid Resolves
table_arg_fits at inner enclosing t f part =
    let r = f.resolvable in
    let (e, q, i) = r.resolved in
    record {
      valid = subst (λ vararg. IsValidTable vararg t) (sym part.vararg) f.valid;
      deep = let d = f.deep in let n = part.depth in omega (arith, d, n);
      low = let h = f.low in let n = part.room in omega (arith, h, n);
      resolvable = record { before = r.before; out = e; after = r.after; same = r.same; resolved = q; few = r.few };
    }

-- ---- what doesn't fit

list_deep : (es : ExpList) → 1 ≤ list_levels es
unfolding levels
list_deep (tree.one e) = exp_deep e
list_deep (tree.more es c e) = let n = exp_deep e in omega (arith, n)

list_tall : (es : ExpList) → 1 ≤ list_height es
unfolding height
list_tall (tree.one e) = exp_tall e
list_tall (tree.more es c e) = let n = exp_tall e in omega (arith, n)

pub deep_paren : (at : Nesting) (enclosing : List Frame) (o : Line) (e : Exp) (c : Line) → (200 ≤ at.depth) ⊎ (at.room ≤ 1) → FitsPrefix at enclosing (tree.paren o e c) → ⊥
unfolding levels height
deep_paren at enclosing o e c (inl full) f = let d = f.deep in let n = exp_deep e in omega (arith, d, n, full)
deep_paren at enclosing o e c (inr full) f = let d = f.low in let n = exp_tall e in omega (arith, d, n, full)

pub deep_item : (at : Nesting) (enclosing : List Frame) (p : PrefixExp) (o : Line) (e : Exp) (c : Line) → (200 ≤ at.depth) ⊎ (at.room ≤ 1) → FitsPrefix at enclosing (tree.item p o e c) → ⊥
unfolding levels height
deep_item at enclosing p o e c (inl full) f = let d = f.deep in let n = exp_deep e in omega (arith, d, n, full)
deep_item at enclosing p o e c (inr full) f = let d = f.low in let n = exp_tall e in omega (arith, d, n, full)

pub deep_args : (at : Nesting) (enclosing : List Frame) (o : Line) (es : ExpList) (c : Line) → (200 ≤ at.depth) ⊎ (at.room ≤ 1) → FitsArgs at enclosing (tree.args o es c) → ⊥
unfolding levels height
deep_args at enclosing o es c (inl full) f = let d = f.deep in let n = list_deep es in omega (arith, d, n, full)
deep_args at enclosing o es c (inr full) f = let d = f.low in let n = list_tall es in omega (arith, d, n, full)

pub high_member : (at : Nesting) (enclosing : List Frame) (p : PrefixExp) (d l : Line) (n : Bytes) (height_of : ℕ) → prefix_height p ≡ height_of → at.room ≤ height_of →
    FitsPrefix at enclosing (tree.member p d l n) → ⊥
unfolding height
high_member at enclosing p d l n h is full f = let low = f.low in omega (arith, low, is, full)

pub high_item : (at : Nesting) (enclosing : List Frame) (p : PrefixExp) (o : Line) (e : Exp) (c : Line) (height_of : ℕ) → prefix_height p ≡ height_of → at.room ≤ height_of →
    FitsPrefix at enclosing (tree.item p o e c) → ⊥
unfolding height
high_item at enclosing p o e c h is full f = let low = f.low in omega (arith, low, is, full)

pub high_call : (at : Nesting) (enclosing : List Frame) (p : PrefixExp) (a : Args) (height_of : ℕ) → prefix_height p ≡ height_of → at.room ≤ height_of → FitsPrefix at enclosing (tree.call p a) → ⊥
unfolding height
high_call at enclosing p a h is full f = let low = f.low in omega (arith, low, is, full)

pub high_method : (at : Nesting) (enclosing : List Frame) (p : PrefixExp) (c l : Line) (n : Bytes) (a : Args) (height_of : ℕ) → prefix_height p ≡ height_of → at.room ≤ height_of →
    FitsPrefix at enclosing (tree.method p c l n a) → ⊥
unfolding height
high_method at enclosing p c l n a h is full f = let low = f.low in omega (arith, low, is, full)

-- a `(` that isn't on the line of the token before it
pub ambiguous_call : (at : Nesting) (enclosing : List Frame) (p : PrefixExp) (a : Args) → (BeginOn (prefix_end p) a → ⊥) → FitsPrefix at enclosing (tree.call p a) → ⊥
unfolding IsValid
ambiguous_call at enclosing p a not f = not f.valid.2

pub ambiguous_method : (at : Nesting) (enclosing : List Frame) (p : PrefixExp) (c l : Line) (n : Bytes) (a : Args) → (BeginOn l a → ⊥) → FitsPrefix at enclosing (tree.method p c l n a) → ⊥
unfolding IsValid
ambiguous_method at enclosing p c l n a not f = not f.valid.2
