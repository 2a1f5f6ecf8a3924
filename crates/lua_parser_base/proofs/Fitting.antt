-- What begins a whole that fits, fits; and so does each later part, in the functions as they are after what stands before it.
use Rattle.std.proofs.Common.{◌≡◌, ◌≤◌, ◌⊎◌, ℕ, List, inl, inr, sym, subst, arith, ◌∙◌}
use Rattle.lua_ast.specs.declared.expressions.Expr.{Expr}
use Rattle.lua_ast.specs.declared.expressions.UnOp.{UnOp}
use Rattle.lua_grammar.specs.declared.operators.Operator.{Operator}
use Rattle.lua_grammar.specs.Tree.{Line, Exp, PrefixExp, Table}
use Rattle.lua_grammar.specs.Tree as tree
use Rattle.lua_grammar.specs.Levels.{levels, height}
use Rattle.lua_grammar.specs.Validity.{IsValid}
use Rattle.lua_grammar.specs.Scopes.{Frame, Scope}
use Rattle.lua_grammar.specs.Resolution.{Resolves}
use Rattle.lua_grammar.specs.Dead.{ExpFrom}
use Rattle.lua_grammar.proofs.SameFrames.{exp_alike}
use Rattle.lua_grammar.proofs.Few.{few_before_it}
use Rattle.lua_grammar.proofs.Growing.{exp_keeps}
use Rattle.lua_parser_base.proofs.Heights.{exp_tall, exp_deep}
use Rattle.lua_parser_base.specs.declared.nesting.Nesting.{Nesting}
use Rattle.lua_parser_base.specs.Nesting.{IsPart}
use Rattle.lua_parser_base.specs.Fits.{FitsExp, FitsPrefix, FitsTable}

pub left_operand_fits : (at : Nesting) (enclosing : List Frame) (a b : Exp) (op : Operator) (l : Line) → FitsExp at enclosing (tree.binary a op l b) → FitsExp at enclosing a
unfolding levels height IsValid Resolves
left_operand_fits at enclosing a b op l f =
    let (x, y, m, p, q, i) = f.resolvable.resolved in
    record {
      valid = f.valid.0;
      deep = let d = f.deep in omega (arith, d);
      low = let h = f.low in omega (arith, h);
      resolvable = record { before = f.resolvable.before; out = x.value; after = m; same = f.resolvable.same; resolved = p; few = few_before_it (exp_keeps b m y.value f.resolvable.after q) f.resolvable.few };
    }

pub right_operand_fits : (at inner : Nesting) (enclosing : List Frame) (a b : Exp) (op : Operator) (l : Line) (s m : Scope) (e : Expr) → FitsExp at enclosing (tree.binary a op l b) →
    s.enclosing ≡ enclosing → Resolves a s e m → IsPart at inner → FitsExp inner m.enclosing b
unfolding levels height IsValid Resolves
right_operand_fits at inner enclosing a b op l s m e f here r part =
    let (x, y, k, p, q, i) = f.resolvable.resolved in
    let same : k.enclosing ≡ m.enclosing = (exp_alike a f.resolvable.before s x.value e k m p r (record { enclosing = f.resolvable.same ∙ sym here })).enclosing in
    record {
      valid = subst (λ vararg. IsValid vararg b) (sym part.vararg) f.valid.1;
      deep = let d = f.deep in let n = part.depth in omega (arith, d, n);
      low = let h = f.low in let n = part.room in omega (arith, h, n);
      resolvable = record { before = k; out = y.value; after = f.resolvable.after; same = same; resolved = q; few = f.resolvable.few };
    }

pub operand_fits : (at inner : Nesting) (enclosing : List Frame) (op : UnOp) (l : Line) (e : Exp) → FitsExp at enclosing (tree.unary op l e) → IsPart at inner → FitsExp inner enclosing e
unfolding levels height IsValid Resolves
operand_fits at inner enclosing op l e f part =
    let (x, p, i) = f.resolvable.resolved in
    record {
      valid = subst (λ vararg. IsValid vararg e) (sym part.vararg) f.valid.0;
      deep = let d = f.deep in let n = part.depth in omega (arith, d, n);
      low = let h = f.low in let n = part.room in omega (arith, h, n);
      resolvable = record { before = f.resolvable.before; out = x.value; after = f.resolvable.after; same = f.resolvable.same; resolved = p; few = f.resolvable.few };
    }

pub first_exp_fits : (at : Nesting) (enclosing : List Frame) (first whole : Exp) → ExpFrom first whole → FitsExp at enclosing whole → FitsExp at enclosing first
first_exp_fits at enclosing first whole ExpFrom.alone f = f
first_exp_fits at enclosing first whole (ExpFrom.operator a op l b from) f = first_exp_fits at enclosing first a from (left_operand_fits at enclosing a b op l f)

pub prefix_alone_fits : (at : Nesting) (enclosing : List Frame) (p : PrefixExp) → FitsExp at enclosing (tree.prefix p) → FitsPrefix at enclosing p
unfolding levels height IsValid Resolves
prefix_alone_fits at enclosing p f =
    let r = f.resolvable in
    record {
      valid = f.valid;
      deep = let d = f.deep in omega (arith, d);
      low = f.low;
      resolvable = record { before = r.before; out = r.out; after = r.after; same = r.same; resolved = r.resolved; few = r.few };
    }

pub table_alone_fits : (at : Nesting) (enclosing : List Frame) (t : Table) → FitsExp at enclosing (tree.table t) → FitsTable at enclosing t
unfolding levels height IsValid Resolves
table_alone_fits at enclosing t f =
    let r = f.resolvable in
    record {
      valid = f.valid;
      deep = let d = f.deep in omega (arith, d);
      low = f.low;
      resolvable = record { before = r.before; out = r.out; after = r.after; same = r.same; resolved = r.resolved; few = r.few };
    }

-- ---- what doesn't fit

pub deep_operand : (at : Nesting) (enclosing : List Frame) (a b : Exp) (op : Operator) (l : Line) → (200 ≤ at.depth) ⊎ (at.room ≤ 1) → FitsExp at enclosing (tree.binary a op l b) → ⊥
unfolding levels height
deep_operand at enclosing a b op l (inl full) f = let d = f.deep in let n = exp_deep b in omega (arith, d, n, full)
deep_operand at enclosing a b op l (inr full) f = let d = f.low in let n = exp_tall b in omega (arith, d, n, full)

pub high_operand : (at : Nesting) (enclosing : List Frame) (a b : Exp) (op : Operator) (l : Line) (height_of : ℕ) → height a ≡ height_of → at.room ≤ height_of → FitsExp at enclosing (tree.binary a op l b) → ⊥
unfolding height
high_operand at enclosing a b op l n is full f = let d = f.low in omega (arith, d, is, full)

pub deep_unary : (at : Nesting) (enclosing : List Frame) (op : UnOp) (l : Line) (e : Exp) → (200 ≤ at.depth) ⊎ (at.room ≤ 1) → FitsExp at enclosing (tree.unary op l e) → ⊥
unfolding levels height
deep_unary at enclosing op l e (inl full) f = let d = f.deep in let n = exp_deep e in omega (arith, d, n, full)
deep_unary at enclosing op l e (inr full) f = let d = f.low in let n = exp_tall e in omega (arith, d, n, full)
