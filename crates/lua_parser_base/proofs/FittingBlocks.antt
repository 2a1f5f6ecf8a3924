-- What begins a block or a statement that fits, fits; and so does each later part, in the functions as they are after what
-- stands before it.
use Rattle.std.proofs.Common.{◌≡◌, ◌≤◌, true, List, [], ◌∷◌, refl, sym, subst, arith, lit≤, ◌∙◌}
use Rattle.lua_ast.specs.declared.expressions.Expr.{Expr}
use Rattle.lua_ast.specs.declared.statements.Stmt.{Stmt}
use Rattle.lua_ast.specs.declared.statements.Arm.{Arm, out-Arm}
use Rattle.lua_grammar.specs.Tree.{Line, End, Exp, PrefixExp, ExpList, Table, Block, Stats, Stat, Arms, LastStat}
use Rattle.lua_grammar.specs.Tree as tree
use Rattle.lua_grammar.specs.Levels.{levels, block_levels, height, prefix_height, table_height, list_height}
use Rattle.lua_grammar.specs.Validity.{IsValid, IsValidPrefix, IsValidTable, AreValid, IsValidBlock}
use Rattle.lua_grammar.specs.Scopes.{Frame, Scope}
use Rattle.lua_grammar.specs.Resolution.{Resolves, Opens, ResolvesStats, ResolvesArms}
use Rattle.lua_grammar.specs.Dead.{ArmsFrom, StatsFrom}
use Rattle.lua_grammar.proofs.SameFrames.{exp_alike, block_alike, stats_alike, arms_alike}
use Rattle.lua_grammar.proofs.Few.{few_before, few_before_it}
use Rattle.lua_grammar.proofs.Frames.{and_goes, goes, leave_goes}
use Rattle.lua_grammar.proofs.Growing.{exp_keeps, block_goes, stat_goes, last_keeps}
use Rattle.lua_parser_base.specs.declared.nesting.Nesting.{Nesting}
use Rattle.lua_parser_base.specs.Nesting.{IsFresh, IsLooped, IsWithin}
use Rattle.lua_parser_base.specs.Fits.{FitsArms, FitsBlock, FitsExp, FitsLast, FitsList, FitsScoped, FitsStat, FitsStats, FitsValue, FitsValues}

-- ---- a valid expression is no higher than may be

low_prefix : (vararg : _) (p : PrefixExp) → IsValidPrefix vararg p → prefix_height p ≤ 4_000
unfolding IsValid height
low_prefix vararg (tree.variable l n) v = lit≤ tt
low_prefix vararg (tree.paren o e c) v = v.1
low_prefix vararg (tree.item p o e c) v = v.2
low_prefix vararg (tree.member p d l n) v = v.1
low_prefix vararg (tree.call p a) v = v.3
low_prefix vararg (tree.method p c l n a) v = v.3

low_table : (vararg : _) (t : Table) → IsValidTable vararg t → table_height t ≤ 4_000
unfolding IsValid height
low_table vararg (tree.separated o fs c) v = v.1
low_table vararg (tree.ending o fs f c) v = v.2

low : (vararg : _) (e : Exp) → IsValid vararg e → height e ≤ 4_000
unfolding IsValid height
low vararg (tree.prefix p) v = low_prefix vararg p v
low vararg (tree.table t) v = low_table vararg t v
low vararg (tree.binary a op l b) v = v.4
low vararg (tree.unary op l e) v = v.2
low vararg (tree.nil l) v = lit≤ tt
low vararg (tree.false_ l) v = lit≤ tt
low vararg (tree.true_ l) v = lit≤ tt
low vararg (tree.number l n) v = lit≤ tt
low vararg (tree.string l bytes) v = lit≤ tt
low vararg (tree.dots l) v = lit≤ tt
low vararg (tree.function l body) v = lit≤ tt

low_list : (vararg : _) (es : ExpList) → AreValid vararg es → list_height es ≤ 4_000
unfolding IsValid height
low_list vararg (tree.one e) v = low vararg e v
low_list vararg (tree.more es c e) v = let h = low_list vararg es v.0 in let k = low vararg e v.1 in omega (arith, h, k)

-- ---- expressions of a statement

pub value_fits : (at free inner : Nesting) (enclosing : List Frame) (e : Exp) → IsFresh at free → IsWithin free inner → FitsValue at enclosing e → FitsExp inner enclosing e
value_fits at free inner enclosing e fresh part f = record {
  valid = subst (λ vararg. IsValid vararg e) (sym (part.vararg ∙ fresh.vararg)) f.valid;
  deep = let d = f.deep in let x = part.depth in let y = fresh.depth in omega (arith, d, x, y);
  low = let h = low at.vararg e f.valid in let x = part.room in let y = fresh.room in omega (arith, h, x, y);
  resolvable = f.resolvable;
}

pub values_fit : (at free inner : Nesting) (enclosing : List Frame) (es : ExpList) → IsFresh at free → IsWithin free inner → FitsValues at enclosing es → FitsList inner enclosing es
values_fit at free inner enclosing es fresh part f = record {
  valid = subst (λ vararg. AreValid vararg es) (sym (part.vararg ∙ fresh.vararg)) f.valid;
  deep = let d = f.deep in let x = part.depth in let y = fresh.depth in omega (arith, d, x, y);
  low = let h = low_list at.vararg es f.valid in let x = part.room in let y = fresh.room in omega (arith, h, x, y);
  resolvable = f.resolvable;
}

-- ---- blocks within others

pub block_deep : (b : Block) → 1 ≤ block_levels b
unfolding levels
block_deep (tree.statements ss) = omega arith
block_deep (tree.with_last ss s e) = omega arith

pub scoped_fits : (at inner : Nesting) (enclosing : List Frame) (b : Block) → IsWithin at inner → FitsScoped at enclosing b → FitsBlock inner enclosing b
scoped_fits at inner enclosing b part f = record {
  valid = subst (λ l. IsValidBlock inner.vararg l b) (sym part.in_loop) (subst (λ vararg. IsValidBlock vararg at.in_loop b) (sym part.vararg) f.valid);
  deep = let d = f.deep in let x = part.depth in omega (arith, d, x);
  resolvable = f.resolvable;
}

-- ---- the parts of a block

pub stats_fit : (at : Nesting) (enclosing : List Frame) (ss : Stats) → FitsBlock at enclosing (tree.statements ss) → FitsStats at enclosing ss
unfolding levels IsValid Resolves
stats_fit at enclosing ss f =
    let r = f.resolvable in
    record {
      valid = f.valid;
      deep = let d = f.deep in omega (arith, d);
      resolvable = record { before = r.before; out = r.out; after = r.after; same = r.same; resolved = r.resolved; few = r.few };
    }

pub stats_before_last_fit : (at : Nesting) (enclosing : List Frame) (ss : Stats) (s : LastStat) (x : End) → FitsBlock at enclosing (tree.with_last ss s x) → FitsStats at enclosing ss
unfolding levels IsValid Resolves
stats_before_last_fit at enclosing ss s x f =
    let r = f.resolvable in
    let (before, last, m, p, q, i) = r.resolved in
    record {
      valid = f.valid.0;
      deep = let d = f.deep in omega (arith, d);
      resolvable = record { before = r.before; out = before; after = m; same = r.same; resolved = p; few = few_before_it (last_keeps s m last r.after q) r.few };
    }

pub last_fits : (at : Nesting) (enclosing : List Frame) (ss : Stats) (st : LastStat) (x : End) (s m : Scope) (out : List Stmt) → FitsBlock at enclosing (tree.with_last ss st x) →
    s.enclosing ≡ enclosing → ResolvesStats ss s out m → FitsLast at m.enclosing st
unfolding levels IsValid Resolves
last_fits at enclosing ss st x s m out f here resolved =
    let r = f.resolvable in
    let (before, last, k, p, q, i) = r.resolved in
    let same : k.enclosing ≡ m.enclosing = (stats_alike ss r.before s before out k m p resolved (record { enclosing = r.same ∙ sym here })).enclosing in
    record {
      valid = f.valid.1;
      deep = let d = f.deep in omega (arith, d);
      resolvable = record { before = k; out = last; after = r.after; same = same; resolved = q; few = r.few };
    }

earlier_stats_fit : (at : Nesting) (enclosing : List Frame) (ss : Stats) (s : Stat) (x : End) → FitsStats at enclosing (tree.more_stats ss s x) → FitsStats at enclosing ss
unfolding levels IsValid Resolves
earlier_stats_fit at enclosing ss s x f =
    let r = f.resolvable in
    let (before, last, m, p, q, i) = r.resolved in
    record {
      valid = f.valid.0;
      deep = let d = f.deep in omega (arith, d);
      resolvable = record { before = r.before; out = before; after = m; same = r.same; resolved = p; few = few_before (stat_goes s m last r.after q) r.few };
    }

pub first_stats_fit : (at : Nesting) (enclosing : List Frame) (first whole : Stats) → StatsFrom first whole → FitsStats at enclosing whole → FitsStats at enclosing first
first_stats_fit at enclosing first whole StatsFrom.alone f = f
first_stats_fit at enclosing first whole (StatsFrom.more ss s x from) f = first_stats_fit at enclosing first ss from (earlier_stats_fit at enclosing ss s x f)

pub stat_fits : (at : Nesting) (enclosing : List Frame) (ss : Stats) (st : Stat) (x : End) (s m : Scope) (out : List Stmt) → FitsStats at enclosing (tree.more_stats ss st x) →
    s.enclosing ≡ enclosing → ResolvesStats ss s out m → FitsStat at m.enclosing st
unfolding levels IsValid Resolves
stat_fits at enclosing ss st x s m out f here resolved =
    let r = f.resolvable in
    let (before, last, k, p, q, i) = r.resolved in
    let same : k.enclosing ≡ m.enclosing = (stats_alike ss r.before s before out k m p resolved (record { enclosing = r.same ∙ sym here })).enclosing in
    record {
      valid = f.valid.1;
      deep = let d = f.deep in omega (arith, d);
      resolvable = record { before = k; out = last; after = r.after; same = same; resolved = q; few = r.few };
    }

-- ---- the last statement

pub returned_fit : (at : Nesting) (enclosing : List Frame) (l : Line) (es : ExpList) → FitsLast at enclosing (tree.return_values l es) → FitsValues at enclosing es
unfolding levels IsValid Resolves
returned_fit at enclosing l es f =
    let r = f.resolvable in
    let (values, p, i) = r.resolved in
    record {
      valid = f.valid;
      deep = f.deep;
      resolvable = record { before = r.before; out = values.value.items; after = r.after; same = r.same; resolved = p; few = r.few };
    }

pub break_inside : (at : Nesting) (enclosing : List Frame) (l : Line) → FitsLast at enclosing (tree.break_ l) → at.in_loop ≡ true
unfolding IsValid
break_inside at enclosing l f = f.valid

-- ---- the arms of an `if`

pub test_fits : (at : Nesting) (enclosing : List Frame) (i : Line) (t : Exp) (h : Line) (b : Block) → FitsArms at enclosing (tree.if_arm i t h b) → FitsValue at enclosing t
unfolding levels IsValid Resolves
test_fits at enclosing i t h b f =
    let r = f.resolvable in
    let (arm, m, k, p, q, u, j) = r.resolved in
    record {
      valid = f.valid.0;
      deep = let d = f.deep in omega (arith, d);
      resolvable = record {
        before = r.before;
        out = (out-Arm arm).test;
        after = m;
        same = r.same;
        resolved = p;
        few = few_before (and_goes (block_goes b m (out-Arm arm).body.value.items k q) (leave_goes m k u)) r.few;
      };
    }

pub arm_block_fits : (at : Nesting) (enclosing : List Frame) (i : Line) (t : Exp) (h : Line) (b : Block) (s n : Scope) (e : Expr) → FitsArms at enclosing (tree.if_arm i t h b) →
    s.enclosing ≡ enclosing → Resolves t s e n → FitsScoped at n.enclosing b
unfolding levels IsValid Resolves
arm_block_fits at enclosing i t h b s n e f here resolved =
    let r = f.resolvable in
    let (arm, m, k, p, q, u, j) = r.resolved in
    let same : m.enclosing ≡ n.enclosing = (exp_alike t r.before s (out-Arm arm).test e m n p resolved (record { enclosing = r.same ∙ sym here })).enclosing in
    record {
      valid = f.valid.1;
      deep = let d = f.deep in omega (arith, d);
      resolvable = record { before = m; out = (out-Arm arm).body.value.items; after = k; same = same; resolved = q; few = few_before (leave_goes m k u) r.few };
    }

-- on which line the `if` stands doesn't matter
pub arm_fits : (at : Nesting) (enclosing : List Frame) (i l : Line) (t : Exp) (h : Line) (b : Block) → FitsArms at enclosing (tree.if_arm i t h b) → FitsArms at enclosing (tree.if_arm l t h b)
unfolding levels IsValid Resolves
arm_fits at enclosing i l t h b f =
    let r = f.resolvable in
    record {
      valid = f.valid;
      deep = f.deep;
      resolvable = record { before = r.before; out = r.out; after = r.after; same = r.same; resolved = r.resolved; few = r.few };
    }

earlier_arms_fit : (at : Nesting) (enclosing : List Frame) (those : Arms) (i : Line) (t : Exp) (h : Line) (b : Block) → FitsArms at enclosing (tree.elseif_arm those i t h b) →
    FitsArms at enclosing those
unfolding levels IsValid Resolves
earlier_arms_fit at enclosing those i t h b f =
    let r = f.resolvable in
    let (before, arm, g, m, k, v, p, q, u, j) = r.resolved in
    record {
      valid = f.valid.0;
      deep = let d = f.deep in omega (arith, d);
      resolvable = record {
        before = r.before;
        out = before;
        after = g;
        same = r.same;
        resolved = v;
        few = few_before (and_goes (goes (exp_keeps t g (out-Arm arm).test m p)) (and_goes (block_goes b m (out-Arm arm).body.value.items k q) (leave_goes m k u))) r.few;
      };
    }

pub first_arms_fit : (at : Nesting) (enclosing : List Frame) (first whole : Arms) → ArmsFrom first whole → FitsArms at enclosing whole → FitsArms at enclosing first
first_arms_fit at enclosing first whole ArmsFrom.alone f = f
first_arms_fit at enclosing first whole (ArmsFrom.more those i t h b from) f = first_arms_fit at enclosing first those from (earlier_arms_fit at enclosing those i t h b f)

pub next_arm_fits : (at : Nesting) (enclosing : List Frame) (those : Arms) (i l : Line) (t : Exp) (h : Line) (b : Block) (s n : Scope) (out : List Arm) →
    FitsArms at enclosing (tree.elseif_arm those i t h b) → s.enclosing ≡ enclosing → ResolvesArms those s out n → FitsArms at n.enclosing (tree.if_arm l t h b)
unfolding levels IsValid Resolves
next_arm_fits at enclosing those i l t h b s n out f here resolved =
    let r = f.resolvable in
    let (before, arm, g, m, k, v, p, q, u, j) = r.resolved in
    let same : g.enclosing ≡ n.enclosing = (arms_alike those r.before s before out g n v resolved (record { enclosing = r.same ∙ sym here })).enclosing in
    record {
      valid = (f.valid.1, f.valid.2);
      deep = let d = f.deep in omega (arith, d);
      resolvable = record { before = g; out = arm ∷ []; after = r.after; same = same; resolved = (arm, m, k, p, q, u, refl); few = r.few };
    }

pub arms_fit : (at : Nesting) (enclosing : List Frame) (those : Arms) (e : Line) → FitsStat at enclosing (tree.if_then those e) → FitsArms at enclosing those
unfolding levels IsValid Resolves
arms_fit at enclosing those e f =
    let r = f.resolvable in
    let (list, otherwise, p, n, i) = r.resolved in
    record {
      valid = f.valid;
      deep = f.deep;
      resolvable = record { before = r.before; out = list.value.items; after = r.after; same = r.same; resolved = p; few = r.few };
    }

pub arms_before_else_fit : (at : Nesting) (enclosing : List Frame) (those : Arms) (l : Line) (b : Block) (e : Line) → FitsStat at enclosing (tree.if_else those l b e) → FitsArms at enclosing those
unfolding levels IsValid Resolves
arms_before_else_fit at enclosing those l b e f =
    let r = f.resolvable in
    let (list, otherwise, m, k, p, q, u, i) = r.resolved in
    record {
      valid = f.valid.0;
      deep = let d = f.deep in omega (arith, d);
      resolvable = record {
        before = r.before;
        out = list.value.items;
        after = m;
        same = r.same;
        resolved = p;
        few = few_before (and_goes (block_goes b m otherwise.value.items k q) (leave_goes m k u)) r.few;
      };
    }

pub else_fits : (at : Nesting) (enclosing : List Frame) (those : Arms) (l : Line) (b : Block) (e : Line) (s n : Scope) (out : List Arm) → FitsStat at enclosing (tree.if_else those l b e) →
    s.enclosing ≡ enclosing → ResolvesArms those s out n → FitsScoped at n.enclosing b
unfolding levels IsValid Resolves
else_fits at enclosing those l b e s n out f here resolved =
    let r = f.resolvable in
    let (list, otherwise, m, k, p, q, u, i) = r.resolved in
    let same : m.enclosing ≡ n.enclosing = (arms_alike those r.before s list.value.items out m n p resolved (record { enclosing = r.same ∙ sym here })).enclosing in
    record {
      valid = f.valid.1;
      deep = let d = f.deep in omega (arith, d);
      resolvable = record { before = m; out = otherwise.value.items; after = k; same = same; resolved = q; few = few_before (leave_goes m k u) r.few };
    }

-- ---- `do`, `while` and `repeat`

pub do_fits : (at : Nesting) (enclosing : List Frame) (d : Line) (b : Block) (e : Line) → FitsStat at enclosing (tree.do_block d b e) → FitsScoped at enclosing b
unfolding levels IsValid Resolves
do_fits at enclosing d b e f =
    let r = f.resolvable in
    let (body, m, p, u, i) = r.resolved in
    record {
      valid = f.valid;
      deep = f.deep;
      resolvable = record { before = r.before; out = body.value.items; after = m; same = r.same; resolved = p; few = few_before (leave_goes r.before m u) r.few };
    }

pub while_test_fits : (at : Nesting) (enclosing : List Frame) (w : Line) (t : Exp) (d : Line) (b : Block) (e : Line) → FitsStat at enclosing (tree.while_loop w t d b e) → FitsValue at enclosing t
unfolding levels IsValid Resolves
while_test_fits at enclosing w t d b e f =
    let r = f.resolvable in
    let (test, run, m, k, p, q, u, i) = r.resolved in
    record {
      valid = f.valid.0;
      deep = let d = f.deep in omega (arith, d);
      resolvable = record {
        before = r.before;
        out = test.value;
        after = m;
        same = r.same;
        resolved = p;
        few = few_before (and_goes (block_goes b m run.value.items k q) (leave_goes m k u)) r.few;
      };
    }

pub while_block_fits : (at loop : Nesting) (enclosing : List Frame) (w : Line) (t : Exp) (d : Line) (b : Block) (e : Line) (s n : Scope) (x : Expr) → IsLooped at loop →
    FitsStat at enclosing (tree.while_loop w t d b e) → s.enclosing ≡ enclosing → Resolves t s x n → FitsScoped loop n.enclosing b
unfolding levels IsValid Resolves
while_block_fits at loop enclosing w t d b e s n x looped f here resolved =
    let r = f.resolvable in
    let (test, run, m, k, p, q, u, i) = r.resolved in
    let same : m.enclosing ≡ n.enclosing = (exp_alike t r.before s test.value x m n p resolved (record { enclosing = r.same ∙ sym here })).enclosing in
    record {
      valid = subst (λ l. IsValidBlock loop.vararg l b) (sym looped.in_loop) (subst (λ vararg. IsValidBlock vararg true b) (sym looped.vararg) f.valid.1);
      deep = let d = f.deep in let y = looped.depth in omega (arith, d, y);
      resolvable = record { before = m; out = run.value.items; after = k; same = same; resolved = q; few = few_before (leave_goes m k u) r.few };
    }

pub repeat_block_fits : (at loop inner : Nesting) (enclosing : List Frame) (l : Line) (b : Block) (u : Line) (t : Exp) → IsLooped at loop → IsWithin loop inner →
    FitsStat at enclosing (tree.repeat_loop l b u t) → FitsBlock inner enclosing b
unfolding levels IsValid Resolves
repeat_block_fits at loop inner enclosing l b u t looped part f =
    let r = f.resolvable in
    let (test, run, m, k, p, q, z, i) = r.resolved in
    record {
      valid = subst (λ l. IsValidBlock inner.vararg l b) (sym (part.in_loop ∙ looped.in_loop)) (subst (λ vararg. IsValidBlock vararg true b) (sym (part.vararg ∙ looped.vararg)) f.valid.0);
      deep = let d = f.deep in let x = part.depth in let y = looped.depth in omega (arith, d, x, y);
      resolvable = record {
        before = r.before;
        out = run.value.items;
        after = m;
        same = r.same;
        resolved = p;
        few = few_before (and_goes (goes (exp_keeps t m test.value k q)) (leave_goes r.before k z)) r.few;
      };
    }

pub repeat_test_fits : (at : Nesting) (enclosing : List Frame) (l : Line) (b : Block) (u : Line) (t : Exp) (s n : Scope) (out : List Stmt) → FitsStat at enclosing (tree.repeat_loop l b u t) →
    s.enclosing ≡ enclosing → Opens b s out n → FitsValue at n.enclosing t
unfolding levels IsValid Resolves
repeat_test_fits at enclosing l b u t s n out f here resolved =
    let r = f.resolvable in
    let (test, run, m, k, p, q, z, i) = r.resolved in
    let same : m.enclosing ≡ n.enclosing = (block_alike b r.before s run.value.items out m n p resolved (record { enclosing = r.same ∙ sym here })).enclosing in
    record {
      valid = f.valid.1;
      deep = let d = f.deep in omega (arith, d);
      resolvable = record { before = m; out = test.value; after = k; same = same; resolved = q; few = few_before (leave_goes r.before k z) r.few };
    }

pub deep_repeat : (at : Nesting) (enclosing : List Frame) (l : Line) (b : Block) (u : Line) (t : Exp) → 200 ≤ at.depth → FitsStat at enclosing (tree.repeat_loop l b u t) → ⊥
unfolding levels
deep_repeat at enclosing l b u t full f = let d = f.deep in let n = block_deep b in omega (arith, d, n, full)
