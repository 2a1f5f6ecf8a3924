-- The parts of a loop with variables that fits, fit: its values, and its block where the variables are declared.
use Rattle.std.proofs.Common.{◌≡◌, ◌≤◌, ◌<◌, ◌+◌, List, [], ◌∷◌, length, true, refl, sym, ap, subst, arith, ◌∙◌}
use Rattle.std.specs.List.{AllZip}
use Rattle.lua_ast.specs.declared.expressions.Expr.{Expr}
use Rattle.lua_ast.specs.declared.statements.Stmt.{Stmt}
use Rattle.lua_grammar.specs.Tree.{Line, Bytes, NameList, Exp, ExpList, Block, Stat}
use Rattle.lua_grammar.specs.Tree as tree
use Rattle.lua_grammar.specs.Levels.{levels, block_levels}
use Rattle.lua_grammar.specs.Limits.{Few}
use Rattle.lua_grammar.specs.Validity.{IsValid, IsValidBlock}
use Rattle.lua_grammar.specs.Scopes.{Frame, Scope, count_in, declare, declare_in, leave}
use Rattle.lua_grammar.specs.Resolution.{Resolves, ResolvesList, Opens, names_of}
use Rattle.lua_grammar.proofs.SameFrames.{exp_alike, list_alike}
use Rattle.lua_grammar.proofs.Frames.{Steady, and_goes, and_keeps, declare_goes, leave_goes, stays}
use Rattle.lua_grammar.proofs.Few.{few_before, few_before_it}
use Rattle.lua_grammar.proofs.Growing.{exp_keeps, list_keeps, block_goes}
use Rattle.lua_parser_base.specs.declared.nesting.Nesting.{Nesting}
use Rattle.lua_parser_base.specs.Nesting.{IsLooped, IsWithin}
use Rattle.lua_parser_base.specs.Fits.{FitsValue, FitsValues, FitsBlock, FitsLoop, FitsStat}

-- the scopes before and after the values of a loop that is within the limits, and in its block
loop_few : (names : List Bytes) (m k t : Scope) (b : Block) (out : List Stmt) → Opens b (declare names m) out k → t ≡ leave m k → Few t.enclosing → Few (declare_in names m.enclosing)
loop_few names m k t b out opens left few = few_before (and_goes (block_goes b (declare names m) out k opens) (leave_goes m k left)) few

before_loop : (names : List Bytes) (m : Scope) → Few (declare_in names m.enclosing) → Few m.enclosing
before_loop names m few = few_before (declare_goes names m) few

value_fits : (at : Nesting) (e : Exp) (s : Scope) (x : Expr) (t : Scope) (enclosing : List Frame) → IsValid at.vararg e → at.depth + levels e ≤ 200 → s.enclosing ≡ enclosing → Resolves e s x t →
    Few t.enclosing → FitsValue at enclosing e
value_fits at e s x t enclosing valid deep same resolved few = record {
  valid = valid;
  deep = deep;
  resolvable = record { before = s; out = x; after = t; same = same; resolved = resolved; few = few };
}

loop_fits : (at : Nesting) (names : List Bytes) (b : Block) (m k t : Scope) (out : List Stmt) (enclosing : List Frame) → IsValidBlock at.vararg true b → at.depth + block_levels b ≤ 200 →
    m.enclosing ≡ enclosing → Opens b (declare names m) out k → t ≡ leave m k → Few t.enclosing → FitsLoop at names enclosing b
loop_fits at names b m k t out enclosing valid deep same opens left few = record {
  valid = valid;
  deep = deep;
  resolvable = record { before = declare names m; out = out; after = k; same = ap (declare_in names) same; resolved = opens; few = few_before (leave_goes m k left) few };
}

-- ---- `for name = from, to do block end`

pub range_from : (at : Nesting) (enclosing : List Frame) (f l : Line) (n : Bytes) (q : Line) (a : Exp) (c : Line) (b : Exp) (d : Line) (body : Block) (e : Line) →
    FitsStat at enclosing (tree.for_range f l n q a c b d body e) → FitsValue at enclosing a
unfolding levels IsValid Resolves
range_from at enclosing f l n q a c b d body e w =
    let (from, to, run, h, m, k, p, r, o, u, i) = w.resolvable.resolved in
    let few = before_loop (n ∷ []) m (loop_few (n ∷ []) m k w.resolvable.after body run.value.items o u w.resolvable.few) in
    value_fits at a w.resolvable.before from.value h enclosing w.valid.0 (let x = w.deep in omega (arith, x)) w.resolvable.same p (few_before_it (exp_keeps b h to.value m r) few)

pub range_to : (at : Nesting) (enclosing : List Frame) (f l : Line) (n : Bytes) (q : Line) (a : Exp) (c : Line) (b : Exp) (d : Line) (body : Block) (e : Line) (s g : Scope) (x : Expr) →
    s.enclosing ≡ enclosing → Resolves a s x g → FitsStat at enclosing (tree.for_range f l n q a c b d body e) → FitsValue at g.enclosing b
unfolding levels IsValid Resolves
range_to at enclosing f l n q a c b d body e s g x here first w =
    let (from, to, run, h, m, k, p, r, o, u, i) = w.resolvable.resolved in
    let few = before_loop (n ∷ []) m (loop_few (n ∷ []) m k w.resolvable.after body run.value.items o u w.resolvable.few) in
    let one = exp_alike a w.resolvable.before s from.value x h g p first (record { enclosing = w.resolvable.same ∙ sym here }) in
    value_fits at b h to.value m g.enclosing w.valid.1 (let x = w.deep in omega (arith, x)) one.enclosing r few

pub range_block : (at : Nesting) (enclosing : List Frame) (f l : Line) (n : Bytes) (q : Line) (a : Exp) (c : Line) (b : Exp) (d : Line) (body : Block) (e : Line) (s g j : Scope) (x y : Expr) →
    s.enclosing ≡ enclosing → Resolves a s x g → Resolves b g y j → FitsStat at enclosing (tree.for_range f l n q a c b d body e) → FitsLoop at (n ∷ []) j.enclosing body
unfolding levels IsValid Resolves
range_block at enclosing f l n q a c b d body e s g j x y here first second w =
    let (from, to, run, h, m, k, p, r, o, u, i) = w.resolvable.resolved in
    let one = exp_alike a w.resolvable.before s from.value x h g p first (record { enclosing = w.resolvable.same ∙ sym here }) in
    let two = exp_alike b h g to.value y m j r second one in
    loop_fits at (n ∷ []) body m k w.resolvable.after run.value.items j.enclosing w.valid.2 (let x = w.deep in omega (arith, x)) two.enclosing o u w.resolvable.few

-- ---- `for name = from, to, step do block end`

pub steps_from : (at : Nesting) (enclosing : List Frame) (f l : Line) (n : Bytes) (q : Line) (a : Exp) (c : Line) (b : Exp) (z : Line) (v : Exp) (d : Line) (body : Block) (e : Line) →
    FitsStat at enclosing (tree.for_steps f l n q a c b z v d body e) → FitsValue at enclosing a
unfolding levels IsValid Resolves
steps_from at enclosing f l n q a c b z v d body e w =
    let (from, to, step, run, g, h, m, k, p, r, t, o, u, i) = w.resolvable.resolved in
    let few = before_loop (n ∷ []) m (loop_few (n ∷ []) m k w.resolvable.after body run.value.items o u w.resolvable.few) in
    value_fits at a w.resolvable.before from.value g enclosing w.valid.0 (let x = w.deep in omega (arith, x)) w.resolvable.same p
    (few_before_it (and_keeps (exp_keeps b g to.value h r) (exp_keeps v h step.value m t)) few)

pub steps_to : (at : Nesting) (enclosing : List Frame) (f l : Line) (n : Bytes) (q : Line) (a : Exp) (c : Line) (b : Exp) (z : Line) (v : Exp) (d : Line) (body : Block) (e : Line) (s j : Scope) (x : Expr) →
    s.enclosing ≡ enclosing → Resolves a s x j → FitsStat at enclosing (tree.for_steps f l n q a c b z v d body e) → FitsValue at j.enclosing b
unfolding levels IsValid Resolves
steps_to at enclosing f l n q a c b z v d body e s j x here first w =
    let (from, to, step, run, g, h, m, k, p, r, t, o, u, i) = w.resolvable.resolved in
    let few = before_loop (n ∷ []) m (loop_few (n ∷ []) m k w.resolvable.after body run.value.items o u w.resolvable.few) in
    let one = exp_alike a w.resolvable.before s from.value x g j p first (record { enclosing = w.resolvable.same ∙ sym here }) in
    value_fits at b g to.value h j.enclosing w.valid.1 (let x = w.deep in omega (arith, x)) one.enclosing r (few_before_it (exp_keeps v h step.value m t) few)

pub steps_step : (at : Nesting) (enclosing : List Frame) (f l : Line) (n : Bytes) (q : Line) (a : Exp) (c : Line) (b : Exp) (z : Line) (v : Exp) (d : Line) (body : Block) (e : Line) (s i j : Scope) (x y : Expr) →
    s.enclosing ≡ enclosing → Resolves a s x i → Resolves b i y j → FitsStat at enclosing (tree.for_steps f l n q a c b z v d body e) → FitsValue at j.enclosing v
unfolding levels IsValid Resolves
steps_step at enclosing f l n q a c b z v d body e s i j x y here first second w =
    let (from, to, step, run, g, h, m, k, p, r, t, o, u, is) = w.resolvable.resolved in
    let few = before_loop (n ∷ []) m (loop_few (n ∷ []) m k w.resolvable.after body run.value.items o u w.resolvable.few) in
    let one = exp_alike a w.resolvable.before s from.value x g i p first (record { enclosing = w.resolvable.same ∙ sym here }) in
    let two = exp_alike b g i to.value y h j r second one in
    value_fits at v h step.value m j.enclosing w.valid.2 (let x = w.deep in omega (arith, x)) two.enclosing t few

pub steps_block : (at : Nesting) (enclosing : List Frame) (f l : Line) (n : Bytes) (q : Line) (a : Exp) (c : Line) (b : Exp) (z : Line) (v : Exp) (d : Line) (body : Block) (e : Line) (s i j y : Scope) (x x' x'' : Expr) →
    s.enclosing ≡ enclosing → Resolves a s x i → Resolves b i x' j → Resolves v j x'' y → FitsStat at enclosing (tree.for_steps f l n q a c b z v d body e) → FitsLoop at (n ∷ []) y.enclosing body
unfolding levels IsValid Resolves
steps_block at enclosing f l n q a c b z v d body e s i j y x x' x'' here first second third w =
    let (from, to, step, run, g, h, m, k, p, r, t, o, u, is) = w.resolvable.resolved in
    let one = exp_alike a w.resolvable.before s from.value x g i p first (record { enclosing = w.resolvable.same ∙ sym here }) in
    let two = exp_alike b g i to.value x' h j r second one in
    let three = exp_alike v h j step.value x'' m y t third two in
    loop_fits at (n ∷ []) body m k w.resolvable.after run.value.items y.enclosing w.valid.3 (let x = w.deep in omega (arith, x)) three.enclosing o u w.resolvable.few

-- ---- `for names in values do block end`

pub list_values : (at : Nesting) (enclosing : List Frame) (f : Line) (ns : NameList) (i : Line) (es : ExpList) (d : Line) (body : Block) (e : Line) →
    FitsStat at enclosing (tree.for_in f ns i es d body e) → FitsValues at enclosing es
unfolding levels IsValid Resolves
list_values at enclosing f ns i es d body e w =
    let (slots, values, run, m, k, p, j, o, u, is) = w.resolvable.resolved in
    let few = before_loop (names_of ns) m (loop_few (names_of ns) m k w.resolvable.after body run.value.items o u w.resolvable.few) in
    record {
      valid = w.valid.0;
      deep = let x = w.deep in omega (arith, x);
      resolvable = record { before = w.resolvable.before; out = values.value.items; after = m; same = w.resolvable.same; resolved = p; few = few };
    }

pub list_block : (at : Nesting) (enclosing : List Frame) (f : Line) (ns : NameList) (i : Line) (es : ExpList) (d : Line) (body : Block) (e : Line) (s g : Scope) (xs : List Expr) →
    s.enclosing ≡ enclosing → ResolvesList es s xs g → FitsStat at enclosing (tree.for_in f ns i es d body e) → FitsLoop at (names_of ns) g.enclosing body
unfolding levels IsValid Resolves
list_block at enclosing f ns i es d body e s g xs here first w =
    let (slots, values, run, m, k, p, j, o, u, is) = w.resolvable.resolved in
    let one = list_alike es w.resolvable.before s values.value.items xs m g p first (record { enclosing = w.resolvable.same ∙ sym here }) in
    loop_fits at (names_of ns) body m k w.resolvable.after run.value.items g.enclosing w.valid.1 (let x = w.deep in omega (arith, x)) one.enclosing o u w.resolvable.few

-- ---- the block

pub loop_block_fits : (at loop inner : Nesting) (names : List Bytes) (enclosing : List Frame) (b : Block) → IsLooped at loop → IsWithin loop inner → FitsLoop at names enclosing b →
    FitsBlock inner (declare_in names enclosing) b
loop_block_fits at loop inner names enclosing b looped part f = record {
  valid = subst (λ l. IsValidBlock inner.vararg l b) (sym (part.in_loop ∙ looped.in_loop)) (subst (λ vararg. IsValidBlock vararg true b) (sym (part.vararg ∙ looped.vararg)) f.valid);
  deep = let d = f.deep in let e = part.depth in let g = looped.depth in omega (arith, d, e, g);
  resolvable = f.resolvable;
}

block_deep : (b : Block) → 1 ≤ block_levels b
unfolding levels
block_deep (tree.statements ss) = omega arith
block_deep (tree.with_last ss s e) = omega arith

pub deep_loop : (at loop : Nesting) (names : List Bytes) (enclosing : List Frame) (b : Block) → IsLooped at loop → 200 ≤ loop.depth → FitsLoop at names enclosing b → ⊥
deep_loop at loop names enclosing b looped full f = let d = f.deep in let e = block_deep b in let g = looped.depth in omega (arith, d, e, g, full)

-- ---- no more names than may be declared

few_names : (names : List Bytes) (fs gs : List Frame) (f : Frame) (others : List Frame) → fs ≡ f ∷ others → AllZip Steady fs gs → Few (declare_in names gs) → count_in fs + length names ≤ 200
unfolding Few
few_names names [] gs f others is p few = cc
few_names names (f ∷ fs) [] g others is p few = absurd p
few_names names (f ∷ fs) (g ∷ gs) h others is p few =
    let same : length g.locals ≡ length f.locals = ap length p.0.locals in
    let slots = few.0.locals in
    omega (arith, same, slots)

steady_still : (fs : List Frame) → AllZip Steady fs fs
steady_still fs = (stays {s = record { functions = []; enclosing = fs }} refl).frames

-- where the block of a loop would have too many locals
pub crowded_block : (at : Nesting) (names : List Bytes) (enclosing : List Frame) (f : Frame) (others : List Frame) (b : Block) → enclosing ≡ f ∷ others →
    200 < count_in enclosing + length names → FitsLoop at names enclosing b → ⊥
crowded_block at names enclosing f others b is crowded fits =
    let r = fits.resolvable in
    let few : Few (declare_in names enclosing) = subst Few r.same (few_before (block_goes b r.before r.out r.after r.resolved) r.few) in
    let few_all = few_names names enclosing enclosing f others is (steady_still enclosing) few in
    omega (arith, crowded, few_all)

-- the loops with those variables
abbrev pub IsLoopOf : NameList → Stat → Type 0
IsLoopOf ns (tree.for_range f l n q a c b d body e) = ns ≡ tree.first_name l n
IsLoopOf ns (tree.for_steps f l n q a c b z v d body e) = ns ≡ tree.first_name l n
IsLoopOf ns (tree.for_in f those i es d body e) = ns ≡ those
IsLoopOf ns other = ⊥

pub crowded_loop : (at : Nesting) (ns : NameList) (enclosing : List Frame) (f : Frame) (others : List Frame) (s : Stat) → IsLoopOf ns s → enclosing ≡ f ∷ others →
    200 < count_in enclosing + length (names_of ns) → FitsStat at enclosing s → ⊥
unfolding Resolves
crowded_loop at ns enclosing f others (tree.for_range g l n q a c b d body e) of is crowded w =
    let (from, to, run, h, m, k, p, r, o, u, i) = w.resolvable.resolved in
    let few = loop_few (n ∷ []) m k w.resolvable.after body run.value.items o u w.resolvable.few in
    let kept = (and_keeps (exp_keeps a w.resolvable.before from.value h p) (exp_keeps b h to.value m r)).frames in
    let all = few_names (n ∷ []) enclosing m.enclosing f others is (subst (λ z. AllZip Steady z m.enclosing) w.resolvable.same kept) few in
    let one : length (names_of ns) ≡ length (n ∷ []) = ap (λ z. length (names_of z)) of in
    omega (arith, crowded, all, one)
crowded_loop at ns enclosing f others (tree.for_steps x l n q a c b z v d body e) of is crowded w =
    let (from, to, step, run, g, h, m, k, p, r, t, o, u, i) = w.resolvable.resolved in
    let few = loop_few (n ∷ []) m k w.resolvable.after body run.value.items o u w.resolvable.few in
    let kept = (and_keeps (exp_keeps a w.resolvable.before from.value g p) (and_keeps (exp_keeps b g to.value h r) (exp_keeps v h step.value m t))).frames in
    let all = few_names (n ∷ []) enclosing m.enclosing f others is (subst (λ z. AllZip Steady z m.enclosing) w.resolvable.same kept) few in
    let one : length (names_of ns) ≡ length (n ∷ []) = ap (λ z. length (names_of z)) of in
    omega (arith, crowded, all, one)
crowded_loop at ns enclosing f others (tree.for_in x those i es d body e) of is crowded w =
    let (slots, values, run, m, k, p, j, o, u, built) = w.resolvable.resolved in
    let few = loop_few (names_of those) m k w.resolvable.after body run.value.items o u w.resolvable.few in
    let kept = (list_keeps es w.resolvable.before values.value.items m p).frames in
    let all = few_names (names_of those) enclosing m.enclosing f others is (subst (λ z. AllZip Steady z m.enclosing) w.resolvable.same kept) few in
    let one : length (names_of ns) ≡ length (names_of those) = ap (λ z. length (names_of z)) of in
    omega (arith, crowded, all, one)
crowded_loop at ns enclosing f others other of is crowded w = absurd of
