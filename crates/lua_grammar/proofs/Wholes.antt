-- What a part of a tree adds is whole in each program that has its functions at their places.
use Rattle.std.proofs.Common.{◌≡◌, ℕ, ◌+◌, ◌<◌, ◌≤◌, List, [], ◌∷◌, ◌++◌, length, slice_get, slice_set, All, IsSomeAnd, IfSome, Option, Some, None, refl, sym, ap, subst, append_assoc, append-nil, arith, ◌∙◌}
use Rattle.std.proofs.lemmas.List.{length-append, length-map}
use Rattle.std.proofs.lemmas.List.Elements.{All-nil, All-cons, All-append, All-map, All-weaker}
use Rattle.lua_ast.specs.declared.expressions.Expr.{Expr}
use Rattle.lua_ast.specs.declared.statements.Stmt.{Stmt}
use Rattle.lua_ast.specs.declared.programs.Capture.{Capture}
use Rattle.lua_ast.specs.declared.programs.Capture.TheVariants.{Slot, Outer}
use Rattle.lua_ast.specs.declared.programs.Function.{Function}
use Rattle.lua_ast.specs.WholeProgram.{HasVariable, HasInner, IsWholeExpr, IsWholeStmt}
use Rattle.lua_grammar.specs.Tree.{Line, Bytes}
use Rattle.lua_grammar.specs.Scopes.{Frame, Scope, look, declare, declare_in, leave, in_scope, count_in, enter, slots_from}
use Rattle.lua_grammar.specs.Resolution.{ResolvesName, EndsFunction, node, variable_kind}
use Rattle.lua_grammar.proofs.Frames.{Went, Goes, stays, goes, and_goes, name_keeps, declare_goes, leave_goes, inner_wider, ended_keeps}
use Rattle.lua_grammar.proofs.Agreeing.{placed}
use Rattle.lua_grammar.proofs.Fitting.{HasIn, Fits, look_fits, look_has, declared_fits, left_fits}

-- the function has at least the slots and the captures of the innermost one
unfoldable pub Covers : List Frame → Function → Type 0
Covers [] f = ⊥
Covers (g ∷ gs) f = (g.slots ≤ f.slots) × (length g.captures ≤ length f.captures.items)

-- the new functions stand in the list, after so many others
pub record Stands (count : ℕ) (new all : List Function) : Type 0 where
  pub before : List Function
  pub after : List Function
  pub is : all ≡ before ++ (new ++ after)
  pub counted : length before ≡ count

pub record IsWholeBody (all : List Function) (f : Function) : Type 0 where
  pub file : f.file ≡ 0
  pub params : f.params ≤ f.slots
  pub body : All (IsWholeStmt all f) f.body.value.items

-- from a scope to a scope: functions are added, whose bodies are whole, and `P` holds of what was read
pub record Whole (s t : Scope) (P : List Function → Function → Type 0) : Type 0 where
  pub new : List Function
  pub grows : t.functions ≡ s.functions ++ new
  pub moves : Goes s t
  pub fits : Fits t.enclosing
  pub bodies : (all : List Function) → Stands (length s.functions) new all → All (IsWholeBody all) new
  pub holds : (all : List Function) → Stands (length s.functions) new all → (f : Function) → Covers t.enclosing f → P all f

covers_none : (gs : List Frame) (f : Function) → Went [] gs → Covers gs f → ⊥
unfolding Covers Went
covers_none [] f p c = c
covers_none (g ∷ gs) f p c = p

covers_back : (fs gs : List Frame) (f : Function) → Went fs gs → Covers gs f → Covers fs f
unfolding Covers Went
covers_back (g ∷ gs) (h ∷ hs) f p c = let w = p.0.slots in let v = p.0.captures in (omega (arith, w, c), omega (arith, v, c))
covers_back [] gs f p c = absurd (covers_none gs f p c)
covers_back (g ∷ gs) [] f p c = absurd c

pub seen : {X : Type 0} (P : X → Type 0) {x y : X} → x ≡ y → P y → P x
seen P e h = subst P (sym e) h

-- ---- parts one after another

first_stands : (count : ℕ) (xs ys all : List Function) → Stands count (xs ++ ys) all → Stands count xs all
first_stands count xs ys all s = record {
  before = s.before;
  after = ys ++ s.after;
  is = s.is ∙ ap (λ zs. s.before ++ zs) (append_assoc xs ys s.after);
  counted = s.counted;
}

second_stands : (count : ℕ) (xs ys all old new : List Function) → length old ≡ count → new ≡ old ++ xs → Stands count (xs ++ ys) all → Stands (length new) ys all
second_stands count xs ys all old new c e s = record {
  before = s.before ++ xs;
  after = s.after;
  is = s.is ∙ (ap (λ zs. s.before ++ zs) (append_assoc xs ys s.after) ∙ sym (append_assoc s.before xs (ys ++ s.after)));
  counted =
      let p = length-append s.before xs in
      let q = ap length e ∙ length-append old xs in
      let d = s.counted in
      omega (arith, p, q, d, c);
}

pub also : {s m t : Scope} {P Q : List Function → Function → Type 0} → Whole s m P → (Fits m.enclosing → Whole m t Q) → Whole s t (λ all f. P all f × Q all f)
also {s = s} {m = m} {t = t} a go =
    let b = go a.fits in
    record {
      new = a.new ++ b.new;
      grows = b.grows ∙ (ap (λ fs. fs ++ b.new) a.grows ∙ append_assoc s.functions a.new b.new);
      moves = and_goes a.moves b.moves;
      fits = b.fits;
      bodies = λ all st. All-append (IsWholeBody all) a.new b.new (a.bodies all (first_stands _ a.new b.new all st))
          (b.bodies all (second_stands _ a.new b.new all s.functions m.functions refl a.grows st));
      holds = λ all st f c. (
        a.holds all (first_stands _ a.new b.new all st) f (covers_back m.enclosing t.enclosing f b.moves.frames c),
        b.holds all (second_stands _ a.new b.new all s.functions m.functions refl a.grows st) f c,
      );
    }

pub becomes : {s t : Scope} {P Q : List Function → Function → Type 0} → Whole s t P → ((all : List Function) (f : Function) → P all f → Q all f) → Whole s t Q
becomes a go = record {
  new = a.new;
  grows = a.grows;
  moves = a.moves;
  fits = a.fits;
  bodies = a.bodies;
  holds = λ all st f c. go all f (a.holds all st f c);
}

-- ---- parts without functions

quiet : {s t : Scope} {P : List Function → Function → Type 0} → t.functions ≡ s.functions → Goes s t → Fits t.enclosing →
    ((all : List Function) (f : Function) → Covers t.enclosing f → P all f) → Whole s t P
quiet {s = s} e moves fit h = record {
  new = [];
  grows = e ∙ sym (append-nil s.functions);
  moves = moves;
  fits = fit;
  bodies = λ all st. All-nil (IsWholeBody all);
  holds = λ all st f c. h all f c;
}

pub still : {s t : Scope} {P : List Function → Function → Type 0} → Fits s.enclosing → t ≡ s → ((all : List Function) (f : Function) → P all f) → Whole s t P
still fit e h = quiet (ap (λ z. z.functions) e) (goes (stays e)) (subst (λ z. Fits z.enclosing) (sym e) fit) (λ all f c. h all f)

pub leaves : {t : Scope} (k m : Scope) → t ≡ leave k m → Fits m.enclosing → Whole m t (λ all f. Unit {0})
leaves k m e fit =
    quiet (ap (λ z. z.functions) e) (leave_goes k m e) (subst (λ z. Fits z.enclosing) (sym e) (left_fits (in_scope k) m.enclosing fit)) (λ all f c. tt)

slots_below : (n top : ℕ) (names : List Bytes) → n + length names ≤ top → All (λ k. k < top) (slots_from n names)
unfolding slots_from
slots_below n top [] h = All-nil (λ k. k < top)
slots_below n top (name ∷ names) h = All-cons (λ k. k < top) n (slots_from (n + 1) names) (omega arith) (slots_below (n + 1) top names (omega arith))

declared_slots : (names : List Bytes) (fs : List Frame) (f : Function) → Covers (declare_in names fs) f → All (λ k. k < f.slots) (slots_from (count_in fs) names)
unfolding Covers
declared_slots names [] f c = absurd c
declared_slots names (g ∷ gs) f c = slots_below (length g.locals) f.slots names (let h = c.0 in omega (arith, h))

pub declares : (names : List Bytes) (m : Scope) → Fits m.enclosing → Whole m (declare names m) (λ all f. All (λ k. k < f.slots) (slots_from (in_scope m) names))
declares names m fit = quiet refl (declare_goes names m) (declared_fits names m.enclosing fit) (λ all f c. declared_slots names m.enclosing f c)

-- ---- names

variable_whole : (l : Line) (n : Bytes) (fs : List Frame) (found : Option Capture) (all : List Function) (f : Function) → IfSome found (HasIn fs) → Covers fs f →
    IsWholeExpr all f (node l (variable_kind n found))
unfolding HasIn Covers
variable_whole l n fs None all f h c = tt
variable_whole l n (g ∷ gs) (Some (Slot k)) all f h c = let w = c.0 in omega (arith, w, h)
variable_whole l n (g ∷ gs) (Some (Outer k)) all f h c = let w = c.1 in omega (arith, w, h)
variable_whole l n [] (Some v) all f h c = absurd c

pub name_whole : (l : Line) (n : Bytes) (s : Scope) (e : Expr) (t : Scope) → ResolvesName l n s e t → Fits s.enclosing → Whole s t (λ all f. IsWholeExpr all f e)
name_whole l n s e t r fit =
    quiet (ap (λ z. z.functions) r.scope) (goes (name_keeps r)) (subst (λ z. Fits z.enclosing) (sym r.scope) (look_fits n s.enclosing fit))
    (λ all f c. seen (IsWholeExpr all f) r.expr (variable_whole l n (look n s.enclosing).1 (look n s.enclosing).0 all f (look_has n s.enclosing fit)
    (subst (λ z. Covers z.enclosing f) r.scope c)))

-- ---- functions

there : (xs : List Function) (y : Function) (ys : List Function) → slice_get (xs ++ y ∷ ys) (length xs) ≡ Some y
there [] y ys = refl
there (x ∷ xs) y ys = there xs y ys

has_covered : (fs : List Frame) (f : Function) (variable : Capture) → Covers fs f → HasIn fs variable → HasVariable f variable
unfolding HasIn Covers
has_covered [] f variable c h = absurd c
has_covered (g ∷ gs) f (Slot n) c h = let w = c.0 in omega (arith, w, h)
has_covered (g ∷ gs) f (Outer n) c h = let w = c.1 in omega (arith, w, h)

-- the parts of what fits
frame_fits : (fs : List Frame) (f : Frame) (gs : List Frame) → fs ≡ f ∷ gs → Fits fs → All (λ c. HasIn gs c.variable) f.captures × Fits gs
unfolding Fits
frame_fits fs f gs e fit = let h = subst Fits e fit in (h.1, h.2)

frame_covered : (fs : List Frame) (f : Frame) (gs : List Frame) (g : Function) → fs ≡ f ∷ gs → f.slots ≤ g.slots → length f.captures ≤ length g.captures.items → Covers fs g
unfolding Covers
frame_covered fs f gs g e p q = seen (λ z. Covers z g) e (p, q)

inner_there : (count : ℕ) (f g : Function) (new all : List Function) → All (HasVariable f) g.captures.items → Stands count (g ∷ new) all → HasInner all f count
inner_there count f g new all h s =
    let there_is : slice_get all count ≡ Some g = ap (λ zs. slice_get zs count) s.is
    ∙ (ap (λ n. slice_get (s.before ++ (g ∷ new ++ s.after)) n) (sym s.counted) ∙ there s.before g (new ++ s.after)) in
    seen (λ z. IsSomeAnd z (λ inner. All (HasVariable f) inner.captures.items)) there_is h

same_count : (xs : List Function) (kept g : Function) (new all : List Function) → Stands (length (xs ++ g ∷ [])) new all → Stands (length (xs ++ kept ∷ [])) new all
same_count xs kept g new all s = subst (λ n. Stands n new all) (length-append xs (g ∷ []) ∙ sym (length-append xs (kept ∷ []))) s

pub ended_whole : (line : Line) (names : List Bytes) (rest : _) (kept : Function) (out : List Stmt) (s m t : Scope) →
    Whole (enter names kept s) m (λ all f. All (IsWholeStmt all f) out) → EndsFunction line names rest out s m t →
    Whole s t (λ all f. HasInner all f (length s.functions))
ended_whole line names rest kept out s m t a (g, frame, enclosing, top, is, ended) =
    let parts = frame_fits m.enclosing frame enclosing top a.fits in
    let wider = inner_wider (record { locals = names; captures = []; slots = length names }) s.enclosing frame enclosing m.enclosing top a.moves.frames in
    let slots : frame.slots ≤ g.slots = let e = is.slots in omega (arith, e) in
    let captures : length frame.captures ≤ length g.captures.items = let e = ap length is.captures ∙ length-map frame.captures (λ c. c.variable) in omega (arith, e) in
    let covered = frame_covered m.enclosing frame enclosing g top slots captures in
    let inside = λ (all : List Function) (st : Stands (length s.functions) (g ∷ a.new) all).
    second_stands (length s.functions) (g ∷ []) a.new all s.functions (s.functions ++ g ∷ []) refl refl st in
    record {
      new = g ∷ a.new;
      grows = ap (λ z. z.functions) ended ∙ (ap (λ fs. slice_set fs (length s.functions) g) a.grows ∙ placed s.functions a.new kept g);
      moves = goes (ended_keeps line names rest kept out s m t a.moves (g, frame, enclosing, top, is, ended));
      fits = subst (λ z. Fits z.enclosing) (sym ended) parts.1;
      bodies = λ all st. All-cons (IsWholeBody all) g a.new (record {
        file = is.file;
        params = let p = is.params in let q = is.slots in let w = wider.slots in omega (arith, p, q, w);
        body = seen (All (IsWholeStmt all g)) is.body (a.holds all (same_count s.functions kept g a.new all (inside all st)) g covered);
      }) (a.bodies all (same_count s.functions kept g a.new all (inside all st)));
      holds = λ all st f c. inner_there (length s.functions) f g a.new all
          (seen (All (HasVariable f)) is.captures (All-map (HasVariable f) (λ z. z.variable) frame.captures
          (All-weaker (λ z. HasIn enclosing z.variable) (λ z. HasVariable f z.variable) (λ z h. has_covered enclosing f z.variable (subst (λ z. Covers z.enclosing f) ended c) h)
          frame.captures parts.0))) st;
    }
