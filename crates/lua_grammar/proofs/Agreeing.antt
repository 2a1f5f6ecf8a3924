-- Two ways from scopes that are alike end in scopes that are alike, and what they add is the same.
use Rattle.std.proofs.Common.{◌≡◌, ℕ, List, [], ◌∷◌, ◌++◌, map, length, slice_set, sym, ap, subst₂, append_assoc, append-nil, arith, ◌∙◌}
use Rattle.std.specs.List.{AllZip}
use Rattle.std.proofs.lemmas.List.{length-append}
use Rattle.std.proofs.lemmas.List.Elements.{length_all_zip}
use Rattle.std.proofs.Math.Seq.{set-append_seam}
use Rattle.lua_ast.specs.declared.expressions.Expr.{Expr}
use Rattle.lua_ast.specs.declared.statements.Stmt.{Stmt}
use Rattle.lua_ast.specs.declared.programs.Function.{Function}
use Rattle.lua_ast.specs.SameProgram.{SameExpr, SameStmt, SameFunction}
use Rattle.lua_grammar.specs.Tree.{Bytes}
use Rattle.lua_grammar.specs.Scopes.{Frame, Scope, look, declare, leave, in_scope, count_in, enter, slots_from}
use Rattle.lua_grammar.specs.Resolution.{ResolvesName, IsFunction, EndsFunction, node, variable_kind}
use Rattle.lua_grammar.proofs.SameNodes.{zip_append, zip_none, variable_same}

-- the same frames, and as many functions
pub record Like (s s' : Scope) : Type 0 where
  pub enclosing : s.enclosing ≡ s'.enclosing
  pub count : length s.functions ≡ length s'.functions

-- from scopes to scopes: the functions that were added are the same, the frames are equal, and `A` holds of what was read
pub record Agree (s s' t t' : Scope) (A : Type 0) : Type 0 where
  pub new : List Function
  pub other : List Function
  pub grows : t.functions ≡ s.functions ++ new
  pub grows_too : t'.functions ≡ s'.functions ++ other
  pub same : AllZip SameFunction new other
  pub enclosing : t.enclosing ≡ t'.enclosing
  pub holds : A

pub told : {X : Type 0} (R : X → X → Type 0) {x y z w : X} → z ≡ x → w ≡ y → R x y → R z w
told R p q h = subst₂ R (sym p) (sym q) h

pub after : {s s' t t' : Scope} {A : Type 0} → Like s s' → Agree s s' t t' A → Like t t'
after {s = s} {s' = s'} {t = t} {t' = t'} like a = record {
  enclosing = a.enclosing;
  count =
      let e = length_all_zip SameFunction a.new a.other a.same in
      let p = ap length a.grows ∙ length-append s.functions a.new in
      let q = ap length a.grows_too ∙ length-append s'.functions a.other in
      let c = like.count in
      omega (arith, e, p, q, c);
}

-- nothing is added
pub still : {s s' t t' : Scope} {A : Type 0} → Like s s' → t ≡ s → t' ≡ s' → A → Agree s s' t t' A
still {s = s} {s' = s'} like p q h = record {
  new = [];
  other = [];
  grows = ap (λ z. z.functions) p ∙ sym (append-nil s.functions);
  grows_too = ap (λ z. z.functions) q ∙ sym (append-nil s'.functions);
  same = zip_none SameFunction;
  enclosing = ap (λ z. z.enclosing) p ∙ (like.enclosing ∙ sym (ap (λ z. z.enclosing) q));
  holds = h;
}

pub next : {s s' m m' t t' : Scope} {A B : Type 0} → Like s s' → Agree s s' m m' A → (Like m m' → A → Agree m m' t t' B) → Agree s s' t t' B
next {s = s} {s' = s'} like a go =
    let b = go (after like a) a.holds in
    record {
      new = a.new ++ b.new;
      other = a.other ++ b.other;
      grows = b.grows ∙ (ap (λ fs. fs ++ b.new) a.grows ∙ append_assoc s.functions a.new b.new);
      grows_too = b.grows_too ∙ (ap (λ fs. fs ++ b.other) a.grows_too ∙ append_assoc s'.functions a.other b.other);
      same = zip_append SameFunction a.new a.other b.new b.other a.same b.same;
      enclosing = b.enclosing;
      holds = b.holds;
    }

pub last : {s s' t t' : Scope} {A B : Type 0} → Agree s s' t t' A → (A → B) → Agree s s' t t' B
last a go = record {
  new = a.new;
  other = a.other;
  grows = a.grows;
  grows_too = a.grows_too;
  same = a.same;
  enclosing = a.enclosing;
  holds = go a.holds;
}

-- ---- scopes

pub declared_like : (names : List Bytes) (s s' : Scope) → Like s s' → Like (declare names s) (declare names s')
declared_like names s s' like = record { enclosing = ap (λ fs. (declare names (record s { enclosing = fs })).enclosing) like.enclosing; count = like.count }

pub after_declare : {t t' : Scope} {A : Type 0} (names : List Bytes) (s s' : Scope) → Agree (declare names s) (declare names s') t t' A → Agree s s' t t' A
after_declare names s s' a = record {
  new = a.new;
  other = a.other;
  grows = a.grows;
  grows_too = a.grows_too;
  same = a.same;
  enclosing = a.enclosing;
  holds = a.holds;
}

pub then_declare : {s s' t t' : Scope} {A : Type 0} (names : List Bytes) (m m' : Scope) → Agree s s' m m' A → t ≡ declare names m → t' ≡ declare names m' → Agree s s' t t' A
then_declare {s = s} {s' = s'} {t = t} {t' = t'} names m m' a p q = record {
  new = a.new;
  other = a.other;
  grows = ap (λ z. z.functions) p ∙ a.grows;
  grows_too = ap (λ z. z.functions) q ∙ a.grows_too;
  same = a.same;
  enclosing = ap (λ z. z.enclosing) p ∙ (ap (λ fs. (declare names (record m { enclosing = fs })).enclosing) a.enclosing ∙ sym (ap (λ z. z.enclosing) q));
  holds = a.holds;
}

pub then_leave : {s s' t t' : Scope} {A : Type 0} (k k' m m' : Scope) → Like k k' → Agree s s' m m' A → t ≡ leave k m → t' ≡ leave k' m' → Agree s s' t t' A
then_leave {s = s} {s' = s'} {t = t} {t' = t'} k k' m m' like a p q = record {
  new = a.new;
  other = a.other;
  grows = ap (λ z. z.functions) p ∙ a.grows;
  grows_too = ap (λ z. z.functions) q ∙ a.grows_too;
  same = a.same;
  enclosing = ap (λ z. z.enclosing) p ∙ (ap (λ fs. (leave k (record m { enclosing = fs })).enclosing) a.enclosing
      ∙ (ap (λ fs. (leave (record k { enclosing = fs }) m').enclosing) like.enclosing ∙ sym (ap (λ z. z.enclosing) q)));
  holds = a.holds;
}

pub same_place : (s s' : Scope) → Like s s' → in_scope s ≡ in_scope s'
same_place s s' like = ap count_in like.enclosing

pub same_slots : (names : List Bytes) (s s' : Scope) (xs ys : List ℕ) → Like s s' → xs ≡ slots_from (in_scope s) names → ys ≡ slots_from (in_scope s') names → xs ≡ ys
same_slots names s s' xs ys like p q = p ∙ (ap (λ n. slots_from n names) (same_place s s' like) ∙ sym q)

pub name_agrees : (l : ℕ) (n : Bytes) (s s' : Scope) (e e' : Expr) (t t' : Scope) → ResolvesName l n s e t → ResolvesName l n s' e' t' → Like s s' →
    Agree s s' t t' (SameExpr e e')
name_agrees l n s s' e e' t t' r r' like = record {
  new = [];
  other = [];
  grows = ap (λ z. z.functions) r.scope ∙ sym (append-nil s.functions);
  grows_too = ap (λ z. z.functions) r'.scope ∙ sym (append-nil s'.functions);
  same = zip_none SameFunction;
  enclosing = ap (λ z. z.enclosing) r.scope ∙ (ap (λ fs. (look n fs).1) like.enclosing ∙ sym (ap (λ z. z.enclosing) r'.scope));
  holds = told SameExpr r.expr (r'.expr ∙ ap (λ fs. node l (variable_kind n (look n fs).0)) (sym like.enclosing)) (variable_same l n (look n s.enclosing).0);
}

-- ---- functions

-- the function takes the place that was kept for it
pub placed : (xs new : List Function) (kept f : Function) → slice_set ((xs ++ kept ∷ []) ++ new) (length xs) f ≡ xs ++ f ∷ new
placed xs new kept f = ap (λ fs. slice_set fs (length xs) f) (append_assoc xs (kept ∷ []) new) ∙ set-append_seam xs kept new f

function_same : (line : ℕ) (names : List Bytes) (rest : _) (frame frame' : Frame) (out out' : List Stmt) (f f' : Function) →
    IsFunction line names rest frame out f → IsFunction line names rest frame' out' f' → frame ≡ frame' → AllZip SameStmt out out' → SameFunction f f'
function_same line names rest frame frame' out out' f f' is is' e h = record {
  file = is.file ∙ sym is'.file;
  params = is.params ∙ sym is'.params;
  vararg = is.vararg ∙ sym is'.vararg;
  slots = is.slots ∙ (ap (λ z. z.slots) e ∙ sym is'.slots);
  captures = is.captures ∙ (ap (λ z. map (λ c. c.variable) z.captures) e ∙ sym is'.captures);
  body = told (AllZip SameStmt) is.body is'.body h;
  line = is.begins ∙ sym is'.begins;
}

pub entered_like : (names : List Bytes) (kept kept' : Function) (s s' : Scope) → Like s s' → Like (enter names kept s) (enter names kept' s')
entered_like names kept kept' s s' like = record {
  enclosing = ap (λ fs. (enter names kept (record s { enclosing = fs })).enclosing) like.enclosing;
  count =
      let p = length-append s.functions (kept ∷ []) in
      let q = length-append s'.functions (kept' ∷ []) in
      let c = like.count in
      omega (arith, p, q, c);
}

pub ended_agrees : (line : ℕ) (names : List Bytes) (rest : _) (kept kept' : Function) (out out' : List Stmt) (s s' m m' t t' : Scope) → Like s s' →
    Agree (enter names kept s) (enter names kept' s') m m' (AllZip SameStmt out out') → EndsFunction line names rest out s m t →
    EndsFunction line names rest out' s' m' t' → Agree s s' t t' (length s.functions ≡ length s'.functions)
ended_agrees line names rest kept kept' out out' s s' m m' t t' like a (f, frame, enclosing, top, is, ended) (f', frame', enclosing', top', is', ended') =
    let tops : frame ∷ enclosing ≡ frame' ∷ enclosing' = sym top ∙ (a.enclosing ∙ top') in
    let frames : frame ≡ frame' = cc (tops) in
    let arounds : enclosing ≡ enclosing' = cc (tops) in
    record {
      new = f ∷ a.new;
      other = f' ∷ a.other;
      grows = ap (λ z. z.functions) ended ∙ (ap (λ fs. slice_set fs (length s.functions) f) a.grows ∙ placed s.functions a.new kept f);
      grows_too = ap (λ z. z.functions) ended' ∙ (ap (λ fs. slice_set fs (length s'.functions) f') a.grows_too ∙ placed s'.functions a.other kept' f');
      same = (function_same line names rest frame frame' out out' f f' is is' frames a.holds, a.same);
      enclosing = ap (λ z. z.enclosing) ended ∙ (arounds ∙ sym (ap (λ z. z.enclosing) ended'));
      holds = like.count;
    }
