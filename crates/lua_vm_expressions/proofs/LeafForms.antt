-- Expressions that begin with no other one: their works, and what they give.
use Rattle.std.specs.Prelude.{◌≡◌, ℕ, ◌+◌, ◌≤◌, List, [], ◌∷◌, length, vec_len, min, nat_lt, slice_get, Bool, true, false, if◌then◌else◌, ℤ, Result, Ok, refl}
use Rattle.std.proofs.Common.{sym, ◌∙◌, ap, arith, Vec, Global}
use Rattle.lua_ast.specs.declared.expressions.Expr.{Expr}
use Rattle.lua_ast.specs.declared.expressions.ExprKind.{ExprKind, out-ExprKind}
use Rattle.lua_ast.specs.declared.expressions.ExprKind as kind
use Rattle.lua_ast.specs.declared.expressions.ExprKind.TheViews.{outs-Nil, outs-True, outs-False, outs-Number, outs-Text, outs-Vararg, outs-Function, outs-Slot, outs-Captured, outs-Global}
use Rattle.lua_ast.specs.declared.expressions.ExprKind.TheVariants as v
use Rattle.lua_values.specs.declared.values.Value.{Value}
use Rattle.lua_values.specs.declared.values.Value.TheVariants.{Nil, Truth, Number, Text, Table}
use Rattle.lua_values.specs.Heap.{Heap, StoreView, step_limit}
use Rattle.lua_values.specs.Pairs.{value_at}
use Rattle.lua_values.specs.StoreCalls.{pairs_of}
use Rattle.lua_values.specs.Values.{is_nil}
use Rattle.lua_operators.specs.declared.events.Event.TheVariants.{Index}
use Rattle.lua_meaning.specs.Works.{Places, Slots, Sign, Values, End, Look, Count}
use Rattle.lua_meaning.specs.Evaluator.{Resume, do_work}
use Rattle.lua_meaning.specs.Setting.{Setting}
use Rattle.lua_meaning.specs.Signs.{first, give, give_one}
use Rattle.lua_meaning.specs.Metatables.{handler}
use Rattle.lua_meaning.specs.Indexing.{index_by, index_without}
use Rattle.lua_meaning.specs.Expressions.{expr_work, value_work, give_counted, first_extra, global_work}
use Rattle.lua_meaning.specs.Variables.{in_slot, in_cell}
use Rattle.lua_meaning.specs.Closures.{closure_work}
use Rattle.lua_meaning.specs.Nodes.{eval}
use Rattle.lua_frames.specs.declared.flow.Flow.{Flow}
use Rattle.lua_frames.specs.declared.flow.Flow.TheVariants as flow
use Rattle.lua_frames.specs.declared.threads.Frames.{Frames}
use Rattle.lua_frames.specs.Frames.{here, slots_of}
use Rattle.lua_frames.specs.Follows.{Works}
use Rattle.lua_frames.specs.Changes.{Ends}
use Rattle.lua_frames.proofs.FollowLemmas.{works_as, works_by, ends_works, count_goes, count_spent, spends}

-- steps are counted, and the work ends
pub counts_and_ends : {E : Type 0} (S : Setting) (n : ℕ) (sign : Sign) (old new : Frames) (before store : StoreView) (below : Bool) (r : Result Flow E)
    → store ≡ record { heap = before.heap; steps = min step_limit (before.steps + n) } → below ≡ nat_lt (before.steps + n) step_limit → below ≡ true → Ends sign old new r
    → Works S (Count n (End sign (slots_of old))) old before new store r
counts_and_ends S n sign old new before store below r is e holds k =
    works_by S (Count n (End sign (slots_of old))) (End sign (slots_of old)) old new before store store r (count_goes S n (End sign (slots_of old)) before store below is e holds) (ends_works S sign old new store r k)

-- no step is left for all arguments
pub extras_spent : {E : Type 0} (S : Setting) (extras : Vec Value Global) (old new : Frames) (before store : StoreView) (n : ℕ) (below : Bool)
    → n ≡ vec_len extras → below ≡ nat_lt (before.steps + n) step_limit → below ≡ false
    → Works {E = E} S (give_counted extras.items (slots_of old)) old before new store (Ok flow.Spent)
extras_spent S extras old new before store n below is e fails =
    spends S (give_counted extras.items (slots_of old)) old new before store
    (count_spent S (length extras.items) (give extras.items (slots_of old)) before below (e ∙ ap (λ (k : ℕ). nat_lt (before.steps + k) step_limit) (is ∙ sized)) fails)
  where
    sized : vec_len extras ≡ length extras.items
    sized = omega (arith, extras.ok)

-- the first of some arguments is given where there is one
first_counts : (xs ys : List Value) (s : Slots) → ys ≡ xs → 1 ≤ length ys → first_extra xs s ≡ Count 1 (give_one (first xs) s)
first_counts [] [] s e h = absurd (omega (arith, h))
first_counts [] (y ∷ ys) s e h = absurd (cc)
first_counts (x ∷ xs) ys s e h = refl

-- no step is left for it
pub first_extra_spent : {E : Type 0} (S : Setting) (xs ys : List Value) (old new : Frames) (before store : StoreView) (below : Bool)
    → ys ≡ xs → 1 ≤ length ys → below ≡ nat_lt (before.steps + 1) step_limit → below ≡ false
    → Works {E = E} S (first_extra xs (slots_of old)) old before new store (Ok flow.Spent)
first_extra_spent {E} S xs ys old new before store below same some e fails =
    works_as S (first_extra xs (slots_of old)) (Count 1 (give_one (first xs) (slots_of old))) old new before store (Ok flow.Spent)
    (spends S (Count 1 (give_one (first xs) (slots_of old))) old new before store (count_spent S 1 (give_one (first xs) (slots_of old)) before below e fails)) (first_counts xs ys (slots_of old) same some)

-- a value that is read in the heap is given
pub reads : {E : Type 0} (S : Setting) (of : Heap → Value) (value : Value) (old new : Frames) (store : StoreView) (r : Result Flow E)
    → value ≡ of store.heap → Ends (Values (value ∷ [])) old new r → Works S (Look (λ h. give_one (of h) (slots_of old))) old store new store r
reads S of value old new store r is k =
    works_by S (Look (λ h. give_one (of h) (slots_of old))) (give_one value (slots_of old)) old new store store store r
    (λ rs. ap (λ (x : Value). do_work (eval S) (give_one x (slots_of old)) (record { store = store; resumes = rs })) (sym is)) (ends_works S (Values (value ∷ [])) old new store r k)

-- leaves by their kinds
pub nil_form : (S : Setting) (x : Expr) (p : Places) (s : Slots) → x.kind ≡ v.Nil → expr_work S x.line (out-ExprKind x.kind) p s ≡ End (Values (Nil ∷ [])) s
nil_form S x p s is = rw (is, outs-Nil) refl

pub true_form : (S : Setting) (x : Expr) (p : Places) (s : Slots) → x.kind ≡ v.True → expr_work S x.line (out-ExprKind x.kind) p s ≡ End (Values (Truth true ∷ [])) s
true_form S x p s is = rw (is, outs-True) refl

pub false_form : (S : Setting) (x : Expr) (p : Places) (s : Slots) → x.kind ≡ v.False → expr_work S x.line (out-ExprKind x.kind) p s ≡ End (Values (Truth false ∷ [])) s
false_form S x p s is = rw (is, outs-False) refl

pub number_form : (S : Setting) (x : Expr) (n : ℤ) (p : Places) (s : Slots) → x.kind ≡ v.Number n → expr_work S x.line (out-ExprKind x.kind) p s ≡ End (Values (Number n ∷ [])) s
number_form S x n p s is = rw (is, outs-Number n) refl

pub text_form : (S : Setting) (x : Expr) (t copy : List ℕ) (p : Places) (s : Slots) → x.kind ≡ v.Text t → copy ≡ t → expr_work S x.line (out-ExprKind x.kind) p s ≡ End (Values (Text copy ∷ [])) s
text_form S x t copy p s is same = rw (is, outs-Text t, same) refl

pub vararg_form : (S : Setting) (x : Expr) (p : Places) (s : Slots) → x.kind ≡ v.Vararg → expr_work S x.line (out-ExprKind x.kind) p s ≡ give_counted p.extras s
vararg_form S x p s is = rw (is, outs-Vararg) refl

pub first_vararg_form : (S : Setting) (x : Expr) (p : Places) (s : Slots) → x.kind ≡ v.Vararg → value_work S x.line (out-ExprKind x.kind) p s ≡ first_extra p.extras s
first_vararg_form S x p s is = rw (is, outs-Vararg) refl

pub function_form : (S : Setting) (x : Expr) (n : ℕ) (p : Places) (s : Slots) → x.kind ≡ v.Function n → expr_work S x.line (out-ExprKind x.kind) p s ≡ closure_work S x.line n p s give_one
function_form S x n p s is = rw (is, outs-Function n) refl

pub slot_form : (S : Setting) (x : Expr) (i : ℕ) (p : Places) (s : Slots) → x.kind ≡ v.Slot i → expr_work S x.line (out-ExprKind x.kind) p s ≡ Look (λ h. give_one (in_slot (slice_get s i) h) s)
slot_form S x i p s is = rw (is, outs-Slot i) refl

pub captured_form : (S : Setting) (x : Expr) (i : ℕ) (p : Places) (s : Slots) → x.kind ≡ v.Captured i → expr_work S x.line (out-ExprKind x.kind) p s ≡ Look (λ h. give_one (in_cell (slice_get p.cells i) h) s)
captured_form S x i p s is = rw (is, outs-Captured i) refl

pub global_form : (S : Setting) (x : Expr) (name : List ℕ) (p : Places) (s : Slots) → x.kind ≡ v.Global name → expr_work S x.line (out-ExprKind x.kind) p s ≡ global_work S x.line name p s
global_form S x name p s is = rw (is, outs-Global name) refl

-- where one value is wanted only `...` differs
pub one_form : (S : Setting) (line : ℕ) (k : ExprKind) (p : Places) (s : Slots) → (k ≡ v.Vararg → ⊥) → value_work S line (out-ExprKind k) p s ≡ expr_work S line (out-ExprKind k) p s
unfolding out-ExprKind denote.Hole.Carrier.out
one_form S line kind.Nil p s h = refl
one_form S line kind.True p s h = refl
one_form S line kind.False p s h = refl
one_form S line (kind.Number n) p s h = refl
one_form S line (kind.Text t) p s h = refl
one_form S line kind.Vararg p s h = absurd (h refl)
one_form S line (kind.Function n) p s h = refl
one_form S line (kind.Slot i) p s h = refl
one_form S line (kind.Captured i) p s h = refl
one_form S line (kind.Global name) p s h = refl
one_form S line (kind.Index' a l x b m y) p s h = refl
one_form S line (kind.Call' a l x b shape row) p s h = refl
one_form S line (kind.Method' a l x name b shape row) p s h = refl
one_form S line (kind.Unary' o a l x) p s h = refl
one_form S line (kind.Binary' o a l x b m y) p s h = refl
one_form S line (kind.And' a l x b m y) p s h = refl
one_form S line (kind.Or' a l x b m y) p s h = refl
one_form S line (kind.Paren' a l x) p s h = refl
one_form S line (kind.Table' b shape row) p s h = refl

-- a global variable that is there
pub global_there : {E : Type 0} (S : Setting) (line : ℕ) (name : List ℕ) (value : Value) (old new : Frames) (store : StoreView) (r : Result Flow E)
    → value ≡ value_at (pairs_of store.heap store.heap.globals) (Text name) → is_nil value ≡ false → Ends (Values (value ∷ [])) old new r
    → Works S (global_work S line name (here old) (slots_of old)) old store new store r
global_there S line name value old new store r is there k =
    works_by S (global_work S line name (here old) (slots_of old)) (give_one value (slots_of old)) old new store store store r goes (ends_works S (Values (value ∷ [])) old new store r k)
  where
    goes : (rs : List Resume) → do_work (eval S) (global_work S line name (here old) (slots_of old)) (record { store = store; resumes = rs }) ≡ do_work (eval S) (give_one value (slots_of old)) (record { store = store; resumes = rs })
    goes rs =
        ap (λ (x : Value). do_work (eval S) (if is_nil x then index_without S (handler store.heap (Table store.heap.globals) Index) line (Table store.heap.globals) (Text name) (here old) (slots_of old) else give_one x (slots_of old)) (record { store = store; resumes = rs })) (sym is)
        ∙ ap (λ (t : Bool). do_work (eval S) (if t then index_without S (handler store.heap (Table store.heap.globals) Index) line (Table store.heap.globals) (Text name) (here old) (slots_of old) else give_one value (slots_of old)) (record { store = store; resumes = rs })) there

-- and one that isn't, where nothing handles that
pub global_absent : {E : Type 0} (S : Setting) (line : ℕ) (name : List ℕ) (value by : Value) (old new : Frames) (store : StoreView) (r : Result Flow E)
    → value ≡ value_at (pairs_of store.heap store.heap.globals) (Text name) → is_nil value ≡ true → by ≡ handler store.heap (Table store.heap.globals) Index → is_nil by ≡ true → Ends (Values (Nil ∷ [])) old new r
    → Works S (global_work S line name (here old) (slots_of old)) old store new store r
global_absent S line name value by old new store r is absent handles none k =
    works_by S (global_work S line name (here old) (slots_of old)) (give_one Nil (slots_of old)) old new store store store r goes (ends_works S (Values (Nil ∷ [])) old new store r k)
  where
    goes : (rs : List Resume) → do_work (eval S) (global_work S line name (here old) (slots_of old)) (record { store = store; resumes = rs }) ≡ do_work (eval S) (give_one Nil (slots_of old)) (record { store = store; resumes = rs })
    goes rs =
        ap (λ (x : Value). do_work (eval S) (if is_nil x then index_without S (handler store.heap (Table store.heap.globals) Index) line (Table store.heap.globals) (Text name) (here old) (slots_of old) else give_one x (slots_of old)) (record { store = store; resumes = rs })) (sym is)
        ∙ ap (λ (t : Bool). do_work (eval S) (if t then index_without S (handler store.heap (Table store.heap.globals) Index) line (Table store.heap.globals) (Text name) (here old) (slots_of old) else give_one value (slots_of old)) (record { store = store; resumes = rs })) absent
        ∙ ap (λ (x : Value). do_work (eval S) (index_without S x line (Table store.heap.globals) (Text name) (here old) (slots_of old)) (record { store = store; resumes = rs })) (sym handles)
        ∙ ap (λ (t : Bool). do_work (eval S) (if t then give_one Nil (slots_of old) else index_by by line (Table store.heap.globals) (Text name) (here old) (slots_of old)) (record { store = store; resumes = rs })) none
