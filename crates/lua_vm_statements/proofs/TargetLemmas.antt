-- The targets of an assignment, one after another.
use Rattle.std.specs.Prelude.{◌≡◌, ℕ, ◌+◌, min, nat_lt, Bool, true, false, List, [], ◌∷◌, ◌++◌, drop, map, Result, Ok, refl}
use Rattle.std.proofs.Common.{sym, ◌∙◌, ap, Vec, Global}
use Rattle.std.specs.declared.rc.Rc.{Rc}
use Rattle.lua_ast.specs.declared.expressions.Expr.{Expr}
use Rattle.lua_ast.specs.declared.expressions.ExprKind.{ExprKind, out-ExprKind}
use Rattle.lua_ast.specs.declared.expressions.ExprKind as kind
use Rattle.lua_ast.specs.declared.expressions.ExprKind.TheViews.{outs-Slot, outs-Captured, outs-Global, outs-Index}
use Rattle.lua_ast.specs.declared.expressions.ExprKind.TheVariants as v
use Rattle.lua_values.specs.declared.values.Value.TheVariants.{Text, Table}
use Rattle.lua_values.specs.Heap.{StoreView, step_limit}
use Rattle.lua_meaning.specs.Works.{Places, Slots, AValue, Work, Eval, Count, and_then}
use Rattle.lua_meaning.specs.Evaluator.{do_work}
use Rattle.lua_meaning.specs.Setting.{Setting}
use Rattle.lua_meaning.specs.Signs.{values_of}
use Rattle.lua_meaning.specs.Assignments.{targets_of, assigned, assign_all, assignment_work}
use Rattle.lua_meaning.specs.Assignments as assignment
use Rattle.lua_meaning.specs.Nodes.{eval}
use Rattle.lua_frames.specs.declared.flow.Flow.{Flow}
use Rattle.lua_frames.specs.declared.flow.Flow.TheVariants as flow
use Rattle.lua_frames.specs.declared.items.Item.TheVariants as i
use Rattle.lua_frames.specs.declared.targets.Assignment.{Assignment}
use Rattle.lua_frames.specs.declared.targets.Target.{Target}
use Rattle.lua_frames.specs.declared.targets.Target.TheVariants as target
use Rattle.lua_frames.specs.declared.threads.Frames.{Frames}
use Rattle.lua_frames.specs.Items.{target_of, with_targets, targets_left, resume_item}
use Rattle.lua_frames.specs.Frames.{here, slots_of}
use Rattle.lua_frames.specs.Follows.{Works, ComesTo}
use Rattle.lua_frames.proofs.FollowLemmas.{works_as, works_by, spends, count_goes, count_spent}
use Rattle.lua_vm_statements.specs.declared.targets.Begun.TheVariants as begun
use Rattle.lua_vm_statements.specs.Targets.{IsTarget, Begins}

pub mapped_on : (done : List Target) (t : Target) → map target_of (done ++ t ∷ []) ≡ map target_of done ++ target_of t ∷ []
mapped_on [] t = refl
mapped_on (x ∷ done) t = ap (λ (rest : List assignment.Target). target_of x ∷ rest) (mapped_on done t)

-- work comes to the targets from an index on, after those that are found, and then the values
abbrev pub TargetsLeft : Setting → Work → List Expr → List Expr → ℕ → List Target → Frames → StoreView → StoreView → Type 0
TargetsLeft S q targets xs k found fs before store =
    ComesTo S q before (targets_of (drop k targets) (here fs) (map target_of found) (slots_of fs) (with_targets S xs (here fs))) store

-- the next one begins
target_begins : (S : Setting) (q : Work) (targets xs : List Expr) (k : ℕ) (x : Expr) (found : List Target) (fs : Frames) (before store : StoreView) → drop k targets ≡ x ∷ drop (k + 1) targets → TargetsLeft S q targets xs k found fs before store
    → ComesTo S q before
    (Count 1 (assignment.target_of x.line (out-ExprKind x.kind) (here fs) (slots_of fs) (λ t s'. targets_of (drop (k + 1) targets) (here fs) (map target_of found ++ t ∷ []) s' (with_targets S xs (here fs))))) store
target_begins S q targets xs k x found fs before store is e rs =
    e rs ∙ ap (λ (ts : List Expr). do_work (eval S) (targets_of ts (here fs) (map target_of found) (slots_of fs) (with_targets S xs (here fs))) (record { store = store; resumes = rs })) is

-- and is found
pub target_found : (S : Setting) (q : Work) (targets xs : List Expr) (k : ℕ) (x : Expr) (t : Target) (found longer : List Target) (fs : Frames) (before between store : StoreView) (below : Bool)
    → drop k targets ≡ x ∷ drop (k + 1) targets → TargetsLeft S q targets xs k found fs before between
    → store ≡ record { heap = between.heap; steps = min step_limit (between.steps + 1) } → below ≡ nat_lt (between.steps + 1) step_limit → below ≡ true
    → IsTarget x store t → longer ≡ found ++ t ∷ [] → TargetsLeft S q targets xs (k + 1) longer fs before store
target_found S q targets xs k x t found longer fs before between store below is e counts steps holds found_it l rs =
    target_begins S q targets xs k x found fs before between is e rs
    ∙ count_goes S 1 (assignment.target_of x.line (out-ExprKind x.kind) (here fs) (slots_of fs) go) between store below counts steps holds rs
    ∙ found_it S (here fs) (slots_of fs) go rs
    ∙ ap (λ (ts : List assignment.Target). do_work (eval S) (targets_of (drop (k + 1) targets) (here fs) ts (slots_of fs) (with_targets S xs (here fs))) (record { store = store; resumes = rs })) (sym (ap (λ (ts : List Target). map target_of ts) l ∙ mapped_on found t))
  where
    go : assignment.Target → Slots → Work
    go t' s' = targets_of (drop (k + 1) targets) (here fs) (map target_of found ++ t' ∷ []) s' (with_targets S xs (here fs))

-- or it is an index, whose object is evaluated
pub target_keyed : {E : Type 0} (S : Setting) (q : Work) (targets xs : Rc (Vec Expr Global) Global) (k : ℕ) (x y : Expr) (line : ℕ) (object key : Rc Expr Global) (found : Vec Target Global) (kept : Assignment) (fs new : Frames) (before between counted store : StoreView) (below : Bool) (r : Result Flow E)
    → drop k targets.value.items ≡ x ∷ drop (k + 1) targets.value.items → TargetsLeft S q targets.value.items xs.value.items k found.items fs before between
    → counted ≡ record { heap = between.heap; steps = min step_limit (between.steps + 1) } → below ≡ nat_lt (between.steps + 1) step_limit → below ≡ true
    → Begins x counted (begun.Index line object key) → y ≡ object.value → kept ≡ record { found = found; targets = targets; next = k + 1; values = xs }
    → Works S (Eval (AValue y) (here fs) (slots_of fs) (resume_item S (i.TargetKey line key kept) (here fs))) fs counted new store r
    → Works S q fs before new store r
target_keyed S q targets xs k x y line object key found kept fs new before between counted store below r is e counts steps holds begins same boxed w =
    works_by S q (Eval (AValue y) (here fs) (slots_of fs) (resume_item S (i.TargetKey line key kept) (here fs))) fs new before counted store r
    (λ rs. target_begins S q targets.value.items xs.value.items k x found.items fs before between is e rs
    ∙ count_goes S 1 (assignment.target_of x.line (out-ExprKind x.kind) (here fs) (slots_of fs) go) between counted below counts steps holds rs
    ∙ ap (λ (t : Work). do_work (eval S) t (record { store = counted; resumes = rs })) (begins (here fs) (slots_of fs) go)
    ∙ ap (λ (z : Expr). do_work (eval S) (Eval (AValue z) (here fs) (slots_of fs) (resume_item S (i.TargetKey line key left) (here fs))) (record { store = counted; resumes = rs })) (sym same)
    ∙ ap (λ (a : Assignment). do_work (eval S) (Eval (AValue y) (here fs) (slots_of fs) (resume_item S (i.TargetKey line key a) (here fs))) (record { store = counted; resumes = rs })) (sym boxed)) w
  where
    left : Assignment
    left = record { found = found; targets = targets; next = k + 1; values = xs }

    go : assignment.Target → Slots → Work
    go t' s' = targets_of (drop (k + 1) targets.value.items) (here fs) (map target_of found.items ++ t' ∷ []) s' (with_targets S xs.value.items (here fs))

-- no step is left for it
pub target_spent : {E : Type 0} (S : Setting) (q : Work) (targets xs : List Expr) (k : ℕ) (x : Expr) (found : List Target) (fs new : Frames) (before between store : StoreView) (below : Bool)
    → drop k targets ≡ x ∷ drop (k + 1) targets → TargetsLeft S q targets xs k found fs before between
    → below ≡ nat_lt (between.steps + 1) step_limit → below ≡ false
    → Works {E = E} S q fs before new store (Ok flow.Spent)
target_spent S q targets xs k x found fs new before between store below is e steps fails =
    spends S q fs new before store
    (λ rs. target_begins S q targets xs k x found fs before between is e rs
    ∙ count_spent S 1 (assignment.target_of x.line (out-ExprKind x.kind) (here fs) (slots_of fs) (λ t s'. targets_of (drop (k + 1) targets) (here fs) (map target_of found ++ t ∷ []) s' (with_targets S xs (here fs)))) between below steps fails rs)

-- all are found, and the values are evaluated
pub targets_found : {E : Type 0} (S : Setting) (q : Work) (targets xs : List Expr) (k : ℕ) (found : Vec Target Global) (fs new : Frames) (before between store : StoreView) (r : Result Flow E)
    → drop k targets ≡ [] → TargetsLeft S q targets xs k found.items fs before between → Works S (and_then (values_of xs (here fs) (slots_of fs)) (resume_item S (i.Assign found) (here fs))) fs between new store r
    → Works S q fs before new store r
targets_found S q targets xs k found fs new before between store r none e w =
    works_by S q (and_then (values_of xs (here fs) (slots_of fs)) (resume_item S (i.Assign found) (here fs))) fs new before between store r
    (λ rs. e rs ∙ ap (λ (ts : List Expr). do_work (eval S) (targets_of ts (here fs) (map target_of found.items) (slots_of fs) (with_targets S xs (here fs))) (record { store = between; resumes = rs })) none) w

-- an assignment of which no target is found yet
pub targets_begin : {E : Type 0} (S : Setting) (found : Vec Target Global) (targets xs copy other : Rc (Vec Expr Global) Global) (old fs : Frames) (before store : StoreView) (r : Result Flow E)
    → found.items ≡ [] → copy.value ≡ targets.value → other.value ≡ xs.value
    → Works S (targets_left S (record { found = found; targets = copy; next = 0; values = other }) (map target_of found.items) (here old) (slots_of old)) old before fs store r
    → Works S (assignment_work S targets.value.items xs.value.items (here old) (slots_of old)) old before fs store r
targets_begin S found targets xs copy other old fs before store r none same as_well w =
    works_as S (assignment_work S targets.value.items xs.value.items (here old) (slots_of old)) (targets_left S (record { found = found; targets = copy; next = 0; values = other }) (map target_of found.items) (here old) (slots_of old)) old fs before store r w
    (ap (λ (v : Vec Expr Global). targets_of v.items (here old) [] (slots_of old) (with_targets S xs.value.items (here old))) (sym same)
    ∙ ap (λ (v : Vec Expr Global). targets_of copy.value.items (here old) [] (slots_of old) (with_targets S v.items (here old))) (sym as_well)
    ∙ ap (λ (ts : List Target). targets_of copy.value.items (here old) (map target_of ts) (slots_of old) (with_targets S other.value.items (here old))) (sym none))

-- expressions that are targets
pub slot_target : (x : Expr) (n : ℕ) (store : StoreView) → x.kind ≡ v.Slot n → IsTarget x store (target.Slot x.line n)
slot_target x n store e S p s go rs = rw (e, outs-Slot n) refl

pub captured_target : (x : Expr) (n : ℕ) (store : StoreView) → x.kind ≡ v.Captured n → IsTarget x store (target.Captured x.line n)
captured_target x n store e S p s go rs = rw (e, outs-Captured n) refl

pub global_target : (x : Expr) (name copy : List ℕ) (t : ℕ) (store : StoreView) → x.kind ≡ v.Global name → copy ≡ name → t ≡ store.heap.globals → IsTarget x store (target.AtKey x.line (Table t) (Text copy))
global_target x name copy t store e same is S p s go rs = rw (e, outs-Global name, same, is) refl

pub index_target : (x : Expr) (a b object key : Rc Expr Global) (store : StoreView) → x.kind ≡ v.Index a b → object.value ≡ a.value → key.value ≡ b.value → Begins x store (begun.Index x.line object key)
index_target x a b object key store e same as_well p s go = rw (e, outs-Index a b, same, as_well) refl

-- a slot alone
one_slot : (S : Setting) (targets xs : List Expr) (x : Expr) (n : ℕ) (p : Places) (s : Slots) → targets ≡ x ∷ [] → x.kind ≡ v.Slot n
    → assignment_work S targets xs p s ≡ Count 1 (and_then (values_of xs p s) (resume_item S (i.AssignSlot x.line n) p))
one_slot S targets xs x n p s one e = ap (λ (ts : List Expr). assignment_work S ts xs p s) one ∙ rw (e, outs-Slot n) refl

pub slot_begins : {E : Type 0} (S : Setting) (targets xs : List Expr) (x : Expr) (n : ℕ) (old new : Frames) (before counted store : StoreView) (below : Bool) (r : Result Flow E)
    → targets ≡ x ∷ [] → x.kind ≡ v.Slot n
    → counted ≡ record { heap = before.heap; steps = min step_limit (before.steps + 1) } → below ≡ nat_lt (before.steps + 1) step_limit → below ≡ true
    → Works S (and_then (values_of xs (here old) (slots_of old)) (resume_item S (i.AssignSlot x.line n) (here old))) old counted new store r
    → Works S (assignment_work S targets xs (here old) (slots_of old)) old before new store r
slot_begins S targets xs x n old new before counted store below r one e is steps holds w =
    works_as S (assignment_work S targets xs (here old) (slots_of old)) (Count 1 (and_then (values_of xs (here old) (slots_of old)) (resume_item S (i.AssignSlot x.line n) (here old)))) old new before store r
    (works_by S (Count 1 (and_then (values_of xs (here old) (slots_of old)) (resume_item S (i.AssignSlot x.line n) (here old)))) (and_then (values_of xs (here old) (slots_of old)) (resume_item S (i.AssignSlot x.line n) (here old))) old new before counted store r
    (count_goes S 1 (and_then (values_of xs (here old) (slots_of old)) (resume_item S (i.AssignSlot x.line n) (here old))) before counted below is steps holds) w)
    (one_slot S targets xs x n (here old) (slots_of old) one e)

pub slot_spent : {E : Type 0} (S : Setting) (targets xs : List Expr) (x : Expr) (n : ℕ) (old new : Frames) (before store : StoreView) (below : Bool)
    → targets ≡ x ∷ [] → x.kind ≡ v.Slot n → below ≡ nat_lt (before.steps + 1) step_limit → below ≡ false
    → Works {E = E} S (assignment_work S targets xs (here old) (slots_of old)) old before new store (Ok flow.Spent)
slot_spent S targets xs x n old new before store below one e steps fails =
    works_as S (assignment_work S targets xs (here old) (slots_of old)) (Count 1 (and_then (values_of xs (here old) (slots_of old)) (resume_item S (i.AssignSlot x.line n) (here old)))) old new before store (Ok flow.Spent)
    (spends S (Count 1 (and_then (values_of xs (here old) (slots_of old)) (resume_item S (i.AssignSlot x.line n) (here old)))) old new before store
    (count_spent S 1 (and_then (values_of xs (here old) (slots_of old)) (resume_item S (i.AssignSlot x.line n) (here old))) before below steps fails))
    (one_slot S targets xs x n (here old) (slots_of old) one e)

-- an expression that is no target
nowhere : (line : ℕ) (k : ExprKind) (p' : Places) (s' : Slots) (go' : assignment.Target → Slots → Work) → ((n : ℕ) → k ≡ v.Slot n → ⊥) → ((n : ℕ) → k ≡ v.Captured n → ⊥) → ((name : List ℕ) → k ≡ v.Global name → ⊥) → ((m n : Rc Expr Global) → k ≡ v.Index m n → ⊥)
    → assignment.target_of line (out-ExprKind k) p' s' go' ≡ go' assignment.Nowhere s'
unfolding out-ExprKind denote.Hole.Carrier.out
nowhere line kind.Nil p' s' go' h i' j m = refl
nowhere line kind.True p' s' go' h i' j m = refl
nowhere line kind.False p' s' go' h i' j m = refl
nowhere line (kind.Number n) p' s' go' h i' j m = refl
nowhere line (kind.Text t) p' s' go' h i' j m = refl
nowhere line kind.Vararg p' s' go' h i' j m = refl
nowhere line (kind.Function n) p' s' go' h i' j m = refl
nowhere line (kind.Slot n) p' s' go' h i' j m = absurd (h _ refl)
nowhere line (kind.Captured n) p' s' go' h i' j m = absurd (i' _ refl)
nowhere line (kind.Global name) p' s' go' h i' j m = absurd (j _ refl)
nowhere line (kind.Index' a' l x' b' n y) p' s' go' h i' j m = absurd (m _ _ refl)
nowhere line (kind.Call' a' l x' b' shape row) p' s' go' h i' j m = refl
nowhere line (kind.Method' a' l x' name b' shape row) p' s' go' h i' j m = refl
nowhere line (kind.Unary' o a' l x') p' s' go' h i' j m = refl
nowhere line (kind.Binary' o a' l x' b' n y) p' s' go' h i' j m = refl
nowhere line (kind.And' a' l x' b' n y) p' s' go' h i' j m = refl
nowhere line (kind.Or' a' l x' b' n y) p' s' go' h i' j m = refl
nowhere line (kind.Paren' a' l x') p' s' go' h i' j m = refl
nowhere line (kind.Table' b' shape row) p' s' go' h i' j m = refl

pub no_target : (x : Expr) (store : StoreView) → ((n : ℕ) → x.kind ≡ v.Slot n → ⊥) → ((n : ℕ) → x.kind ≡ v.Captured n → ⊥) → ((name : List ℕ) → x.kind ≡ v.Global name → ⊥) → ((a b : Rc Expr Global) → x.kind ≡ v.Index a b → ⊥)
    → IsTarget x store target.Nowhere
no_target x store a b c d S p s go rs = ap (λ (q : Work). do_work (eval S) q (record { store = store; resumes = rs })) (nowhere x.line x.kind p s go a b c d)
