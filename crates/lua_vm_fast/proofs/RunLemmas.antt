-- Statements and loops that are run at once.
use Rattle.std.specs.Prelude.{◌≡◌, ℕ, suc, zero, ◌+◌, ◌≤◌, ◌<◌, nat_lt, min, Bool, true, false, if◌then◌else◌, List, [], ◌∷◌, length, drop, slice_index_or, slice_get, slice_set, Option, Some, None, MatchOption, refl}
use Rattle.std.specs.declared.rc.Rc.{Rc}
use Rattle.std.specs.declared.vec.Vec.{Vec}
use Rattle.std.specs.declared.alloc.Global.{Global}
use Rattle.std.proofs.Common.{sym, ◌∙◌, ap, subst, arith}
use Rattle.std.proofs.lemmas.Bool.{lt-ltb}
use borrow.Author.Tests.{ltb-true}
use Rattle.lua_ast.specs.declared.expressions.Expr.{Expr}
use Rattle.lua_ast.specs.declared.expressions.ExprKind.{out-ExprKind}
use Rattle.lua_ast.specs.declared.expressions.ExprKind.TheOpen as e
use Rattle.lua_ast.specs.declared.expressions.ExprKind.TheViews.{outs-Slot}
use Rattle.lua_ast.specs.declared.expressions.ExprKind.TheVariants as v
use Rattle.lua_ast.specs.declared.statements.Stmt.{Stmt}
use Rattle.lua_ast.specs.declared.statements.StmtKind.TheOpen as sk
use Rattle.lua_ast.specs.declared.statements.StmtKind.TheViews.{outs-Local, outs-Assign}
use Rattle.lua_ast.specs.declared.statements.StmtKind.TheVariants as sv
use Rattle.lua_values.specs.declared.values.Value.{Value}
use Rattle.lua_values.specs.Heap.{StoreView, step_limit}
use Rattle.lua_operators.specs.Types.{is_truthy}
use Rattle.lua_meaning.specs.declared.slots.Slot.{Slot}
use Rattle.lua_meaning.specs.declared.slots.Slot.TheVariants.{Plain, Shared}
use Rattle.lua_meaning.specs.Works.{Places, Slots, Node, AnExpr, ATurn, Values, Work, and_then}
use Rattle.lua_meaning.specs.Evaluator.{Resume, State, Ending, Ended, Spent, after, do_work}
use Rattle.lua_meaning.specs.Setting.{Setting}
use Rattle.lua_meaning.specs.Positions.{callers_at}
use Rattle.lua_meaning.specs.Signs.{first, give, on_values}
use Rattle.lua_meaning.specs.Variables.{with_locals, write_slot}
use Rattle.lua_meaning.specs.Statements.{with_values}
use Rattle.lua_meaning.specs.Assignments.{assignment_work}
use Rattle.lua_meaning.specs.Blocks.{block}
use Rattle.lua_meaning.specs.Loops.{again, after_body, while_work, turn_work}
use Rattle.lua_meaning.specs.Nodes.{work_of, eval}
use Rattle.lua_meaning.proofs.EvaluatorLemmas.{eval-law, work-then}
use Rattle.lua_meaning.proofs.Running.{Does, stmt, seq, count, target, end}
use Rattle.lua_meaning.specs.EndingLaws.{after_same as after_ended}
use Rattle.lua_vm_fast.specs.declared.calls.Site.{Site}
use Rattle.lua_vm_fast.specs.declared.loops.LoopEnd.{LoopEnd}
use Rattle.lua_vm_fast.specs.Gives.{counting, later, Gives, Tells}
use Rattle.lua_vm_fast.specs.Calls.{Allows, RunsAt}
use Rattle.lua_vm_fast.specs.Runs.{state, Becomes, RunsIf, IsLocals, IsAssignments, IsAssignment, SetsIf, Tests, left_of, is_plain}

-- counted steps that stay below the limit
pub counted : (n : ℕ) (before store : StoreView) → store ≡ record { heap = before.heap; steps = min step_limit (before.steps + n) } → nat_lt (before.steps + n) step_limit ≡ true → store ≡ counting n before
counted n before store is few = is ∙ ap (λ (k : ℕ). record { heap = before.heap; steps = k }) least
  where
    below : before.steps + n < step_limit
    below = ltb-true _ _ few

    least : min step_limit (before.steps + n) ≡ before.steps + n
    least = omega (arith, below)

-- behind its end a list has nothing
pub dropped_all : {A : Type 0} (xs : List A) (n : ℕ) → length xs ≤ n → drop n xs ≡ []
dropped_all [] zero h = refl
dropped_all [] (suc n) h = refl
dropped_all (x ∷ xs) zero h = absurd (omega (arith, h))
dropped_all (x ∷ xs) (suc n) h = dropped_all xs n (omega (arith, h))

-- the same steps in another order
ends_later : (s : Slots) (w : State) (j k : ℕ) → j ≡ k → Ended (Values []) s (later j w) ≡ Ended (Values []) s (later k w)
ends_later s w j k e = ap (λ (n : ℕ). Ended (Values []) s (later n w)) e

-- a node's step is counted, and its work begins
pub entered : (S : Setting) (n : Node) (p : Places) (s : Slots) (w : State) → nat_lt (w.store.steps + 1) step_limit ≡ true → eval S n p s w ≡ do_work (eval S) (work_of S n p s) (later 1 w)
entered S n p s w few = eval-law (work_of S) n p s w ∙ ap (λ (t : Bool). if t then do_work (eval S) (work_of S n p s) (later 1 w) else Spent) few

-- `local NAME = x`
local_ends : (S : Setting) (xs : List Expr) (places : List ℕ) (x : Expr) (i n : ℕ) (v : Value) (s : Slots) (p : Places) (w : State) → places ≡ i ∷ [] → xs ≡ x ∷ [] → Gives x s w.store.heap v n → w.store.steps + n < step_limit
    → Does S (with_values xs p s (λ vs s'. give [] (with_locals places vs s'))) w (Ended (Values []) (slice_set s i (Plain v)) (later n w))
local_ends S xs places x i n v s p w slots values g few =
    rw (slots, values) (seq {n = AnExpr x} (record { is = g.all S p w refl few }) end)

pub local_runs : (st : Stmt) (x : Expr) (i n : ℕ) (v : Value) (s s' : Slots) (before store : StoreView) → IsLocals (i ∷ []) (x ∷ []) st → Gives x s before.heap v n → nat_lt (before.steps + (n + 1)) step_limit ≡ true
    → s' ≡ slice_set s i (Plain v) → store ≡ counting (n + 1) before → RunsIf true st s before s' store
local_runs st x i n v s s' before store is g few set steps S p rs =
    (stmt {k = sk.Local is.slots is.values} is.is_local (lt-ltb _ _ (omega (arith, below))) (local_ends S is.values.value.items is.slots.value.items x i n v s p (later 1 (state before rs)) is.in_slots is.listed g (omega (arith, below)))).is
    ∙ ap (λ (k : ℕ). Ended (Values []) (slice_set s i (Plain v)) (state (record { heap = before.heap; steps = k }) rs)) sums
    ∙ ap (λ (t : Slots). Ended (Values []) t (state (counting (n + 1) before) rs)) (sym set) ∙ ap (λ (st' : StoreView). Ended (Values []) s' (state st' rs)) (sym steps)
  where
    below : before.steps + (n + 1) < step_limit
    below = ltb-true _ _ few

    sums : before.steps + 1 + n ≡ before.steps + (n + 1)
    sums = omega arith

-- `NAME = x`
pub written : (S : Setting) (line i n : ℕ) (v old : Value) (s : Slots) (p : Places) (w : State) → slice_get s i ≡ Some (Plain old)
    → Does S (and_then (write_slot S (callers_at p line) (slice_get s i) i v s (give [])) (on_values (λ us s'. give [] s'))) w (Ended (Values []) (slice_set s i (Plain v)) w)
written S line i n v old s p w plain =
    record { is = ap (λ (t : Option Slot). do_work (eval S) (and_then (write_slot S (callers_at p line) t i v s (give [])) (on_values (λ us s'. give [] s'))) w) plain }

pub plain_there : (s : Slots) (i : ℕ) → is_plain (slice_get s i) ≡ true → (old : Value) × (slice_get s i ≡ Some (Plain old))
plain_there s i h = by_slot (slice_get s i) h
  where
    by_slot : (t : Option Slot) → is_plain t ≡ true → (old : Value) × (t ≡ Some (Plain old))
    by_slot (Some (Plain old)) h = (old, refl)
    by_slot (Some (Shared c)) h = absurd (cc)
    by_slot None h = absurd (cc)

assignment_ends : (S : Setting) (targets xs : List Expr) (target' x : Expr) (i n : ℕ) (v old : Value) (s : Slots) (p : Places) (w : State) → targets ≡ target' ∷ [] → xs ≡ x ∷ [] → out-ExprKind target'.kind ≡ e.Slot i
    → Gives x s w.store.heap v n → slice_get s i ≡ Some (Plain old) → w.store.steps + (n + 1) < step_limit
    → Does S (assignment_work S targets xs p s) w (Ended (Values []) (slice_set s i (Plain v)) (later n (later 1 w)))
assignment_ends S targets xs target' x i n v old s p w one values is g plain few =
    rw (one, values) (count (lt-ltb _ _ (omega (arith, few))) (target {k = e.Slot i} target' p s _ is (seq {n = AnExpr x} (record { is = g.all S p (later 1 w) refl (omega (arith, few)) }) (written S target'.line i n v old s p (later n (later 1 w)) plain))))

pub assignment_runs : (st : Stmt) (x : Expr) (i n : ℕ) (v : Value) (s s' : Slots) (before store : StoreView) → IsAssignment i x st → Gives x s before.heap v n → nat_lt (before.steps + (n + 2)) step_limit ≡ true
    → is_plain (slice_get s i) ≡ true → s' ≡ slice_set s i (Plain v) → store ≡ counting (n + 2) before → RunsIf true st s before s' store
assignment_runs st x i n v s s' before store is g few had set steps S p rs =
    (stmt {k = sk.Assign is.assignments.targets is.assignments.values} is.assignments.is_assignment (lt-ltb _ _ (omega (arith, below)))
    (assignment_ends S is.assignments.targets.value.items is.assignments.values.value.items is.target x i n v (plain_there s i had).0 s p (later 1 (state before rs)) is.assignments.aimed is.assignments.listed is.is_slot g (plain_there s i had).1 (omega (arith, below)))).is
    ∙ ap (λ (k : ℕ). Ended (Values []) (slice_set s i (Plain v)) (state (record { heap = before.heap; steps = k }) rs)) sums
    ∙ ap (λ (t : Slots). Ended (Values []) t (state (counting (n + 2) before) rs)) (sym set) ∙ ap (λ (st' : StoreView). Ended (Values []) s' (state st' rs)) (sym steps)
  where
    below : before.steps + (n + 2) < step_limit
    below = ltb-true _ _ few

    sums : before.steps + 1 + 1 + n ≡ before.steps + (n + 2)
    sums = omega arith

-- a slot has a value, and steps are counted
pub sets : (i n : ℕ) (v : Value) (s s' : Slots) (before store : StoreView) → nat_lt (before.steps + n) step_limit ≡ true → store ≡ record { heap = before.heap; steps = min step_limit (before.steps + n) } → s' ≡ slice_set s i (Plain v)
    → SetsIf true i v n s before s' store
sets i n v s s' before store few steps set = record { few = ltb-true _ _ few; set = set; is = counted n before store steps few }

pub local_sets : (st : Stmt) (x : Expr) (i n : ℕ) (v : Value) (r : Bool) (s s' : Slots) (before store : StoreView) → IsLocals (i ∷ []) (x ∷ []) st → Gives x s before.heap v n → SetsIf r i v (n + 1) s before s' store → RunsIf r st s before s' store
local_sets st x i n v true s s' before store is g t = local_runs st x i n v s s' before store is g (lt-ltb _ _ t.few) t.set t.is
local_sets st x i n v false s s' before store is g t = t

pub assignment_sets : (st : Stmt) (x : Expr) (i n : ℕ) (v : Value) (r : Bool) (s s' : Slots) (before store : StoreView) → IsAssignment i x st → Gives x s before.heap v n → is_plain (slice_get s i) ≡ true → SetsIf r i v (n + 2) s before s' store
    → RunsIf r st s before s' store
assignment_sets st x i n v true s s' before store is g had t = assignment_runs st x i n v s s' before store is g (lt-ltb _ _ t.few) had t.set t.is
assignment_sets st x i n v false s s' before store is g had t = t

-- a statement more of a block was run
pub block_goes : (site : Site) (levels : ℕ) (S : Setting) (p : Places) (q : Work) (st : Stmt) (stmts : List Stmt) (next : ℕ) (s s' : Slots) (first before store : StoreView) → drop next stmts ≡ st ∷ drop (next + 1) stmts
    → Allows site levels S p → Becomes S q first (block (drop next stmts) p s) before → RunsAt site levels true st s before s' store → Becomes S q first (block (drop (next + 1) stmts) p s') store
block_goes site levels S p q st stmts next s s' first before store e a h run rs =
    h rs ∙ ap (λ (t : List Stmt). do_work (eval S) (block t p s) (state before rs)) e
    ∙ ap (λ (o : Ending). after o (λ sign s2 w2. do_work (eval S) (on_values (λ vs s3. block (drop (next + 1) stmts) p s3) sign s2) w2)) (run S p rs a)

-- and one that was not
pub block_stays : (site : Site) (levels : ℕ) (S : Setting) (p : Places) (q : Work) (st : Stmt) (stmts : List Stmt) (next : ℕ) (s s' : Slots) (first before store : StoreView)
    → Becomes S q first (block (drop next stmts) p s) before → RunsAt site levels false st s before s' store → Becomes S q first (block (drop next stmts) p s') store
block_stays site levels S p q st stmts next s s' first before store h run rs = h rs ∙ rw (run.0, run.1) refl

-- the test of a loop was evaluated
tested : (S : Setting) (x : Expr) (body : List Stmt) (p : Places) (s : Slots) (holds : Bool) (n : ℕ) (before : StoreView) (rs : List Resume) → Tells x s before.heap holds n → before.steps + n < step_limit
    → do_work (eval S) (while_work x body p s) (state before rs) ≡ do_work (eval S) (if holds then again (ATurn x body) p s else give [] s) (later n (state before rs))
tested S x body p s holds n before rs t few =
    ap (λ (o : Ending). after o (λ sign s2 w2. do_work (eval S) (on_values (λ vs s3. if is_truthy (first vs) then again (ATurn x body) p s3 else give [] s3) sign s2) w2)) (t.gives.one S p (state before rs) refl few)
    ∙ ap (λ (b : Bool). do_work (eval S) (if b then again (ATurn x body) p s else give [] s) (later n (state before rs))) t.is

-- where it holds, a turn begins
pub test_holds : (x : Expr) (s : Slots) (n : ℕ) (before store : StoreView) → Tells x s before.heap true n → nat_lt (before.steps + (n + 1)) step_limit ≡ true → store ≡ counting (n + 1) before → Tests x s true before store
test_holds x s n before store t few steps S body p rs =
    tested S x body p s true n before rs t (omega (arith, below))
    ∙ after_ended (eval S (ATurn x body) p s (later n (state before rs)))
    ∙ entered S (ATurn x body) p s (later n (state before rs)) (lt-ltb _ _ (omega (arith, below)))
    ∙ ap (λ (k : ℕ). do_work (eval S) (turn_work x body p s) (state (record { heap = before.heap; steps = k }) rs)) sums
    ∙ ap (λ (st : StoreView). do_work (eval S) (turn_work x body p s) (state st rs)) (sym steps)
  where
    below : before.steps + (n + 1) < step_limit
    below = ltb-true _ _ few

    sums : before.steps + n + 1 ≡ before.steps + (n + 1)
    sums = omega arith

-- and where not, the loop is over
pub test_fails : (x : Expr) (s : Slots) (n : ℕ) (before store : StoreView) → Tells x s before.heap false n → nat_lt (before.steps + n) step_limit ≡ true → store ≡ counting n before → Tests x s false before store
test_fails x s n before store t few steps S body p rs = tested S x body p s false n before rs t (ltb-true _ _ few) ∙ ap (λ (st : StoreView). Ended (Values []) s (state st rs)) (sym steps)

pub test_is : (x : Expr) (s : Slots) (holds : Bool) (n k : ℕ) (before store : StoreView) → Tells x s before.heap holds n → k ≡ (if holds then n + 1 else n) → nat_lt (before.steps + k) step_limit ≡ true
    → store ≡ record { heap = before.heap; steps = min step_limit (before.steps + k) } → Tests x s holds before store
test_is x s true n k before store t is few steps = test_holds x s n before store t (rw is at few) (rw is at (counted k before store steps few))
test_is x s false n k before store t is few steps = test_fails x s n before store t (rw is at few) (rw is at (counted k before store steps few))

-- a turn's statements were run up to an index
pub turn_goes : (S : Setting) (p : Places) (q : Work) (test : Expr) (body : List Stmt) (next : ℕ) (s s' : Slots) (first before mid store : StoreView)
    → Becomes S q first (while_work test body p s) before → Tests test s true before mid → Becomes S (block (drop 0 body) p s) mid (block (drop next body) p s') store
    → Becomes S q first (and_then (block (drop next body) p s') (after_body (while_work test body p))) store
turn_goes S p q test body next s s' first before mid store h t b rs =
    h rs ∙ t S body p rs ∙ work-then (eval S) (block body p s) (after_body (while_work test body p)) (state mid rs)
    ∙ ap (λ (o : Ending). after o (λ sign s2 w2. do_work (eval S) (after_body (while_work test body p) sign s2) w2)) (b rs)
    ∙ sym (work-then (eval S) (block (drop next body) p s') (after_body (while_work test body p)) (state store rs))

-- all of them were, and the test comes again
pub turn_ends : (S : Setting) (p : Places) (q : Work) (test : Expr) (body : List Stmt) (next : ℕ) (s' : Slots) (first store : StoreView) → length body ≤ next
    → Becomes S q first (and_then (block (drop next body) p s') (after_body (while_work test body p))) store → Becomes S q first (while_work test body p s') store
turn_ends S p q test body next s' first store all h rs = h rs ∙ ap (λ (t : List Stmt). do_work (eval S) (and_then (block t p s') (after_body (while_work test body p))) (state store rs)) (dropped_all body next all)

-- the loop is over
pub loop_ends : (S : Setting) (p : Places) (q : Work) (test : Expr) (body : List Stmt) (s : Slots) (first before store : StoreView)
    → Becomes S q first (while_work test body p s) before → Tests test s false before store → Becomes S q first (give [] s) store
loop_ends S p q test body s first before store h t rs = h rs ∙ t S body p rs

-- a list of one
pub one_of : {A : Type 0} (xs : List A) (x : A) → length xs ≡ 1 → x ≡ slice_index_or xs 0 x → xs ≡ x ∷ []
one_of [] x one is = absurd (omega (arith, one))
one_of {A} (y ∷ []) x one is = ap (λ (z : A). z ∷ []) (sym is)
one_of (y ∷ z ∷ xs) x one is = absurd (omega (arith, one))

pub slot_target : (target x : Expr) (i : ℕ) (st : Stmt) → target.kind ≡ v.Slot i → IsAssignments (target ∷ []) (x ∷ []) st → IsAssignment i x st
slot_target target x i st is h = record { target = target; assignments = h; is_slot = rw (is, outs-Slot i) refl }

pub locals_kind : (st : Stmt) (slots : Rc (Vec ℕ Global) Global) (values : Rc (Vec Expr Global) Global) → st.kind ≡ sv.Local slots values → IsLocals slots.value.items values.value.items st
locals_kind st slots values is = record { slots = slots; values = values; is_local = rw (is, outs-Local slots values) refl; in_slots = refl; listed = refl }

pub assignments_kind : (st : Stmt) (targets values : Rc (Vec Expr Global) Global) → st.kind ≡ sv.Assign targets values → IsAssignments targets.value.items values.value.items st
assignments_kind st targets values is = record { targets = targets; values = values; is_assignment = rw (is, outs-Assign targets values) refl; aimed = refl; listed = refl }

-- lists that are the same
pub same_locals : (places places' : List ℕ) (xs xs' : List Expr) (r : Bool) (s s' : Slots) (before store : StoreView) → places ≡ places' → xs ≡ xs' → ((st : Stmt) → IsLocals places' xs' st → RunsIf r st s before s' store)
    → (st : Stmt) → IsLocals places xs st → RunsIf r st s before s' store
same_locals places places' xs xs' r s s' before store p q h st is = h st (record { slots = is.slots; values = is.values; is_local = is.is_local; in_slots = is.in_slots ∙ p; listed = is.listed ∙ q })

pub same_assignments : (ts ts' xs xs' : List Expr) (r : Bool) (s s' : Slots) (before store : StoreView) → ts ≡ ts' → xs ≡ xs' → ((st : Stmt) → IsAssignments ts' xs' st → RunsIf r st s before s' store)
    → (st : Stmt) → IsAssignments ts xs st → RunsIf r st s before s' store
same_assignments ts ts' xs xs' r s s' before store p q h st is =
    h st (record { targets = is.targets; values = is.values; is_assignment = is.is_assignment; aimed = is.aimed ∙ p; listed = is.listed ∙ q })

-- nothing was counted for the test
pub loop_stays : (S : Setting) (p : Places) (q : Work) (test : Expr) (body : List Stmt) (s : Slots) (first before store : StoreView) → Becomes S q first (while_work test body p s) before → store ≡ before → Becomes S q first (while_work test body p s) store
loop_stays S p q test body s first before store h e rs = h rs ∙ ap (λ (st : StoreView). do_work (eval S) (while_work test body p s) (state st rs)) (sym e)

-- the same statements
pub same_body : (site : Site) (levels : ℕ) (test : Expr) (xs ys : List Stmt) (r : LoopEnd) (s s' : Slots) (before store : StoreView) → xs ≡ ys → ((S : Setting) (p : Places) → Allows site levels S p → Becomes S (while_work test xs p s) before (left_of r test xs p s') store)
    → (S : Setting) (p : Places) → Allows site levels S p → Becomes S (while_work test ys p s) before (left_of r test ys p s') store
same_body site levels test xs ys r s s' before store e h S p a = subst (λ (zs : List Stmt). Becomes S (while_work test zs p s) before (left_of r test zs p s') store) e (h S p a)

pub same_block : (site : Site) (levels : ℕ) (xs ys : List Stmt) (from to : ℕ) (s s' : Slots) (before store : StoreView) → xs ≡ ys → ((S : Setting) (p : Places) → Allows site levels S p → Becomes S (block (drop from xs) p s) before (block (drop to xs) p s') store)
    → (S : Setting) (p : Places) → Allows site levels S p → Becomes S (block (drop from ys) p s) before (block (drop to ys) p s') store
same_block site levels xs ys from to s s' before store e h S p a = subst (λ (zs : List Stmt). Becomes S (block (drop from zs) p s) before (block (drop to zs) p s') store) e (h S p a)

-- a test that was evaluated
pub tests_as : (x y : Expr) (s t : Slots) (holds h : Bool) (r : Option Bool) (before store : StoreView) → r ≡ Some holds → holds ≡ h → x ≡ y → s ≡ t → MatchOption r (store ≡ before) (λ b. Tests x s b before store) → Tests y t h before store
tests_as x y s t holds h r before store is e ex es m =
    subst (λ (z : Slots). Tests y z h before store) es (subst (λ (z : Expr). Tests z s h before store) ex (subst (λ (z : Bool). Tests x s z before store) e (subst (λ (z : Option Bool). MatchOption z (store ≡ before) (λ b. Tests x s b before store)) is m)))
