-- Blocks that give values to variables of their own function alone.
use Rattle.std.specs.Prelude.{◌≡◌, ℕ, ◌+◌, ◌≤◌, ◌<◌, true, List, [], ◌∷◌, length, drop, slice_get, slice_set, Option, Some, None, IfSome, refl}
use Rattle.std.proofs.Common.{◌∙◌, ap, arith}
use Rattle.std.proofs.lemmas.Bool.{lt-ltb}
use Rattle.lua_ast.specs.declared.expressions.Expr.{Expr}
use Rattle.lua_ast.specs.declared.expressions.ExprKind.{out-ExprKind}
use Rattle.lua_ast.specs.declared.expressions.ExprKind.TheOpen as e
use Rattle.lua_ast.specs.declared.expressions.ExprKind.TheViews.{outs-Slot}
use Rattle.lua_ast.specs.declared.expressions.ExprKind.TheVariants as v
use Rattle.lua_ast.specs.declared.statements.Stmt.{Stmt}
use Rattle.lua_ast.specs.declared.statements.StmtKind.TheOpen as sk
use Rattle.lua_values.specs.declared.values.Value.{Value}
use Rattle.lua_values.specs.Heap.{Heap, step_limit}
use Rattle.lua_meaning.specs.declared.slots.Slot.TheVariants.{Plain}
use Rattle.lua_meaning.specs.Works.{Places, Slots, AnExpr, Sign, Values, Return}
use Rattle.lua_meaning.specs.Evaluator.{State, Ending, Ended, after, do_work}
use Rattle.lua_meaning.specs.Setting.{Setting}
use Rattle.lua_meaning.specs.Signs.{give, on_values}
use Rattle.lua_meaning.specs.Variables.{with_locals}
use Rattle.lua_meaning.specs.Statements.{with_values}
use Rattle.lua_meaning.specs.Assignments.{assignment_work}
use Rattle.lua_meaning.specs.Blocks.{block}
use Rattle.lua_meaning.specs.Nodes.{eval}
use Rattle.lua_meaning.proofs.Running.{Does, stmt, seq, count, target, end}
use Rattle.lua_vm_fast.specs.declared.calls.Site.{Site}
use Rattle.lua_vm_fast.specs.declared.bodies.Ended.{Ended as BodyEnd}
use Rattle.lua_vm_fast.specs.Gives.{later}
use Rattle.lua_vm_fast.specs.Runs.{IsLocals, IsAssignments, is_plain}
use Rattle.lua_vm_fast.specs.Calls.{Allows, GivesAt, IsReturn}
use Rattle.lua_vm_fast.specs.Bodies.{StmtEnds, BlockEnds, sign_of}
use Rattle.lua_vm_fast.proofs.RunLemmas.{dropped_all, plain_there, written}
use Rattle.lua_vm_fast.proofs.CallLemmas.{nothing_returned}

-- `local NAME = x`
local_does : (S : Setting) (xs : List Expr) (places : List ℕ) (x : Expr) (i : ℕ) (u : Value) (s : Slots) (p : Places) (w w' : State) → places ≡ i ∷ [] → xs ≡ x ∷ [] → eval S (AnExpr x) p s w ≡ Ended (Values (u ∷ [])) s w'
    → Does S (with_values xs p s (λ vs s'. give [] (with_locals places vs s'))) w (Ended (Values []) (slice_set s i (Plain u)) w')
local_does S xs places x i u s p w w' slots values g = rw (slots, values) (seq {n = AnExpr x} (record { is = g }) end)

pub local_changes : (site : Site) (levels : ℕ) (st : Stmt) (places : List ℕ) (xs : List Expr) (x : Expr) (i n k : ℕ) (u : Value) (s : Slots) (h : Heap) → places ≡ i ∷ [] → xs ≡ x ∷ [] → IsLocals places xs st → GivesAt site levels x s h u n → k ≡ n + 1
    → StmtEnds site levels st s h (Values []) (slice_set s i (Plain u)) k
local_changes site levels st places xs x i n k u s h one_place one_value is g sum = record {
  is = λ S p w a same few.
      (stmt {S = S} {st = st} {k = sk.Local is.slots is.values} {p = p} {s = s} {w = w} is.is_local (lt-ltb _ _ (omega (arith, few, sum)))
      (local_does S is.values.value.items is.slots.value.items x i u s p (later 1 w) (later n (later 1 w)) (is.in_slots ∙ one_place) (is.listed ∙ one_value) (g.all S p (later 1 w) a same (omega (arith, few, sum))))).is
      ∙ ap (λ (t : ℕ). Ended (Values []) (slice_set s i (Plain u)) (record w { store = record { heap = w.store.heap; steps = t } })) (added w.store.steps);
}
  where
    added : (t : ℕ) → t + 1 + n ≡ t + k
    added t = omega (arith, sum)

-- `NAME = x`
assignment_does : (S : Setting) (targets xs : List Expr) (target' x : Expr) (i : ℕ) (u old : Value) (s : Slots) (p : Places) (w w' : State) → targets ≡ target' ∷ [] → xs ≡ x ∷ [] → out-ExprKind target'.kind ≡ e.Slot i
    → eval S (AnExpr x) p s (later 1 w) ≡ Ended (Values (u ∷ [])) s w' → slice_get s i ≡ Some (Plain old) → w.store.steps + 1 < step_limit
    → Does S (assignment_work S targets xs p s) w (Ended (Values []) (slice_set s i (Plain u)) w')
assignment_does S targets xs target' x i u old s p w w' one values is g plain few =
    rw (one, values) (count (lt-ltb _ _ few) (target {k = e.Slot i} target' p s _ is (seq {n = AnExpr x} (record { is = g }) (written S target'.line i 0 u old s p w' plain))))

pub assigned_changes : (site : Site) (levels : ℕ) (st : Stmt) (targets xs : List Expr) (target' x : Expr) (i n k : ℕ) (u : Value) (s : Slots) (h : Heap) → targets ≡ target' ∷ [] → xs ≡ x ∷ [] → target'.kind ≡ v.Slot i → is_plain (slice_get s i) ≡ true
    → IsAssignments targets xs st → GivesAt site levels x s h u n → k ≡ n + 2 → StmtEnds site levels st s h (Values []) (slice_set s i (Plain u)) k
assigned_changes site levels st targets xs target' x i n k u s h one_target one_value slot had is g sum = record {
  is = λ S p w a same few.
      (stmt {S = S} {st = st} {k = sk.Assign is.targets is.values} {p = p} {s = s} {w = w} is.is_assignment (lt-ltb _ _ (omega (arith, few, sum)))
      (assignment_does S is.targets.value.items is.values.value.items target' x i u (plain_there s i had).0 s p (later 1 w) (later n (later 1 (later 1 w))) (is.aimed ∙ one_target) (is.listed ∙ one_value) (rw (slot, outs-Slot i) refl)
      (g.all S p (later 1 (later 1 w)) a same (omega (arith, few, sum))) (plain_there s i had).1 (omega (arith, few, sum)))).is
      ∙ ap (λ (t : ℕ). Ended (Values []) (slice_set s i (Plain u)) (record w { store = record { heap = w.store.heap; steps = t } })) (added w.store.steps);
}
  where
    added : (t : ℕ) → t + 1 + 1 + n ≡ t + k
    added t = omega (arith, sum)

-- a block of which some statements were run
pub record Going (site : Site) (levels : ℕ) (stmts : List Stmt) (i : ℕ) (s s' : Slots) (h : Heap) (n : ℕ) : Type 0 where
  pub is : (S : Setting) (p : Places) (w : State) → Allows site levels S p → w.store.heap ≡ h → w.store.steps + n < step_limit
      → do_work (eval S) (block stmts p s) w ≡ do_work (eval S) (block (drop i stmts) p s') (later n w)

pub begins : (site : Site) (levels : ℕ) (stmts : List Stmt) (s : Slots) (h : Heap) → Going site levels stmts 0 s s h 0
begins site levels stmts s h = record {
  is = λ S p w a same few. ap (λ (k : ℕ). do_work (eval S) (block stmts p s) (record w { store = record { heap = w.store.heap; steps = k } })) (zero_more w.store.steps);
}
  where
    zero_more : (k : ℕ) → k ≡ k + 0
    zero_more k = omega arith

stepped : (site : Site) (levels : ℕ) (stmts : List Stmt) (st : Stmt) (i : ℕ) (s s' s'' : Slots) (h : Heap) (sign : Sign) (n m : ℕ) → drop i stmts ≡ st ∷ drop (i + 1) stmts → Going site levels stmts i s s' h n → StmtEnds site levels st s' h sign s'' m
    → (S : Setting) (p : Places) (w : State) → Allows site levels S p → w.store.heap ≡ h → w.store.steps + (n + m) < step_limit
    → do_work (eval S) (block stmts p s) w ≡ do_work (eval S) (on_values (λ vs t. block (drop (i + 1) stmts) p t) sign s'') (later m (later n w))
stepped site levels stmts st i s s' s'' h sign n m at g ends S p w a same few =
    g.is S p w a same (omega (arith, few))
    ∙ ap (λ (t : List Stmt). do_work (eval S) (block t p s') (later n w)) at
    ∙ ap (λ (o : Ending). after o (λ sign' t w'. do_work (eval S) (on_values (λ vs t'. block (drop (i + 1) stmts) p t') sign' t) w')) (ends.is S p (later n w) a same (omega (arith, few)))

pub goes : (site : Site) (levels : ℕ) (stmts : List Stmt) (st : Stmt) (i : ℕ) (s s' s'' : Slots) (h : Heap) (n m k : ℕ) → drop i stmts ≡ st ∷ drop (i + 1) stmts → Going site levels stmts i s s' h n → StmtEnds site levels st s' h (Values []) s'' m → k ≡ n + m
    → Going site levels stmts (i + 1) s s'' h k
goes site levels stmts st i s s' s'' h n m k at g ends sum = record {
  is = λ S p w a same few.
      stepped site levels stmts st i s s' s'' h (Values []) n m at g ends S p w a same (omega (arith, few, sum))
      ∙ ap (λ (t : ℕ). do_work (eval S) (block (drop (i + 1) stmts) p s'') (record w { store = record { heap = w.store.heap; steps = t } })) (added w.store.steps);
}
  where
    added : (t : ℕ) → t + n + m ≡ t + k
    added t = omega (arith, sum)

pub returns : (site : Site) (levels : ℕ) (stmts : List Stmt) (st : Stmt) (i : ℕ) (s s' s'' : Slots) (h : Heap) (vs : List Value) (n m k : ℕ) → drop i stmts ≡ st ∷ drop (i + 1) stmts → Going site levels stmts i s s' h n → StmtEnds site levels st s' h (Return vs) s'' m → k ≡ n + m
    → BlockEnds site levels stmts s h (Return vs) s'' k
returns site levels stmts st i s s' s'' h vs n m k at g ends sum = record {
  is = λ S p w a same few.
      stepped site levels stmts st i s s' s'' h (Return vs) n m at g ends S p w a same (omega (arith, few, sum))
      ∙ ap (λ (t : ℕ). Ended (Return vs) s'' (record w { store = record { heap = w.store.heap; steps = t } })) (added w.store.steps);
}
  where
    added : (t : ℕ) → t + n + m ≡ t + k
    added t = omega (arith, sum)

pub returned_ends : (site : Site) (levels : ℕ) (stmts : List Stmt) (s s' : Slots) (h : Heap) (vs : List Value) (k : ℕ) (r : Option BodyEnd) → BlockEnds site levels stmts s h (Return vs) s' k → IfSome r (λ e. sign_of e.end ≡ Return vs)
    → IfSome r (λ e. e.steps ≡ k) → IfSome r (λ e. BlockEnds site levels stmts s h (sign_of e.end) s' e.steps)
returned_ends site levels stmts s s' h vs k (Some e) ends sign steps = rw (sign, steps) ends
returned_ends site levels stmts s s' h vs k None ends sign steps = tt

pub over : (site : Site) (levels : ℕ) (stmts : List Stmt) (i : ℕ) (s s' : Slots) (h : Heap) (n : ℕ) → length stmts ≤ i → Going site levels stmts i s s' h n → BlockEnds site levels stmts s h (Values []) s' n
over site levels stmts i s s' h n all g = record {
  is = λ S p w a same few. g.is S p w a same few ∙ ap (λ (t : List Stmt). do_work (eval S) (block t p s') (later n w)) (dropped_all stmts i all);
}

-- `return` of a list that is empty
pub nothing_follows : (xs : List Expr) (st : Stmt) (s : Slots) (h : Heap) → xs ≡ [] → IsReturn xs st → (site : Site) (levels : ℕ) → StmtEnds site levels st s h (Return []) s 1
nothing_follows xs st s h empty is site levels = nothing_returned site levels xs st s h empty is

pub none_of : {A : Type 0} (xs : List A) → length xs < 1 → xs ≡ []
none_of [] h = refl
none_of (x ∷ xs) h = absurd (omega (arith, h))

pub if_some : {A : Type 0} (r : Option A) (P Q : A → Type 0) → ((a : A) → P a → Q a) → IfSome r P → IfSome r Q
if_some (Some a) P Q f h = f a h
if_some None P Q f h = tt
