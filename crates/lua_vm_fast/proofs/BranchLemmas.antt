-- `if` statements that are run at once.
use Rattle.std.specs.Prelude.{◌≡◌, ℕ, ◌+◌, ◌≤◌, ◌<◌, Bool, true, false, if◌then◌else◌, List, [], ◌∷◌, length, drop, refl}
use Rattle.std.specs.declared.rc.Rc.{Rc}
use Rattle.std.specs.declared.vec.Vec.{Vec}
use Rattle.std.specs.declared.alloc.Global.{Global}
use Rattle.std.proofs.Common.{sym, ◌∙◌, ap, subst, arith}
use Rattle.std.proofs.lemmas.Bool.{lt-ltb}
use Rattle.lua_ast.specs.declared.statements.Arm.{Arm, out-Arm}
use Rattle.lua_ast.specs.declared.statements.Stmt.{Stmt}
use Rattle.lua_ast.specs.declared.statements.StmtKind.TheOpen as sk
use Rattle.lua_ast.specs.declared.statements.StmtKind.TheViews.{outs-If}
use Rattle.lua_ast.specs.declared.statements.StmtKind.TheVariants as sv
use Rattle.lua_values.specs.Heap.{Heap, step_limit}
use Rattle.lua_operators.specs.Types.{is_truthy}
use Rattle.lua_meaning.specs.Works.{Places, Slots, Sign, Values}
use Rattle.lua_meaning.specs.Evaluator.{State, Ending, Ended, after, do_work}
use Rattle.lua_meaning.specs.Setting.{Setting}
use Rattle.lua_meaning.specs.Signs.{first, on_values}
use Rattle.lua_meaning.specs.Blocks.{block}
use Rattle.lua_meaning.specs.Statements.{if_work}
use Rattle.lua_meaning.specs.Nodes.{eval}
use Rattle.lua_meaning.proofs.Running.{stmt}
use Rattle.lua_vm_fast.specs.declared.calls.Site.{Site}
use Rattle.lua_vm_fast.specs.Gives.{later, Tells}
use Rattle.lua_vm_fast.specs.Branches.{Chooses, IsIf}
use Rattle.lua_vm_fast.specs.Bodies.{StmtEnds, BlockEnds}
use Rattle.lua_vm_fast.proofs.RunLemmas.{dropped_all}
use Rattle.lua_vm_fast.proofs.CallLemmas.{less}
use Rattle.lua_vm_fast.proofs.BodyLemmas.{begins, goes, over}

-- an `if` of which some tests failed
pub record Trying (arms : List Arm) (last : List Stmt) (i : ℕ) (s : Slots) (h : Heap) (n : ℕ) : Type 0 where
  pub is : (S : Setting) (p : Places) (w : State) → w.store.heap ≡ h → w.store.steps + n < step_limit
      → do_work (eval S) (if_work arms last p s) w ≡ do_work (eval S) (if_work (drop i arms) last p s) (later n w)

pub first_tried : (arms : List Arm) (last : List Stmt) (s : Slots) (h : Heap) → Trying arms last 0 s h 0
first_tried arms last s h = record {
  is = λ S p w same few. ap (λ (k : ℕ). do_work (eval S) (if_work arms last p s) (record w { store = record { heap = w.store.heap; steps = k } })) (zero_more w.store.steps);
}
  where
    zero_more : (k : ℕ) → k ≡ k + 0
    zero_more k = omega arith

-- the next test was evaluated
tested : (arms : List Arm) (last : List Stmt) (a : Arm) (i : ℕ) (s : Slots) (h : Heap) (holds : Bool) (n m : ℕ) → drop i arms ≡ a ∷ drop (i + 1) arms → Trying arms last i s h n → Tells (out-Arm a).test s h holds m
    → (S : Setting) (p : Places) (w : State) → w.store.heap ≡ h → w.store.steps + (n + m) < step_limit
    → do_work (eval S) (if_work arms last p s) w ≡ do_work (eval S) (if holds then block (out-Arm a).body.value.items p s else if_work (drop (i + 1) arms) last p s) (later m (later n w))
tested arms last a i s h holds n m at t tells S p w same few =
    t.is S p w same (omega (arith, few))
    ∙ ap (λ (some : List Arm). do_work (eval S) (if_work some last p s) (later n w)) at
    ∙ ap (λ (o : Ending). after o (λ sign s2 w2. do_work (eval S) (on_values (λ vs s3. if is_truthy (first vs) then block (out-Arm a).body.value.items p s3 else if_work (drop (i + 1) arms) last p s3) sign s2) w2))
    (tells.gives.one S p (later n w) same (omega (arith, few)))
    ∙ ap (λ (b : Bool). do_work (eval S) (if b then block (out-Arm a).body.value.items p s else if_work (drop (i + 1) arms) last p s) (later m (later n w))) tells.is

pub next_tried : (arms : List Arm) (last : List Stmt) (a : Arm) (i : ℕ) (s : Slots) (h : Heap) (n m k : ℕ) → drop i arms ≡ a ∷ drop (i + 1) arms → Trying arms last i s h n → Tells (out-Arm a).test s h false m → k ≡ n + m
    → Trying arms last (i + 1) s h k
next_tried arms last a i s h n m k at t tells sum = record {
  is = λ S p w same few.
      tested arms last a i s h false n m at t tells S p w same (omega (arith, few, sum))
      ∙ ap (λ (j : ℕ). do_work (eval S) (if_work (drop (i + 1) arms) last p s) (record w { store = record { heap = w.store.heap; steps = j } })) (added w.store.steps);
}
  where
    added : (j : ℕ) → j + n + m ≡ j + k
    added j = omega (arith, sum)

pub chosen : (arms : List Arm) (last : List Stmt) (a : Arm) (i : ℕ) (s : Slots) (h : Heap) (body : List Stmt) (n m k : ℕ) → drop i arms ≡ a ∷ drop (i + 1) arms → Trying arms last i s h n → Tells (out-Arm a).test s h true m
    → body ≡ (out-Arm a).body.value.items → k ≡ n + m → Chooses arms last s h body k
chosen arms last a i s h body n m k at t tells is sum = record {
  is = λ S p w same few.
      tested arms last a i s h true n m at t tells S p w same (omega (arith, few, sum))
      ∙ ap (λ (j : ℕ). do_work (eval S) (block (out-Arm a).body.value.items p s) (record w { store = record { heap = w.store.heap; steps = j } })) (added w.store.steps)
      ∙ ap (λ (b : List Stmt). do_work (eval S) (block b p s) (later k w)) (sym is);
}
  where
    added : (j : ℕ) → j + n + m ≡ j + k
    added j = omega (arith, sum)

pub last_chosen : (arms : List Arm) (last : List Stmt) (i : ℕ) (s : Slots) (h : Heap) (n : ℕ) → length arms ≤ i → Trying arms last i s h n → Chooses arms last s h last n
last_chosen arms last i s h n all t = record {
  is = λ S p w same few. t.is S p w same few ∙ ap (λ (some : List Arm). do_work (eval S) (if_work some last p s) (later n w)) (dropped_all arms i all);
}

-- an `if` ends as its block does
pub if_ends : (site : Site) (levels l : ℕ) (arms : List Arm) (last body : List Stmt) (st : Stmt) (s s' : Slots) (h : Heap) (sign : Sign) (n m k : ℕ) → IsIf arms last st → Chooses arms last s h body n → BlockEnds site l body s h sign s' m → l ≤ levels
    → k ≡ m + n + 1 → StmtEnds site levels st s h sign s' k
if_ends site levels l arms last body st s s' h sign n m k is c ends within sum = record {
  is = λ S p w a same few.
      (stmt {S = S} {st = st} {k = sk.If is.tests is.otherwise} {p = p} {s = s} {w = w} is.is_if (lt-ltb _ _ (omega (arith, few, sum))) (record {
        is =
            ap (λ (some : List Arm). do_work (eval S) (if_work some is.otherwise.value.items p s) (later 1 w)) is.armed
            ∙ ap (λ (b : List Stmt). do_work (eval S) (if_work arms b p s) (later 1 w)) is.ended
            ∙ c.is S p (later 1 w) same (omega (arith, few, sum))
            ∙ ends.is S p (later n (later 1 w)) (less site l levels S p within a) same (omega (arith, few, sum));
      })).is
      ∙ ap (λ (j : ℕ). Ended sign s' (record w { store = record { heap = w.store.heap; steps = j } })) (added w.store.steps);
}
  where
    added : (j : ℕ) → j + 1 + n + m ≡ j + k
    added j = omega (arith, sum)

pub no_stmt_ends : (site : Site) (levels : ℕ) (arms : List Arm) (last body : List Stmt) (st : Stmt) (s : Slots) (h : Heap) (n : ℕ) → IsIf arms last st → Chooses arms last s h body n → body ≡ [] → StmtEnds site levels st s h (Values []) s (n + 1)
no_stmt_ends site levels arms last body st s h n is c empty =
    if_ends site levels levels arms last body st s s h (Values []) n 0 (n + 1) is c (over site levels body 0 s s h 0 (omega (arith, ap length empty)) (begins site levels body s h)) (omega arith) (omega arith)

pub one_stmt_ends : (site : Site) (levels : ℕ) (arms : List Arm) (last body : List Stmt) (inner st : Stmt) (s s' : Slots) (h : Heap) (n m k : ℕ) → IsIf arms last st → Chooses arms last s h body n → body ≡ inner ∷ [] → StmtEnds site levels inner s h (Values []) s' m
    → k ≡ m + (n + 1) → StmtEnds site levels st s h (Values []) s' k
one_stmt_ends site levels arms last body inner st s s' h n m k is c one ends sum =
    if_ends site levels levels arms last (inner ∷ []) st s s' h (Values []) n m k is (subst (λ (b : List Stmt). Chooses arms last s h b n) one c)
    (over site levels (inner ∷ []) 1 s s' h m (omega arith) (goes site levels (inner ∷ []) inner 0 s s s' h 0 m m refl (begins site levels (inner ∷ []) s h) ends (omega arith))) (omega arith) (omega (arith, sum))

pub if_kind : (st : Stmt) (arms : Rc (Vec Arm Global) Global) (last : Rc (Vec Stmt Global) Global) → st.kind ≡ sv.If arms last → IsIf arms.value.items last.value.items st
if_kind st arms last is = record { tests = arms; otherwise = last; is_if = rw (is, outs-If arms last) refl; armed = refl; ended = refl }
