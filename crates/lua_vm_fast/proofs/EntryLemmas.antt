-- Assignments to entries of tables and to global variables.
use Rattle.std.specs.Prelude.{◌≡◌, ℕ, ◌+◌, ◌<◌, Bool, true, false, if◌then◌else◌, List, [], ◌∷◌, Option, None, refl}
use Rattle.std.specs.declared.rc.Rc.{Rc}
use Rattle.std.specs.declared.alloc.Global.{Global}
use Rattle.std.proofs.Common.{sym, ◌∙◌, ap, subst, arith}
use Rattle.std.proofs.lemmas.Bool.{lt-ltb}
use Rattle.lua_ast.specs.declared.expressions.Expr.{Expr}
use Rattle.lua_ast.specs.declared.expressions.ExprKind.TheOpen as e
use Rattle.lua_ast.specs.declared.expressions.ExprKind.TheViews.{outs-Global, outs-Index}
use Rattle.lua_ast.specs.declared.expressions.ExprKind.TheVariants as v
use Rattle.lua_ast.specs.declared.statements.Stmt.{Stmt}
use Rattle.lua_ast.specs.declared.statements.StmtKind.TheOpen as sk
use Rattle.lua_values.specs.declared.faults.StoreFault.{StoreFault}
use Rattle.lua_values.specs.declared.values.Value.{Value}
use Rattle.lua_values.specs.declared.values.Value.TheVariants.{Table, Text}
use Rattle.lua_values.specs.Heap.{StoreView, step_limit}
use Rattle.lua_values.specs.Pairs.{value_at}
use Rattle.lua_values.specs.Values.{is_nil}
use Rattle.lua_values.specs.StoreCalls.{pairs_of, set_cause, with_pair}
use Rattle.lua_operators.specs.declared.events.Event.TheVariants.{NewIndex}
use Rattle.lua_meaning.specs.Works.{Places, Slots, AnExpr, Values, Work, Write, and_then}
use Rattle.lua_meaning.specs.Evaluator.{State, Ended, do_work}
use Rattle.lua_meaning.specs.Setting.{Setting}
use Rattle.lua_meaning.specs.Positions.{callers_at}
use Rattle.lua_meaning.specs.Signs.{give, on_values}
use Rattle.lua_meaning.specs.Variables.{table_fault, unless_refused}
use Rattle.lua_meaning.specs.Metatables.{handler, handler_in}
use Rattle.lua_meaning.specs.Indexing.{set_raw, store_by, store_work}
use Rattle.lua_meaning.specs.Assignments.{assignment_work}
use Rattle.lua_meaning.specs.Nodes.{eval}
use Rattle.lua_meaning.proofs.Running.{Does, stmt, seq, look, count, target}
use Rattle.lua_vm_fast.specs.declared.entries.Entry.{Entry}
use Rattle.lua_vm_fast.specs.declared.entries.Object.{Object}
use Rattle.lua_vm_fast.specs.declared.entries.Spot.{Spot}
use Rattle.lua_vm_fast.specs.Gives.{later, Gives}
use Rattle.lua_vm_fast.specs.Runs.{state, RunsIf, IsAssignments}
use Rattle.lua_vm_fast.specs.Entries.{IsStore, IsGlobal, SetsEntry, SetsGlobal, IsOwn, PutsIf, StoresAt, StoresIn}

-- a state with a pair more
abbrev paired : ℕ → Value → Value → State → State
paired t key u w = record w { store = record { heap = with_pair w.store.heap t key u; steps = w.store.steps } }

raw_done : (S : Setting) (line t : ℕ) (key u : Value) (p : Places) (s : Slots) (w : State) → set_cause w.store.heap t key u ≡ None
    → do_work (eval S) (and_then (set_raw S line (Table t) key u p s) (on_values (λ us s'. give [] s'))) w ≡ Ended (Values []) s (paired t key u w)
raw_done S line t key u p s w allowed =
    ap (λ (c : Option StoreFault). do_work (eval S) (and_then (unless_refused S (callers_at p line) table_fault c s (Write (with_pair w.store.heap t key u) (give [] s))) (on_values (λ us s'. give [] s'))) w) allowed

-- a value is set at a key, where no metatable is asked
stored : (S : Setting) (line t : ℕ) (key u : Value) (p : Places) (s : Slots) (w : State) → IsOwn w.store.heap t key → set_cause w.store.heap t key u ≡ None
    → Does S (and_then (store_work S line (Table t) key u p s) (on_values (λ us s'. give [] s'))) w (Ended (Values []) s (paired t key u w))
stored S line t key u p s w own allowed = record { is = by_nil (is_nil (value_at (pairs_of w.store.heap t) key)) refl ∙ raw_done S line t key u p s w allowed }
  where
    raw : Work
    raw = set_raw S line (Table t) key u p s

    by_nil : (b : Bool) → is_nil (value_at (pairs_of w.store.heap t) key) ≡ b
        → do_work (eval S) (and_then (if b then (if is_nil (handler w.store.heap (Table t) NewIndex) then raw else store_by (handler w.store.heap (Table t) NewIndex) line (Table t) key u p s) else raw) (on_values (λ us s'. give [] s'))) w
        ≡ do_work (eval S) (and_then raw (on_values (λ us s'. give [] s'))) w
    by_nil false is = refl
    by_nil true is =
        ap (λ (m : Option ℕ). do_work (eval S) (and_then (if is_nil (handler_in w.store.heap m NewIndex) then raw else store_by (handler_in w.store.heap m NewIndex) line (Table t) key u p s) (on_values (λ us s'. give [] s'))) w) (own is)

-- the store's heap is the one before, whatever was counted
store_ends : (S : Setting) (targets xs : List Expr) (a b x : Expr) (entry : Entry) (st : Stmt) (s : Slots) (p : Places) (w : State) (is : IsStore a b x st) (sets : SetsEntry a b x s w.store.heap entry) → targets ≡ is.target ∷ [] → xs ≡ x ∷ []
    → IsOwn w.store.heap entry.table entry.key → set_cause w.store.heap entry.table entry.key entry.value ≡ None → w.store.steps + (entry.steps + 1) < step_limit
    → Does S (assignment_work S targets xs p s) w (Ended (Values []) s (paired entry.table entry.key entry.value (later sets.value_steps (later sets.key_steps (later sets.object_steps (later 1 w))))))
store_ends S targets xs a b x entry st s p w is sets one values own allowed few =
    rw (one, values) (count (lt-ltb _ _ (omega (arith, few))) (target {k = e.Index is.left is.right} is.target p s _ is.is_index
    (seq (record { is = (subst (λ (z : Expr). Gives z s w.store.heap (Table entry.table) sets.object_steps) (sym is.object) sets.object).one S p (later 1 w) refl (omega (arith, few, sets.sum)) })
    (seq (record { is = (subst (λ (z : Expr). Gives z s w.store.heap entry.key sets.key_steps) (sym is.key) sets.key).one S p (later sets.object_steps (later 1 w)) refl (omega (arith, few, sets.sum)) })
    (seq {n = AnExpr x} (record { is = sets.value.all S p (later sets.key_steps (later sets.object_steps (later 1 w))) refl (omega (arith, few, sets.sum)) })
    (stored S is.target.line entry.table entry.key entry.value p s (later sets.value_steps (later sets.key_steps (later sets.object_steps (later 1 w)))) own allowed))))))

pub store_runs : (a b x : Expr) (entry : Entry) (s : Slots) (r : Bool) (before store : StoreView) → SetsEntry a b x s before.heap entry → PutsIf r entry before store → (st : Stmt) → IsStore a b x st → RunsIf r st s before s store
store_runs a b x entry s false before store sets puts st is = (refl, puts)
store_runs a b x entry s true before store sets puts st is = λ S p rs.
    (stmt {k = sk.Assign is.assignments.targets is.assignments.values} is.assignments.is_assignment (lt-ltb _ _ (omega (arith, puts.few)))
    (store_ends S is.assignments.targets.value.items is.assignments.values.value.items a b x entry st s p (later 1 (state before rs)) is sets is.assignments.aimed is.assignments.listed puts.own puts.allowed (omega (arith, puts.few)))).is
    ∙ ap (λ (k : ℕ). Ended (Values []) s (state (record { heap = with_pair before.heap entry.table entry.key entry.value; steps = k }) rs)) sums
    ∙ ap (λ (st' : StoreView). Ended (Values []) s (state st' rs)) (sym puts.is)
  where
    sums : before.steps + 1 + 1 + sets.object_steps + sets.key_steps + sets.value_steps ≡ before.steps + (entry.steps + 2)
    sums = omega (arith, sets.sum)

global_ends : (S : Setting) (targets xs : List Expr) (name : List ℕ) (x : Expr) (entry : Entry) (st : Stmt) (s : Slots) (p : Places) (w : State) (is : IsGlobal name x st) (sets : SetsGlobal name x s w.store.heap entry) → targets ≡ is.target ∷ [] → xs ≡ x ∷ []
    → IsOwn w.store.heap entry.table entry.key → set_cause w.store.heap entry.table entry.key entry.value ≡ None → w.store.steps + (entry.steps + 1) < step_limit
    → Does S (assignment_work S targets xs p s) w (Ended (Values []) s (paired entry.table entry.key entry.value (later entry.steps (later 1 w))))
global_ends S targets xs name x entry st s p w is sets one values own allowed few =
    rw (one, values) (count (lt-ltb _ _ (omega (arith, few))) (target {k = e.Global name} is.target p s _ is.is_global (look
    (seq {n = AnExpr x} (record { is = sets.value.all S p (later 1 w) refl (omega (arith, few)) }) written))))
  where
    written : Does S (and_then (store_work S is.target.line (Table w.store.heap.globals) (Text name) entry.value p s) (on_values (λ us s'. give [] s'))) (later entry.steps (later 1 w))
        (Ended (Values []) s (paired entry.table entry.key entry.value (later entry.steps (later 1 w))))
    written =
        subst (λ (t : ℕ). Does S (and_then (store_work S is.target.line (Table t) (Text name) entry.value p s) (on_values (λ us s'. give [] s'))) (later entry.steps (later 1 w)) (Ended (Values []) s (paired entry.table entry.key entry.value (later entry.steps (later 1 w))))) sets.table
        (subst (λ (k : Value). Does S (and_then (store_work S is.target.line (Table entry.table) k entry.value p s) (on_values (λ us s'. give [] s'))) (later entry.steps (later 1 w)) (Ended (Values []) s (paired entry.table entry.key entry.value (later entry.steps (later 1 w))))) sets.key
        (stored S is.target.line entry.table entry.key entry.value p s (later entry.steps (later 1 w)) own allowed))

pub global_runs : (name : List ℕ) (x : Expr) (entry : Entry) (s : Slots) (r : Bool) (before store : StoreView) → SetsGlobal name x s before.heap entry → PutsIf r entry before store → (st : Stmt) → IsGlobal name x st → RunsIf r st s before s store
global_runs name x entry s false before store sets puts st is = (refl, puts)
global_runs name x entry s true before store sets puts st is = λ S p rs.
    (stmt {k = sk.Assign is.assignments.targets is.assignments.values} is.assignments.is_assignment (lt-ltb _ _ (omega (arith, puts.few)))
    (global_ends S is.assignments.targets.value.items is.assignments.values.value.items name x entry st s p (later 1 (state before rs)) is sets is.assignments.aimed is.assignments.listed puts.own puts.allowed (omega (arith, puts.few)))).is
    ∙ ap (λ (k : ℕ). Ended (Values []) s (state (record { heap = with_pair before.heap entry.table entry.key entry.value; steps = k }) rs)) sums
    ∙ ap (λ (st' : StoreView). Ended (Values []) s (state st' rs)) (sym puts.is)
  where
    sums : before.steps + 1 + 1 + entry.steps ≡ before.steps + (entry.steps + 2)
    sums = omega arith

-- targets
pub index_target : (target x : Expr) (a b : Rc Expr Global) (y z : Expr) (st : Stmt) → target.kind ≡ v.Index a b → y ≡ a.value → z ≡ b.value → IsAssignments (target ∷ []) (x ∷ []) st → IsStore y z x st
index_target target x a b y z st is l r h = record { target = target; left = a; right = b; assignments = h; is_index = rw (is, outs-Index a b) refl; object = sym l; key = sym r }

pub global_target : (target x : Expr) (name : List ℕ) (st : Stmt) → target.kind ≡ v.Global name → IsAssignments (target ∷ []) (x ∷ []) st → IsGlobal name x st
global_target target x name st is h = record { target = target; assignments = h; is_global = rw (is, outs-Global name) refl }

-- entries, from the values of their parts
pub entry_stores : (spot : Spot) (x : Expr) (s : Slots) (entry : Entry) (k : ℕ) (r : Bool) (before store : StoreView) → entry.table ≡ spot.table → entry.key ≡ spot.key → Gives x s before.heap entry.value k → entry.steps ≡ spot.steps + k
    → PutsIf r entry before store → StoresAt r spot x s before store
entry_stores spot x s entry k false before store table key g sum puts = puts
entry_stores spot x s entry k true before store table key g sum puts = record { entry = entry; value_steps = k; table = table; key = key; value = g; sum = sum; puts = puts }

pub spot_stores : (object : Object) (b x : Expr) (s : Slots) (spot : Spot) (k : ℕ) (r : Bool) (before store : StoreView) → spot.table ≡ object.table → Gives b s before.heap spot.key k → spot.steps ≡ object.steps + k
    → StoresAt r spot x s before store → StoresIn r object b x s before store
spot_stores object b x s spot k false before store table g sum stores = stores
spot_stores object b x s spot k true before store table g sum stores = record { spot = spot; key_steps = k; table = table; key = g; sum = sum; stores = stores }

pub key_runs : (a b x : Expr) (object : Object) (s : Slots) (r : Bool) (before store : StoreView) → Gives a s before.heap (Table object.table) object.steps → StoresIn r object b x s before store → (st : Stmt) → IsStore a b x st → RunsIf r st s before s store
key_runs a b x object s false before store g h st is = (refl, h)
key_runs a b x object s true before store g h st is = store_runs a b x h.stores.entry s true before store sets h.stores.puts st is
  where
    sets : SetsEntry a b x s before.heap h.stores.entry
    sets = record {
      object_steps = object.steps;
      key_steps = h.key_steps;
      value_steps = h.stores.value_steps;
      object = subst (λ (t : ℕ). Gives a s before.heap (Table t) object.steps) (sym (h.stores.table ∙ h.table)) g;
      key = subst (λ (u : Value). Gives b s before.heap u h.key_steps) (sym h.stores.key) h.key;
      value = h.stores.value;
      sum = omega (arith, h.stores.sum, h.sum);
    }

pub name_runs : (name : List ℕ) (x : Expr) (spot : Spot) (s : Slots) (r : Bool) (before store : StoreView) → spot.table ≡ before.heap.globals → spot.key ≡ Text name → spot.steps ≡ 0 → StoresAt r spot x s before store
    → (st : Stmt) → IsGlobal name x st → RunsIf r st s before s store
name_runs name x spot s false before store table key none h st is = (refl, h)
name_runs name x spot s true before store table key none h st is = global_runs name x h.entry s true before store sets h.puts st is
  where
    few : h.value_steps ≡ h.entry.steps
    few = omega (arith, h.sum, none)

    sets : SetsGlobal name x s before.heap h.entry
    sets = record { table = h.table ∙ table; key = h.key ∙ key; value = subst (λ (k : ℕ). Gives x s before.heap h.entry.value k) few h.value }
