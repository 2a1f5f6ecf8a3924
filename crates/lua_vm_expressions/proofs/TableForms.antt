-- Tables that are made, and globals that are handled.
use Rattle.std.specs.Prelude.{◌≡◌, ℕ, List, [], ◌∷◌, length, Option, None, Result, refl}
use Rattle.std.proofs.Common.{sym, ◌∙◌, ap, Vec, Global}
use Rattle.std.specs.declared.rc.Rc.{Rc}
use Rattle.lua_ast.specs.declared.expressions.Expr.{Expr}
use Rattle.lua_ast.specs.declared.expressions.ExprKind.{out-ExprKind}
use Rattle.lua_ast.specs.declared.expressions.ExprKind.TheViews.{outs-Table}
use Rattle.lua_ast.specs.declared.expressions.ExprKind.TheVariants as v
use Rattle.lua_ast.specs.declared.expressions.TableItem.{TableItem}
use Rattle.lua_values.specs.declared.values.Value.TheVariants.{Text, Table}
use Rattle.lua_values.specs.declared.faults.StoreFault.{StoreFault}
use Rattle.lua_values.specs.declared.faults.StoreFault.TheVariants.{Full}
use Rattle.lua_values.specs.Heap.{StoreView}
use Rattle.lua_values.specs.StoreCalls.{IsCause, full_cause, with_table}
use Rattle.lua_operators.specs.declared.faults.Fault.TheVariants.{StorageLimit}
use Rattle.lua_meaning.specs.Works.{Places, Slots, Values, Write, and_then}
use Rattle.lua_meaning.specs.Evaluator.{Resume, do_work}
use Rattle.lua_meaning.specs.Setting.{Setting}
use Rattle.lua_meaning.specs.Positions.{callers_at, raise_fault}
use Rattle.lua_meaning.specs.Signs.{give, give_one}
use Rattle.lua_meaning.specs.Expressions.{expr_work, global_work}
use Rattle.lua_meaning.specs.Tables.{constructor_work, items_work}
use Rattle.lua_meaning.specs.Variables.{unless_refused, table_fault}
use Rattle.lua_meaning.specs.Nodes.{eval}
use Rattle.lua_frames.specs.declared.flow.Flow.{Flow}
use Rattle.lua_frames.specs.declared.items.Item.TheVariants as i
use Rattle.lua_frames.specs.declared.threads.Frames.{Frames}
use Rattle.lua_frames.specs.Items.{resume_item}
use Rattle.lua_frames.specs.Frames.{here, slots_of}
use Rattle.lua_frames.specs.Follows.{Works}
use Rattle.lua_frames.specs.Changes.{Waits, Ends}
use Rattle.lua_frames.proofs.FollowLemmas.{works_by, ends_works, work_under}
use Rattle.lua_vm_expressions.proofs.CaptureLemmas.{full_there}

pub table_form : (S : Setting) (x : Expr) (items : Rc (Vec TableItem Global) Global) (p : Places) (s : Slots) → x.kind ≡ v.Table items → expr_work S x.line (out-ExprKind x.kind) p s ≡ constructor_work S x.line items.value.items p s
table_form S x items p s is = rw (is, outs-Table items) refl

-- a table is made, and its items wait
pub table_made : {E : Type 0} (S : Setting) (line t : ℕ) (items copy : Rc (Vec TableItem Global) Global) (old mid new : Frames) (before store : StoreView) (r : Result Flow E)
    → t ≡ length before.heap.tables → full_cause before.heap 32 ≡ None → store ≡ record { heap = with_table before.heap; steps = before.steps } → copy.value ≡ items.value
    → Waits old (i.Items (record { line = line; table = t; number = 1; items = copy; next = 0 })) mid → Ends (Values []) mid new r
    → Works S (constructor_work S line items.value.items (here old) (slots_of old)) old before new store r
table_made S line t items copy old mid new before store r n room is same h k =
    works_by S (constructor_work S line items.value.items (here old) (slots_of old)) (and_then (give [] (slots_of old)) (resume_item S (i.Items (record { line = line; table = t; number = 1; items = copy; next = 0 })) (here old))) old new before store store r comes
    (work_under S old mid new (i.Items (record { line = line; table = t; number = 1; items = copy; next = 0 })) (λ p s. give [] s) store store r h (ends_works S (Values []) mid new store r k))
  where
    comes : (rs : List Resume) → do_work (eval S) (constructor_work S line items.value.items (here old) (slots_of old)) (record { store = before; resumes = rs })
        ≡ do_work (eval S) (items_work S line t 1 copy.value.items (here old) (slots_of old)) (record { store = store; resumes = rs })
    comes rs =
        ap (λ (cause : Option StoreFault). do_work (eval S) (unless_refused S (callers_at (here old) line) table_fault cause (slots_of old) (Write (with_table before.heap) (items_work S line (length before.heap.tables) 1 items.value.items (here old) (slots_of old)))) (record { store = before; resumes = rs })) room
        ∙ ap (λ (st : StoreView). do_work (eval S) (items_work S line (length before.heap.tables) 1 items.value.items (here old) (slots_of old)) (record { store = st; resumes = rs })) (sym is)
        ∙ ap (λ (m : ℕ). do_work (eval S) (items_work S line m 1 items.value.items (here old) (slots_of old)) (record { store = store; resumes = rs })) (sym n)
        ∙ ap (λ (w : Vec TableItem Global). do_work (eval S) (items_work S line t 1 w.items (here old) (slots_of old)) (record { store = store; resumes = rs })) (sym same)

-- or there is no room for it
pub table_refused : {E : Type 0} (S : Setting) (line : ℕ) (items : List TableItem) (old new : Frames) (before mid store : StoreView) (r : Result Flow E)
    → IsCause (full_cause before.heap 32) Full → mid ≡ before → Works S (raise_fault S (callers_at (here old) line) StorageLimit (slots_of old)) old mid new store r
    → Works S (constructor_work S line items (here old) (slots_of old)) old before new store r
table_refused S line items old new before mid store r cause same w =
    works_by S (constructor_work S line items (here old) (slots_of old)) (raise_fault S (callers_at (here old) line) StorageLimit (slots_of old)) old new before mid store r
    (λ rs. ap (λ (c : Option StoreFault). do_work (eval S) (unless_refused S (callers_at (here old) line) table_fault c (slots_of old) (Write (with_table before.heap) (items_work S line (length before.heap.tables) 1 items (here old) (slots_of old)))) (record { store = before; resumes = rs })) (full_there (full_cause before.heap 32) cause)
    ∙ ap (λ (st : StoreView). do_work (eval S) (raise_fault S (callers_at (here old) line) StorageLimit (slots_of old)) (record { store = st; resumes = rs })) (sym same)) w

-- a global variable is what an index of the global table gives
pub global_waits : {E : Type 0} (S : Setting) (line t : ℕ) (name copy : List ℕ) (old mid new : Frames) (store : StoreView) (r : Result Flow E)
    → t ≡ store.heap.globals → copy ≡ name → Waits old (i.At line (Table t)) mid → Ends (Values (Text copy ∷ [])) mid new r
    → Works S (global_work S line name (here old) (slots_of old)) old store new store r
global_waits S line t name copy old mid new store r is same h k =
    works_by S (global_work S line name (here old) (slots_of old)) (and_then (give_one (Text copy) (slots_of old)) (resume_item S (i.At line (Table t)) (here old))) old new store store store r
    (λ rs. sym (rw (is, same) refl))
    (work_under S old mid new (i.At line (Table t)) (λ p s. give_one (Text copy) s) store store r h (ends_works S (Values (Text copy ∷ [])) mid new store r k))
