-- Assignments that are done in the frame on top.
use Rattle.std.specs.Prelude.{◌≡◌, ℕ, List, [], Option, Some, None, slice_get, slice_set, Result, Ok, Err, refl}
use Rattle.std.proofs.Common.{sym, ◌∙◌, ap, subst}
use Rattle.lua_ast.specs.declared.programs.Program.{Program}
use Rattle.lua_values.specs.declared.values.Value.{Value}
use Rattle.lua_values.specs.declared.values.Value.TheVariants.{Nil, Closure}
use Rattle.lua_values.specs.declared.faults.StoreFault.{StoreFault}
use Rattle.lua_values.specs.declared.faults.StoreFault.TheVariants.{Memory}
use Rattle.lua_values.specs.Heap.{StoreView}
use Rattle.lua_values.specs.StoreCalls.{frozen_cause, with_cell_value, IsCause}
use Rattle.lua_operators.specs.Faults.{fault_text}
use Rattle.lua_operators.specs.declared.faults.Fault.TheVariants.{StorageLimit}
use Rattle.lua_meaning.specs.declared.slots.Slot.{Slot}
use Rattle.lua_meaning.specs.declared.slots.Slot.TheVariants.{Plain, Shared}
use Rattle.lua_meaning.specs.Works.{Caller, Places, Slots, Sign, Values, Failed, Work, End, Write}
use Rattle.lua_meaning.specs.Evaluator.{Resume, do_work}
use Rattle.lua_meaning.specs.Setting.{Setting}
use Rattle.lua_meaning.specs.Positions.{callers_at, positioned, raise_fault}
use Rattle.lua_meaning.specs.Signs.{give}
use Rattle.lua_meaning.specs.Variables.{variable_fault, unless_refused, write_cell, write_slot}
use Rattle.lua_meaning.specs.Closures.{captures_of, share, close, closure_work}
use Rattle.lua_meaning.specs.Statements.{local_function}
use Rattle.lua_meaning.specs.Nodes.{eval}
use Rattle.lua_frames.specs.declared.flow.Flow.{Flow}
use Rattle.lua_frames.specs.declared.flow.Flow.TheVariants as flow
use Rattle.lua_frames.specs.declared.threads.Frames.{Frames}
use Rattle.lua_frames.specs.Frames.{here, slots_of}
use Rattle.lua_frames.specs.Follows.{Works, ComesTo}
use Rattle.lua_frames.specs.Changes.{Ends, KeepsAllButSlots}
use Rattle.lua_frames.proofs.FollowLemmas.{work_done}
use Rattle.lua_vm_expressions.specs.Captures.{Makes}
use Rattle.lua_frames.proofs.MovedLemmas.{kept_on, stays_here, works_moved}
use Rattle.lua_vm_expressions.proofs.CaptureLemmas.{kept_all, closure_as}
use Rattle.lua_frames.specs.Locals.{PutsPlain}
use Rattle.lua_vm_statements.specs.Assignments.{Fails, IsAssigned, Assigns, IsDone, Does}

-- work that ends at once is done
pub ends_does : {E : Type 0} (S : Setting) (sign : Sign) (old new : Frames) (store : StoreView) (r : Result Flow E) → IsAssigned sign → Ends sign old new r → Does S (End sign (slots_of old)) old store new store r
ends_does S sign old new store (Ok f) a e = record { done = subst (λ (t : Flow). IsDone S (End sign (slots_of old)) old store new store t) (sym e.went) went }
  where
    went : Assigns S (End sign (slots_of old)) old store new store
    went = record { keeps = kept_all old new e.below e.top; comes = λ rs. sym (rw (e.given, e.top) refl); ends = subst IsAssigned (sym e.given) a }
ends_does S sign old new store (Err x) a e = record { done = tt }

-- and so is work that fails
pub fails_does : {E : Type 0} (S : Setting) (v : Value) (old new : Frames) (store : StoreView) (r : Result Flow E) → Fails v old new r → Does S (End (Failed v) (slots_of old)) old store new store r
fails_does S v old new store (Ok f) h = ends_does S (Failed v) old new store (Ok f) tt h.fails
fails_does S v old new store (Err x) h = record { done = tt }

-- a call that fails with an equal value
pub fails_as : {E : Type 0} (v w : Value) (old new : Frames) (r : Result Flow E) → Ends (Failed v) old new r → v ≡ w → Fails w old new r
fails_as v w old new (Ok f) h e = record { fails = record { below = h.below; top = h.top; given = h.given ∙ ap Failed e; went = h.went } }
fails_as v w old new (Err x) h e = record { fails = tt }

-- work that comes to other work, which is done in frames with other slots
pub does_moved : {E : Type 0} (S : Setting) (q q' : Work) (old mid new : Frames) (before between store : StoreView) (r : Result Flow E)
    → KeepsAllButSlots old mid → ComesTo S q before q' between → Does S q' mid between new store r → Does S q old before new store r
does_moved S q q' old mid new before between store (Ok flow.Went) h e d =
    record { done = record { keeps = kept_on old mid new h d.done.keeps; comes = λ rs. e rs ∙ d.done.comes rs; ends = d.done.ends } }
does_moved S q q' old mid new before between store (Ok flow.Asked) h e d = absurd d.done
does_moved S q q' old mid new before between store (Ok flow.Spent) h e d = absurd d.done
does_moved S q q' old mid new before between store (Ok flow.Over) h e d = absurd d.done
does_moved S q q' old mid new before between store (Err x) h e d = record { done = tt }

pub does_by : {E : Type 0} (S : Setting) (q q' : Work) (old new : Frames) (before between store : StoreView) (r : Result Flow E)
    → ComesTo S q before q' between → Does S q' old between new store r → Does S q old before new store r
does_by S q q' old new before between store r e d = does_moved S q q' old old new before between store r (kept_all old old refl refl) e d

-- a call that did an assignment's work and went on
pub assigns_of : {E : Type 0} (S : Setting) (q : Work) (old new : Frames) (before store : StoreView) (r : Result Flow E) (f : Flow) → Does S q old before new store r → r ≡ Ok f → f ≡ flow.Went → Assigns S q old before new store
assigns_of S q old new before store (Ok flow.Went) f d is w = d.done
assigns_of S q old new before store (Ok flow.Asked) f d is w = absurd d.done
assigns_of S q old new before store (Ok flow.Spent) f d is w = absurd d.done
assigns_of S q old new before store (Ok flow.Over) f d is w = absurd d.done
assigns_of S q old new before store (Err x) f d is w = absurd (cc)

-- and one that came to what isn't run
pub stops_at : {E : Type 0} (S : Setting) (q q' : Work) (old mid new : Frames) (before between store : StoreView) (r : Result Flow E) (f : Flow) → Does S q' mid between new store r → r ≡ Ok f → (f ≡ flow.Went → ⊥)
    → Works {E = E} S q old before new store (Ok f)
stops_at S q q' old mid new before between store (Ok flow.Went) f d is w = absurd (w cc)
stops_at S q q' old mid new before between store (Ok flow.Asked) f d is w = absurd d.done
stops_at S q q' old mid new before between store (Ok flow.Spent) f d is w = absurd d.done
stops_at S q q' old mid new before between store (Ok flow.Over) f d is w = absurd d.done
stops_at S q q' old mid new before between store (Err x) f d is w = absurd (cc)

-- what does an assignment follows it
pub does_works : {E : Type 0} (S : Setting) (q : Work) (old new : Frames) (before store : StoreView) (r : Result Flow E) → Does S q old before new store r → Works S q old before new store r
does_works S q old new before store (Ok flow.Went) d =
    work_done S q old new before store d.done.keeps.below d.done.keeps.kind d.done.keeps.function d.done.keeps.cells d.done.keeps.extras d.done.keeps.items d.done.comes
does_works S q old new before store (Ok flow.Asked) d = absurd d.done
does_works S q old new before store (Ok flow.Spent) d = absurd d.done
does_works S q old new before store (Ok flow.Over) d = absurd d.done
does_works S q old new before store (Err x) d = record { follows = tt }

-- a slot that isn't there
pub slot_nowhere : {E : Type 0} (S : Setting) (callers : List Caller) (i : ℕ) (v : Value) (old new : Frames) (store : StoreView) (r : Result Flow E)
    → slice_get (slots_of old) i ≡ None → Ends (Values []) old new r
    → Does S (write_slot S callers (slice_get (slots_of old) i) i v (slots_of old) (give [])) old store new store r
slot_nowhere S callers i v old new store r none e =
    does_by S (write_slot S callers (slice_get (slots_of old) i) i v (slots_of old) (give [])) (give [] (slots_of old)) old new store store store r
    (λ rs. ap (λ (t : Option Slot). do_work (eval S) (write_slot S callers t i v (slots_of old) (give [])) (record { store = store; resumes = rs })) none)
    (ends_does S (Values []) old new store r refl e)

-- one with a value of its own
pub slot_plain : {E : Type 0} (S : Setting) (callers : List Caller) (i : ℕ) (v was : Value) (old mid new : Frames) (store : StoreView) (r : Result Flow E)
    → slice_get (slots_of old) i ≡ Some (Plain was) → PutsPlain i v old mid → Ends (Values []) mid new r
    → Does S (write_slot S callers (slice_get (slots_of old) i) i v (slots_of old) (give [])) old store new store r
slot_plain S callers i v was old mid new store r there h e =
    does_moved S (write_slot S callers (slice_get (slots_of old) i) i v (slots_of old) (give [])) (give [] (slots_of mid)) old mid new store store store r h.keeps
    (λ rs. ap (λ (t : Option Slot). do_work (eval S) (write_slot S callers t i v (slots_of old) (give [])) (record { store = store; resumes = rs })) there
    ∙ ap (λ (s : Slots). do_work (eval S) (give [] s) (record { store = store; resumes = rs })) (sym h.slots))
    (ends_does S (Values []) mid new store r refl e)

-- one that is shared
pub slot_shared : {E : Type 0} (S : Setting) (callers : List Caller) (i c : ℕ) (v : Value) (old new : Frames) (before store : StoreView) (r : Result Flow E)
    → slice_get (slots_of old) i ≡ Some (Shared c) → Does S (write_cell S callers (Some c) v (slots_of old) (give [] (slots_of old))) old before new store r
    → Does S (write_slot S callers (slice_get (slots_of old) i) i v (slots_of old) (give [])) old before new store r
slot_shared S callers i c v old new before store r there d =
    does_by S (write_slot S callers (slice_get (slots_of old) i) i v (slots_of old) (give [])) (write_cell S callers (Some c) v (slots_of old) (give [] (slots_of old))) old new before before store r
    (λ rs. ap (λ (t : Option Slot). do_work (eval S) (write_slot S callers t i v (slots_of old) (give [])) (record { store = before; resumes = rs })) there) d

-- a cell that is written
pub cell_written : {E : Type 0} (S : Setting) (callers : List Caller) (c : ℕ) (v : Value) (old new : Frames) (before store : StoreView) (r : Result Flow E)
    → frozen_cause before.heap.base.cells c ≡ None → store ≡ record { heap = with_cell_value before.heap c v; steps = before.steps } → Ends (Values []) old new r
    → Does S (write_cell S callers (Some c) v (slots_of old) (give [] (slots_of old))) old before new store r
cell_written S callers c v old new before store r allowed is e =
    does_by S (write_cell S callers (Some c) v (slots_of old) (give [] (slots_of old))) (give [] (slots_of old)) old new before store store r
    (λ rs. ap (λ (cause : Option StoreFault). do_work (eval S) (unless_refused S callers variable_fault cause (slots_of old) (Write (with_cell_value before.heap c v) (give [] (slots_of old)))) (record { store = before; resumes = rs })) allowed
    ∙ ap (λ (st : StoreView). do_work (eval S) (give [] (slots_of old)) (record { store = st; resumes = rs })) (sym is))
    (ends_does S (Values []) old new store r refl e)

-- and one that the store refuses to write
pub cell_refused : {E : Type 0} (S : Setting) (callers : List Caller) (c : ℕ) (v : Value) (fault : StoreFault) (old new : Frames) (before store : StoreView) (r : Result Flow E)
    → frozen_cause before.heap.base.cells c ≡ Some fault → store ≡ before → Fails (positioned S callers (fault_text (variable_fault fault))) old new r
    → Does S (write_cell S callers (Some c) v (slots_of old) (give [] (slots_of old))) old before new store r
cell_refused S callers c v fault old new before store r cause is e =
    does_by S (write_cell S callers (Some c) v (slots_of old) (give [] (slots_of old))) (raise_fault S callers (variable_fault fault) (slots_of old)) old new before store store r
    (λ rs. ap (λ (x : Option StoreFault). do_work (eval S) (unless_refused S callers variable_fault x (slots_of old) (Write (with_cell_value before.heap c v) (give [] (slots_of old)))) (record { store = before; resumes = rs })) cause
    ∙ ap (λ (st : StoreView). do_work (eval S) (raise_fault S callers (variable_fault fault) (slots_of old)) (record { store = st; resumes = rs })) (sym is))
    (fails_does S (positioned S callers (fault_text (variable_fault fault))) old new store r e)

named : (cause : Option StoreFault) (fault : StoreFault) → IsCause cause fault → (fault ≡ Memory → ⊥) → cause ≡ Some fault
named None fault e h = absurd (h e)
named (Some f) fault e h = ap (λ (x : StoreFault). Some x) (sym e)

-- a captured variable that isn't there
pub captured_nowhere : {E : Type 0} (S : Setting) (callers : List Caller) (cell : Option ℕ) (v : Value) (old new : Frames) (store : StoreView) (r : Result Flow E)
    → cell ≡ None → Ends (Values []) old new r → Does S (write_cell S callers cell v (slots_of old) (give [] (slots_of old))) old store new store r
captured_nowhere S callers cell v old new store r none e =
    does_by S (write_cell S callers cell v (slots_of old) (give [] (slots_of old))) (give [] (slots_of old)) old new store store store r
    (λ rs. ap (λ (t : Option ℕ). do_work (eval S) (write_cell S callers t v (slots_of old) (give [] (slots_of old))) (record { store = store; resumes = rs })) none)
    (ends_does S (Values []) old new store r refl e)

-- and one that is
pub captured_there : {E : Type 0} (S : Setting) (callers : List Caller) (cell : Option ℕ) (c : ℕ) (v : Value) (old new : Frames) (before store : StoreView) (r : Result Flow E)
    → cell ≡ Some c → Does S (write_cell S callers (Some c) v (slots_of old) (give [] (slots_of old))) old before new store r
    → Does S (write_cell S callers cell v (slots_of old) (give [] (slots_of old))) old before new store r
captured_there S callers cell c v old new before store r there d =
    does_by S (write_cell S callers cell v (slots_of old) (give [] (slots_of old))) (write_cell S callers (Some c) v (slots_of old) (give [] (slots_of old))) old new before before store r
    (λ rs. ap (λ (t : Option ℕ). do_work (eval S) (write_cell S callers t v (slots_of old) (give [] (slots_of old))) (record { store = before; resumes = rs })) there) d

-- a function's variable is there before its closure is made
function_begins : (S : Setting) (program : Program) (line i function : ℕ) (old mid : Frames) (go : Value → Slots → Work) (before : StoreView) → S.program ≡ program → PutsPlain i Nil old mid → (rs : List Resume)
    → do_work (eval S) (closure_work S line function (here old) (slice_set (slots_of old) i (Plain Nil)) go) (record { store = before; resumes = rs })
    ≡ do_work (eval S) (share S (callers_at (here old) line) (captures_of (slice_get program.functions.items function)) (here mid) [] (slots_of mid) (λ cells s'. close S (callers_at (here old) line) function cells s' go)) (record { store = before; resumes = rs })
function_begins S program line i function old mid go before e h rs =
    ap (λ (q : Work). do_work (eval S) q (record { store = before; resumes = rs })) (closure_as S program line function (here old) (slice_set (slots_of old) i (Plain Nil)) go e)
    ∙ ap (λ (s : Slots). do_work (eval S) (share S (callers_at (here old) line) (captures_of (slice_get program.functions.items function)) (here old) [] s (λ cells s'. close S (callers_at (here old) line) function cells s' go)) (record { store = before; resumes = rs })) (sym h.slots)
    ∙ ap (λ (p : Places). do_work (eval S) (share S (callers_at (here old) line) (captures_of (slice_get program.functions.items function)) p [] (slots_of mid) (λ cells s'. close S (callers_at (here old) line) function cells s' go)) (record { store = before; resumes = rs })) (sym (stays_here old mid h.keeps))

-- and gets it
pub function_put : {E : Type 0} (S : Setting) (program : Program) (line i function c : ℕ) (old mid closed new : Frames) (before between store : StoreView) (r : Result Flow E)
    → S.program ≡ program → PutsPlain i Nil old mid → Makes program function mid before closed between (Some c)
    → Does S (write_slot S (callers_at (here closed) line) (slice_get (slots_of closed) i) i (Closure c) (slots_of closed) (give [])) closed between new store r
    → Works S (local_function S line i function (here old) (slots_of old)) old before new store r
function_put S program line i function c old mid closed new before between store r e h m d =
    works_moved S (local_function S line i function (here old) (slots_of old)) (write_slot S (callers_at (here closed) line) (slice_get (slots_of closed) i) i (Closure c) (slots_of closed) (give [])) old closed new before between store r
    (kept_on old mid closed h.keeps m.keeps) comes (does_works S (write_slot S (callers_at (here closed) line) (slice_get (slots_of closed) i) i (Closure c) (slots_of closed) (give [])) closed new between store r d)
  where
    go : Value → Slots → Work
    go f s' = write_slot S (callers_at (here old) line) (slice_get s' i) i f s' (give [])

    comes : ComesTo S (local_function S line i function (here old) (slots_of old)) before (write_slot S (callers_at (here closed) line) (slice_get (slots_of closed) i) i (Closure c) (slots_of closed) (give [])) between
    comes rs =
        function_begins S program line i function old mid go before e h rs ∙ m.comes S (callers_at (here old) line) go rs
        ∙ ap (λ (p : Places). do_work (eval S) (write_slot S (callers_at p line) (slice_get (slots_of closed) i) i (Closure c) (slots_of closed) (give [])) (record { store = between; resumes = rs })) (sym (stays_here old closed (kept_on old mid closed h.keeps m.keeps)))

-- or there is no room for it
pub function_refused : {E : Type 0} (S : Setting) (program : Program) (line i function : ℕ) (old mid closed new : Frames) (before between store : StoreView) (r : Result Flow E)
    → S.program ≡ program → PutsPlain i Nil old mid → Makes program function mid before closed between None
    → Works S (raise_fault S (callers_at (here closed) line) StorageLimit (slots_of closed)) closed between new store r
    → Works S (local_function S line i function (here old) (slots_of old)) old before new store r
function_refused S program line i function old mid closed new before between store r e h m w =
    works_moved S (local_function S line i function (here old) (slots_of old)) (raise_fault S (callers_at (here closed) line) StorageLimit (slots_of closed)) old closed new before between store r
    (kept_on old mid closed h.keeps m.keeps) comes w
  where
    go : Value → Slots → Work
    go f s' = write_slot S (callers_at (here old) line) (slice_get s' i) i f s' (give [])

    comes : ComesTo S (local_function S line i function (here old) (slots_of old)) before (raise_fault S (callers_at (here closed) line) StorageLimit (slots_of closed)) between
    comes rs =
        function_begins S program line i function old mid go before e h rs ∙ m.comes S (callers_at (here old) line) go rs
        ∙ ap (λ (p : Places). do_work (eval S) (raise_fault S (callers_at p line) StorageLimit (slots_of closed)) (record { store = between; resumes = rs })) (sym (stays_here old closed (kept_on old mid closed h.keeps m.keeps)))
