-- Calls of any value, plain and tail.
use Rattle.std.specs.Prelude.{◌≡◌, ℕ, List, [], slice_get, true, false, Result, Ok, refl}
use Rattle.std.proofs.Common.{sym, ◌∙◌, ap}
use Rattle.lua_values.specs.declared.values.Value.{Value}
use Rattle.lua_values.specs.declared.values.Value.TheVariants.{Closure, Native}
use Rattle.lua_values.specs.Heap.{StoreView}
use Rattle.lua_operators.specs.declared.faults.OperandFault.TheVariants as operand
use Rattle.lua_operators.specs.declared.types.LuaType.{LuaType}
use Rattle.lua_meaning.specs.Works.{Caller, Slots, Work, and_then}
use Rattle.lua_meaning.specs.Evaluator.{Resume, Ending, Ended, Parked, Spent, after, do_work}
use Rattle.lua_meaning.specs.Setting.{Setting}
use Rattle.lua_meaning.specs.Positions.{callers_at, raise_operand}
use Rattle.lua_meaning.specs.Calls.{call_end, returned, calling, call, tail_call}
use Rattle.lua_meaning.specs.Natives.{native_work}
use Rattle.lua_meaning.specs.Nodes.{eval, callee_work}
use Rattle.lua_meaning.proofs.EvaluatorLemmas.{work-then}
use Rattle.lua_frames.specs.declared.flow.Flow.{Flow}
use Rattle.lua_frames.specs.declared.flow.Flow.TheVariants as flow
use Rattle.lua_frames.specs.declared.items.Item.TheVariants as i
use Rattle.lua_frames.specs.declared.threads.Frames.{Frames}
use Rattle.lua_frames.specs.Items.{resume_item}
use Rattle.lua_frames.specs.Frames.{here, slots_of}
use Rattle.lua_frames.specs.Follows.{Works}
use Rattle.lua_frames.specs.Changes.{Waits}
use Rattle.lua_frames.proofs.FollowLemmas.{works_by, spends, work_under}
use Rattle.lua_vm_functions.specs.declared.callee.Callee.TheVariants as callee
use Rattle.lua_vm_functions.specs.Callees.{Reaches}
use Rattle.lua_vm_functions.specs.CallEnds.{back_in, closure_called}
use Rattle.lua_vm_functions.proofs.BodyLemmas.{called_by, tail_called_by}

-- a call that comes to a closure
pub calls_closure : {E : Type 0} (S : Setting) (f : Value) (args now : List Value) (callers : List Caller) (n : ℕ) (old new : Frames) (before mid : StoreView) (r : Result Flow E)
    → Reaches f args before (callee.Closure n) now mid → Works S (closure_called S (slice_get mid.heap.closures n) now callers false (slots_of old)) old mid new mid r → Works S (call callers f args (slots_of old)) old before new mid r
calls_closure S f args now callers n old new before mid r h w =
    works_by S (call callers f args (slots_of old)) (closure_called S (slice_get mid.heap.closures n) now callers false (slots_of old)) old new before mid mid r
    (called_by S f args callers (slots_of old) (callee_work S (Closure n) now (calling callers false) []) before mid (h S (calling callers false))) w

pub tail_calls_closure : {E : Type 0} (S : Setting) (f : Value) (args now : List Value) (callers : List Caller) (n : ℕ) (old new : Frames) (before mid : StoreView) (r : Result Flow E)
    → Reaches f args before (callee.Closure n) now mid → Works S (closure_called S (slice_get mid.heap.closures n) now callers true (slots_of old)) old mid new mid r → Works S (tail_call callers f args (slots_of old)) old before new mid r
tail_calls_closure S f args now callers n old new before mid r h w =
    works_by S (tail_call callers f args (slots_of old)) (closure_called S (slice_get mid.heap.closures n) now callers true (slots_of old)) old new before mid mid r
    (tail_called_by S f args callers (slots_of old) (callee_work S (Closure n) now (calling callers true) []) before mid (h S (calling callers true))) w

-- one that comes to a function of the host
pub calls_native : {E : Type 0} (S : Setting) (f : Value) (args now : List Value) (callers : List Caller) (n : ℕ) (old new : Frames) (before mid store : StoreView) (r : Result Flow E)
    → Reaches f args before (callee.Native n) now mid → Works S (and_then (native_work S n now callers []) (back_in false (slots_of old))) old mid new store r → Works S (call callers f args (slots_of old)) old before new store r
calls_native S f args now callers n old new before mid store r h w =
    works_by S (call callers f args (slots_of old)) (and_then (native_work S n now callers []) (back_in false (slots_of old))) old new before mid store r
    (called_by S f args callers (slots_of old) (callee_work S (Native n) now (calling callers false) []) before mid (h S (calling callers false))) w

pub tail_calls_native : {E : Type 0} (S : Setting) (f : Value) (args now : List Value) (callers : List Caller) (n : ℕ) (old new : Frames) (before mid store : StoreView) (r : Result Flow E)
    → Reaches f args before (callee.Native n) now mid → Works S (and_then (native_work S n now callers []) (back_in true (slots_of old))) old mid new store r → Works S (tail_call callers f args (slots_of old)) old before new store r
tail_calls_native S f args now callers n old new before mid store r h w =
    works_by S (tail_call callers f args (slots_of old)) (and_then (native_work S n now callers []) (back_in true (slots_of old))) old new before mid store r
    (tail_called_by S f args callers (slots_of old) (callee_work S (Native n) now (calling callers true) []) before mid (h S (calling callers true))) w

-- one of what can't be called
pub calls_uncallable : {E : Type 0} (S : Setting) (f : Value) (args now : List Value) (callers : List Caller) (found : LuaType) (old new : Frames) (before mid : StoreView) (r : Result Flow E)
    → Reaches f args before (callee.Uncallable found) now mid → Works S (raise_operand S callers (operand.Call found) (slots_of old)) old mid new mid r → Works S (call callers f args (slots_of old)) old before new mid r
calls_uncallable S f args now callers found old new before mid r h w =
    works_by S (call callers f args (slots_of old)) (raise_operand S callers (operand.Call found) (slots_of old)) old new before mid mid r
    (called_by S f args callers (slots_of old) (raise_operand S callers (operand.Call found) []) before mid (h S (calling callers false))) w

pub tail_calls_uncallable : {E : Type 0} (S : Setting) (f : Value) (args now : List Value) (callers : List Caller) (found : LuaType) (old new : Frames) (before mid : StoreView) (r : Result Flow E)
    → Reaches f args before (callee.Uncallable found) now mid → Works S (raise_operand S callers (operand.Call found) (slots_of old)) old mid new mid r → Works S (tail_call callers f args (slots_of old)) old before new mid r
tail_calls_uncallable S f args now callers found old new before mid r h w =
    works_by S (tail_call callers f args (slots_of old)) (raise_operand S callers (operand.Call found) (slots_of old)) old new before mid mid r
    (tail_called_by S f args callers (slots_of old) (raise_operand S callers (operand.Call found) []) before mid (h S (calling callers true))) w

-- and one with no step left
pub calls_spent : {E : Type 0} (S : Setting) (f : Value) (args now : List Value) (callers : List Caller) (old new : Frames) (before store : StoreView)
    → Reaches f args before callee.Spent now store → Works {E = E} S (call callers f args (slots_of old)) old before new store (Ok flow.Spent)
calls_spent S f args now callers old new before store h =
    spends S (call callers f args (slots_of old)) old new before store (λ rs. ap (λ (o : Ending). after o (λ sign s w. Ended (call_end sign) (slots_of old) w)) (h S (calling callers false) rs))

pub tail_calls_spent : {E : Type 0} (S : Setting) (f : Value) (args now : List Value) (callers : List Caller) (old new : Frames) (before store : StoreView)
    → Reaches f args before callee.Spent now store → Works {E = E} S (tail_call callers f args (slots_of old)) old before new store (Ok flow.Spent)
tail_calls_spent S f args now callers old new before store h =
    spends S (tail_call callers f args (slots_of old)) old new before store (λ rs. ap (λ (o : Ending). after o (λ sign s w. Ended (returned (call_end sign)) (slots_of old) w)) (h S (calling callers true) rs))

tail_after : (o : Ending) (s : Slots) → after (after o (λ sign s' w. Ended (call_end sign) s w)) (λ sign s' w. Ended (returned sign) s' w) ≡ after o (λ sign s' w. Ended (returned (call_end sign)) s w)
tail_after (Ended sign s' w) s = refl
tail_after (Parked number args position store) s = refl
tail_after Spent s = refl

-- a function of the host runs under its caller, which returns what it gives
pub native_tails : {E : Type 0} (S : Setting) (n : ℕ) (args : List Value) (line : ℕ) (old mid new : Frames) (before store : StoreView) (r : Result Flow E)
    → Waits old i.TailReturn mid → Works S (and_then (native_work S n args (callers_at (here mid) line) []) (back_in false (slots_of mid))) mid before new store r
    → Works S (and_then (native_work S n args (callers_at (here old) line) []) (back_in true (slots_of old))) old before new store r
native_tails S n args line old mid new before store r h w =
    works_by S (and_then native (back_in true (slots_of old))) (and_then (and_then native (back_in false (slots_of old))) (resume_item S i.TailReturn (here old))) old new before before store r same
    (work_under S old mid new i.TailReturn (λ p s. and_then (native_work S n args (callers_at p line) []) (back_in false s)) before store r h w)
  where
    native : Work
    native = native_work S n args (callers_at (here old) line) []

    same : (rs : List Resume) → do_work (eval S) (and_then native (back_in true (slots_of old))) (record { store = before; resumes = rs })
        ≡ do_work (eval S) (and_then (and_then native (back_in false (slots_of old))) (resume_item S i.TailReturn (here old))) (record { store = before; resumes = rs })
    same rs =
        work-then (eval S) native (back_in true (slots_of old)) (record { store = before; resumes = rs })
        ∙ sym (work-then (eval S) (and_then native (back_in false (slots_of old))) (resume_item S i.TailReturn (here old)) (record { store = before; resumes = rs })
        ∙ ap (λ (o : Ending). after o (λ sign s' w'. Ended (returned sign) s' w')) (work-then (eval S) native (back_in false (slots_of old)) (record { store = before; resumes = rs }))
        ∙ tail_after (do_work (eval S) native (record { store = before; resumes = rs })) (slots_of old))
