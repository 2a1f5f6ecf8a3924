-- Calls of Lua functions in frames.
use Rattle.std.specs.Prelude.{◌≡◌, ℕ, List, [], drop, length, slice_get, nat_lt, Bool, true, false, if◌then◌else◌, Option, Some, None, Result, refl}
use Rattle.std.proofs.Common.{sym, ◌∙◌, ap}
use Rattle.lua_ast.specs.declared.programs.Function.{Function}
use Rattle.lua_ast.specs.declared.programs.Program.{Program}
use Rattle.lua_values.specs.declared.values.Value.{Value}
use Rattle.lua_values.specs.declared.values.Value.TheVariants.{Nil}
use Rattle.lua_values.specs.Heap.{ClosureView, StoreView}
use Rattle.lua_operators.specs.declared.faults.Fault.TheVariants.{StackOverflow}
use Rattle.lua_operators.specs.declared.faults.OperandFault.TheVariants as operand
use Rattle.lua_operators.specs.OperandFaults.{operand_fault_text}
use Rattle.lua_operators.specs.Types.{type_of}
use Rattle.lua_meaning.specs.Works.{Caller, Places, Values, Return, Break, Failed, Slots, Work, End, ACall, and_then}
use Rattle.lua_meaning.specs.Evaluator.{Resume, State, Ending, Ended, Parked, Spent, after, do_work}
use Rattle.lua_meaning.specs.Setting.{Setting}
use Rattle.lua_meaning.specs.Positions.{callers_at, raise, raise_fault, raise_operand}
use Rattle.lua_meaning.specs.Calls.{call_end, returned, function_end, calling, call, tail_call, around_callee, inside, slots_from, most_callers}
use Rattle.lua_meaning.specs.Blocks.{block}
use Rattle.lua_meaning.specs.Nodes.{eval}
use Rattle.lua_meaning.proofs.EvaluatorLemmas.{work-then}
use Rattle.lua_frames.specs.declared.flow.Flow.{Flow}
use Rattle.lua_frames.specs.declared.frames.Frame.{Frame}
use Rattle.lua_frames.specs.declared.frames.Kind.{Kind}
use Rattle.lua_frames.specs.declared.frames.Kind.TheVariants.{Lua}
use Rattle.lua_frames.specs.declared.threads.Frames.{Frames}
use Rattle.lua_frames.specs.Around.{places_of}
use Rattle.lua_frames.specs.Frames.{closed, back, around, here, slots_of}
use Rattle.lua_frames.specs.Follows.{Works}
use Rattle.lua_frames.specs.Changes.{Pushes, Replaces}
use Rattle.lua_frames.proofs.FollowLemmas.{works_as}
use Rattle.lua_frames.proofs.CallLemmas.{push_works, replace_works}
use Rattle.lua_vm_functions.specs.CallEnds.{back_in, closure_called, function_called, body_called}
use Rattle.lua_vm_functions.specs.CallFrames.{IsFrameOf}

-- a fault at a call is its caller's, whatever the call
pub raised : (S : Setting) (callers : List Caller) (text : List ℕ) (tail : Bool) (s : Slots) → and_then (raise S callers text []) (back_in tail s) ≡ raise S callers text s
raised S callers text true s = refl
raised S callers text false s = refl

-- where a call's frame evaluates
placed : (number : ℕ) (f : Function) (cells : List ℕ) (args : List Value) (frame : Frame) (callers : List Caller) → IsFrameOf number f cells args frame → places_of callers frame ≡ inside number f cells args callers
placed number f cells args frame callers h = rw (h.kind, h.function, h.cells, h.extras) refl

ended_back : (S : Setting) (a : List Caller) (o : Ending) (s : Slots) → after (after o (λ sign s' w. Ended (function_end sign) [] w)) (λ sign s' w. Ended (call_end sign) s w) ≡ back s (closed S Lua a o)
ended_back S a (Ended (Values vs) s' w) s = refl
ended_back S a (Ended (Return vs) s' w) s = refl
ended_back S a (Ended Break s' w) s = refl
ended_back S a (Ended (Failed v) s' w) s = refl
ended_back S a (Parked number args position store) s = refl
ended_back S a Spent s = refl

ended_once : (o : Ending) → after (after o (λ sign s' w. Ended (function_end sign) [] w)) (λ sign s' w. Ended (call_end sign) [] w) ≡ after o (λ sign s' w. Ended (function_end sign) [] w)
ended_once (Ended (Values vs) s' w) = refl
ended_once (Ended (Return vs) s' w) = refl
ended_once (Ended Break s' w) = refl
ended_once (Ended (Failed v) s' w) = refl
ended_once (Parked number args position store) = refl
ended_once Spent = refl

-- a function's body in a frame of its own
pub body_pushes : {E : Type 0} (S : Setting) (line number : ℕ) (f : Function) (cells : List ℕ) (args : List Value) (frame : Frame) (old mid new : Frames) (before store : StoreView) (r : Result Flow E)
    → IsFrameOf number f cells args frame → Pushes line old frame mid → Works S (block f.body.value.items (here mid) (slots_of mid)) mid before new store r
    → Works S (body_called number f cells args (callers_at (here old) line) false (slots_of old)) old before new store r
body_pushes S line number f cells args frame old mid new before store r is h w =
    push_works S (body_called number f cells args (callers_at (here old) line) false (slots_of old)) (block f.body.value.items) line old frame mid new before store r h is.items same w
  where
    body : Work
    body = block f.body.value.items (inside number f cells args (callers_at (here old) line)) (slots_from f.slots 0 f.params args)

    same : (w' : State) → do_work (eval S) (body_called number f cells args (callers_at (here old) line) false (slots_of old)) w' ≡ back (slots_of old) (closed S frame.kind (callers_at (here old) line) (do_work (eval S) (block f.body.value.items (places_of (callers_at (here old) line) frame) frame.slots.items) w'))
    same w' =
        work-then (eval S) (and_then body (λ sign s'. End (function_end sign) [])) (back_in false (slots_of old)) w'
        ∙ ap (λ (o : Ending). after o (λ sign s' w''. Ended (call_end sign) (slots_of old) w'')) (work-then (eval S) body (λ sign s'. End (function_end sign) []) w')
        ∙ ended_back S (callers_at (here old) line) (do_work (eval S) body w') (slots_of old)
        ∙ ap (λ (k : Kind). back (slots_of old) (closed S k (callers_at (here old) line) (do_work (eval S) body w'))) (sym is.kind)
        ∙ ap (λ (p : Places). back (slots_of old) (closed S frame.kind (callers_at (here old) line) (do_work (eval S) (block f.body.value.items p (slots_from f.slots 0 f.params args)) w'))) (sym (placed number f cells args frame (callers_at (here old) line) is))
        ∙ ap (λ (s : Slots). back (slots_of old) (closed S frame.kind (callers_at (here old) line) (do_work (eval S) (block f.body.value.items (places_of (callers_at (here old) line) frame) s) w'))) (sym is.slots)

-- and in place of its caller
pub body_replaces : {E : Type 0} (S : Setting) (line number : ℕ) (f : Function) (cells : List ℕ) (args : List Value) (frame : Frame) (old mid new : Frames) (before store : StoreView) (r : Result Flow E)
    → old.top.kind ≡ Lua → IsFrameOf number f cells args frame → Replaces old frame mid → Works S (block f.body.value.items (here mid) (slots_of mid)) mid before new store r
    → Works S (body_called number f cells args (callers_at (here old) line) true (slots_of old)) old before new store r
body_replaces S line number f cells args frame old mid new before store r lua is h w =
    replace_works S (body_called number f cells args (callers_at (here old) line) true (slots_of old)) (block f.body.value.items)
    (λ w'. do_work (eval S) (and_then body (λ sign s'. End (function_end sign) [])) w') old frame mid new before store r lua h is.kind is.items
    (λ w'. work-then (eval S) (and_then body (λ sign s'. End (function_end sign) [])) (back_in true (slots_of old)) w') same w
  where
    body : Work
    body = block f.body.value.items (inside number f cells args (drop 1 (callers_at (here old) line))) (slots_from f.slots 0 f.params args)

    around_is : drop 1 (callers_at (here old) line) ≡ around old
    around_is = rw lua refl

    same : (w' : State) → after (do_work (eval S) (and_then body (λ sign s'. End (function_end sign) [])) w') (λ sign s' w''. Ended (call_end sign) [] w'') ≡ after (do_work (eval S) (block f.body.value.items (places_of (around old) frame) frame.slots.items) w') (λ sign s' w''. Ended (function_end sign) [] w'')
    same w' =
        ap (λ (o : Ending). after o (λ sign s' w''. Ended (call_end sign) [] w'')) (work-then (eval S) body (λ sign s'. End (function_end sign) []) w')
        ∙ ended_once (do_work (eval S) body w')
        ∙ ap (λ (a : List Caller). after (do_work (eval S) (block f.body.value.items (inside number f cells args a) (slots_from f.slots 0 f.params args)) w') (λ sign s' w''. Ended (function_end sign) [] w'')) around_is
        ∙ ap (λ (p : Places). after (do_work (eval S) (block f.body.value.items p (slots_from f.slots 0 f.params args)) w') (λ sign s' w''. Ended (function_end sign) [] w'')) (sym (placed number f cells args frame (around old) is))
        ∙ ap (λ (s : Slots). after (do_work (eval S) (block f.body.value.items (places_of (around old) frame) s) w') (λ sign s' w''. Ended (function_end sign) [] w'')) (sym is.slots)

-- a function that was found, with room for its frame or without
pub with_room : (S : Setting) (number : ℕ) (f : Function) (cells : List ℕ) (args : List Value) (callers : List Caller) (tail : Bool) (s : Slots) (room : Bool)
    → room ≡ nat_lt (length (around_callee (calling callers tail))) most_callers → room ≡ true → function_called S number (Some f) cells args callers tail s ≡ body_called number f cells args callers tail s
with_room S number f cells args callers tail s room e holds =
    ap (λ (t : Bool). and_then (if t then and_then (block f.body.value.items (inside number f cells args (around_callee (calling callers tail))) (slots_from f.slots 0 f.params args)) (λ sign s'. End (function_end sign) []) else raise_fault S callers StackOverflow []) (back_in tail s)) (sym e ∙ holds)

pub without_room : (S : Setting) (number : ℕ) (f : Function) (cells : List ℕ) (args : List Value) (callers : List Caller) (tail : Bool) (s : Slots) (room : Bool)
    → room ≡ nat_lt (length (around_callee (calling callers tail))) most_callers → room ≡ false → function_called S number (Some f) cells args callers tail s ≡ raise_fault S callers StackOverflow s
without_room S number f cells args callers tail s room e fails =
    ap (λ (t : Bool). and_then (if t then and_then (block f.body.value.items (inside number f cells args (around_callee (calling callers tail))) (slots_from f.slots 0 f.params args)) (λ sign s'. End (function_end sign) []) else raise_fault S callers StackOverflow []) (back_in tail s)) (sym e ∙ fails)
    ∙ raised S callers _ tail s

-- a call whose evaluation comes to work: its caller goes on after that
pub called_by : (S : Setting) (f : Value) (args : List Value) (callers : List Caller) (s : Slots) (q : Work) (before mid : StoreView)
    → ((rs : List Resume) → eval S (ACall f args) (calling callers false) [] (record { store = before; resumes = rs }) ≡ do_work (eval S) q (record { store = mid; resumes = rs }))
    → (rs : List Resume) → do_work (eval S) (call callers f args s) (record { store = before; resumes = rs }) ≡ do_work (eval S) (and_then q (back_in false s)) (record { store = mid; resumes = rs })
called_by S f args callers s q before mid e rs =
    ap (λ (o : Ending). after o (λ sign s' w. Ended (call_end sign) s w)) (e rs) ∙ sym (work-then (eval S) q (back_in false s) (record { store = mid; resumes = rs }))

pub tail_called_by : (S : Setting) (f : Value) (args : List Value) (callers : List Caller) (s : Slots) (q : Work) (before mid : StoreView)
    → ((rs : List Resume) → eval S (ACall f args) (calling callers true) [] (record { store = before; resumes = rs }) ≡ do_work (eval S) q (record { store = mid; resumes = rs }))
    → (rs : List Resume) → do_work (eval S) (tail_call callers f args s) (record { store = before; resumes = rs }) ≡ do_work (eval S) (and_then q (back_in true s)) (record { store = mid; resumes = rs })
tail_called_by S f args callers s q before mid e rs =
    ap (λ (o : Ending). after o (λ sign s' w. Ended (returned (call_end sign)) s w)) (e rs) ∙ sym (work-then (eval S) q (back_in true s) (record { store = mid; resumes = rs }))

-- a function whose number isn't there, one with room for its frame, and one without
pub function_missing : {E : Type 0} (S : Setting) (number : ℕ) (found : Option Function) (cells : List ℕ) (args : List Value) (callers : List Caller) (tail : Bool) (old new : Frames) (store : StoreView) (r : Result Flow E)
    → found ≡ None → Works S (raise_operand S callers (operand.Call (type_of Nil)) (slots_of old)) old store new store r → Works S (function_called S number found cells args callers tail (slots_of old)) old store new store r
function_missing S number found cells args callers tail old new store r e w =
    works_as S (function_called S number found cells args callers tail (slots_of old)) (raise_operand S callers (operand.Call (type_of Nil)) (slots_of old)) old new store store r w
    (ap (λ (o : Option Function). function_called S number o cells args callers tail (slots_of old)) e ∙ raised S callers (operand_fault_text (operand.Call (type_of Nil))) tail (slots_of old))

pub function_begun : {E : Type 0} (S : Setting) (number : ℕ) (found : Option Function) (f : Function) (cells : List ℕ) (args : List Value) (callers : List Caller) (tail room : Bool) (old new : Frames) (store : StoreView) (r : Result Flow E)
    → found ≡ Some f → room ≡ nat_lt (length (around_callee (calling callers tail))) most_callers → room ≡ true
    → Works S (body_called number f cells args callers tail (slots_of old)) old store new store r → Works S (function_called S number found cells args callers tail (slots_of old)) old store new store r
function_begun S number found f cells args callers tail room old new store r e is holds w =
    works_as S (function_called S number found cells args callers tail (slots_of old)) (body_called number f cells args callers tail (slots_of old)) old new store store r w
    (ap (λ (o : Option Function). function_called S number o cells args callers tail (slots_of old)) e ∙ with_room S number f cells args callers tail (slots_of old) room is holds)

pub function_refused : {E : Type 0} (S : Setting) (number : ℕ) (found : Option Function) (f : Function) (cells : List ℕ) (args : List Value) (callers : List Caller) (tail room : Bool) (old new : Frames) (store : StoreView) (r : Result Flow E)
    → found ≡ Some f → room ≡ nat_lt (length (around_callee (calling callers tail))) most_callers → room ≡ false
    → Works S (raise_fault S callers StackOverflow (slots_of old)) old store new store r → Works S (function_called S number found cells args callers tail (slots_of old)) old store new store r
function_refused S number found f cells args callers tail room old new store r e is fails w =
    works_as S (function_called S number found cells args callers tail (slots_of old)) (raise_fault S callers StackOverflow (slots_of old)) old new store store r w
    (ap (λ (o : Option Function). function_called S number o cells args callers tail (slots_of old)) e ∙ without_room S number f cells args callers tail (slots_of old) room is fails)

-- a closure that isn't there, and one of a function
pub closure_missing : {E : Type 0} (S : Setting) (found : Option ClosureView) (args : List Value) (callers : List Caller) (tail : Bool) (old new : Frames) (store : StoreView) (r : Result Flow E)
    → found ≡ None → Works S (raise_operand S callers (operand.Call (type_of Nil)) (slots_of old)) old store new store r → Works S (closure_called S found args callers tail (slots_of old)) old store new store r
closure_missing S found args callers tail old new store r e w =
    works_as S (closure_called S found args callers tail (slots_of old)) (raise_operand S callers (operand.Call (type_of Nil)) (slots_of old)) old new store store r w
    (ap (λ (o : Option ClosureView). closure_called S o args callers tail (slots_of old)) e ∙ raised S callers (operand_fault_text (operand.Call (type_of Nil))) tail (slots_of old))

pub closure_found : {E : Type 0} (S : Setting) (found : Option ClosureView) (number : ℕ) (cells : List ℕ) (args : List Value) (callers : List Caller) (tail : Bool) (old new : Frames) (store : StoreView) (r : Result Flow E)
    → found ≡ Some (record { function = number; cells = cells }) → Works S (function_called S number (slice_get S.program.functions.items number) cells args callers tail (slots_of old)) old store new store r
    → Works S (closure_called S found args callers tail (slots_of old)) old store new store r
closure_found S found number cells args callers tail old new store r e w =
    works_as S (closure_called S found args callers tail (slots_of old)) (function_called S number (slice_get S.program.functions.items number) cells args callers tail (slots_of old)) old new store store r w
    (ap (λ (o : Option ClosureView). closure_called S o args callers tail (slots_of old)) e)

-- a program's function is that of the setting
pub in_setting : (S : Setting) (program : Program) (number : ℕ) (found : Option Function) → S.program ≡ program → slice_get program.functions.items number ≡ found → slice_get S.program.functions.items number ≡ found
in_setting S program number found e h = ap (λ (p : Program). slice_get p.functions.items number) e ∙ h
