-- Frames that come and go: what is left of a thread before and after.
use Rattle.std.specs.Prelude.{◌≡◌, ℕ, List, [], ◌∷◌, ◌++◌, nat_lt, if◌then◌else◌, Bool, true, false, Result, Ok, Option, Some, None, refl}
use Rattle.std.proofs.Common.{sym, ◌∙◌, ap, subst, inl, inr, Vec, Global}
use Rattle.lua_values.specs.declared.values.Value.{Value}
use Rattle.lua_values.specs.Heap.{StoreView, step_limit}
use Rattle.lua_meaning.specs.declared.resumes.Resumed.{Resumed}
use Rattle.lua_meaning.specs.Works.{Caller, Places, ACall, Sign, Values, Return, Break, Failed, Slots, Work, End, Outside}
use Rattle.lua_meaning.specs.Evaluator.{Resume, State, Ending, Ended, Parked, Spent, after, answered, do_work}
use Rattle.lua_meaning.specs.Setting.{Setting}
use Rattle.lua_meaning.specs.Positions.{callers_at}
use Rattle.lua_meaning.specs.Calls.{call_end, function_end, returned, calling}
use Rattle.lua_meaning.specs.ProtectedCalls.{handled_fault}
use Rattle.lua_meaning.specs.Nodes.{eval}
use Rattle.lua_frames.specs.declared.ending.Closing.TheVariants as by
use Rattle.lua_frames.specs.declared.flow.Flow.{Flow}
use Rattle.lua_frames.specs.declared.flow.Flow.TheVariants as flow
use Rattle.lua_frames.specs.declared.flow.Op.{Op}
use Rattle.lua_frames.specs.declared.frames.Frame.{Frame}
use Rattle.lua_frames.specs.declared.frames.Kind.{Kind}
use Rattle.lua_frames.specs.declared.frames.Kind.TheVariants.{Lua, Handled}
use Rattle.lua_frames.specs.declared.items.Item.{Item}
use Rattle.lua_frames.specs.declared.items.Item.TheVariants as i
use Rattle.lua_frames.specs.declared.stack.Stack.{Stack}
use Rattle.lua_frames.specs.declared.threads.Frames.{Frames}
use Rattle.lua_frames.specs.Around.{is_lua, deeper, around_of, places_of}
use Rattle.lua_frames.specs.Signals.{sign_of}
use Rattle.lua_frames.specs.Items.{resume_item}
use Rattle.lua_frames.specs.Frames.{closing, closed, back, finish_items, finish_calls, finish_from, finish, around, here, slots_of, working, answer_sign, given}
use Rattle.lua_frames.specs.Follows.{Follows, Turns, Works}
use Rattle.lua_frames.specs.Changes.{Pushes, Replaces, GoesBack, Handles, CallsHandler, Leaves}
use Rattle.lua_frames.specs.Ending.{Closes}
use Rattle.lua_frames.proofs.FinishLemmas.{around_push, finish_call, items_spent, items_parked, spent_through, parked_through}
use Rattle.lua_frames.proofs.FollowLemmas.{follows_ok}

-- what is left under a frame that was pushed
pub push_finish : (S : Setting) (line : ℕ) (old : Frames) (frame : Frame) (new : Frames) → Pushes line old frame new → (o : Ending)
    → finish_from S new o ≡ finish_from S old (back (slots_of old) (closed S frame.kind (callers_at (here old) line) (finish_items S (places_of (callers_at (here old) line) frame) frame.items.items o)))
push_finish S line old frame new h o =
    ap (λ (b : List Frame). finish_calls S [] b (closed S new.top.kind (around_of [] b) (finish_items S (places_of (around_of [] b) new.top) new.top.items.items o))) h.below
    ∙ ap (λ (f : Frame). finish_calls S [] (old.below.frames.items ++ caller ∷ []) (closed S f.kind (around_of [] (old.below.frames.items ++ caller ∷ [])) (finish_items S (places_of (around_of [] (old.below.frames.items ++ caller ∷ [])) f) f.items.items o))) h.top
    ∙ ap (λ (a : List Caller). finish_calls S [] (old.below.frames.items ++ caller ∷ []) (closed S frame.kind a (finish_items S (places_of a frame) frame.items.items o))) (around_push [] old.below.frames.items caller)
    ∙ finish_call S [] old.below.frames.items caller (closed S frame.kind (deeper (around old) caller) (finish_items S (places_of (deeper (around old) caller) frame) frame.items.items o))
    ∙ ap (λ (items : List Item). finish_calls S [] old.below.frames.items (closed S old.top.kind (around old) (finish_items S (here old) items (back (slots_of old) (closed S frame.kind (callers_at (here old) line) (finish_items S (places_of (callers_at (here old) line) frame) frame.items.items o)))))) h.same
  where
    caller : Frame
    caller = record old.top { line = line; items = h.items }

-- where the pushed frame evaluates
pub push_here : (line : ℕ) (old : Frames) (frame : Frame) (new : Frames) → Pushes line old frame new → here new ≡ places_of (callers_at (here old) line) frame
push_here line old frame new h =
    ap (λ (b : List Frame). places_of (around_of [] b) new.top) h.below
    ∙ ap (λ (f : Frame). places_of (around_of [] (old.below.frames.items ++ (record old.top { line = line; items = h.items }) ∷ [])) f) h.top
    ∙ ap (λ (a : List Caller). places_of a frame) (around_push [] old.below.frames.items (record old.top { line = line; items = h.items }))

-- work that is a call's work in a frame of its own
pub push_works : {E : Type 0} (S : Setting) (q : Work) (q' : Places → Slots → Work) (line : ℕ) (old : Frames) (frame : Frame) (new fs : Frames) (before store : StoreView) (r : Result Flow E)
    → Pushes line old frame new → frame.items.items ≡ []
    → ((w : State) → do_work (eval S) q w ≡ back (slots_of old) (closed S frame.kind (callers_at (here old) line) (do_work (eval S) (q' (places_of (callers_at (here old) line) frame) frame.slots.items) w)))
    → Works S (q' (here new) (slots_of new)) new before fs store r → Works S q old before fs store r
push_works S q q' line old frame new fs before store r h none e w =
    record { follows = follows_ok S (working S q old before) (working S (q' (here new) (slots_of new)) new before) store fs r same w.follows }
  where
    same : (rs : List Resume) → working S q old before rs ≡ working S (q' (here new) (slots_of new)) new before rs
    same rs =
        ap (finish_from S old) (e (record { store = before; resumes = rs }))
        ∙ ap (λ (p : Places). finish_from S old (back (slots_of old) (closed S frame.kind (callers_at (here old) line) (do_work (eval S) (q' p frame.slots.items) (record { store = before; resumes = rs }))))) (sym (push_here line old frame new h))
        ∙ ap (λ (f : Frame). finish_from S old (back (slots_of old) (closed S frame.kind (callers_at (here old) line) (do_work (eval S) (q' (here new) f.slots.items) (record { store = before; resumes = rs }))))) (sym h.top)
        ∙ ap (λ (items : List Item). finish_from S old (back (slots_of old) (closed S frame.kind (callers_at (here old) line) (finish_items S (places_of (callers_at (here old) line) frame) items (do_work (eval S) (q' (here new) (slots_of new)) (record { store = before; resumes = rs })))))) (sym none)
        ∙ sym (push_finish S line old frame new h (do_work (eval S) (q' (here new) (slots_of new)) (record { store = before; resumes = rs })))

-- what a function returns goes past all that waits in its frame, and so does a fault
pub return_passes : (S : Setting) (x : Item) (p : Places) (vs : List Value) (s : Slots) → resume_item S x p (Return vs) s ≡ End (Return vs) s
return_passes S (i.Call line f args) p vs s = refl
return_passes S (i.Right line o b) p vs s = refl
return_passes S (i.Operate line o v) p vs s = refl
return_passes S (i.Unary line o) p vs s = refl
return_passes S (i.AndThen b) p vs s = refl
return_passes S (i.OrElse b) p vs s = refl
return_passes S i.First p vs s = refl
return_passes S (i.Callee line args) p vs s = refl
return_passes S (i.Arguments line f) p vs s = refl
return_passes S (i.Key line b) p vs s = refl
return_passes S (i.At line v) p vs s = refl
return_passes S (i.More xs next done) p vs s = refl
return_passes S (i.Locals slots) p vs s = refl
return_passes S i.Discard p vs s = refl
return_passes S i.Return p vs s = refl
return_passes S (i.TailCallee line args) p vs s = refl
return_passes S (i.TailArguments line f) p vs s = refl
return_passes S i.TailReturn p vs s = refl
return_passes S (i.Rest stmts next) p vs s = refl
return_passes S (i.Arm arms next last) p vs s = refl
return_passes S (i.While test body) p vs s = refl
return_passes S (i.Turned test body) p vs s = refl
return_passes S (i.Truth wanted) p vs s = refl
return_passes S (i.Repeated body test) p vs s = refl
return_passes S (i.Until body test) p vs s = refl
return_passes S (i.ForFrom b) p vs s = refl
return_passes S (i.ForTo b from) p vs s = refl
return_passes S (i.ForStep b from to) p vs s = refl
return_passes S (i.Counted c) p vs s = refl
return_passes S (i.Iterate line slots body) p vs s = refl
return_passes S (i.Iterated it) p vs s = refl
return_passes S (i.Passed it control) p vs s = refl
return_passes S (i.Assign targets) p vs s = refl
return_passes S (i.AssignSlot line n) p vs s = refl
return_passes S (i.Method line name args) p vs s = refl
return_passes S (i.MethodCallee line object args) p vs s = refl
return_passes S (i.MethodArguments line f object) p vs s = refl
return_passes S (i.TailMethod line name args) p vs s = refl
return_passes S (i.TailMethodCallee line object args) p vs s = refl
return_passes S (i.TailMethodArguments line f object) p vs s = refl
return_passes S (i.TargetKey line b a) p vs s = refl
return_passes S (i.TargetAt line x a) p vs s = refl
return_passes S (i.Stores targets values) p vs s = refl
return_passes S (i.Items c) p vs s = refl
return_passes S (i.ItemKey c) p vs s = refl
return_passes S (i.ItemAtKey c key) p vs s = refl
return_passes S (i.ItemAtNumber c) p vs s = refl
return_passes S (i.ItemsAtNumbers c) p vs s = refl

pub failed_passes : (S : Setting) (x : Item) (p : Places) (v : Value) (s : Slots) → resume_item S x p (Failed v) s ≡ End (Failed v) s
failed_passes S (i.Call line f args) p v s = refl
failed_passes S (i.Right line o b) p v s = refl
failed_passes S (i.Operate line o x) p v s = refl
failed_passes S (i.Unary line o) p v s = refl
failed_passes S (i.AndThen b) p v s = refl
failed_passes S (i.OrElse b) p v s = refl
failed_passes S i.First p v s = refl
failed_passes S (i.Callee line args) p v s = refl
failed_passes S (i.Arguments line f) p v s = refl
failed_passes S (i.Key line b) p v s = refl
failed_passes S (i.At line x) p v s = refl
failed_passes S (i.More xs next done) p v s = refl
failed_passes S (i.Locals slots) p v s = refl
failed_passes S i.Discard p v s = refl
failed_passes S i.Return p v s = refl
failed_passes S (i.TailCallee line args) p v s = refl
failed_passes S (i.TailArguments line f) p v s = refl
failed_passes S i.TailReturn p v s = refl
failed_passes S (i.Rest stmts next) p v s = refl
failed_passes S (i.Arm arms next last) p v s = refl
failed_passes S (i.While test body) p v s = refl
failed_passes S (i.Turned test body) p v s = refl
failed_passes S (i.Truth wanted) p v s = refl
failed_passes S (i.Repeated body test) p v s = refl
failed_passes S (i.Until body test) p v s = refl
failed_passes S (i.ForFrom b) p v s = refl
failed_passes S (i.ForTo b from) p v s = refl
failed_passes S (i.ForStep b from to) p v s = refl
failed_passes S (i.Counted c) p v s = refl
failed_passes S (i.Iterate line slots body) p v s = refl
failed_passes S (i.Iterated it) p v s = refl
failed_passes S (i.Passed it control) p v s = refl
failed_passes S (i.Assign targets) p v s = refl
failed_passes S (i.AssignSlot line n) p v s = refl
failed_passes S (i.Method line name args) p v s = refl
failed_passes S (i.MethodCallee line object args) p v s = refl
failed_passes S (i.MethodArguments line f object) p v s = refl
failed_passes S (i.TailMethod line name args) p v s = refl
failed_passes S (i.TailMethodCallee line object args) p v s = refl
failed_passes S (i.TailMethodArguments line f object) p v s = refl
failed_passes S (i.TargetKey line b a) p v s = refl
failed_passes S (i.TargetAt line x a) p v s = refl
failed_passes S (i.Stores targets values) p v s = refl
failed_passes S (i.Items c) p v s = refl
failed_passes S (i.ItemKey c) p v s = refl
failed_passes S (i.ItemAtKey c key) p v s = refl
failed_passes S (i.ItemAtNumber c) p v s = refl
failed_passes S (i.ItemsAtNumbers c) p v s = refl

items_return : (S : Setting) (p : Places) (items : List Item) (vs : List Value) (s : Slots) (w : State) → finish_items S p items (Ended (Return vs) s w) ≡ Ended (Return vs) s w
items_return S p [] vs s w = refl
items_return S p (x ∷ items) vs s w =
    ap (λ (t : Ending). after t (λ sign s' w'. do_work (eval S) (resume_item S x p sign s') w')) (items_return S p items vs s w) ∙ ap (λ (q : Work). do_work (eval S) q w) (return_passes S x p vs s)

items_failed : (S : Setting) (p : Places) (items : List Item) (v : Value) (s : Slots) (w : State) → finish_items S p items (Ended (Failed v) s w) ≡ Ended (Failed v) s w
items_failed S p [] v s w = refl
items_failed S p (x ∷ items) v s w =
    ap (λ (t : Ending). after t (λ sign s' w'. do_work (eval S) (resume_item S x p sign s') w')) (items_failed S p items v s w) ∙ ap (λ (q : Work). do_work (eval S) q w) (failed_passes S x p v s)

-- what waits in the frame of a function that returns what a call gives does nothing more
pub dropped : (S : Setting) (a : List Caller) (p : Places) (items : List Item) (s : Slots) (o : Ending)
    → closed S Lua a (finish_items S p items (after o (λ sign s' w. Ended (returned (call_end sign)) s w))) ≡ after o (λ sign s' w. Ended (call_end sign) [] w)
dropped S a p items s (Ended (Values vs) s' w) = ap (closed S Lua a) (items_return S p items vs s w)
dropped S a p items s (Ended (Return vs) s' w) = ap (closed S Lua a) (items_return S p items vs s w)
dropped S a p items s (Ended Break s' w) = ap (closed S Lua a) (items_return S p items [] s w)
dropped S a p items s (Ended (Failed v) s' w) = ap (closed S Lua a) (items_failed S p items v s w)
dropped S a p items s (Parked number args position store) = ap (closed S Lua a) (items_parked S p items number args position store)
dropped S a p items s Spent = ap (closed S Lua a) (items_spent S p items)

-- A tail call: a function's frame is given up for that of the function that it calls, whose work is q'.
pub replace_works : {E : Type 0} (S : Setting) (q : Work) (q' : Places → Slots → Work) (callee : State → Ending) (old : Frames) (frame : Frame) (new fs : Frames) (before store : StoreView) (r : Result Flow E)
    → old.top.kind ≡ Lua → Replaces old frame new → frame.kind ≡ Lua → frame.items.items ≡ []
    → ((w : State) → do_work (eval S) q w ≡ after (callee w) (λ sign s' w'. Ended (returned (call_end sign)) (slots_of old) w'))
    → ((w : State) → after (callee w) (λ sign s' w'. Ended (call_end sign) [] w') ≡ after (do_work (eval S) (q' (places_of (around old) frame) frame.slots.items) w) (λ sign s' w'. Ended (function_end sign) [] w'))
    → Works S (q' (here new) (slots_of new)) new before fs store r → Works S q old before fs store r
replace_works S q q' callee old frame new fs before store r lua h kind none e e' w =
    record { follows = follows_ok S (working S q old before) (working S (q' (here new) (slots_of new)) new before) store fs r same w.follows }
  where
    placed : here new ≡ places_of (around old) frame
    placed = rw (h.below, h.top) refl

    framed : (o : Ending) → finish_from S new o ≡ finish_calls S [] old.below.frames.items (after o (λ sign s w'. Ended (function_end sign) [] w'))
    framed o =
        ap (λ (b : List Frame). finish_calls S [] b (closed S new.top.kind (around_of [] b) (finish_items S (places_of (around_of [] b) new.top) new.top.items.items o))) (ap (λ (b : Stack). b.frames.items) h.below)
        ∙ ap (λ (f : Frame). finish_calls S [] old.below.frames.items (closed S f.kind (around old) (finish_items S (places_of (around old) f) f.items.items o))) h.top
        ∙ ap (λ (k : Kind). finish_calls S [] old.below.frames.items (closed S k (around old) (finish_items S (places_of (around old) frame) frame.items.items o))) kind
        ∙ ap (λ (items : List Item). finish_calls S [] old.below.frames.items (closed S Lua (around old) (finish_items S (places_of (around old) frame) items o))) none

    same : (rs : List Resume) → working S q old before rs ≡ working S (q' (here new) (slots_of new)) new before rs
    same rs =
        ap (finish_from S old) (e (record { store = before; resumes = rs }))
        ∙ ap (λ (k : Kind). finish_calls S [] old.below.frames.items (closed S k (around old) (finish_items S (here old) old.top.items.items (after (callee (record { store = before; resumes = rs })) (λ sign s' w'. Ended (returned (call_end sign)) (slots_of old) w'))))) lua
        ∙ ap (finish_calls S [] old.below.frames.items) (dropped S (around old) (here old) old.top.items.items (slots_of old) (callee (record { store = before; resumes = rs })) ∙ e' (record { store = before; resumes = rs }))
        ∙ ap (λ (p : Places). finish_calls S [] old.below.frames.items (after (do_work (eval S) (q' p frame.slots.items) (record { store = before; resumes = rs })) (λ sign s' w'. Ended (function_end sign) [] w'))) (sym placed)
        ∙ ap (λ (f : Frame). finish_calls S [] old.below.frames.items (after (do_work (eval S) (q' (here new) f.slots.items) (record { store = before; resumes = rs })) (λ sign s' w'. Ended (function_end sign) [] w'))) (sym h.top)
        ∙ sym (framed (do_work (eval S) (q' (here new) (slots_of new)) (record { store = before; resumes = rs })))

-- The outside is asked, and its answer goes to the innermost item.
pub asked_works : {E : Type 0} (S : Setting) (op : Op) (go : Resumed → Work) (old new : Frames) (store : StoreView)
    → new.below ≡ old.below → new.top ≡ old.top → new.asked ≡ Some op → ((r : Resumed) → go r ≡ End (answer_sign S op.position r) (slots_of old))
    → Works {E = E} S (Outside op.number op.args op.position go) old store new store (Ok flow.Asked)
asked_works {E} S op go old new store b t a e = record { follows = subst (λ (x : Option Op). asks x) (sym a) asked }
  where
    asks : Option Op → Type 0
    asks None = ⊥
    asks (Some x) = (rs : List Resume) → working S (Outside op.number op.args op.position go) old store rs ≡ answered x.number x.args x.position store rs (given S new x.position)

    same : (r : Resumed) (w : State) → finish_from S old (do_work (eval S) (go r) w) ≡ given S new op.position r w
    same r w = ap (λ (q : Work). finish_from S old (do_work (eval S) q w)) (e r) ∙ sym (rw (b, t) refl)

    asked : (rs : List Resume) → working S (Outside op.number op.args op.position go) old store rs ≡ answered op.number op.args op.position store rs (given S new op.position)
    asked [] = parked_through S old op.number op.args op.position store
    asked (r ∷ rs) = along (nat_lt r.store.steps step_limit)
      where
        along : (t : Bool) → finish_from S old (if t then do_work (eval S) (go r.answer) (record { store = r.store; resumes = rs }) else Spent) ≡ (if t then given S new op.position r.answer (record { store = r.store; resumes = rs }) else Spent)
        along true = same r.answer (record { store = r.store; resumes = rs })
        along false = spent_through S old

-- the innermost call has ended
pub back_turns : {E : Type 0} (S : Setting) (old mid new : Frames) (signal : _) (store : StoreView) (f : Flow)
    → old.top.items.items ≡ [] → Closes old.top.kind (sign_of old.given) (by.Gives signal) → mid.below ≡ old.below → mid.given ≡ signal → GoesBack mid new f
    → Turns {E = E} S old store new store (Ok f)
back_turns {E} S old mid new signal store f none closes below given went = record { follows = follows f went }
  where
    ended : (rs : List Resume) → finish S old (record { store = store; resumes = rs }) ≡ finish_calls S [] mid.below.frames.items (Ended (sign_of mid.given) [] (record { store = store; resumes = rs }))
    ended rs =
        ap (λ (items : List Item). finish_calls S [] old.below.frames.items (closed S old.top.kind (around old) (finish_items S (here old) items (Ended (sign_of old.given) (slots_of old) (record { store = store; resumes = rs }))))) none
        ∙ ap (λ (q : Work). finish_calls S [] old.below.frames.items (do_work (eval S) q (record { store = store; resumes = rs }))) (closes S (around old))
        ∙ rw (below, given) refl

    follows : (g : Flow) → GoesBack mid new g → Follows S (λ rs. finish S old (record { store = store; resumes = rs })) store new g
    follows flow.Went h = λ rs.
        ended rs ∙ ap (λ (b : List Frame). finish_calls S [] b (Ended (sign_of mid.given) [] (record { store = store; resumes = rs }))) (h.0)
        ∙ finish_call S [] new.below.frames.items new.top (Ended (sign_of mid.given) [] (record { store = store; resumes = rs }))
        ∙ ap (λ (g' : _). finish_from S new (Ended (sign_of g') (slots_of new) (record { store = store; resumes = rs }))) (sym (h.1))
    follows flow.Over h = λ rs.
        ended rs ∙ ap (λ (b : List Frame). finish_calls S [] b (Ended (sign_of mid.given) [] (record { store = store; resumes = rs }))) (h.0)
        ∙ ap (λ (g' : _). Ended (sign_of g') [] (record { store = store; resumes = rs })) (sym (h.1))
    follows flow.Asked h = absurd h
    follows flow.Spent h = absurd h

pub back_leaves : (old mid new : Frames) (f : Flow) → mid.below ≡ old.below → GoesBack mid new f → Leaves old new f
back_leaves old mid new flow.Went e h = inl (ap (λ (b : Stack). b.frames.items) (sym e) ∙ h.0)
back_leaves old mid new flow.Over e h = ap (λ (b : Stack). b.frames.items) (sym e) ∙ h.0
back_leaves old mid new flow.Asked e h = absurd h
back_leaves old mid new flow.Spent e h = absurd h

handled_after : (o : Ending) (s : Slots) → after (after o (λ sign s' w. Ended (call_end sign) s w)) (λ sign s' w. Ended (Values (handled_fault sign)) [] w) ≡ after o (λ sign s' w. Ended (Values (handled_fault (call_end sign))) [] w)
handled_after (Ended sign s' w) s = refl
handled_after (Parked number args position store) s = refl
handled_after Spent s = refl

-- the handler of `xpcall` is called
pub handle_turns : {E : Type 0} (S : Setting) (old mid new : Frames) (handler fault : Value) (store : StoreView)
    → old.top.items.items ≡ [] → old.top.kind ≡ Handled handler → sign_of old.given ≡ Failed fault → mid.below ≡ old.below → mid.top ≡ old.top → Handles mid handler fault new
    → Turns {E = E} S old store new store (Ok flow.Went)
handle_turns {E} S old mid new handler fault store none kind failed below top h = record { follows = λ rs. before rs ∙ sym (then_goes rs) }
  where
    w_of : List Resume → State
    w_of rs = record { store = store; resumes = rs }

    before : (rs : List Resume) → finish S old (w_of rs) ≡ finish_calls S [] old.below.frames.items (after (eval S (ACall handler (fault ∷ [])) (calling (around old) false) [] (w_of rs)) (λ sign s' w. Ended (Values (handled_fault (call_end sign))) [] w))
    before rs =
        ap (λ (items : List Item). finish_calls S [] old.below.frames.items (closed S old.top.kind (around old) (finish_items S (here old) items (Ended (sign_of old.given) (slots_of old) (w_of rs))))) none
        ∙ ap (λ (k : Kind). finish_calls S [] old.below.frames.items (do_work (eval S) (closing S k (around old) (sign_of old.given)) (w_of rs))) kind
        ∙ ap (λ (sign : Sign). finish_calls S [] old.below.frames.items (do_work (eval S) (closing S (Handled handler) (around old) sign) (w_of rs))) failed

    args : Vec Value Global
    args = h.items.0

    items : new.top.items.items ≡ i.Call 0 handler args ∷ []
    items = h.items.2 ∙ ap (λ (xs : List Item). xs ++ i.Call 0 handler args ∷ []) (ap (λ (f : Frame). f.items.items) top ∙ none)

    then_goes : (rs : List Resume) → finish S new (w_of rs) ≡ finish_calls S [] old.below.frames.items (after (eval S (ACall handler (fault ∷ [])) (calling (around old) false) [] (w_of rs)) (λ sign s' w. Ended (Values (handled_fault (call_end sign))) [] w))
    then_goes rs =
        ap (λ (xs : List Item). finish_calls S [] new.below.frames.items (closed S new.top.kind (around new) (finish_items S (here new) xs (Ended (sign_of new.given) (slots_of new) (w_of rs))))) items
        ∙ ap (λ (g : _). finish_calls S [] new.below.frames.items (closed S new.top.kind (around new) (do_work (eval S) (resume_item S (i.Call 0 handler args) (here new) (sign_of g) (slots_of new)) (w_of rs)))) h.given
        ∙ ap (λ (b : List Frame). finish_calls S [] b (closed S new.top.kind (around_of [] b) (after (eval S (ACall handler args.items) (calling (callers_at (places_of (around_of [] b) new.top) 0) false) [] (w_of rs)) (λ sign s' w. Ended (call_end sign) (slots_of new) w)))) (ap (λ (b : Stack). b.frames.items) (h.below ∙ below))
        ∙ ap (λ (k : Kind). finish_calls S [] old.below.frames.items (closed S k (around old) (after (eval S (ACall handler args.items) (calling (if is_lua k then (record { function = new.top.function; line = 0 }) ∷ around old else around old) false) [] (w_of rs)) (λ sign s' w. Ended (call_end sign) (slots_of new) w)))) h.kind
        ∙ ap (finish_calls S [] old.below.frames.items) (handled_after (eval S (ACall handler args.items) (calling (around old) false) [] (w_of rs)) (slots_of new))
        ∙ ap (λ (vs : List Value). finish_calls S [] old.below.frames.items (after (eval S (ACall handler vs) (calling (around old) false) [] (w_of rs)) (λ sign s' w. Ended (Values (handled_fault (call_end sign))) [] w))) h.items.1

pub handle_leaves : (old mid new : Frames) (handler fault : Value) → old.top.kind ≡ Handled handler → sign_of old.given ≡ Failed fault → mid.below ≡ old.below → mid.top ≡ old.top
    → Handles mid handler fault new → Leaves old new flow.Went
handle_leaves old mid new handler fault kind failed below top h = inr (record {
  handler = handler;
  fault = fault;
  kind = kind;
  ended = failed;
  handles = record { below = h.below ∙ below; kind = h.kind; given = h.given; items = (h.items.0, h.items.1, h.items.2 ∙ ap (λ (f : Frame). f.items.items ++ i.Call 0 handler h.items.0 ∷ []) top) };
})
