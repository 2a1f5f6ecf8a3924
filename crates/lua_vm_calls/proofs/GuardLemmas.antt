-- Protected calls.
use Rattle.std.specs.Prelude.{◌≡◌, ℕ, ◌<◌, List, [], ◌∷◌, ◌++◌, drop, length, vec_len, nat_eq, Bool, true, false, Result, Ok, Err, OnOk, refl}
use Rattle.std.proofs.Common.{sym, ◌∙◌, ap, subst, arith, Vec, Global}
use Rattle.std.proofs.lemmas.Bool.{eqb-true, eqb-false}
use Rattle.lua_values.specs.declared.values.Value.{Value}
use Rattle.lua_values.specs.Heap.{StoreView}
use Rattle.lua_meaning.specs.Works.{Caller, ACall, Values, Return, Break, Failed, Slots, Work, and_then}
use Rattle.lua_meaning.specs.Evaluator.{Resume, State, Ending, Ended, Parked, Spent, after, do_work}
use Rattle.lua_meaning.specs.Setting.{Setting}
use Rattle.lua_meaning.specs.Positions.{callers_at}
use Rattle.lua_meaning.specs.Signs.{first}
use Rattle.lua_meaning.specs.Calls.{call_end, calling}
use Rattle.lua_meaning.specs.ProtectedCalls.{protected, handled_fault, protected_by, pcall_work, xpcall_work}
use Rattle.lua_meaning.specs.Nodes.{eval}
use Rattle.lua_frames.specs.declared.flow.Flow.{Flow}
use Rattle.lua_frames.specs.declared.frames.Frame.{Frame}
use Rattle.lua_frames.specs.declared.frames.Kind.{Kind}
use Rattle.lua_frames.specs.declared.frames.Kind.TheVariants.{Guard, Handled}
use Rattle.lua_frames.specs.declared.items.Item.{Item}
use Rattle.lua_frames.specs.declared.items.Item.TheVariants as i
use Rattle.lua_frames.specs.declared.stack.Stack.{Stack}
use Rattle.lua_frames.specs.declared.threads.Frames.{Frames}
use Rattle.lua_frames.specs.Around.{is_lua, places_of}
use Rattle.lua_frames.specs.Frames.{closed, back, finish_items, finish_from, finish, here, slots_of, working}
use Rattle.lua_frames.specs.Follows.{Follows, Works}
use Rattle.lua_frames.specs.Changes.{Ends, Pushes}
use Rattle.lua_frames.proofs.FollowLemmas.{ends_finish}
use Rattle.lua_frames.proofs.CallLemmas.{push_finish}
use Rattle.lua_vm_functions.specs.CallEnds.{back_in}
use Rattle.lua_vm_calls.specs.NativeParts.{Guards}

-- how a call in a guarded frame ends for the caller
guarded : (S : Setting) (around : List Caller) (o : Ending) (s s' : Slots) → back s (closed S Guard around (after o (λ sign s'' w. Ended (call_end sign) s' w))) ≡ after o (λ sign s'' w. Ended (Values (protected (call_end sign))) s w)
guarded S around (Ended (Values vs) s'' w) s s' = refl
guarded S around (Ended (Return vs) s'' w) s s' = refl
guarded S around (Ended Break s'' w) s s' = refl
guarded S around (Ended (Failed v) s'' w) s s' = refl
guarded S around (Parked number args position store) s s' = refl
guarded S around Spent s s' = refl

back_after : (o : Ending) (s : Slots) → after (after o (λ sign s' w. Ended (Values (handled_fault (call_end sign))) [] w)) (λ sign s' w. Ended sign s w) ≡ after o (λ sign s' w. Ended (Values (handled_fault (call_end sign))) s w)
back_after (Ended sign s' w) s = refl
back_after (Parked number args position store) s = refl
back_after Spent s = refl

-- and in one with a handler
handled : (S : Setting) (by : Value) (around : List Caller) (o : Ending) (s s' : Slots)
    → back s (closed S (Handled by) around (after o (λ sign s'' w. Ended (call_end sign) s' w))) ≡ after o (λ sign s'' w. do_work (eval S) (and_then (protected_by by around [] (call_end sign)) (back_in false s)) w)
handled S by around (Ended (Values vs) s'' w) s s' = refl
handled S by around (Ended (Return vs) s'' w) s s' = refl
handled S by around (Ended Break s'' w) s s' = refl
handled S by around (Ended (Failed v) s'' w) s s' = back_after (eval S (ACall by (v ∷ [])) (calling around false) [] w) s
handled S by around (Parked number args position store) s s' = refl
handled S by around Spent s s' = refl

-- a call that begins in a frame of its own, which is no Lua function's, is the caller's work that goes on with how that frame ends
frame_works : {E : Type 0} (S : Setting) (line : ℕ) (q : Work) (kind : Kind) (f : Value) (args : List Value) (old mid new : Frames) (store : StoreView) (r : Result Flow E)
    → is_lua kind ≡ false → Guards line old kind f args mid → Ends (Values []) mid new r
    → ((w : State) → do_work (eval S) q w ≡ back (slots_of old) (closed S kind (callers_at (here old) line) (after (eval S (ACall f args) (calling (callers_at (here old) line) false) [] w) (λ sign s'' w'. Ended (call_end sign) (slots_of mid) w'))))
    → Works S q old store new store r
frame_works S line q kind f args old mid new store (Err x) plain h w e = record { follows = tt }
frame_works S line q kind f args old mid new store (Ok t) plain h w e =
    record { follows = subst (λ (t' : Flow). Follows S (working S q old store) store new t') (sym w.went) (λ rs. same rs) }
  where
    callers : List Caller
    callers = callers_at (here old) line

    kept : Vec Value Global
    kept = h.items.0

    state : List Resume → State
    state rs = record { store = store; resumes = rs }

    called : List Value → List Resume → Ending
    called vs rs = after (eval S (ACall f vs) (calling callers false) [] (state rs)) (λ sign s'' w'. Ended (call_end sign) (slots_of mid) w')

    framed : (rs : List Resume) → closed S h.frame.kind callers (finish_items S (places_of callers h.frame) h.frame.items.items (Ended (Values []) (slots_of mid) (state rs))) ≡ closed S kind callers (called args rs)
    framed rs =
        ap (λ (items : List Item). closed S h.frame.kind callers (finish_items S (places_of callers h.frame) items (Ended (Values []) (slots_of mid) (state rs)))) h.items.2
        ∙ ap (λ (k : Kind). closed S k callers (after (eval S (ACall f kept.items) (calling (callers_at (record (places_of callers h.frame) { lua = is_lua k }) 0) false) [] (state rs)) (λ sign s'' w'. Ended (call_end sign) (slots_of mid) w'))) h.is
        ∙ ap (λ (u : Bool). closed S kind callers (after (eval S (ACall f kept.items) (calling (callers_at (record (places_of callers h.frame) { lua = u }) 0) false) [] (state rs)) (λ sign s'' w'. Ended (call_end sign) (slots_of mid) w'))) plain
        ∙ ap (λ (vs : List Value). closed S kind callers (called vs rs)) h.items.1

    same : (rs : List Resume) → working S q old store rs ≡ finish S new (state rs)
    same rs =
        ap (finish_from S old) (e (state rs) ∙ sym (ap (back (slots_of old)) (framed rs)))
        ∙ sym (push_finish S line old h.frame mid h.pushes (Ended (Values []) (slots_of mid) (state rs)))
        ∙ sym (ends_finish S (Values []) mid new store (Ok t) w rs)

-- a protected call begins in its frame
pub guard_works : {E : Type 0} (S : Setting) (line : ℕ) (f : Value) (given args : List Value) (old mid new : Frames) (store : StoreView) (r : Result Flow E)
    → given ≡ f ∷ args → Guards line old Guard f args mid → Ends (Values []) mid new r → Works S (and_then (pcall_work S given (callers_at (here old) line) []) (back_in false (slots_of old))) old store new store r
guard_works S line f given args old mid new store r e h w =
    frame_works S line (and_then (pcall_work S given (callers_at (here old) line) []) (back_in false (slots_of old))) Guard f args old mid new store r refl h w
    (λ w'. ap (λ (vs : List Value). do_work (eval S) (and_then (pcall_work S vs (callers_at (here old) line) []) (back_in false (slots_of old))) w') e
    ∙ sym (guarded S (callers_at (here old) line) (eval S (ACall f args) (calling (callers_at (here old) line) false) [] w') (slots_of old) (slots_of mid)))

-- and one with a handler in its own
pub handled_works : {E : Type 0} (S : Setting) (line : ℕ) (f by : Value) (given more none : List Value) (old mid new : Frames) (store : StoreView) (r : Result Flow E)
    → given ≡ f ∷ by ∷ more → none ≡ [] → Guards line old (Handled by) f none mid → Ends (Values []) mid new r → Works S (and_then (xpcall_work S given (callers_at (here old) line) []) (back_in false (slots_of old))) old store new store r
handled_works S line f by given more none old mid new store r e n h w =
    frame_works S line (and_then (xpcall_work S given (callers_at (here old) line) []) (back_in false (slots_of old))) (Handled by) f none old mid new store r refl h w
    (λ w'. ap (λ (vs : List Value). do_work (eval S) (and_then (xpcall_work S vs (callers_at (here old) line) []) (back_in false (slots_of old))) w') e
    ∙ sym (handled S by (callers_at (here old) line) (eval S (ACall f []) (calling (callers_at (here old) line) false) [] w') (slots_of old) (slots_of mid))
    ∙ ap (λ (vs : List Value). back (slots_of old) (closed S (Handled by) (callers_at (here old) line) (after (eval S (ACall f vs) (calling (callers_at (here old) line) false) [] w') (λ sign s'' w''. Ended (call_end sign) (slots_of mid) w'')))) (sym n))

-- the frame of a protected call that was pushed
pub guards : {E : Type 0} (line : ℕ) (kind : Kind) (old mid : Frames) (frame : Frame) (new : Frames) (f : Value) (kept : Vec Value Global) (args : List Value) (r : Result Unit E)
    → OnOk r (Pushes line mid frame new) → mid.below ≡ old.below → mid.top ≡ old.top → frame.kind ≡ kind → kept.items ≡ args → frame.items.items ≡ i.Call 0 f kept ∷ [] → OnOk r (Guards line old kind f args new)
guards line kind old mid frame new f kept args (Ok x) h b t k a it =
    record {
      frame = frame;
      pushes = record {
        items = h.items;
        same = h.same ∙ ap (λ (top : Frame). top.items.items) t;
        below = h.below ∙ ap (λ (s : Stack). s.frames.items ++ (record mid.top { line = line; items = h.items }) ∷ []) b
            ∙ ap (λ (top : Frame). old.below.frames.items ++ (record top { line = line; items = h.items }) ∷ []) t;
        top = h.top;
      };
      is = k;
      items = (kept, a, it);
    }
guards line kind old mid frame new f kept args (Err x) h b t k a it = tt

-- the first of some values, and the others
pub parted : (vs : List Value) (v : Value) (others : List Value) → 0 < length vs → v ≡ first vs → others ≡ drop 1 vs → vs ≡ v ∷ others
parted [] v others some e d = absurd (omega (arith, some))
parted (x ∷ vs) v others some e d = rw (e, d) refl

-- whether a vector has items, by a test that was made
pub no_items : (t : Bool) (v : Vec Value Global) → t ≡ nat_eq (vec_len v) 0 → t ≡ true → v.items ≡ []
no_items t v e h = none v.items (omega (arith, v.ok, eqb-true (vec_len v) 0 (sym e ∙ h)))
  where
    none : (vs : List Value) → length vs ≡ 0 → vs ≡ []
    none [] z = refl
    none (x ∷ vs) z = absurd (omega (arith, z))

pub some_items : (t : Bool) (v : Vec Value Global) → t ≡ nat_eq (vec_len v) 0 → t ≡ false → 0 < length v.items
some_items t v e h = omega (arith, v.ok, eqb-false (vec_len v) 0 (sym e ∙ h))

-- a value, another one, and those after them
pub parted_twice : (vs : List Value) (v by : Value) (others rest : List Value) → vs ≡ v ∷ others → others ≡ by ∷ rest → vs ≡ v ∷ by ∷ rest
parted_twice vs v by others rest e d = e ∙ ap (λ (us : List Value). v ∷ us) d
