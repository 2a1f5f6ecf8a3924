-- `tostring`.
use Rattle.std.specs.Prelude.{◌≡◌, ℕ, ◌+◌, ◌-◌, ◌/◌, ◌^◌, List, [], ◌∷◌, length, codes, nat_lt, min, if◌then◌else◌, Bool, true, false, Result, Ok, Some, None, refl}
use Rattle.std.proofs.Common.{sym, ◌∙◌, ap, subst, arith, Vec, Global}
use Rattle.lua_values.specs.declared.values.Value.{Value}
use Rattle.lua_values.specs.declared.values.Value.TheVariants as value
use Rattle.lua_values.specs.declared.faults.StoreFault.{StoreFault}
use Rattle.lua_values.specs.declared.faults.StoreFault.TheVariants.{Full}
use Rattle.lua_values.specs.Heap.{Heap, StoreView, step_limit}
use Rattle.lua_values.specs.StoreCalls.{is_full, full_cause}
use Rattle.lua_values.specs.Values.{is_nil}
use Rattle.lua_operators.specs.declared.events.Event.TheVariants.{ToString}
use Rattle.lua_operators.specs.declared.faults.Fault.TheVariants.{StorageLimit}
use Rattle.lua_operators.specs.Conversions.{text_of}
use Rattle.lua_meaning.specs.Works.{Caller, Values, Return, Break, Failed, ACall, Slots, Work, Write, Count, and_then}
use Rattle.lua_meaning.specs.Evaluator.{State, Ending, Ended, Parked, Spent, after, do_work}
use Rattle.lua_meaning.specs.Setting.{Setting}
use Rattle.lua_meaning.specs.Positions.{callers_at, raise_fault}
use Rattle.lua_meaning.specs.Signs.{first, give, give_one, on_values}
use Rattle.lua_meaning.specs.Metatables.{handler}
use Rattle.lua_meaning.specs.Concatenation.{with_text}
use Rattle.lua_meaning.specs.Calls.{call_end, calling, call, call_for_one}
use Rattle.lua_meaning.specs.ProtectedCalls.{raise_missing}
use Rattle.lua_meaning.specs.Natives.{texts_length, make_text_of, tostring_work, native_work}
use Rattle.lua_meaning.specs.Nodes.{eval}
use Rattle.lua_frames.specs.declared.flow.Flow.{Flow}
use Rattle.lua_frames.specs.declared.flow.Flow.TheVariants as flow
use Rattle.lua_frames.specs.declared.items.Item.TheVariants as i
use Rattle.lua_frames.specs.declared.threads.Frames.{Frames}
use Rattle.lua_frames.specs.Items.{resume_item}
use Rattle.lua_frames.specs.Frames.{here, slots_of}
use Rattle.lua_frames.specs.Follows.{Works}
use Rattle.lua_frames.specs.Changes.{Waits, Ends}
use Rattle.lua_frames.proofs.FollowLemmas.{works_as, works_by, works_from, ends_works, spends, work_under}
use Rattle.lua_frames.proofs.ByteLemmas.{bytes_go, bytes_spent}
use Rattle.lua_vm_functions.specs.CallEnds.{back_in}
use Rattle.lua_vm_calls.specs.TextParts.{Told, tostring_of, text_made}

-- number 4 is `tostring`
pub number_of_tostring : {E : Type 0} (S : Setting) (n : ℕ) (args : List Value) (callers : List Caller) (old new : Frames) (before store : StoreView) (r : Result Flow E)
    → n ≡ 4 → Works S (and_then (tostring_work S args callers []) (back_in false (slots_of old))) old before new store r → Works S (and_then (native_work S n args callers []) (back_in false (slots_of old))) old before new store r
number_of_tostring S n args callers old new before store r e w =
    works_as S (and_then (native_work S n args callers []) (back_in false (slots_of old))) (and_then (tostring_work S args callers []) (back_in false (slots_of old))) old new before store r w
    (ap (λ (k : ℕ). and_then (native_work S k args callers []) (back_in false (slots_of old))) e)

-- with nothing to tell
pub nothing_told : {E : Type 0} (S : Setting) (args : List Value) (callers : List Caller) (old new : Frames) (store : StoreView) (r : Result Flow E)
    → args ≡ [] → Works S (raise_missing S callers 1 (codes "tostring") (slots_of old)) old store new store r → Works S (and_then (tostring_work S args callers []) (back_in false (slots_of old))) old store new store r
nothing_told S args callers old new store r e w =
    works_as S (and_then (tostring_work S args callers []) (back_in false (slots_of old))) (raise_missing S callers 1 (codes "tostring") (slots_of old)) old new store store r w
    (ap (λ (vs : List Value). and_then (tostring_work S vs callers []) (back_in false (slots_of old))) e)

-- with something to tell
pub first_told : {E : Type 0} (S : Setting) (args : List Value) (v : Value) (others : List Value) (callers : List Caller) (old new : Frames) (before store : StoreView) (r : Result Flow E)
    → args ≡ v ∷ others → Works S (and_then (tostring_of S callers (texts_length args) v []) (back_in false (slots_of old))) old before new store r
    → Works S (and_then (tostring_work S args callers []) (back_in false (slots_of old))) old before new store r
first_told S args v others callers old new before store r e w =
    works_as S (and_then (tostring_work S args callers []) (back_in false (slots_of old))) (and_then (tostring_of S callers (texts_length args) v []) (back_in false (slots_of old))) old new before store r w
    (ap (λ (vs : List Value). and_then (tostring_work S vs callers []) (back_in false (slots_of old))) e
    ∙ ap (λ (vs : List Value). and_then (tostring_of S callers (texts_length vs) v []) (back_in false (slots_of old))) (sym e))

-- the bytes that are told of some values
pub told_bytes : (told : ℕ) (args lent : List Value) → lent ≡ args → told ≡ min (texts_length lent) (2 ^ 64 - 1) → Told (texts_length args) told
told_bytes told args lent e t = record { is = t ∙ ap (λ (vs : List Value). min (texts_length vs) (2 ^ 64 - 1)) e }

-- and of as many more
pub told_more : (bytes told more size sum : ℕ) → Told bytes told → size ≡ more → sum ≡ min (told + size) (2 ^ 64 - 1) → Told (bytes + more) sum
told_more bytes told more size sum t s e = record { is = omega (arith, t.is, s, e) }

-- the bytes of a text that is lent
pub length_told : (lent text : List ℕ) → lent ≡ text → length lent ≡ length text
length_told lent text e = ap (λ (t : List ℕ). length t) e

-- the steps of bytes are counted, and the work goes on
pub told_goes : {E : Type 0} (S : Setting) (bytes told : ℕ) (q : Work) (below : Bool) (old new : Frames) (before mid store : StoreView) (r : Result Flow E)
    → Told bytes told → mid ≡ record { heap = before.heap; steps = min step_limit (before.steps + told / 64) } → below ≡ nat_lt (before.steps + told / 64) step_limit → below ≡ true
    → Works S q old mid new store r → Works S (Count (bytes / 64) q) old before new store r
told_goes S bytes told q below old new before mid store r t is e holds w = works_by S (Count (bytes / 64) q) q old new before mid store r (bytes_go S bytes told q before mid below t.is is e holds) w

-- or none is left
pub told_spent : {E : Type 0} (S : Setting) (bytes told : ℕ) (q : Work) (below : Bool) (old new : Frames) (before store : StoreView)
    → Told bytes told → below ≡ nat_lt (before.steps + told / 64) step_limit → below ≡ false → Works {E = E} S (Count (bytes / 64) q) old before new store (Ok flow.Spent)
told_spent S bytes told q below old new before store t e fails = spends S (Count (bytes / 64) q) old new before store (bytes_spent S bytes told q before below t.is e fails)

-- the text of a value goes past the call
text_back : (S : Setting) (callers : List Caller) (bytes : ℕ) (h : Heap) (text : List ℕ) (s : Slots) → and_then (text_made S callers bytes h text []) (back_in false s) ≡ text_made S callers bytes h text s
text_back S callers bytes h text s = by_test (is_full h (length text + 16))
  where
    by_test : (t : Bool) → and_then (if t then Count (bytes / 64) (raise_fault S callers StorageLimit []) else Count ((bytes + length text) / 64) (Write (with_text h (length text)) (give_one (value.Text text) []))) (back_in false s)
        ≡ (if t then Count (bytes / 64) (raise_fault S callers StorageLimit s) else Count ((bytes + length text) / 64) (Write (with_text h (length text)) (give_one (value.Text text) s)))
    by_test true = refl
    by_test false = refl

told_back : (S : Setting) (callers : List Caller) (bytes : ℕ) (h : Heap) (v : Value) (s : Slots) → and_then (make_text_of S callers bytes h v []) (back_in false s) ≡ make_text_of S callers bytes h v s
told_back S callers bytes h value.Nil s = text_back S callers bytes h (text_of value.Nil) s
told_back S callers bytes h (value.Truth t) s = text_back S callers bytes h (text_of (value.Truth t)) s
told_back S callers bytes h (value.Number k) s = text_back S callers bytes h (text_of (value.Number k)) s
told_back S callers bytes h (value.Text t) s = refl
told_back S callers bytes h (value.Table t) s = text_back S callers bytes h (text_of (value.Table t)) s
told_back S callers bytes h (value.Closure k) s = text_back S callers bytes h (text_of (value.Closure k)) s
told_back S callers bytes h (value.Native k) s = text_back S callers bytes h (text_of (value.Native k)) s
told_back S callers bytes h (value.Thread k) s = text_back S callers bytes h (text_of (value.Thread k)) s
told_back S callers bytes h value.Null s = text_back S callers bytes h (text_of value.Null) s
told_back S callers bytes h (value.Object k m) s = text_back S callers bytes h (text_of (value.Object k m)) s

-- a value without a handler tells its text
pub tells_text : {E : Type 0} (S : Setting) (callers : List Caller) (bytes : ℕ) (v by : Value) (old new : Frames) (before store : StoreView) (r : Result Flow E)
    → by ≡ handler before.heap v ToString → is_nil by ≡ true → Works S (make_text_of S callers bytes before.heap v (slots_of old)) old before new store r
    → Works S (and_then (tostring_of S callers bytes v []) (back_in false (slots_of old))) old before new store r
tells_text S callers bytes v by old new before store r e nil w =
    works_by S (and_then (tostring_of S callers bytes v []) (back_in false (slots_of old))) (make_text_of S callers bytes before.heap v (slots_of old)) old new before before store r
    (λ rs. ap (λ (t : Bool). do_work (eval S) (and_then (if t then make_text_of S callers bytes before.heap v [] else Count (bytes / 64) (call_for_one callers (handler before.heap v ToString) (v ∷ []) [] give_one)) (back_in false (slots_of old))) (record { store = before; resumes = rs }))
    (ap is_nil (sym e) ∙ nil)
    ∙ ap (λ (q : Work). do_work (eval S) q (record { store = before; resumes = rs })) (told_back S callers bytes before.heap v (slots_of old))) w

-- what a handler gives goes past the call
given_back : (S : Setting) (s : Slots) (o : Ending)
    → after o (λ sign s' w. do_work (eval S) (and_then (on_values (λ vs s''. give_one (first vs) s'') (call_end sign) []) (back_in false s)) w)
    ≡ after o (λ sign s' w. do_work (eval S) (on_values (λ vs s''. give_one (first vs) s'') (call_end sign) s) w)
given_back S s (Ended (Values vs) s' w) = refl
given_back S s (Ended (Return vs) s' w) = refl
given_back S s (Ended Break s' w) = refl
given_back S s (Ended (Failed v) s' w) = refl
given_back S s (Parked number args position store) = refl
given_back S s Spent = refl

-- a value with a handler tells what that gives
pub tells_by : {E : Type 0} (S : Setting) (callers : List Caller) (bytes : ℕ) (v copy by : Value) (old new : Frames) (before store : StoreView) (r : Result Flow E)
    → by ≡ handler before.heap v ToString → is_nil by ≡ false → copy ≡ v → Works S (Count (bytes / 64) (call_for_one callers by (copy ∷ []) (slots_of old) give_one)) old before new store r
    → Works S (and_then (tostring_of S callers bytes v []) (back_in false (slots_of old))) old before new store r
tells_by S callers bytes v copy by old new before store r e some same given =
    works_by S (and_then (tostring_of S callers bytes v []) (back_in false (slots_of old))) (Count (bytes / 64) (call_for_one callers by (v ∷ []) (slots_of old) give_one)) old new before before store r
    (λ rs. ap (λ (t : Bool). do_work (eval S) (and_then (if t then make_text_of S callers bytes before.heap v [] else Count (bytes / 64) (call_for_one callers (handler before.heap v ToString) (v ∷ []) [] give_one)) (back_in false (slots_of old))) (record { store = before; resumes = rs }))
    (ap is_nil (sym e) ∙ some)
    ∙ ap (λ (x : Value). do_work (eval S) (and_then (Count (bytes / 64) (call_for_one callers x (v ∷ []) [] give_one)) (back_in false (slots_of old))) (record { store = before; resumes = rs })) (sym e)
    ∙ by_test (nat_lt (before.steps + bytes / 64) step_limit) (record { store = record { heap = before.heap; steps = before.steps + bytes / 64 }; resumes = rs })) w
  where
    w : Works S (Count (bytes / 64) (call_for_one callers by (v ∷ []) (slots_of old) give_one)) old before new store r
    w = subst (λ (x : Value). Works S (Count (bytes / 64) (call_for_one callers by (x ∷ []) (slots_of old) give_one)) old before new store r) same given

    by_test : (t : Bool) (w' : State) → (if t then do_work (eval S) (and_then (call_for_one callers by (v ∷ []) [] give_one) (back_in false (slots_of old))) w' else Spent) ≡ (if t then do_work (eval S) (call_for_one callers by (v ∷ []) (slots_of old) give_one) w' else Spent)
    by_test true w' = given_back S (slots_of old) (eval S (ACall by (v ∷ [])) (calling callers false) [] w')
    by_test false w' = refl

-- a text gives itself, and the text of any other value is made
pub text_itself : {E : Type 0} (S : Setting) (callers : List Caller) (bytes : ℕ) (h : Heap) (v : Value) (text copy : List ℕ) (old new : Frames) (before store : StoreView) (r : Result Flow E)
    → v ≡ value.Text text → copy ≡ text → Works S (Count (bytes / 64) (give_one (value.Text copy) (slots_of old))) old before new store r → Works S (make_text_of S callers bytes h v (slots_of old)) old before new store r
text_itself S callers bytes h v text copy old new before store r e c w =
    works_as S (make_text_of S callers bytes h v (slots_of old)) (Count (bytes / 64) (give_one (value.Text copy) (slots_of old))) old new before store r w
    (ap (λ (x : Value). make_text_of S callers bytes h x (slots_of old)) e ∙ ap (λ (t : List ℕ). Count (bytes / 64) (give_one (value.Text t) (slots_of old))) (sym c))

no_text : (S : Setting) (callers : List Caller) (bytes : ℕ) (h : Heap) (v : Value) (s : Slots) → ((t : List ℕ) → v ≡ value.Text t → ⊥) → make_text_of S callers bytes h v s ≡ text_made S callers bytes h (text_of v) s
no_text S callers bytes h value.Nil s k = refl
no_text S callers bytes h (value.Truth t) s k = refl
no_text S callers bytes h (value.Number n) s k = refl
no_text S callers bytes h (value.Text t) s k = absurd (k t refl)
no_text S callers bytes h (value.Table t) s k = refl
no_text S callers bytes h (value.Closure n) s k = refl
no_text S callers bytes h (value.Native n) s k = refl
no_text S callers bytes h (value.Thread n) s k = refl
no_text S callers bytes h value.Null s k = refl
no_text S callers bytes h (value.Object n m) s k = refl

pub text_anew : {E : Type 0} (S : Setting) (callers : List Caller) (bytes : ℕ) (h : Heap) (v : Value) (text : List ℕ) (old new : Frames) (before store : StoreView) (r : Result Flow E)
    → ((t : List ℕ) → v ≡ value.Text t → ⊥) → text ≡ text_of v → Works S (text_made S callers bytes h text (slots_of old)) old before new store r → Works S (make_text_of S callers bytes h v (slots_of old)) old before new store r
text_anew S callers bytes h v text old new before store r k e w =
    works_as S (make_text_of S callers bytes h v (slots_of old)) (text_made S callers bytes h text (slots_of old)) old new before store r w
    (no_text S callers bytes h v (slots_of old) k ∙ ap (λ (t : List ℕ). text_made S callers bytes h t (slots_of old)) (sym e))

room : (h : Heap) (n : ℕ) → full_cause h n ≡ None → is_full h n ≡ false
room h n e = by_test (is_full h n) e
  where
    by_test : (t : Bool) → (if t then Some Full else None) ≡ None → t ≡ false
    by_test true g = absurd (cc)
    by_test false g = refl

no_room : (h : Heap) (n : ℕ) (cause : StoreFault) → full_cause h n ≡ Some cause → is_full h n ≡ true
no_room h n cause e = by_test (is_full h n) e
  where
    by_test : (t : Bool) → (if t then Some Full else None) ≡ Some cause → t ≡ true
    by_test true g = refl
    by_test false g = absurd (cc)

-- the units of a text are there
with_room : (S : Setting) (callers : List Caller) (bytes : ℕ) (h : Heap) (text : List ℕ) (s : Slots) (size : ℕ) → size ≡ length text → full_cause h (size + 16) ≡ None
    → text_made S callers bytes h text s ≡ Count ((bytes + length text) / 64) (Write (with_text h (length text)) (give_one (value.Text text) s))
with_room S callers bytes h text s size e fits =
    ap (λ (t : Bool). if t then Count (bytes / 64) (raise_fault S callers StorageLimit s) else Count ((bytes + length text) / 64) (Write (with_text h (length text)) (give_one (value.Text text) s)))
    (room h (length text + 16) (ap (λ (k : ℕ). full_cause h (k + 16)) (sym e) ∙ fits))

pub made_spent : {E : Type 0} (S : Setting) (callers : List Caller) (bytes told size : ℕ) (text : List ℕ) (below : Bool) (old new : Frames) (before mid store : StoreView)
    → size ≡ length text → full_cause before.heap (size + 16) ≡ None → mid ≡ record { heap = record before.heap { units = before.heap.units + (size + 16) }; steps = before.steps }
    → Told (bytes + length text) told → below ≡ nat_lt (mid.steps + told / 64) step_limit → below ≡ false → Works {E = E} S (text_made S callers bytes before.heap text (slots_of old)) old before new store (Ok flow.Spent)
made_spent S callers bytes told size text below old new before mid store e fits is t b fails =
    works_as S (text_made S callers bytes before.heap text (slots_of old)) (Count ((bytes + length text) / 64) (Write (with_text before.heap (length text)) (give_one (value.Text text) (slots_of old)))) old new before store _
    (told_spent S (bytes + length text) told (Write (with_text before.heap (length text)) (give_one (value.Text text) (slots_of old))) below old new before store t
    (b ∙ ap (λ (st : StoreView). nat_lt (st.steps + told / 64) step_limit) is) fails)
    (with_room S callers bytes before.heap text (slots_of old) size e fits)

-- or they aren't
pub made_refused : {E : Type 0} (S : Setting) (callers : List Caller) (bytes size : ℕ) (text : List ℕ) (cause : StoreFault) (old new : Frames) (before same store : StoreView) (r : Result Flow E)
    → size ≡ length text → full_cause before.heap (size + 16) ≡ Some cause → same ≡ before → Works S (Count (bytes / 64) (raise_fault S callers StorageLimit (slots_of old))) old same new store r
    → Works S (text_made S callers bytes before.heap text (slots_of old)) old before new store r
made_refused S callers bytes size text cause old new before same store r e full kept w =
    works_as S (text_made S callers bytes before.heap text (slots_of old)) (Count (bytes / 64) (raise_fault S callers StorageLimit (slots_of old))) old new before store r
    (subst (λ (st : StoreView). Works S (Count (bytes / 64) (raise_fault S callers StorageLimit (slots_of old))) old st new store r) kept w)
    (ap (λ (t : Bool). if t then Count (bytes / 64) (raise_fault S callers StorageLimit (slots_of old)) else Count ((bytes + length text) / 64) (Write (with_text before.heap (length text)) (give_one (value.Text text) (slots_of old))))
    (no_room before.heap (length text + 16) cause (ap (λ (k : ℕ). full_cause before.heap (k + 16)) (sym e) ∙ full)))

-- a call that waits begins next
pub call_waits : {E : Type 0} (S : Setting) (line : ℕ) (boxed by : Value) (args : List Value) (kept : Vec Value Global) (old same mid new : Frames) (store : StoreView) (r : Result Flow E)
    → same.below ≡ old.below → same.top ≡ old.top → Waits same (i.Call line boxed kept) mid → boxed ≡ by → kept.items ≡ args → Ends (Values []) mid new r
    → Works S (call (callers_at (here old) line) by args (slots_of old)) old store new store r
call_waits S line boxed by args kept old same mid new store r b t h x e w =
    works_as S (call (callers_at (here old) line) by args (slots_of old)) (call (callers_at (here same) line) boxed kept.items (slots_of same)) old new store store r
    (works_from S (call (callers_at (here same) line) boxed kept.items (slots_of same)) old same new store store r b t
    (works_as S (call (callers_at (here same) line) boxed kept.items (slots_of same)) (and_then (give [] (slots_of same)) (resume_item S (i.Call line boxed kept) (here same))) same new store store r
    (work_under S same mid new (i.Call line boxed kept) (λ p s. give [] s) store store r h (ends_works S (Values []) mid new store r w)) refl))
    (rw (b, t, x, e) refl)

-- one value of it is wanted
pub one_wanted : {E : Type 0} (S : Setting) (line : ℕ) (by : Value) (args : List Value) (old mid fs : Frames) (before store : StoreView) (r : Result Flow E)
    → Waits old i.First mid → Works S (call (callers_at (here mid) line) by args (slots_of mid)) mid before fs store r
    → Works S (call_for_one (callers_at (here old) line) by args (slots_of old) give_one) old before fs store r
one_wanted S line by args old mid fs before store r h w =
    works_as S (call_for_one (callers_at (here old) line) by args (slots_of old) give_one) (and_then (call (callers_at (here old) line) by args (slots_of old)) (resume_item S i.First (here old))) old fs before store r
    (work_under S old mid fs i.First (λ p s. call (callers_at p line) by args s) before store r h w) refl
