-- Calls of the host's functions.
use Rattle.std.specs.Prelude.{◌≡◌, ℕ, ◌+◌, ◌≤◌, ◌<◌, List, [], nat_lt, min, if◌then◌else◌, Bool, true, false, Result, Ok, Err, IfOk, OnOk, Option, Some, refl}
use Rattle.std.proofs.Common.{sym, ◌∙◌, ap, subst, arith}
use borrow.Author.Tests.{ltb-true, ltb-false}
use Rattle.lua_values.specs.declared.values.Value.{Value}
use Rattle.lua_values.specs.declared.values.Value.TheVariants as value
use Rattle.lua_values.specs.declared.values.Value.TheVariants.{Nil}
use Rattle.lua_values.specs.declared.natives.NativeOut.{NativeOut}
use Rattle.lua_values.specs.declared.natives.NativeOut.TheVariants as out
use Rattle.lua_values.specs.Heap.{Heap, StoreView, step_limit}
use Rattle.lua_values.specs.NativeCalls.{NativeResult, Gives, Faults, Leaves, steps_of, Counts, Answers}
use Rattle.lua_operators.specs.declared.faults.OperandFault.TheVariants as operand
use Rattle.lua_operators.specs.Types.{type_of}
use Rattle.lua_meaning.specs.declared.positions.Position.{Position}
use Rattle.lua_meaning.specs.declared.resumes.Resumed.{Resumed}
use Rattle.lua_meaning.specs.declared.resumes.Resumed.TheVariants as resumed
use Rattle.lua_meaning.specs.Works.{Caller, Values, Slots, Work, End, Outside, Look, Count, and_then}
use Rattle.lua_meaning.specs.Evaluator.{Resume, Ended, Spent, do_work}
use Rattle.lua_meaning.specs.Setting.{Setting}
use Rattle.lua_meaning.specs.Positions.{position_of, raise_operand}
use Rattle.lua_meaning.specs.Signs.{give}
use Rattle.lua_meaning.specs.Natives.{raise_value, answer_of, result_work, library_work}
use Rattle.lua_meaning.specs.Nodes.{eval}
use Rattle.lua_frames.specs.declared.flow.Flow.{Flow}
use Rattle.lua_frames.specs.declared.flow.Flow.TheVariants as flow
use Rattle.lua_frames.specs.declared.flow.Op.{Op}
use Rattle.lua_frames.specs.declared.threads.Frames.{Frames}
use Rattle.lua_frames.specs.Frames.{slots_of, answer_sign}
use Rattle.lua_frames.specs.Follows.{Works}
use Rattle.lua_frames.specs.Changes.{Ends}
use Rattle.lua_frames.proofs.FollowLemmas.{works_as, works_by, ends_works, spends}
use Rattle.lua_frames.proofs.CallLemmas.{asked_works}
use Rattle.lua_vm_functions.specs.CallEnds.{back_in}

-- what a function of the host means, for a caller with these slots
abbrev pub result_called : Setting → ℕ → List Value → List Caller → NativeResult → Slots → Work
result_called S number args callers r s = and_then (result_work S number args callers r []) (back_in false s)

-- whether a number is there, by a count that was told
pub is_there : (number count told : ℕ) → told ≡ count → number < told → nat_lt number count ≡ true
is_there number count told e h = by_test (nat_lt number count) refl
  where
    by_test : (t : Bool) → nat_lt number count ≡ t → t ≡ true
    by_test true g = refl
    by_test false g = absurd (omega (arith, e, h, ltb-false _ _ g))

pub is_missing : (number count told : ℕ) → told ≡ count → told ≤ number → nat_lt number count ≡ false
is_missing number count told e h = by_test (nat_lt number count) refl
  where
    by_test : (t : Bool) → nat_lt number count ≡ t → t ≡ false
    by_test true g = absurd (omega (arith, e, h, ltb-true _ _ g))
    by_test false g = refl

-- a number that is there is the library's
pub library_called : {E : Type 0} (S : Setting) (number : ℕ) (args : List Value) (callers : List Caller) (old new : Frames) (before store : StoreView) (r : Result Flow E)
    → nat_lt number S.count ≡ true → Works S (result_called S number args callers (S.lib number args before.heap) (slots_of old)) old before new store r
    → Works S (and_then (library_work S number args callers []) (back_in false (slots_of old))) old before new store r
library_called S number args callers old new before store r e w =
    works_as S (and_then (library_work S number args callers []) (back_in false (slots_of old))) (Look (λ h. result_called S number args callers (S.lib number args h) (slots_of old))) old new before store r (record { follows = w.follows })
    (ap (λ (t : Bool). and_then (if t then Look (λ h. result_work S number args callers (S.lib number args h) []) else raise_operand S callers (operand.Call (type_of Nil)) []) (back_in false (slots_of old))) e)

-- any other is called as nil is
pub library_missing : {E : Type 0} (S : Setting) (number : ℕ) (args : List Value) (callers : List Caller) (old new : Frames) (store : StoreView) (r : Result Flow E)
    → nat_lt number S.count ≡ false → Works S (raise_operand S callers (operand.Call (type_of Nil)) (slots_of old)) old store new store r
    → Works S (and_then (library_work S number args callers []) (back_in false (slots_of old))) old store new store r
library_missing S number args callers old new store r e w =
    works_as S (and_then (library_work S number args callers []) (back_in false (slots_of old))) (raise_operand S callers (operand.Call (type_of Nil)) (slots_of old)) old new store store r w
    (ap (λ (t : Bool). and_then (if t then Look (λ h. result_work S number args callers (S.lib number args h) []) else raise_operand S callers (operand.Call (type_of Nil)) []) (back_in false (slots_of old))) e)

-- a count that reaches the limit, and one that doesn't
too_far : (S : Setting) (h : Heap) (steps n : ℕ) (q : Work) (rs : List Resume) → step_limit ≤ steps + n → do_work (eval S) (Count n q) (record { store = record { heap = h; steps = steps }; resumes = rs }) ≡ Spent
too_far S h steps n q rs d = by_test (nat_lt (steps + n) step_limit) refl
  where
    by_test : (t : Bool) → nat_lt (steps + n) step_limit ≡ t → (if t then do_work (eval S) q (record { store = record { heap = h; steps = steps + n }; resumes = rs }) else Spent) ≡ Spent
    by_test true e = absurd (omega (arith, ltb-true _ _ e))
    by_test false e = refl

goes_on : (S : Setting) (h : Heap) (steps n : ℕ) (q : Work) (rs : List Resume) → steps + n < step_limit → do_work (eval S) (Count n q) (record { store = record { heap = h; steps = steps }; resumes = rs }) ≡ do_work (eval S) q (record { store = record { heap = h; steps = steps + n }; resumes = rs })
goes_on S h steps n q rs d = by_test (nat_lt (steps + n) step_limit) refl
  where
    by_test : (t : Bool) → nat_lt (steps + n) step_limit ≡ t → (if t then do_work (eval S) q (record { store = record { heap = h; steps = steps + n }; resumes = rs }) else Spent) ≡ do_work (eval S) q (record { store = record { heap = h; steps = steps + n }; resumes = rs })
    by_test true e = refl
    by_test false e = absurd (omega (arith, d, ltb-false _ _ e))

steps_told : (r : NativeResult) (o : NativeOut) (old new : StoreView) → (o ≡ out.Memory → ⊥) → Answers r old o new → new.steps ≡ min step_limit (old.steps + steps_of r)
steps_told r (out.Values vs) old new k a = a.steps
steps_told r (out.Fault v) old new k a = a.steps
steps_told r out.Outside old new k a = a.steps
steps_told r out.Memory old new k a = absurd (k refl)

spent_all : (S : Setting) (number : ℕ) (args : List Value) (callers : List Caller) (r : NativeResult) (s : Slots) (before : StoreView) → step_limit ≤ before.steps + steps_of r
    → (rs : List Resume) → do_work (eval S) (result_called S number args callers r s) (record { store = before; resumes = rs }) ≡ Spent
spent_all S number args callers (Gives vs h n) s before d rs = too_far S h before.steps n (and_then (give vs []) (back_in false s)) rs d
spent_all S number args callers (Faults v h n) s before d rs = too_far S h before.steps n (and_then (raise_value S callers v []) (back_in false s)) rs d
spent_all S number args callers (Leaves n) s before d rs =
    too_far S before.heap before.steps n (and_then (Outside number args (position_of S callers) (answer_of S callers [])) (back_in false s)) rs d

-- the steps of a call reach the limit
library_spent : {E : Type 0} (S : Setting) (number : ℕ) (args : List Value) (callers : List Caller) (o : NativeOut) (old new : Frames) (before store : StoreView)
    → nat_lt number S.count ≡ true → (o ≡ out.Memory → ⊥) → Answers (S.lib number args before.heap) before o store → step_limit ≤ store.steps
    → Works {E = E} S (and_then (library_work S number args callers []) (back_in false (slots_of old))) old before new store (Ok flow.Spent)
library_spent {E} S number args callers o old new before store t k a d =
    library_called S number args callers old new before store _ t (spends S (result_called S number args callers (S.lib number args before.heap) (slots_of old)) old new before store
    (spent_all S number args callers (S.lib number args before.heap) (slots_of old) before (omega (arith, steps_told _ o before store k a, d))))

pub library_spends : {E : Type 0} (S : Setting) (number : ℕ) (args : List Value) (callers : List Caller) (o : NativeOut) (old new : Frames) (before store : StoreView) (r : Result Flow E)
    → nat_lt number S.count ≡ true → OnOk r (o ≡ out.Memory → ⊥) → IfOk r (λ f. f ≡ flow.Spent) → Answers (S.lib number args before.heap) before o store → step_limit ≤ store.steps
    → Works S (and_then (library_work S number args callers []) (back_in false (slots_of old))) old before new store r
library_spends {E} S number args callers o old new before store (Ok f) t k e a d =
    subst (λ (x : Flow). Works {E = E} S (and_then (library_work S number args callers []) (back_in false (slots_of old))) old before new store (Ok x)) (sym e) (library_spent S number args callers o old new before store t k a d)
library_spends S number args callers o old new before store (Err x) t k e a d = record { follows = tt }

left : (before store : StoreView) (h : Heap) (n : ℕ) → store.steps ≡ min step_limit (before.steps + n) → store.heap ≡ h → store.steps < step_limit → record { heap = h; steps = before.steps + n } ≡ store
left before store h n e f d =
    let q : before.steps + n ≡ store.steps = omega (arith, e, d) in ap (λ (k : ℕ). record { heap = h; steps = k }) q ∙ ap (λ (x : Heap). record { heap = x; steps = store.steps }) (sym f)

-- a call gives values
gives_all : (S : Setting) (number : ℕ) (args : List Value) (callers : List Caller) (r : NativeResult) (answer : List Value) (s : Slots) (before store : StoreView) → Counts r before (out.Values answer) store → store.steps < step_limit
    → (rs : List Resume) → do_work (eval S) (result_called S number args callers r s) (record { store = before; resumes = rs }) ≡ do_work (eval S) (give answer s) (record { store = store; resumes = rs })
gives_all S number args callers (Gives vs h n) answer s before store c d rs =
    goes_on S h before.steps n (and_then (give vs []) (back_in false s)) rs (omega (arith, c.steps, d))
    ∙ ap (λ (st : StoreView). Ended (Values vs) s (record { store = st; resumes = rs })) (left before store h n c.steps ((c.meant d).1) d)
    ∙ ap (λ (us : List Value). Ended (Values us) s (record { store = store; resumes = rs })) (sym ((c.meant d).0))
gives_all S number args callers (Faults v h n) answer s before store c d rs = absurd (c.meant d)
gives_all S number args callers (Leaves n) answer s before store c d rs = absurd (c.meant d)

pub library_gives : {E : Type 0} (S : Setting) (number : ℕ) (args : List Value) (callers : List Caller) (answer given : List Value) (old new : Frames) (before store : StoreView) (r : Result Flow E)
    → nat_lt number S.count ≡ true → Answers (S.lib number args before.heap) before (out.Values answer) store → store.steps < step_limit → given ≡ answer
    → Ends (Values given) old new r → Works S (and_then (library_work S number args callers []) (back_in false (slots_of old))) old before new store r
library_gives S number args callers answer given old new before store r t a d e w =
    library_called S number args callers old new before store r t (works_by S (result_called S number args callers (S.lib number args before.heap) (slots_of old)) (give given (slots_of old)) old new before store store r
    (λ rs. gives_all S number args callers (S.lib number args before.heap) answer (slots_of old) before store a d rs ∙ ap (λ (vs : List Value). Ended (Values vs) (slots_of old) (record { store = store; resumes = rs })) (sym e))
    (ends_works S (Values given) old new store r w))

-- a raised value goes past the call
pub raised_back : (S : Setting) (callers : List Caller) (v : Value) (s : Slots) → and_then (raise_value S callers v []) (back_in false s) ≡ raise_value S callers v s
raised_back S callers value.Nil s = refl
raised_back S callers (value.Truth t) s = refl
raised_back S callers (value.Number k) s = refl
raised_back S callers (value.Text t) s = refl
raised_back S callers (value.Table t) s = refl
raised_back S callers (value.Closure k) s = refl
raised_back S callers (value.Native k) s = refl
raised_back S callers (value.Thread k) s = refl
raised_back S callers value.Null s = refl
raised_back S callers (value.Object k m) s = refl

-- a call faults
faults_all : (S : Setting) (number : ℕ) (args : List Value) (callers : List Caller) (r : NativeResult) (answer : Value) (s : Slots) (before store : StoreView) → Counts r before (out.Fault answer) store → store.steps < step_limit
    → (rs : List Resume) → do_work (eval S) (result_called S number args callers r s) (record { store = before; resumes = rs }) ≡ do_work (eval S) (raise_value S callers answer s) (record { store = store; resumes = rs })
faults_all S number args callers (Gives vs h n) answer s before store c d rs = absurd (c.meant d)
faults_all S number args callers (Faults v h n) answer s before store c d rs =
    goes_on S h before.steps n (and_then (raise_value S callers v []) (back_in false s)) rs (omega (arith, c.steps, d))
    ∙ ap (λ (q : Work). do_work (eval S) q (record { store = record { heap = h; steps = before.steps + n }; resumes = rs })) (raised_back S callers v s)
    ∙ ap (λ (st : StoreView). do_work (eval S) (raise_value S callers v s) (record { store = st; resumes = rs })) (left before store h n c.steps ((c.meant d).1) d)
    ∙ ap (λ (x : Value). do_work (eval S) (raise_value S callers x s) (record { store = store; resumes = rs })) (sym ((c.meant d).0))
faults_all S number args callers (Leaves n) answer s before store c d rs = absurd (c.meant d)

pub library_faults : {E : Type 0} (S : Setting) (number : ℕ) (args : List Value) (callers : List Caller) (answer : Value) (old new : Frames) (before store : StoreView) (r : Result Flow E)
    → nat_lt number S.count ≡ true → Answers (S.lib number args before.heap) before (out.Fault answer) store → store.steps < step_limit
    → Works S (raise_value S callers answer (slots_of old)) old store new store r → Works S (and_then (library_work S number args callers []) (back_in false (slots_of old))) old before new store r
library_faults S number args callers answer old new before store r t a d w =
    library_called S number args callers old new before store r t (works_by S (result_called S number args callers (S.lib number args before.heap) (slots_of old)) (raise_value S callers answer (slots_of old)) old new before store store r
    (faults_all S number args callers (S.lib number args before.heap) answer (slots_of old) before store a d) w)

-- a call leaves its answer to the outside
leaves_all : (S : Setting) (number : ℕ) (args : List Value) (callers : List Caller) (r : NativeResult) (s : Slots) (before store : StoreView) → Counts r before out.Outside store → store.steps < step_limit
    → (rs : List Resume) → do_work (eval S) (result_called S number args callers r s) (record { store = before; resumes = rs })
    ≡ do_work (eval S) (Outside number args (position_of S callers) (λ a. and_then (answer_of S callers [] a) (back_in false s))) (record { store = store; resumes = rs })
leaves_all S number args callers (Gives vs h n) s before store c d rs = absurd (c.meant d)
leaves_all S number args callers (Faults v h n) s before store c d rs = absurd (c.meant d)
leaves_all S number args callers (Leaves n) s before store c d rs =
    goes_on S before.heap before.steps n (and_then (Outside number args (position_of S callers) (answer_of S callers [])) (back_in false s)) rs (omega (arith, c.steps, d))
    ∙ ap (λ (st : StoreView). do_work (eval S) (and_then (Outside number args (position_of S callers) (answer_of S callers [])) (back_in false s)) (record { store = st; resumes = rs })) (left before store before.heap n c.steps (c.meant d) d)

answered_back : (S : Setting) (callers : List Caller) (s : Slots) (a : Resumed) → and_then (answer_of S callers [] a) (back_in false s) ≡ End (answer_sign S (position_of S callers) a) s
answered_back S callers s (resumed.Values vs) = refl
answered_back S callers s (resumed.Raise text) = refl

pub library_asks : {E : Type 0} (S : Setting) (number : ℕ) (args : List Value) (callers : List Caller) (op : Op) (old new : Frames) (before store : StoreView)
    → nat_lt number S.count ≡ true → Answers (S.lib number args before.heap) before out.Outside store → store.steps < step_limit
    → op.number ≡ number → op.args ≡ args → op.position ≡ position_of S callers → new.below ≡ old.below → new.top ≡ old.top → new.asked ≡ Some op
    → Works {E = E} S (and_then (library_work S number args callers []) (back_in false (slots_of old))) old before new store (Ok flow.Asked)
library_asks {E} S number args callers op old new before store t a d n v p below top asked =
    library_called S number args callers old new before store _ t (works_by S (result_called S number args callers (S.lib number args before.heap) (slots_of old))
    (Outside number args (position_of S callers) (λ a. and_then (answer_of S callers [] a) (back_in false (slots_of old)))) old new before store store _
    (leaves_all S number args callers (S.lib number args before.heap) (slots_of old) before store a d) asks)
  where
    asks : Works {E = E} S (Outside number args (position_of S callers) (λ a. and_then (answer_of S callers [] a) (back_in false (slots_of old)))) old store new store (Ok flow.Asked)
    asks =
        subst (λ (k : ℕ). Works {E = E} S (Outside k args (position_of S callers) (λ a. and_then (answer_of S callers [] a) (back_in false (slots_of old)))) old store new store (Ok flow.Asked)) n
        (subst (λ (vs : List Value). Works {E = E} S (Outside op.number vs (position_of S callers) (λ a. and_then (answer_of S callers [] a) (back_in false (slots_of old)))) old store new store (Ok flow.Asked)) v
        (subst (λ (x : Option Position). Works {E = E} S (Outside op.number op.args x (λ a. and_then (answer_of S callers [] a) (back_in false (slots_of old)))) old store new store (Ok flow.Asked)) p
        (asked_works S op (λ a. and_then (answer_of S callers [] a) (back_in false (slots_of old))) old new store below top asked
        (λ a. answered_back S callers (slots_of old) a ∙ ap (λ (x : Option Position). End (answer_sign S x a) (slots_of old)) (sym p)))))
