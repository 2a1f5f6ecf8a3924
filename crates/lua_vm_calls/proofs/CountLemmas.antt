-- The steps of the machine's own functions.
use Rattle.std.specs.Prelude.{◌≡◌, ℕ, ◌+◌, ◌-◌, ◌/◌, ◌^◌, ◌≤◌, ◌<◌, suc, zero, List, [], nat_lt, nat_eq, min, if◌then◌else◌, Bool, true, false, Result, Ok, refl}
use Rattle.std.proofs.Common.{◌∙◌, ap, arith}
use Rattle.std.proofs.lemmas.Bool.{ne_eqb}
use Rattle.lua_values.specs.declared.values.Value.{Value}
use Rattle.lua_values.specs.Heap.{StoreView, step_limit}
use Rattle.lua_meaning.specs.Works.{Caller, Slots, Work, Count, and_then}
use Rattle.lua_meaning.specs.Evaluator.{do_work}
use Rattle.lua_meaning.specs.Setting.{Setting}
use Rattle.lua_meaning.specs.ProtectedCalls.{pcall_work, xpcall_work}
use Rattle.lua_meaning.specs.Natives.{texts_length, error_work, assert_work, tostring_work, library_work, native_work}
use Rattle.lua_meaning.specs.Nodes.{eval}
use Rattle.lua_frames.specs.declared.flow.Flow.{Flow}
use Rattle.lua_frames.specs.declared.flow.Flow.TheVariants as flow
use Rattle.lua_frames.specs.declared.threads.Frames.{Frames}
use Rattle.lua_frames.specs.Frames.{slots_of}
use Rattle.lua_frames.specs.Follows.{Works}
use Rattle.lua_frames.proofs.FollowLemmas.{works_as, works_by, spends}
use Rattle.lua_frames.proofs.ByteLemmas.{bytes_go, bytes_spent}
use Rattle.lua_vm_functions.specs.CallEnds.{back_in}
use Rattle.lua_vm_calls.specs.NativeParts.{own_work}

-- the machine's own functions count the bytes of their arguments
counted_own : (S : Setting) (n : ℕ) (args : List Value) (callers : List Caller) (s : Slots) → n < 5 → (n ≡ 4 → ⊥) → native_work S n args callers s ≡ Count (texts_length args / 64) (own_work S n args callers s)
counted_own S zero args callers s h f = refl
counted_own S (suc zero) args callers s h f = refl
counted_own S (suc (suc zero)) args callers s h f = refl
counted_own S (suc (suc (suc zero))) args callers s h f = refl
counted_own S (suc (suc (suc (suc zero)))) args callers s h f = absurd (f refl)
counted_own S (suc (suc (suc (suc (suc n))))) args callers s h f = absurd (omega (arith, h))

-- and from 5 on they are the host's
pub native_library : (S : Setting) (n : ℕ) (args : List Value) (callers : List Caller) (s : Slots) → 5 ≤ n → native_work S n args callers s ≡ library_work S (n - 5) args callers s
native_library S n args callers s h =
    ap at_zero (ne_eqb n 0 (λ e. absurd (omega (arith, e, h)))) ∙ ap at_one (ne_eqb n 1 (λ e. absurd (omega (arith, e, h)))) ∙ ap at_two (ne_eqb n 2 (λ e. absurd (omega (arith, e, h))))
    ∙ ap at_three (ne_eqb n 3 (λ e. absurd (omega (arith, e, h)))) ∙ ap at_four (ne_eqb n 4 (λ e. absurd (omega (arith, e, h))))
  where
    at_four : Bool → Work
    at_four u = if u then tostring_work S args callers s else library_work S (n - 5) args callers s

    at_three : Bool → Work
    at_three u = if u then Count (texts_length args / 64) (assert_work S args callers s) else at_four (nat_eq n 4)

    at_two : Bool → Work
    at_two u = if u then Count (texts_length args / 64) (error_work S args callers s) else at_three (nat_eq n 3)

    at_one : Bool → Work
    at_one u = if u then Count (texts_length args / 64) (xpcall_work S args callers s) else at_two (nat_eq n 2)

    at_zero : Bool → Work
    at_zero u = if u then Count (texts_length args / 64) (pcall_work S args callers s) else at_one (nat_eq n 1)

pub number_of_library : {E : Type 0} (S : Setting) (n : ℕ) (args : List Value) (callers : List Caller) (old new : Frames) (before store : StoreView) (r : Result Flow E)
    → 5 ≤ n → Works S (and_then (library_work S (n - 5) args callers []) (back_in false (slots_of old))) old before new store r → Works S (and_then (native_work S n args callers []) (back_in false (slots_of old))) old before new store r
number_of_library S n args callers old new before store r h w =
    works_as S (and_then (native_work S n args callers []) (back_in false (slots_of old))) (and_then (library_work S (n - 5) args callers []) (back_in false (slots_of old))) old new before store r w
    (ap (λ (q : Work). and_then q (back_in false (slots_of old))) (native_library S n args callers [] h))

-- the bytes of a list that was lent
pub lent_length : (told : ℕ) (args lent : List Value) → lent ≡ args → told ≡ min (texts_length lent) (2 ^ 64 - 1) → told ≡ min (texts_length args) (2 ^ 64 - 1)
lent_length told args lent e t = t ∙ ap (λ (vs : List Value). min (texts_length vs) (2 ^ 64 - 1)) e

-- the steps of a function of the machine's own are counted, and it does its work
pub own_goes : {E : Type 0} (S : Setting) (n told : ℕ) (args : List Value) (callers : List Caller) (below : Bool) (old new : Frames) (before mid : StoreView) (r : Result Flow E)
    → n < 5 → (n ≡ 4 → ⊥) → told ≡ min (texts_length args) (2 ^ 64 - 1) → mid ≡ record { heap = before.heap; steps = min step_limit (before.steps + told / 64) } → below ≡ nat_lt (before.steps + told / 64) step_limit → below ≡ true
    → Works S (and_then (own_work S n args callers []) (back_in false (slots_of old))) old mid new mid r → Works S (and_then (native_work S n args callers []) (back_in false (slots_of old))) old before new mid r
own_goes S n told args callers below old new before mid r h f t is e holds w =
    works_by S (and_then (native_work S n args callers []) (back_in false (slots_of old))) (and_then (own_work S n args callers []) (back_in false (slots_of old))) old new before mid mid r
    (λ rs. ap (λ (q : Work). do_work (eval S) (and_then q (back_in false (slots_of old))) (record { store = before; resumes = rs })) (counted_own S n args callers [] h f)
    ∙ bytes_go S (texts_length args) told (and_then (own_work S n args callers []) (back_in false (slots_of old))) before mid below t is e holds rs) w

-- or none is left
pub own_spent : {E : Type 0} (S : Setting) (n told : ℕ) (args : List Value) (callers : List Caller) (below : Bool) (old new : Frames) (before store : StoreView)
    → n < 5 → (n ≡ 4 → ⊥) → told ≡ min (texts_length args) (2 ^ 64 - 1) → below ≡ nat_lt (before.steps + told / 64) step_limit → below ≡ false
    → Works {E = E} S (and_then (native_work S n args callers []) (back_in false (slots_of old))) old before new store (Ok flow.Spent)
own_spent S n told args callers below old new before store h f t e fails =
    spends S (and_then (native_work S n args callers []) (back_in false (slots_of old))) old new before store
    (λ rs. ap (λ (q : Work). do_work (eval S) (and_then q (back_in false (slots_of old))) (record { store = before; resumes = rs })) (counted_own S n args callers [] h f)
    ∙ bytes_spent S (texts_length args) told (and_then (own_work S n args callers []) (back_in false (slots_of old))) before below t e fails rs)
