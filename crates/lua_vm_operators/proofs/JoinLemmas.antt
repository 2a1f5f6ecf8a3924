-- Texts that are joined: their steps and their units.
use Rattle.std.specs.Prelude.{◌≡◌, ℕ, ◌+◌, ◌-◌, ◌/◌, ◌^◌, List, [], ◌∷◌, nat_lt, min, Bool, true, false, Result, Ok, Option, Some, None, refl}
use Rattle.std.proofs.Common.{sym, ◌∙◌, ap, subst}
use Rattle.lua_numbers.specs.declared.faults.NumFault.{NumFault}
use Rattle.lua_values.specs.declared.values.Value.{Value}
use Rattle.lua_values.specs.declared.faults.StoreFault.{StoreFault}
use Rattle.lua_values.specs.declared.faults.StoreFault.TheVariants.{Full}
use Rattle.lua_values.specs.Heap.{StoreView, step_limit}
use Rattle.lua_values.specs.StoreCalls.{full_cause}
use Rattle.lua_operators.specs.declared.faults.Fault.TheVariants.{StorageLimit}
use Rattle.lua_operators.specs.declared.faults.Fault.TheVariants as fault
use Rattle.lua_operators.specs.declared.outcome.Outcome.{Outcome}
use Rattle.lua_operators.specs.declared.outcome.Outcome.TheVariants.{Gives, NeedsEvent, Faults}
use Rattle.lua_meaning.specs.Works.{Caller, Values, Work, Write}
use Rattle.lua_meaning.specs.Evaluator.{do_work}
use Rattle.lua_meaning.specs.Setting.{Setting}
use Rattle.lua_meaning.specs.Positions.{raise_fault}
use Rattle.lua_meaning.specs.Signs.{give_one}
use Rattle.lua_meaning.specs.Variables.{table_fault, unless_refused}
use Rattle.lua_meaning.specs.Concatenation.{text_length, with_text, make_text, joined}
use Rattle.lua_meaning.specs.Nodes.{eval}
use Rattle.lua_frames.specs.declared.flow.Flow.{Flow}
use Rattle.lua_frames.specs.declared.flow.Flow.TheVariants as flow
use Rattle.lua_frames.specs.declared.threads.Frames.{Frames}
use Rattle.lua_frames.specs.Frames.{slots_of}
use Rattle.lua_frames.specs.Follows.{Works}
use Rattle.lua_frames.specs.Changes.{Ends}
use Rattle.lua_frames.proofs.FollowLemmas.{works_as, works_by, ends_works, spends}
use Rattle.lua_frames.proofs.ByteLemmas.{bytes_go, bytes_spent}
use Rattle.lua_vm_operators.proofs.OutcomeLemmas.{looked}

-- the steps of what is taken and made are counted, and the text is made
pub joined_goes : {E : Type 0} (S : Setting) (callers : List Caller) (taken told : ℕ) (o : Outcome) (v : Value) (event : Work) (old new : Frames) (before mid store : StoreView) (below : Bool) (r : Result Flow E)
    → o ≡ Gives v → told ≡ min (taken + text_length v) (2 ^ 64 - 1) → mid ≡ record { heap = before.heap; steps = min step_limit (before.steps + told / 64) } → below ≡ nat_lt (before.steps + told / 64) step_limit → below ≡ true
    → Works S (make_text S callers (text_length v) (slots_of old) (give_one v (slots_of old))) old mid new store r → Works S (joined S callers taken o (slots_of old) event) old before new store r
joined_goes S callers taken told o v event old new before mid store below r e t is b holds w =
    works_as S (joined S callers taken o (slots_of old) event) (joined S callers taken (Gives v) (slots_of old) event) old new before store r
    (works_by S (joined S callers taken (Gives v) (slots_of old) event) (make_text S callers (text_length v) (slots_of old) (give_one v (slots_of old))) old new before mid store r
    (bytes_go S (taken + text_length v) told (make_text S callers (text_length v) (slots_of old) (give_one v (slots_of old))) before mid below t is b holds) w)
    (ap (λ (x : Outcome). joined S callers taken x (slots_of old) event) e)

-- or none is left
pub joined_spent : {E : Type 0} (S : Setting) (callers : List Caller) (taken told : ℕ) (o : Outcome) (v : Value) (event : Work) (old new : Frames) (before store : StoreView) (below : Bool)
    → o ≡ Gives v → told ≡ min (taken + text_length v) (2 ^ 64 - 1) → below ≡ nat_lt (before.steps + told / 64) step_limit → below ≡ false → Works {E = E} S (joined S callers taken o (slots_of old) event) old before new store (Ok flow.Spent)
joined_spent S callers taken told o v event old new before store below e t b fails =
    works_as S (joined S callers taken o (slots_of old) event) (joined S callers taken (Gives v) (slots_of old) event) old new before store _
    (spends S (joined S callers taken (Gives v) (slots_of old) event) old new before store (bytes_spent S (taken + text_length v) told (make_text S callers (text_length v) (slots_of old) (give_one v (slots_of old))) before below t b fails))
    (ap (λ (x : Outcome). joined S callers taken x (slots_of old) event) e)

-- they can't be joined
pub joined_faults : {E : Type 0} (S : Setting) (callers : List Caller) (taken : ℕ) (o : Outcome) (f : NumFault) (event : Work) (old new : Frames) (store : StoreView) (r : Result Flow E)
    → o ≡ Faults f → Works S (raise_fault S callers (fault.Number f) (slots_of old)) old store new store r → Works S (joined S callers taken o (slots_of old) event) old store new store r
joined_faults S callers taken o f event old new store r e w =
    works_as S (joined S callers taken o (slots_of old) event) (raise_fault S callers (fault.Number f) (slots_of old)) old new store store r w (ap (λ (x : Outcome). joined S callers taken x (slots_of old) event) e)

-- they need an event
pub joined_event : {E : Type 0} (S : Setting) (callers : List Caller) (taken : ℕ) (o : Outcome) (event : Work) (old new : Frames) (before store : StoreView) (r : Result Flow E)
    → o ≡ NeedsEvent → Works S event old before new store r → Works S (joined S callers taken o (slots_of old) event) old before new store r
joined_event S callers taken o event old new before store r e w =
    works_as S (joined S callers taken o (slots_of old) event) event old new before store r w (ap (λ (x : Outcome). joined S callers taken x (slots_of old) event) e)

-- the units of a text are there
pub text_made : {E : Type 0} (S : Setting) (callers : List Caller) (n : ℕ) (v : Value) (old new : Frames) (before store : StoreView) (r : Result Flow E)
    → full_cause before.heap (n + 16) ≡ None → store ≡ record { heap = record before.heap { units = before.heap.units + (n + 16) }; steps = before.steps } → Ends (Values (v ∷ [])) old new r
    → Works S (make_text S callers n (slots_of old) (give_one v (slots_of old))) old before new store r
text_made S callers n v old new before store r room is w =
    works_by S (make_text S callers n (slots_of old) (give_one v (slots_of old))) (give_one v (slots_of old)) old new before store store r
    (λ rs. ap (λ (cause : Option StoreFault). do_work (eval S) (unless_refused S callers table_fault cause (slots_of old) (Write (with_text before.heap n) (give_one v (slots_of old)))) (record { store = before; resumes = rs })) room
    ∙ ap (λ (st : StoreView). do_work (eval S) (give_one v (slots_of old)) (record { store = st; resumes = rs })) (sym is))
    (ends_works S (Values (v ∷ [])) old new store r w)

-- or they aren't
pub text_refused : {E : Type 0} (S : Setting) (callers : List Caller) (n told : ℕ) (v : Value) (cause : StoreFault) (old new : Frames) (before store : StoreView) (r : Result Flow E)
    → told ≡ n → full_cause before.heap (told + 16) ≡ Some cause → cause ≡ Full → store ≡ before → Works S (raise_fault S callers StorageLimit (slots_of old)) old before new before r
    → Works S (make_text S callers n (slots_of old) (give_one v (slots_of old))) old before new store r
text_refused S callers n told v cause old new before store r t full f kept w =
    subst (λ (st : StoreView). Works S (make_text S callers n (slots_of old) (give_one v (slots_of old))) old before new st r) (sym kept)
    (looked S (λ h. unless_refused S callers table_fault (full_cause h (n + 16)) (slots_of old) (Write (with_text h n) (give_one v (slots_of old)))) (raise_fault S callers StorageLimit (slots_of old)) old new before before r
    (ap (λ (c : Option StoreFault). unless_refused S callers table_fault c (slots_of old) (Write (with_text before.heap n) (give_one v (slots_of old)))) (ap (λ (k : ℕ). full_cause before.heap (k + 16)) (sym t) ∙ full ∙ ap Some f)) w)

-- the bytes that are taken and made, as they are told
pub bytes_told : (a b v a' b' v' told : ℕ) → a' ≡ a → b' ≡ b → v' ≡ v → told ≡ min (a' + b' + v') (2 ^ 64 - 1) → told ≡ min (a + b + v) (2 ^ 64 - 1)
bytes_told a b v a' b' v' told e f g t = t ∙ rw (e, f, g) refl
