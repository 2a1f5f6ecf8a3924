-- `error` and `assert`.
use Rattle.std.specs.Prelude.{◌≡◌, ℕ, zero, suc, ℤ, pos, negsuc, ◌-◌, ◌≤◌, ◌<◌, List, [], ◌∷◌, take, drop, length, codes, nat_eq, if◌then◌else◌, Bool, true, false, Result, Option, Some, None, refl}
use Rattle.std.proofs.Common.{sym, ◌∙◌, ap, subst, arith, get_or}
use Rattle.std.proofs.lemmas.Bool.{ne_eqb}
use Rattle.std.proofs.lemmas.List.{take_all}
use Rattle.lua_values.specs.declared.values.Value.{Value}
use Rattle.lua_values.specs.Values.{is_nil}
use Rattle.lua_values.specs.Heap.{StoreView}
use Rattle.lua_operators.specs.Conversions.{number_of}
use Rattle.lua_operators.specs.Types.{is_truthy}
use Rattle.lua_meaning.specs.Works.{Caller, Failed, Slots, Work, End, and_then}
use Rattle.lua_meaning.specs.Setting.{Setting}
use Rattle.lua_meaning.specs.Positions.{raise}
use Rattle.lua_meaning.specs.Signs.{first, give}
use Rattle.lua_meaning.specs.ProtectedCalls.{pcall_work, xpcall_work, raise_missing}
use Rattle.lua_meaning.specs.Natives.{raise_value, raise_at, error_work, assert_work}
use Rattle.lua_frames.specs.declared.flow.Flow.{Flow}
use Rattle.lua_frames.specs.declared.threads.Frames.{Frames}
use Rattle.lua_frames.specs.Frames.{slots_of}
use Rattle.lua_frames.specs.Follows.{Works}
use Rattle.lua_frames.specs.Changes.{Ends}
use Rattle.lua_frames.proofs.FollowLemmas.{works_as, ends_works}
use Rattle.lua_vm_functions.specs.CallEnds.{back_in}
use Rattle.lua_vm_calls.specs.NativeParts.{failed_assertion, own_work}
use Rattle.lua_vm_calls.proofs.NativeLemmas.{raised_back}

-- `pcall` with nothing to call
pub nothing_called : {E : Type 0} (S : Setting) (args : List Value) (callers : List Caller) (old new : Frames) (store : StoreView) (r : Result Flow E)
    → args ≡ [] → Works S (raise_missing S callers 1 (codes "pcall") (slots_of old)) old store new store r → Works S (and_then (pcall_work S args callers []) (back_in false (slots_of old))) old store new store r
nothing_called S args callers old new store r e w =
    works_as S (and_then (pcall_work S args callers []) (back_in false (slots_of old))) (raise_missing S callers 1 (codes "pcall") (slots_of old)) old new store store r w
    (ap (λ (vs : List Value). and_then (pcall_work S vs callers []) (back_in false (slots_of old))) e)

-- `xpcall` with nothing to call, or with no handler
pub nothing_handled : {E : Type 0} (S : Setting) (args : List Value) (callers : List Caller) (old new : Frames) (store : StoreView) (r : Result Flow E)
    → args ≡ [] → Works S (raise_missing S callers 1 (codes "xpcall") (slots_of old)) old store new store r → Works S (and_then (xpcall_work S args callers []) (back_in false (slots_of old))) old store new store r
nothing_handled S args callers old new store r e w =
    works_as S (and_then (xpcall_work S args callers []) (back_in false (slots_of old))) (raise_missing S callers 1 (codes "xpcall") (slots_of old)) old new store store r w
    (ap (λ (vs : List Value). and_then (xpcall_work S vs callers []) (back_in false (slots_of old))) e)

pub no_handler : {E : Type 0} (S : Setting) (args : List Value) (f : Value) (others : List Value) (callers : List Caller) (old new : Frames) (store : StoreView) (r : Result Flow E)
    → args ≡ f ∷ others → others ≡ [] → Works S (raise_missing S callers 2 (codes "xpcall") (slots_of old)) old store new store r → Works S (and_then (xpcall_work S args callers []) (back_in false (slots_of old))) old store new store r
no_handler S args f others callers old new store r e none w =
    works_as S (and_then (xpcall_work S args callers []) (back_in false (slots_of old))) (raise_missing S callers 2 (codes "xpcall") (slots_of old)) old new store store r w
    (ap (λ (vs : List Value). and_then (xpcall_work S vs callers []) (back_in false (slots_of old))) (e ∙ ap (λ (us : List Value). f ∷ us) none))

-- a value that is raised at a level goes past the call
level_back : (S : Setting) (callers : List Caller) (n : Option ℤ) (level v : Value) (s : Slots) → and_then (raise_at S callers n level v []) (back_in false s) ≡ raise_at S callers n level v s
level_back S callers (Some (pos n)) level v s = by_test (nat_eq n 0)
  where
    by_test : (t : Bool) → and_then (if t then End (Failed v) [] else raise_value S (drop (n - 1) callers) v []) (back_in false s) ≡ (if t then End (Failed v) s else raise_value S (drop (n - 1) callers) v s)
    by_test true = refl
    by_test false = raised_back S (drop (n - 1) callers) v s
level_back S callers (Some (negsuc n)) level v s = refl
level_back S callers None level v s = refl

-- `error` raises its first argument at the level that the second tells
pub error_works : {E : Type 0} (S : Setting) (callers : List Caller) (args : List Value) (v level : Value) (n : Option ℤ) (old new : Frames) (store : StoreView) (r : Result Flow E)
    → v ≡ first args → level ≡ first (drop 1 args) → n ≡ (if is_nil level then Some (pos 1) else number_of level)
    → Works S (raise_at S callers n level v (slots_of old)) old store new store r → Works S (and_then (error_work S args callers []) (back_in false (slots_of old))) old store new store r
error_works S callers args v level n old new store r e l t w =
    works_as S (and_then (error_work S args callers []) (back_in false (slots_of old))) (raise_at S callers n level v (slots_of old)) old new store store r w
    (ap (λ (q : Work). and_then q (back_in false (slots_of old))) (sym at_args) ∙ level_back S callers n level v (slots_of old))
  where
    at_args : raise_at S callers n level v [] ≡ error_work S args callers []
    at_args = rw (t, l, e) refl

-- below level 1 the value is raised as it is
pub below_one : {E : Type 0} (S : Setting) (callers : List Caller) (n : ℤ) (level v : Value) (old new : Frames) (store : StoreView) (r : Result Flow E)
    → ((k : ℕ) → n ≡ pos (suc k) → ⊥) → Ends (Failed v) old new r → Works S (raise_at S callers (Some n) level v (slots_of old)) old store new store r
below_one S callers (pos zero) level v old new store r k e = ends_works S (Failed v) old new store r e
below_one S callers (pos (suc n)) level v old new store r k e = absurd (k n refl)
below_one S callers (negsuc n) level v old new store r k e = ends_works S (Failed v) old new store r e

-- and from level 1 on after the position of the function that so many come before
pub from_one : {E : Type 0} (S : Setting) (callers : List Caller) (n : ℤ) (skip : ℕ) (level v : Value) (old new : Frames) (store : StoreView) (r : Result Flow E)
    → n ≡ pos (suc skip) → Works S (raise_value S (drop skip callers) v (slots_of old)) old store new store r → Works S (raise_at S callers (Some n) level v (slots_of old)) old store new store r
from_one S callers n skip level v old new store r e w =
    works_as S (raise_at S callers (Some n) level v (slots_of old)) (raise_value S (drop skip callers) v (slots_of old)) old new store store r w
    (ap (λ (m : ℤ). raise_at S callers (Some m) level v (slots_of old)) e
    ∙ ap (λ (u : Bool). if u then End (Failed v) (slots_of old) else raise_value S (drop (suc skip - 1) callers) v (slots_of old)) (ne_eqb (suc skip) 0 (λ k. absurd (omega (arith, k))))
    ∙ ap (λ (k : ℕ). raise_value S (drop k callers) v (slots_of old)) (one_less skip))
  where
    one_less : (k : ℕ) → suc k - 1 ≡ k
    one_less k = omega arith

-- the level in another form
pub level_as : {E : Type 0} (S : Setting) (callers : List Caller) (m n : ℤ) (level v : Value) (old new : Frames) (store : StoreView) (r : Result Flow E)
    → m ≡ n → Works S (raise_at S callers (Some m) level v (slots_of old)) old store new store r → Works S (raise_at S callers (Some n) level v (slots_of old)) old store new store r
level_as S callers m n level v old new store r e w = subst (λ (k : ℤ). Works S (raise_at S callers (Some k) level v (slots_of old)) old store new store r) e w

-- the first of some values that are there, and what comes after it
pub first_and_rest : (vs items : List Value) (v : Value) (rest : List Value) → items ≡ vs → 1 ≤ length items → v ≡ get_or items 0 v → rest ≡ drop 1 items → vs ≡ v ∷ rest
first_and_rest vs [] v rest e some f d = absurd (omega (arith, some))
first_and_rest vs (x ∷ items) v rest e some f d = sym e ∙ rw (d, f) refl

pub rest_all : (vs : List Value) → take (length vs - 1) (drop 1 vs) ≡ drop 1 vs
rest_all [] = refl
rest_all (x ∷ vs) = take_all (length (x ∷ vs) - 1) vs (omega arith)

pub none_there : (vs items : List Value) → items ≡ vs → length items < 1 → vs ≡ []
none_there vs [] e few = sym e
none_there vs (x ∷ items) e few = absurd (omega (arith, few))

-- what `assert` gives
pub asserted : {E : Type 0} (S : Setting) (callers : List Caller) (args : List Value) (v : Value) (more : List Value) (old new : Frames) (store : StoreView) (r : Result Flow E)
    → args ≡ v ∷ more → is_truthy v ≡ true → Works S (give args (slots_of old)) old store new store r → Works S (and_then (assert_work S args callers []) (back_in false (slots_of old))) old store new store r
asserted S callers args v more old new store r e t w =
    works_as S (and_then (assert_work S args callers []) (back_in false (slots_of old))) (give args (slots_of old)) old new store store r w
    (ap (λ (vs : List Value). and_then (assert_work S vs callers []) (back_in false (slots_of old))) e
    ∙ ap (λ (u : Bool). and_then (if u then give (v ∷ more) [] else failed_assertion S more callers []) (back_in false (slots_of old))) t
    ∙ ap (λ (vs : List Value). give vs (slots_of old)) (sym e))

pub nothing_asserted : {E : Type 0} (S : Setting) (callers : List Caller) (args : List Value) (old new : Frames) (store : StoreView) (r : Result Flow E)
    → args ≡ [] → Works S (raise_missing S callers 1 (codes "assert") (slots_of old)) old store new store r → Works S (and_then (assert_work S args callers []) (back_in false (slots_of old))) old store new store r
nothing_asserted S callers args old new store r e w =
    works_as S (and_then (assert_work S args callers []) (back_in false (slots_of old))) (raise_missing S callers 1 (codes "assert") (slots_of old)) old new store store r w
    (ap (λ (vs : List Value). and_then (assert_work S vs callers []) (back_in false (slots_of old))) e)

failed_back : (S : Setting) (callers : List Caller) (more : List Value) (s : Slots) → and_then (failed_assertion S more callers []) (back_in false s) ≡ failed_assertion S more callers s
failed_back S callers more s = by_test (is_nil (first more))
  where
    by_test : (t : Bool) → and_then (if t then raise S callers (codes "assertion failed!") [] else raise_value S callers (first more) []) (back_in false s) ≡ (if t then raise S callers (codes "assertion failed!") s else raise_value S callers (first more) s)
    by_test true = refl
    by_test false = raised_back S callers (first more) s

pub not_asserted : {E : Type 0} (S : Setting) (callers : List Caller) (args : List Value) (v : Value) (more : List Value) (old new : Frames) (store : StoreView) (r : Result Flow E)
    → args ≡ v ∷ more → is_truthy v ≡ false → Works S (failed_assertion S more callers (slots_of old)) old store new store r → Works S (and_then (assert_work S args callers []) (back_in false (slots_of old))) old store new store r
not_asserted S callers args v more old new store r e t w =
    works_as S (and_then (assert_work S args callers []) (back_in false (slots_of old))) (failed_assertion S more callers (slots_of old)) old new store store r w
    (ap (λ (vs : List Value). and_then (assert_work S vs callers []) (back_in false (slots_of old))) e
    ∙ ap (λ (u : Bool). and_then (if u then give (v ∷ more) [] else failed_assertion S more callers []) (back_in false (slots_of old))) t
    ∙ failed_back S callers more (slots_of old))

-- the text of a failed assertion, or its message
pub assertion_text : {E : Type 0} (S : Setting) (callers : List Caller) (more : List Value) (message : Value) (old new : Frames) (store : StoreView) (r : Result Flow E)
    → message ≡ first more → is_nil message ≡ true → Works S (raise S callers (codes "assertion failed!") (slots_of old)) old store new store r → Works S (failed_assertion S more callers (slots_of old)) old store new store r
assertion_text S callers more message old new store r e t w =
    works_as S (failed_assertion S more callers (slots_of old)) (raise S callers (codes "assertion failed!") (slots_of old)) old new store store r w
    (ap (λ (u : Bool). if u then raise S callers (codes "assertion failed!") (slots_of old) else raise_value S callers (first more) (slots_of old)) (ap is_nil (sym e) ∙ t))

pub assertion_message : {E : Type 0} (S : Setting) (callers : List Caller) (more : List Value) (message : Value) (old new : Frames) (store : StoreView) (r : Result Flow E)
    → message ≡ first more → is_nil message ≡ false → Works S (raise_value S callers message (slots_of old)) old store new store r → Works S (failed_assertion S more callers (slots_of old)) old store new store r
assertion_message S callers more message old new store r e t w =
    works_as S (failed_assertion S more callers (slots_of old)) (raise_value S callers message (slots_of old)) old new store store r w
    (ap (λ (u : Bool). if u then raise S callers (codes "assertion failed!") (slots_of old) else raise_value S callers (first more) (slots_of old)) (ap is_nil (sym e) ∙ t)
    ∙ ap (λ (v : Value). raise_value S callers v (slots_of old)) (sym e))

-- which of the machine's own functions a number is
pub own_pcall : {E : Type 0} (S : Setting) (n : ℕ) (args : List Value) (callers : List Caller) (old new : Frames) (store : StoreView) (r : Result Flow E)
    → n ≡ 0 → Works S (and_then (pcall_work S args callers []) (back_in false (slots_of old))) old store new store r → Works S (and_then (own_work S n args callers []) (back_in false (slots_of old))) old store new store r
own_pcall S n args callers old new store r e w =
    works_as S (and_then (own_work S n args callers []) (back_in false (slots_of old))) (and_then (pcall_work S args callers []) (back_in false (slots_of old))) old new store store r w
    (ap (λ (k : ℕ). and_then (own_work S k args callers []) (back_in false (slots_of old))) e)

pub own_error : {E : Type 0} (S : Setting) (n : ℕ) (args : List Value) (callers : List Caller) (old new : Frames) (store : StoreView) (r : Result Flow E)
    → n ≡ 2 → Works S (and_then (error_work S args callers []) (back_in false (slots_of old))) old store new store r → Works S (and_then (own_work S n args callers []) (back_in false (slots_of old))) old store new store r
own_error S n args callers old new store r e w =
    works_as S (and_then (own_work S n args callers []) (back_in false (slots_of old))) (and_then (error_work S args callers []) (back_in false (slots_of old))) old new store store r w
    (ap (λ (k : ℕ). and_then (own_work S k args callers []) (back_in false (slots_of old))) e)

pub own_xpcall : {E : Type 0} (S : Setting) (n : ℕ) (args : List Value) (callers : List Caller) (old new : Frames) (store : StoreView) (r : Result Flow E)
    → n ≡ 1 → Works S (and_then (xpcall_work S args callers []) (back_in false (slots_of old))) old store new store r → Works S (and_then (own_work S n args callers []) (back_in false (slots_of old))) old store new store r
own_xpcall S n args callers old new store r e w =
    works_as S (and_then (own_work S n args callers []) (back_in false (slots_of old))) (and_then (xpcall_work S args callers []) (back_in false (slots_of old))) old new store store r w
    (ap (λ (k : ℕ). and_then (own_work S k args callers []) (back_in false (slots_of old))) e)

pub own_assert : {E : Type 0} (S : Setting) (n : ℕ) (args : List Value) (callers : List Caller) (old new : Frames) (store : StoreView) (r : Result Flow E)
    → (n ≡ 0 → ⊥) → (n ≡ 1 → ⊥) → (n ≡ 2 → ⊥) → Works S (and_then (assert_work S args callers []) (back_in false (slots_of old))) old store new store r → Works S (and_then (own_work S n args callers []) (back_in false (slots_of old))) old store new store r
own_assert S n args callers old new store r z o t w =
    works_as S (and_then (own_work S n args callers []) (back_in false (slots_of old))) (and_then (assert_work S args callers []) (back_in false (slots_of old))) old new store store r w
    (ap (λ (q : Work). and_then q (back_in false (slots_of old)))
    (ap (λ (u : Bool). if u then pcall_work S args callers [] else if nat_eq n 1 then xpcall_work S args callers [] else if nat_eq n 2 then error_work S args callers [] else assert_work S args callers []) (ne_eqb n 0 z)
    ∙ ap (λ (u : Bool). if u then xpcall_work S args callers [] else if nat_eq n 2 then error_work S args callers [] else assert_work S args callers []) (ne_eqb n 1 o)
    ∙ ap (λ (u : Bool). if u then error_work S args callers [] else assert_work S args callers []) (ne_eqb n 2 t)))
