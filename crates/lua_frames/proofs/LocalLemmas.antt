-- New local variables, one after another.
use Rattle.std.specs.Prelude.{◌≡◌, ℕ, suc, zero, ◌+◌, List, [], ◌∷◌, drop, slice_get, slice_set, refl}
use Rattle.std.proofs.Common.{sym, ◌∙◌, ap, arith}
use Rattle.lua_values.specs.declared.values.Value.{Value}
use Rattle.lua_values.specs.declared.values.Value.TheVariants.{Nil}
use Rattle.lua_meaning.specs.declared.slots.Slot.TheVariants.{Plain}
use Rattle.lua_meaning.specs.Works.{Slots}
use Rattle.lua_meaning.specs.Signs.{first, or_nil}
use Rattle.lua_meaning.specs.Variables.{with_locals}

first_left : (vs : List Value) (k : ℕ) → first (drop k vs) ≡ or_nil (slice_get vs k)
first_left [] zero = refl
first_left [] (suc k) = refl
first_left (v ∷ vs) zero = refl
first_left (v ∷ vs) (suc k) = first_left vs k

one_fewer : (vs : List Value) (k : ℕ) → drop 1 (drop k vs) ≡ drop (suc k) vs
one_fewer [] zero = refl
one_fewer [] (suc k) = refl
one_fewer (v ∷ vs) zero = refl
one_fewer (v ∷ vs) (suc k) = one_fewer vs k

set_before : (vs : List Value) (k : ℕ) (v : Value) → drop (suc k) (slice_set vs k v) ≡ drop (suc k) vs
set_before [] zero v = refl
set_before [] (suc k) v = refl
set_before (x ∷ vs) zero v = refl
set_before (x ∷ vs) (suc k) v = set_before vs k v

next : (k : ℕ) → suc k ≡ k + 1
next k = omega arith

-- one more variable has its value
pub local_set : (places : List ℕ) (i k : ℕ) (vs us : List Value) (v : Value) (s t : Slots) → drop k places ≡ i ∷ drop (k + 1) places
    → v ≡ or_nil (slice_get vs k) → us ≡ slice_set vs k Nil → t ≡ slice_set s i (Plain v)
    → with_locals (drop k places) (drop k vs) s ≡ with_locals (drop (k + 1) places) (drop (k + 1) us) t
local_set places i k vs us v s t e is left set =
    ap (λ (xs : List ℕ). with_locals xs (drop k vs) s) e
    ∙ ap (λ (x : Value). with_locals (drop (k + 1) places) (drop 1 (drop k vs)) (slice_set s i (Plain x))) (first_left vs k ∙ sym is)
    ∙ ap (λ (xs : List Value). with_locals (drop (k + 1) places) xs (slice_set s i (Plain v))) (one_fewer vs k ∙ sym (set_before vs k Nil) ∙ ap (λ (xs : List Value). drop (suc k) xs) (sym left) ∙ ap (λ (n : ℕ). drop n us) (next k))
    ∙ ap (λ (x : Slots). with_locals (drop (k + 1) places) (drop (k + 1) us) x) (sym set)
