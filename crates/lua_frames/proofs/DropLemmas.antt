-- What is left of a list behind an index, how many there are, and a list of one.
use Rattle.std.specs.Prelude.{◌≡◌, ℕ, suc, zero, ◌≤◌, List, [], ◌∷◌, length, drop, slice_index_or, vec_len, refl}
use Rattle.std.proofs.Common.{◌∙◌, ap, sym, arith, Vec, Global}

-- behind its end nothing
pub dropped_all : {A : Type 0} (xs : List A) (n : ℕ) → length xs ≤ n → drop n xs ≡ []
dropped_all [] zero h = refl
dropped_all [] (suc n) h = refl
dropped_all (x ∷ xs) zero h = absurd (omega (arith, h))
dropped_all (x ∷ xs) (suc n) h = dropped_all xs n (omega (arith, h))

-- a list of one
pub one_of : {A : Type 0} (xs : List A) (x : A) → length xs ≡ 1 → x ≡ slice_index_or xs 0 x → xs ≡ x ∷ []
one_of [] x one is = absurd (omega (arith, one))
one_of {A} (y ∷ []) x one is = ap (λ (z : A). z ∷ []) (sym is)
one_of (y ∷ z ∷ xs) x one is = absurd (omega (arith, one))

-- the count of what a vector has, behind a pointer
pub counted : {A : Type 0} (n : ℕ) (v w : Vec A Global) → n ≡ vec_len v → v ≡ w → n ≡ length w.items
counted {A} n v w e same = e ∙ ap (λ (x : Vec A Global). vec_len x) same ∙ sized
  where
    sized : vec_len w ≡ length w.items
    sized = omega (arith, w.ok)
