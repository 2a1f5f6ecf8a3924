-- Tests of numbers, and the two ways that they come out.
use Rattle.std.proofs.Common.{◌≡◌, ◌≢◌, ℕ, ◌<◌, ◌≤◌, Bool, true, false, eqb, ltb, List, [], ◌∷◌, All, refl}
use Rattle.std.specs.Bool.{if◌then◌else◌}
use Rattle.std.proofs.lemmas.Bool.{eqb-true, eqb-false, ltb-true, ltb-false}
use Rattle.resty_base.specs.BoolLaws.{by_test}

-- below, or not
pub by_order : {C : Type 0} (i n : ℕ) → (i < n → C) → (n ≤ i → C) → C
by_order i n below above = by_test (ltb i n) (λ on. below (ltb-true i n on)) (λ off. above (ltb-false i n off))

pub same-true : (n : ℕ) → eqb n n ≡ true
same-true n = by_test (eqb n n) (λ same. same) (λ other. absurd (eqb-false n n other refl))

pub apart-false : (m n : ℕ) → m ≢ n → eqb m n ≡ false
apart-false m n apart = by_test (eqb m n) (λ same. absurd (apart (eqb-true m n same))) (λ other. other)

-- the text has no such byte
abbrev pub Lacks : ℕ → List ℕ → Type 0
Lacks d text = All (λ b. b ≢ d) text

-- a test of each byte, which computes
abbrev pub lacks : ℕ → List ℕ → Bool
lacks d [] = true
lacks d (x ∷ xs) = if eqb x d then false else lacks d xs
