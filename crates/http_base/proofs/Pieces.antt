-- Laws of texts split at a byte.
use Rattle.std.proofs.Common.{◌≡◌, ◌≢◌, ℕ, ◌+◌, ◌<◌, ◌==◌, true, false, cond, List, [], ◌∷◌, ◌++◌, length, All, Option, None, Some, refl, ap, ◌∙◌, arith}
use Rattle.std.proofs.lemmas.Bool.{cond-true, cond-false, eq-eqb, ne_eqb}
use Rattle.std.proofs.lemmas.List.Elements.{All-head, All-tail}
use Rattle.http_base.specs.Splitting.{before, after, onto_first, split, later_pieces}

-- a text without the separator
pub before_none : (s : ℕ) (xs : List ℕ) → All (λ b. b ≢ s) xs → before s xs ≡ xs
before_none s [] none = refl
before_none s (x ∷ xs) none =
    cond-false _ _ _ (ne_eqb x s (All-head (λ b. b ≢ s) x xs none)) ∙ ap (λ l. x ∷ l) (before_none s xs (All-tail (λ b. b ≢ s) x xs none))

pub after_none : (s : ℕ) (xs : List ℕ) → All (λ b. b ≢ s) xs → after s xs ≡ None
after_none s [] none = refl
after_none s (x ∷ xs) none =
    cond-false _ _ _ (ne_eqb x s (All-head (λ b. b ≢ s) x xs none)) ∙ after_none s xs (All-tail (λ b. b ≢ s) x xs none)

-- a text with it
pub before_at : (s : ℕ) (xs ys : List ℕ) → All (λ b. b ≢ s) xs → before s (xs ++ s ∷ ys) ≡ xs
before_at s [] ys none = cond-true _ _ _ (eq-eqb s s refl)
before_at s (x ∷ xs) ys none =
    cond-false _ _ _ (ne_eqb x s (All-head (λ b. b ≢ s) x xs none)) ∙ ap (λ l. x ∷ l) (before_at s xs ys (All-tail (λ b. b ≢ s) x xs none))

pub after_at : (s : ℕ) (xs ys : List ℕ) → All (λ b. b ≢ s) xs → after s (xs ++ s ∷ ys) ≡ Some ys
after_at s [] ys none = cond-true _ _ _ (eq-eqb s s refl)
after_at s (x ∷ xs) ys none =
    cond-false _ _ _ (ne_eqb x s (All-head (λ b. b ≢ s) x xs none)) ∙ after_at s xs ys (All-tail (λ b. b ≢ s) x xs none)

-- what stands before a separator is at most the whole
pub length_before : (s : ℕ) (xs : List ℕ) → length (before s xs) < length xs + 1
length_before s [] = omega arith
length_before s (x ∷ xs) = elim (x == s) as (λ t. length (cond t [] (x ∷ before s xs)) < length (x ∷ xs) + 1) [
  | true ↦ omega arith
  | false ↦ omega (arith, length_before s xs)
]

-- how many bytes are left, and one more where there is a rest
abbrev pub left : Option (List ℕ) → ℕ
left None = 0
left (Some rest) = length rest + 1

-- what stands after a separator is less than the whole
pub left_after : (s : ℕ) (xs : List ℕ) → left (after s xs) < length xs + 1
left_after s [] = omega arith
left_after s (x ∷ xs) = elim (x == s) as (λ t. left (cond t (Some xs) (after s xs)) < length (x ∷ xs) + 1) [
  | true ↦ omega arith
  | false ↦ omega (arith, left_after s xs)
]

-- the first piece stands before the first separator
pub split_first : (s : ℕ) (xs : List ℕ) → split s xs ≡ before s xs ∷ later_pieces s (after s xs)
split_first s [] = refl
split_first s (x ∷ xs) = elim (x == s) as (λ t. cond t ([] ∷ split s xs) (onto_first x (split s xs)) ≡ cond t [] (x ∷ before s xs) ∷ later_pieces s (cond t (Some xs) (after s xs))) [
  | true ↦ refl
  | false ↦ ap (onto_first x) (split_first s xs)
]
