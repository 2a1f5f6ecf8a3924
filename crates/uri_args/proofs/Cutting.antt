-- Texts that are cut at their first separator, and texts in which it isn't.
use Rattle.std.proofs.Common.{◌≡◌, ◌≢◌, ℕ, suc, ◌+◌, ◌==◌, true, false, cond, List, [], ◌∷◌, length, take, drop, map, Some, sym, refl, ap, ◌∙◌, ⊎_elim, add-one}
use Rattle.std.specs.Option.{option_map, is_some}
use Rattle.std.proofs.lemmas.Bool.{cond-true, cond-false, eq-eqb, ne_eqb, cases_eq, true≢false}
use Rattle.percent_encoding.specs.Percent.{percent_decode}
use Rattle.percent_encoding.proofs.PercentLemmas.{percent_decode-nil, percent_decode_not_percent}
use Rattle.http_base.specs.Splitting.{before, after}
use Rattle.uri_args.specs.Escapes.{plus_to_space}

-- what stands before the separator is a first part of the text
pub take_before : (s : ℕ) (xs : List ℕ) → take (length (before s xs)) xs ≡ before s xs
take_before s [] = refl
take_before s (x ∷ xs) = elim (x == s) as (λ t. take (length (cond t [] (x ∷ before s xs))) (x ∷ xs) ≡ cond t [] (x ∷ before s xs)) [
  | true ↦ refl
  | false ↦ ap (λ l. x ∷ l) (take_before s xs)
]

-- and what stands after it is the rest but one byte
pub drop_before : (s : ℕ) (xs : List ℕ) → option_map (λ rest. drop (length (before s xs) + 1) xs) (after s xs) ≡ after s xs
drop_before s [] = refl
drop_before s (x ∷ xs) = elim (x == s) as (λ t. option_map (λ rest. drop (length (cond t [] (x ∷ before s xs)) + 1) (x ∷ xs)) (cond t (Some xs) (after s xs)) ≡ cond t (Some xs) (after s xs)) [
  | true ↦ refl
  | false ↦ ap (λ k. option_map (λ rest. drop k (x ∷ xs)) (after s xs)) (add-one (suc (length (before s xs))))
      ∙ ap (λ k. option_map (λ rest. drop k xs) (after s xs)) (sym (add-one (length (before s xs))))
      ∙ drop_before s xs
]

-- the first byte of a text without the separator is another, and the others are without it
first_other : (s x : ℕ) (xs : List ℕ) → is_some (after s (x ∷ xs)) ≡ false → (x ≢ s) × (is_some (after s xs) ≡ false)
first_other s x xs none =
    ⊎_elim
    (λ same. absurd (true≢false (sym (ap is_some (cond-true _ _ _ (eq-eqb x s same))) ∙ none)))
    (λ other. (other, sym (ap is_some (cond-false _ _ _ (ne_eqb x s other))) ∙ none))
    (cases_eq x s)

-- a text without `%` stands for itself
pub decode_plain : (text : List ℕ) → is_some (after 37 text) ≡ false → percent_decode text ≡ text
decode_plain [] none = percent_decode-nil
decode_plain (b ∷ text) none =
    let parts = first_other 37 b text none in
    percent_decode_not_percent b text parts.0 ∙ ap (λ l. b ∷ l) (decode_plain text parts.1)

-- a text without `+` has no spaces to be made
pub spaces_plain : (text : List ℕ) → is_some (after 43 text) ≡ false → map plus_to_space text ≡ text
spaces_plain [] none = refl
spaces_plain (b ∷ text) none =
    let parts = first_other 43 b text none in
    let first : plus_to_space b ≡ b = cond-false _ _ _ (ne_eqb b 43 parts.0) in
    ap (λ c. c ∷ map plus_to_space text) first ∙ ap (λ l. b ∷ l) (spaces_plain text parts.1)
