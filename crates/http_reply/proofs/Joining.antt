-- Pieces that are put one after another.
use Rattle.std.proofs.Common.{◌≡◌, ℕ, ◌+◌, ◌-◌, ◌<◌, ◌≤◌, List, [], ◌∷◌, ◌++◌, length, take, drop, min, get_or, sym, ap, ◌∙◌, refl, append_assoc, ⊎_elim, arith}
use Rattle.std.specs.List.{concat}
use Rattle.std.proofs.lemmas.Bool.{cases_lt}
use Rattle.std.proofs.lemmas.List.{take_all, take-append-le, drop_more}
use Rattle.std.proofs.Math.Seq.{take-append-add}

-- seven parts, each put after the ones before
pub seven : (o p q r s t u a b c d e f g : List ℕ) → p ≡ o ++ a → q ≡ p ++ b → r ≡ q ++ c → s ≡ r ++ d → t ≡ s ++ e → u ≡ t ++ f
    → u ++ g ≡ o ++ (a ++ b ++ c ++ d ++ e ++ f ++ g)
seven o p q r s t u a b c d e f g ha hb hc hd he hf = rw (hf, he, hd, hc, hb, ha) (simp append_assoc)

-- the first bytes of two texts
first_of_both : (n : ℕ) (xs ys : List ℕ) → take (min n (length xs)) xs ++ take (n - min n (length xs)) ys ≡ take n (xs ++ ys)
first_of_both n xs ys =
    ⊎_elim
    (λ few.
    let least : min n (length xs) ≡ n = omega (arith, few) in
    let none : n - n ≡ 0 = omega arith in
    rw (least, none) (nothing (take n xs) ∙ sym (take-append-le n xs ys (omega (arith, few)))))
    (λ more.
    let same : length xs ≤ length xs = omega arith in
    let least : min n (length xs) ≡ length xs = omega (arith, more) in
    let sum : length xs + (n - length xs) ≡ n = omega (arith, more) in
    rw least (ap (λ l. l ++ take (n - length xs) ys) (take_all (length xs) xs same) ∙ sym (take-append-add xs ys (n - length xs)) ∙ ap (λ k. take k (xs ++ ys)) sum))
    (cases_lt n (length xs))
  where
    nothing : (l : List ℕ) → l ++ [] ≡ l
    nothing [] = refl
    nothing (x ∷ l) = ap (λ r. x ∷ r) (nothing l)

-- one more piece, of which so much is put as is left
pub first_more : (out new : List ℕ) (left kept : ℕ) (pieces : List (List ℕ)) (i : ℕ) (piece d : List ℕ) → i < length pieces → get_or pieces i d ≡ piece → kept ≡ min left (length piece) → new ≡ out ++ take kept piece
    → new ++ take (left - kept) (concat (drop (i + 1) pieces)) ≡ out ++ take left (concat (drop i pieces))
first_more out new left kept pieces i piece d inside is least put =
    let later = concat (drop (i + 1) pieces) in
    let here : concat (drop i pieces) ≡ piece ++ later = ap concat (drop_more pieces i d inside) ∙ ap (λ x. x ++ later) is in
    ap (λ x. x ++ take (left - kept) later) put
    ∙ append_assoc out (take kept piece) (take (left - kept) later)
    ∙ ap (λ k. out ++ (take k piece ++ take (left - k) later)) least
    ∙ ap (λ x. out ++ x) (first_of_both left piece later ∙ sym (ap (take left) here))
