-- Digits of a size that are written from the last one on.
use Rattle.std.proofs.Common.{◌≡◌, ℕ, zero, suc, ◌+◌, ◌-◌, ◌*◌, ◌/◌, ◌%◌, ◌<◌, ◌==◌, true, false, cond, List, [], ◌∷◌, ◌++◌, refl, sym, ap, ◌∙◌, arith}
use Rattle.std.specs.Fmt.{digits, digits_onto, digit_glyph}
use Rattle.std.proofs.lemmas.Bool.{cond-true, cond-false, eq-eqb, ne_eqb}
use Rattle.http_reply.specs.Lines.{line_end}
use Rattle.http_reply.specs.Chunks.{chunk_start}

-- the digits before so much, and more after it
onto_tail : (k n : ℕ) (acc tail : List ℕ) → digits_onto k 16 false n (acc ++ tail) ≡ digits_onto k 16 false n acc ++ tail
onto_tail zero n acc tail = refl
onto_tail (suc k) n acc tail =
    let g = digit_glyph false (n % 16) in
    elim (n / 16 == 0) as (λ t. cond t (g ∷ (acc ++ tail)) (digits_onto k 16 false (n / 16) (g ∷ (acc ++ tail))) ≡ cond t (g ∷ acc) (digits_onto k 16 false (n / 16) (g ∷ acc)) ++ tail) [
      | true ↦ refl
      | false ↦ onto_tail k (n / 16) (g ∷ acc) tail
    ]

-- 16 to the power of k
abbrev limit : ℕ → ℕ
limit zero = 1
limit (suc k) = 16 * limit k

-- room for more digits changes nothing
onto_room : (k j n : ℕ) (acc : List ℕ) → n < limit (suc k) → digits_onto (suc k) 16 false n acc ≡ digits_onto (suc (k + j)) 16 false n acc
onto_room zero j n acc small =
    let none : n / 16 ≡ 0 = omega arith in
    cond-true _ _ _ (eq-eqb (n / 16) 0 none) ∙ sym (cond-true _ _ _ (eq-eqb (n / 16) 0 none))
onto_room (suc k) j n acc small =
    let g = digit_glyph false (n % 16) in
    let later = onto_room k j (n / 16) (g ∷ acc) (omega (arith, small)) in
    let more = later ∙ ap (λ m. digits_onto m 16 false (n / 16) (g ∷ acc)) {x = suc (k + j)} {y = suc k + j} (omega arith) in
    ap (cond (n / 16 == 0) (g ∷ acc)) more

-- 16 digits are room enough for a size of 64 bits
pub size_begins : (n : ℕ) → n < 18_446_744_073_709_551_616 → digits_onto 16 16 false n line_end ≡ chunk_start n
unfolding digits
size_begins n small = onto_room 15 48 n line_end small ∙ onto_tail 64 n [] line_end

-- one digit more, and the last one
pub onto_step : (i n : ℕ) (acc : List ℕ) → 0 < i → (n / 16 ≡ 0 → ⊥) → digits_onto i 16 false n acc ≡ digits_onto (i - 1) 16 false (n / 16) (digit_glyph false (n % 16) ∷ acc)
onto_step zero n acc some more = absurd (omega arith)
onto_step (suc i) n acc some more =
    cond-false _ _ _ (ne_eqb (n / 16) 0 more) ∙ ap (λ m. digits_onto m 16 false (n / 16) (digit_glyph false (n % 16) ∷ acc)) {x = i} {y = suc i - 1} (omega arith)

pub onto_last : (i n : ℕ) (acc : List ℕ) → 0 < i → n / 16 ≡ 0 → digits_onto i 16 false n acc ≡ digit_glyph false (n % 16) ∷ acc
onto_last zero n acc some none = absurd (omega arith)
onto_last (suc i) n acc some none = cond-true _ _ _ (eq-eqb (n / 16) 0 none)
