-- Reading a set and its parts.
use Rattle.std.proofs.Common.{◌≡◌, ℕ, zero, suc, ◌+◌, ◌-◌, ◌<◌, ◌≤◌, true, false, List, [], ◌∷◌, length, get_or, drop, Option, Some, None, option_map, refl, sym, ◌∙◌, ap, arith, add-one, drop-cons}
use Rattle.std.specs.Prelude.{◌==◌, if◌then◌else◌}
use Rattle.std.proofs.lemmas.Bool.{ne_eqb}
use Rattle.std.proofs.Common.{eq-eqb, add-zero}
use Rattle.std.proofs.lemmas.List.{drop_all}
use Rattle.lua_patterns.specs.Trails.{closing_len}
use Rattle.lua_patterns.specs.Classes.{in_part, in_parts_after, in_set, part_size}
use Rattle.lua_patterns.specs.Items.{inside_after}

parts_skip : (k c : ℕ) (xs : List ℕ) → in_parts_after k c xs ≡ in_parts_after 0 c (drop k xs)
unfolding in_parts_after
parts_skip zero c xs = refl
parts_skip (suc k) c [] = refl
parts_skip (suc k) c (x ∷ xs) = parts_skip k c xs

-- the first byte is among those that are dropped
pub drop_among : (n c : ℕ) (cs : List ℕ) → 0 < n → drop (n - 1) cs ≡ drop n (c ∷ cs)
drop_among zero c cs some = absurd (omega arith)
drop_among (suc n) c cs some = let less : suc n - 1 ≡ n = omega arith in ap (λ k. drop k cs) less

-- the part at the front has the byte
pub part_found : (c : ℕ) (rest : List ℕ) → 0 < length rest → in_part c rest ≡ true → in_set c rest ≡ true
unfolding in_parts_after
part_found c [] some found = absurd (omega arith)
part_found c (x ∷ xs) some found = rw found refl

-- it hasn't
pub part_passed : (c : ℕ) (rest : List ℕ) → 0 < length rest → 0 < part_size rest → in_part c rest ≡ false
    → in_set c (drop (part_size rest) rest) ≡ in_set c rest
unfolding in_parts_after
part_passed c [] some size passed = absurd (omega arith)
part_passed c (x ∷ xs) some size passed =
    rw passed (ap (in_set c) (sym (drop_among (part_size (x ∷ xs)) x xs size)) ∙ sym (parts_skip (part_size (x ∷ xs) - 1) c xs))

-- there is none
pub no_part : (c : ℕ) (rest : List ℕ) → length rest ≡ 0 → in_set c rest ≡ false
unfolding in_parts_after
no_part c [] none = refl
no_part c (x ∷ xs) none = absurd (omega arith)

-- how many more, and then one more
more_map : (i : ℕ) (o : Option ℕ) → option_map (λ n. n + i) (option_map (λ n. n + 1) o) ≡ option_map (λ n. n + suc i) o
more_map i None = refl
more_map i (Some n) = ap Some (omega arith)

-- the byte at an index of a set's inside is kept
pub kept_step : (text : List ℕ) (i k j : ℕ) → i < length text → 0 < k → j ≡ k - 1
    → option_map (λ n. n + (i + 1)) (inside_after j (drop (i + 1) text)) ≡ option_map (λ n. n + i) (inside_after k (drop i text))
unfolding inside_after
kept_step text i zero j within some less = absurd (omega arith)
kept_step text i (suc k) j within some less =
    let one_less : j ≡ k = omega arith in
    rw (one_less, drop-cons text i 0, add-one i) (sym (more_map i (inside_after k (drop (suc i) text))))

-- what a '%' keeps
pub one_if : (c k : ℕ) → c ≡ 37 → k ≡ 1 → k ≡ (if c == 37 then 1 else 0)
one_if c k is one = rw (is, one) refl

pub none_if : (c k j : ℕ) → k ≤ 0 → (c ≡ 37 → ⊥) → j ≡ k → j ≡ (if c == 37 then 1 else 0)
none_if c k j none other same = rw (ne_eqb c 37 other) (omega arith)

-- the byte at an index of a set's inside is no bracket
pub inside_step : (text : List ℕ) (i k j : ℕ) → i < length text → k ≤ 0 → (get_or text i 0 ≡ 93 → ⊥) → j ≡ (if get_or text i 0 == 37 then 1 else 0)
    → option_map (λ n. n + (i + 1)) (inside_after j (drop (i + 1) text)) ≡ option_map (λ n. n + i) (inside_after k (drop i text))
unfolding inside_after
inside_step text i k j within none other next =
    let zero_kept : k ≡ 0 = omega arith in
    rw (zero_kept, next, drop-cons text i 0, add-one i, ne_eqb (get_or text i 0) 93 other) (sym (more_map i (inside_after (if get_or text i 0 == 37 then 1 else 0) (drop (suc i) text))))

-- a closing byte that closes an inner opening one
pub closes_inner : (opening closing : ℕ) (text : List ℕ) (i others next : ℕ) → i < length text → get_or text i 0 ≡ closing → (others ≡ 0 → ⊥) → next ≡ others - 1
    → option_map (λ n. n + (i + 1)) (closing_len opening closing next (drop (i + 1) text)) ≡ option_map (λ n. n + i) (closing_len opening closing others (drop i text))
unfolding closing_len
closes_inner opening closing text i zero next within is inner less = absurd (inner refl)
closes_inner opening closing text i (suc others) next within is inner less =
    let one_less : next ≡ others = omega arith in
    rw (one_less, drop-cons text i 0, add-one i, eq-eqb (get_or text i 0) closing is) (sym (more_map i (closing_len opening closing others (drop (suc i) text))))

-- a further opening byte
pub opens_inner : (opening closing : ℕ) (text : List ℕ) (i others next : ℕ) → i < length text → (get_or text i 0 ≡ closing → ⊥) → get_or text i 0 ≡ opening → next ≡ others + 1
    → option_map (λ n. n + (i + 1)) (closing_len opening closing next (drop (i + 1) text)) ≡ option_map (λ n. n + i) (closing_len opening closing others (drop i text))
unfolding closing_len
opens_inner opening closing text i zero next within other is more =
    let one_more_open : next ≡ 1 = omega arith in
    rw (one_more_open, drop-cons text i 0, add-one i, ne_eqb (get_or text i 0) closing other, eq-eqb (get_or text i 0) opening is) (sym (more_map i (closing_len opening closing 1 (drop (suc i) text))))
opens_inner opening closing text i (suc others) next within other is more =
    let one_more_open : next ≡ suc (suc others) = omega arith in
    rw (one_more_open, drop-cons text i 0, add-one i, ne_eqb (get_or text i 0) closing other, eq-eqb (get_or text i 0) opening is) (sym (more_map i (closing_len opening closing (suc (suc others)) (drop (suc i) text))))

-- any other byte
pub inside_pair : (opening closing : ℕ) (text : List ℕ) (i others next : ℕ) → i < length text → (get_or text i 0 ≡ closing → ⊥) → (get_or text i 0 ≡ opening → ⊥) → next ≡ others
    → option_map (λ n. n + (i + 1)) (closing_len opening closing next (drop (i + 1) text)) ≡ option_map (λ n. n + i) (closing_len opening closing others (drop i text))
unfolding closing_len
inside_pair opening closing text i zero next within other another same =
    rw (same, drop-cons text i 0, add-one i, ne_eqb (get_or text i 0) closing other, ne_eqb (get_or text i 0) opening another) (sym (more_map i (closing_len opening closing zero (drop (suc i) text))))
inside_pair opening closing text i (suc others) next within other another same =
    rw (same, drop-cons text i 0, add-one i, ne_eqb (get_or text i 0) closing other, ne_eqb (get_or text i 0) opening another) (sym (more_map i (closing_len opening closing (suc others) (drop (suc i) text))))

-- the closing byte itself
pub closes_here : (opening closing : ℕ) (text : List ℕ) (i others : ℕ) (whole : Option ℕ) → i < length text → get_or text i 0 ≡ closing → others ≡ 0
    → option_map (λ n. n + i) (closing_len opening closing others (drop i text)) ≡ whole → Some (i + 1) ≡ whole
unfolding closing_len
closes_here opening closing text i others whole within is none before =
    let one : i + 1 ≡ 1 + i = omega arith in
    ap Some one ∙ (rw (none, drop-cons text i 0, eq-eqb (get_or text i 0) closing is) at before)

-- there is none
pub never_closes : (opening closing : ℕ) (text : List ℕ) (i others : ℕ) (whole : Option ℕ) → length text ≤ i
    → option_map (λ n. n + i) (closing_len opening closing others (drop i text)) ≡ whole → None ≡ whole
unfolding closing_len
never_closes opening closing text i others whole past before = rw (drop_all i text past) at before

nothing_more : (o : Option ℕ) → option_map (λ n. n + 0) o ≡ o
nothing_more None = refl
nothing_more (Some n) = ap Some (add-zero n)

pub pair_starts : (opening closing : ℕ) (text : List ℕ) → option_map (λ n. n + 0) (closing_len opening closing 0 (drop 0 text)) ≡ closing_len opening closing 0 text
pair_starts opening closing text = nothing_more (closing_len opening closing 0 text)
