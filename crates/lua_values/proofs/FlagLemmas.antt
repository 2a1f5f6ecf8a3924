-- Flags and the flags of their blocks.
use Rattle.std.proofs.Common.{◌≡◌, ℕ, zero, suc, ◌+◌, ◌-◌, ◌*◌, ◌/◌, ◌<◌, ◌≤◌, ◌⊎◌, inl, inr, Bool, true, false, List, [], ◌∷◌, ◌++◌, length, slice_set, Option, None, Some, refl, sym, ap, subst, ◌∙◌, true≢false, arith}
use Rattle.std.proofs.Math.Bool.{beq}
use Rattle.std.specs.Cmp.{bool_eq_equiv}
use Rattle.std.proofs.lemmas.Bool.{cases_Bool, cases_lt, cases_eq}
use Rattle.std.proofs.lemmas.List.{length-set, get_or-set_same, get_or-set_other}
use Rattle.lua_values.specs.Flags.{flag_at, IsFirstAt, IsFirstFrom, IsFirstWithin, IsBlank, IsSummary, count_standing}

-- a flag that doesn't stand changes none
pub flag_at-grown : (xs : List Bool) (k : ℕ) → flag_at (xs ++ false ∷ []) k ≡ flag_at xs k
flag_at-grown [] zero = refl
flag_at-grown [] (suc k) = refl
flag_at-grown (x ∷ xs) zero = refl
flag_at-grown (x ∷ xs) (suc k) = flag_at-grown xs k

-- where the first flag from an index on is, by the block of the index and by the next block that has one
pub next-none : (lower upper : List Bool) (from : ℕ) → IsSummary lower upper → IsFirstWithin lower from ((from / 32 + 1) * 32) None
    → IsFirstFrom upper (from / 32 + 1) None → IsFirstFrom lower from None
next-none lower upper from s here none k le =
    elim (cases_Bool (flag_at lower k)) [
      | inr off ↦ off
      | inl on ↦ elim (cases_lt k ((from / 32 + 1) * 32)) [
        | inl near ↦ here k le near
        | inr far ↦ absurd (true≢false (sym (s.marks k on) ∙ none (k / 32) (omega arith)))
      ]
    ]

pub next-blank : (lower upper : List Bool) (next : ℕ) → IsSummary lower upper → flag_at upper next ≡ true
    → IsFirstWithin lower (next * 32) ((next + 1) * 32) None → ⊥
next-blank lower upper next s on blank = s.holds next on (λ k e. blank k (omega arith) (omega arith))

pub next-some : (lower upper : List Bool) (from next index : ℕ) → IsSummary lower upper → IsFirstWithin lower from ((from / 32 + 1) * 32) None
    → IsFirstFrom upper (from / 32 + 1) (Some next) → IsFirstWithin lower (next * 32) ((next + 1) * 32) (Some index) → IsFirstAt lower from index
next-some lower upper from next index s here first found = record {
  later = let a = first.later in let b = found.1.later in omega arith;
  stands = found.1.stands;
  before = λ k le lt. elim (cases_Bool (flag_at lower k)) [
    | inr off ↦ off
    | inl on ↦ elim (cases_lt k ((from / 32 + 1) * 32)) [
      | inl near ↦ here k le near
      | inr far ↦ elim (cases_lt (k / 32) next) [
        | inl early ↦ absurd (true≢false (sym (s.marks k on) ∙ first.before (k / 32) (omega arith) early))
        | inr late ↦ found.1.before k (omega arith) lt
      ]
    ]
  ];
}

pub next-any : (lower upper : List Bool) (from next : ℕ) → IsSummary lower upper → IsFirstWithin lower from ((from / 32 + 1) * 32) None
    → IsFirstFrom upper (from / 32 + 1) (Some next) → (r : Option ℕ) → IsFirstWithin lower (next * 32) ((next + 1) * 32) r → IsFirstFrom lower from r
next-any lower upper from next s here first None found = absurd (next-blank lower upper next s first.stands found)
next-any lower upper from next s here first (Some index) found = next-some lower upper from next index s here first found

-- a list with more flags that don't stand
pub summary-same : (lower lower' upper upper' : List Bool) → IsSummary lower upper → ((k : ℕ) → flag_at lower' k ≡ flag_at lower k)
    → ((k : ℕ) → flag_at upper' k ≡ flag_at upper k) → ((k : ℕ) → k < length lower' → k / 32 < length upper') → IsSummary lower' upper'
summary-same lower lower' upper upper' s low up covers = record {
  covers = covers;
  marks = λ k on. up (k / 32) ∙ s.marks k (sym (low k) ∙ on);
  holds = λ block on blank. s.holds block (sym (up block) ∙ on) (λ k e. sym (low k) ∙ blank k e);
}

-- a flag is set, and the flag of its block says what the block then has
pub summary-set : (lower upper : List Bool) (index : ℕ) (flag any : Bool) → IsSummary lower upper → index < length lower
    → (any ≡ false → IsBlank (slice_set lower index flag) (index / 32)) → (any ≡ true → IsBlank (slice_set lower index flag) (index / 32) → ⊥)
    → IsSummary (slice_set lower index flag) (slice_set upper (index / 32) any)
summary-set lower upper index flag any s lt none some = record {
  covers = λ k in_range.
      let same : length (slice_set lower index flag) ≡ length lower = length-set lower index flag in
      let upper_same : length (slice_set upper (index / 32) any) ≡ length upper = length-set upper (index / 32) any in
      let at : k / 32 < length upper = s.covers k (omega arith) in
      omega arith;
  marks = λ k on. elim (cases_eq (k / 32) (index / 32)) [
    | inl e ↦ elim (cases_Bool any) [
      | inl set ↦ subst (λ b. flag_at (slice_set upper (index / 32) any) b ≡ true) (sym e) (get_or-set_same upper (index / 32) any false (s.covers index lt) ∙ set)
      | inr clear ↦ absurd (true≢false (sym on ∙ none clear k e))
    ]
    | inr n ↦
        get_or-set_other upper (index / 32) (k / 32) any false n
        ∙ s.marks k (sym (get_or-set_other lower index k flag false (λ e. n (ap (λ i. i / 32) e))) ∙ on)
  ];
  holds = λ block on blank. elim (cases_eq block (index / 32)) [
    | inl e ↦
        some
        (sym (get_or-set_same upper (index / 32) any false (s.covers index lt)) ∙ subst (λ b. flag_at (slice_set upper (index / 32) any) b ≡ true) e on)
        (subst (IsBlank (slice_set lower index flag)) e blank)
    | inr n ↦
        s.holds block
        (sym (get_or-set_other upper (index / 32) block any false n) ∙ on)
        (λ k e. sym (get_or-set_other lower index k flag false (λ at. n (sym e ∙ ap (λ i. i / 32) at))) ∙ blank k e)
  ];
}

-- as many blocks as whole ones are there
front : (lower upper : List Bool) → IsSummary lower upper → length lower / 32 ≤ length upper
front lower upper s = elim (cases_eq (length lower) 0) [
  | inl e ↦ omega arith
  | inr n ↦ let last : (length lower - 1) / 32 < length upper = s.covers (length lower - 1) (omega arith) in omega arith
]

pub front-blocks : (flags blocks groups : List Bool) → IsSummary flags blocks → IsSummary blocks groups
    → (length flags / 32 ≤ length blocks) × (length flags / 32 / 32 ≤ length groups)
front-blocks flags blocks groups s t =
    let first : length flags / 32 ≤ length blocks = front flags blocks s in
    let second : length blocks / 32 ≤ length groups = front blocks groups t in
    (first, omega arith)

-- what a list of flags was before a block was made
pub record Covered (old new : List Bool) (block : ℕ) : Type 0 where
  pub same : (k : ℕ) → flag_at new k ≡ flag_at old k
  pub longer : length old ≤ length new
  pub few : (k : ℕ) → k < length new → (k < length old) ⊎ (k ≤ block)

pub grown-blocks : (flags flags' blocks blocks' : List Bool) (block : ℕ) → IsSummary flags blocks → Covered blocks blocks' block
    → ((k : ℕ) → flag_at flags' k ≡ flag_at flags k) → ((k : ℕ) → k < length flags' → (k < length flags) ⊎ (k / 32 < length blocks')) → IsSummary flags' blocks'
grown-blocks flags flags' blocks blocks' block s c same more = summary-same flags flags' blocks blocks' s same c.same (λ k lt. elim (more k lt) [
  | inl old ↦ let at : k / 32 < length blocks = s.covers k old in let l = c.longer in omega arith
  | inr new ↦ new
])

pub grown-groups : (blocks blocks' groups groups' : List Bool) (block : ℕ) → IsSummary blocks groups → Covered blocks blocks' block → Covered groups groups' (block / 32)
    → block / 32 < length groups' → IsSummary blocks' groups'
grown-groups blocks blocks' groups groups' block s c d covered = summary-same blocks blocks' groups groups' s c.same d.same (λ k lt. elim (c.few k lt) [
  | inl old ↦ let at : k / 32 < length groups = s.covers k old in let l = d.longer in omega arith
  | inr new ↦ omega arith
])

-- how many flags stand once one is set, where it didn't stand and where it did
pub standing-on : (xs : List Bool) (i : ℕ) → i < length xs → flag_at xs i ≡ false → count_standing (slice_set xs i true) ≡ count_standing xs + 1
standing-on [] i lt off = absurd (omega arith)
standing-on (true ∷ xs) zero lt off = absurd (true≢false off)
standing-on (false ∷ xs) zero lt off = omega arith
standing-on (true ∷ xs) (suc i) lt off = let rest = standing-on xs i (omega arith) off in omega arith
standing-on (false ∷ xs) (suc i) lt off = standing-on xs i (omega arith) off

pub standing-off : (xs : List Bool) (i : ℕ) → i < length xs → flag_at xs i ≡ true → count_standing (slice_set xs i false) + 1 ≡ count_standing xs
standing-off [] i lt on = absurd (omega arith)
standing-off (true ∷ xs) zero lt on = omega arith
standing-off (false ∷ xs) zero lt on = absurd (true≢false (sym on))
standing-off (true ∷ xs) (suc i) lt on = let rest = standing-off xs i (omega arith) on in omega arith
standing-off (false ∷ xs) (suc i) lt on = standing-off xs i (omega arith) on

-- and once one is added that doesn't
pub standing-grown : (xs : List Bool) → count_standing (xs ++ false ∷ []) ≡ count_standing xs
standing-grown [] = refl
standing-grown (true ∷ xs) = ap suc (standing-grown xs)
standing-grown (false ∷ xs) = standing-grown xs

-- they are no more than there are flags
pub standing-most : (xs : List Bool) → count_standing xs ≤ length xs
standing-most [] = omega arith
standing-most (true ∷ xs) = let rest = standing-most xs in omega arith
standing-most (false ∷ xs) = let rest = standing-most xs in omega arith

-- where there is none, no flag stands
pub standing-none : (xs : List Bool) → count_standing xs ≡ 0 → (k : ℕ) → flag_at xs k ≡ false
standing-none [] none zero = refl
standing-none [] none (suc k) = refl
standing-none (true ∷ xs) none k = absurd (omega (arith, none))
standing-none (false ∷ xs) none zero = refl
standing-none (false ∷ xs) none (suc k) = standing-none xs none k

-- where one does, there is one
pub standing-some : (xs : List Bool) (i : ℕ) → (flag_at xs i ≡ false → ⊥) → 0 < count_standing xs
standing-some [] zero on = absurd (on refl)
standing-some [] (suc i) on = absurd (on refl)
standing-some (true ∷ xs) i on = omega arith
standing-some (false ∷ xs) zero on = absurd (on refl)
standing-some (false ∷ xs) (suc i) on = standing-some xs i on

-- flags that compare as different are
pub unlike : (a b : Bool) → beq a b ≡ false → a ≡ b → ⊥
unlike a b differ e = true≢false (sym (bool_eq_equiv.refl b) ∙ ap (λ x. beq x b) (sym e) ∙ differ)

-- how many stand once a flag is turned
pub standing-set : (xs : List Bool) (i : ℕ) (flag : Bool) (n : ℕ) → i < length xs → (flag_at xs i ≡ flag → ⊥)
    → (flag ≡ true → n ≡ count_standing xs + 1) → (flag ≡ false → n + 1 ≡ count_standing xs) → n ≡ count_standing (slice_set xs i flag)
standing-set xs i true n lt turned more less =
    let off : flag_at xs i ≡ false = elim (cases_Bool (flag_at xs i)) [ inl e ↦ absurd (turned e) | inr e ↦ e ] in
    more refl ∙ sym (standing-on xs i lt off)
standing-set xs i false n lt turned more less =
    let on : flag_at xs i ≡ true = elim (cases_Bool (flag_at xs i)) [ inl e ↦ e | inr e ↦ absurd (turned e) ] in
    let old : n + 1 ≡ count_standing xs = less refl in
    let new : count_standing (slice_set xs i false) + 1 ≡ count_standing xs = standing-off xs i lt on in
    omega arith
