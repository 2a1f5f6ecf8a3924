-- The ids that are open, as one is opened or closed, and names that are the same.
use Rattle.std.proofs.Common.{◌≡◌, ℕ, ◌+◌, ◌<◌, ◌≤◌, Bool, true, false, not, ltb, List, [], ◌∷◌, length, refl, sym, ap, ◌∙◌, true≢false, arith}
use Rattle.std.specs.Bool.{if◌then◌else◌}
use Rattle.std.specs.Prelude.{◌&&◌}
use Rattle.std.proofs.lemmas.Bool.{ltb-true, ltb-false}
use Rattle.resty_base.specs.declared.names.Id.TheVariants as id
use Rattle.resty_base.specs.declared.names.StrandId.TheVariants as strand
use Rattle.resty_base.specs.BoolLaws.{by_test}
use Rattle.schedule.specs.OpenIds.{has, without, are_distinct}

-- below, or not
pub by_order : {C : Type 0} (i n : ℕ) → (i < n → C) → (n ≤ i → C) → C
by_order i n below above = by_test (ltb i n) (λ on. below (ltb-true i n on)) (λ off. above (ltb-false i n off))

pub off-off : (b : Bool) → false ≡ (if b then false else false)
off-off true = refl
off-off false = refl

tested-twice : (b u v : Bool) → (if b then false else v) ≡ (if b then false else (if b then u else v))
tested-twice true u v = refl
tested-twice false u v = refl

tests-swapped : (p q w : Bool) → (p ≡ true → q ≡ false) → (if p then true else (if q then false else w)) ≡ (if q then false else (if p then true else w))
tests-swapped true q w apart = sym (ap (λ b. if b then false else true) (apart refl))
tests-swapped false true w apart = refl
tests-swapped false false w apart = refl

has-without_step : {A : Type 0} (same : A → A → Bool) (is_eq : (x y : A) → same x y ≡ true → x ≡ y) (x i y : A) (rest ys : List A) (b : Bool)
    → same y i ≡ b → has same x rest ≡ (if same x i then false else has same x ys)
    → has same x (if b then rest else y ∷ rest) ≡ (if same x i then false else (if same x y then true else has same x ys))
has-without_step same is_eq x i y rest ys true was known =
    known ∙ tested-twice (same x i) true (has same x ys) ∙ ap (λ z. if same x i then false else (if same x z then true else has same x ys)) (sym (is_eq y i was))
has-without_step same is_eq x i y rest ys false was known =
    ap (λ v. if same x y then true else v) known
    ∙ tests-swapped (same x y) (same x i) (has same x ys) (λ is_y. ap (λ z. same z i) (is_eq x y is_y) ∙ was)

pub has-without : {A : Type 0} (same : A → A → Bool) (is_eq : (x y : A) → same x y ≡ true → x ≡ y) (x i : A) (ys : List A)
    → has same x (without same i ys) ≡ (if same x i then false else has same x ys)
has-without same is_eq x i [] = off-off (same x i)
has-without same is_eq x i (y ∷ ys) = has-without_step same is_eq x i y (without same i ys) ys (same y i) refl (has-without same is_eq x i ys)

first-off : (b c : Bool) → (if b then true else c) ≡ false → b ≡ false
first-off true c off = absurd (true≢false off)
first-off false c off = refl

rest-off : (b c : Bool) → (if b then true else c) ≡ false → c ≡ false
rest-off true c off = absurd (true≢false off)
rest-off false c off = off

both-on : (b c : Bool) → (not b && c) ≡ true → (b ≡ false) × (c ≡ true)
both-on true c on = absurd (true≢false (sym on))
both-on false c on = (refl, on)

module _ {A : Type 0} (same : A → A → Bool) (is_eq : (x y : A) → same x y ≡ true → x ≡ y) where
  turned : (x y : A) → same x y ≡ true → same y x ≡ true
  turned x y on = let e = is_eq x y on in ap (λ z. same z x) (sym e) ∙ ap (λ z. same x z) e ∙ on

  kept : {B : Type 0} (y i : A) (rest stays : B) → same i y ≡ false → (if same y i then rest else stays) ≡ stays
  kept y i rest stays off = by_test (same y i) (λ on. absurd (true≢false (sym (turned y i on) ∙ off))) (λ no. rw no refl)

  -- without one that isn't there all is as it was
  without-absent : (i : A) (ys : List A) → has same i ys ≡ false → without same i ys ≡ ys
  without-absent i [] off = refl
  without-absent i (y ∷ ys) off =
      kept y i (without same i ys) (y ∷ without same i ys) (first-off (same i y) (has same i ys) off)
      ∙ ap (λ zs. y ∷ zs) (without-absent i ys (rest-off (same i y) (has same i ys) off))

  -- where no two are the same, there is one less without one that was there
  pub length-without : (i : A) (ys : List A) → are_distinct same ys ≡ true → has same i ys ≡ true → length (without same i ys) + 1 ≡ length ys
  length-without i [] distinct is_in = absurd (true≢false (sym is_in))
  length-without i (y ∷ ys) distinct is_in =
      let both = both-on (has same y ys) (are_distinct same ys) distinct in
      by_test (same i y)
      (λ on.
      let e = is_eq i y on in
      let gone : without same i ys ≡ ys = without-absent i ys (ap (λ z. has same z ys) e ∙ both.0) in
      ap (λ b. length (if b then without same i ys else y ∷ without same i ys) + 1) (turned i y on) ∙ ap (λ zs. length zs + 1) gone ∙ omega arith)
      (λ off.
      let less = length-without i ys both.1 (sym (ap (λ b. if b then true else has same i ys) off) ∙ is_in) in
      ap (λ zs. length zs + 1) (kept y i (without same i ys) (y ∷ without same i ys) off) ∙ omega (arith, less))

  -- no two are the same without one
  pub distinct-without : (i : A) (ys : List A) → are_distinct same ys ≡ true → are_distinct same (without same i ys) ≡ true
  distinct-without i [] distinct = refl
  distinct-without i (y ∷ ys) distinct =
      let both = both-on (has same y ys) (are_distinct same ys) distinct in
      let rest = distinct-without i ys both.1 in
      by_test (same y i)
      (λ on. ap (λ b. are_distinct same (if b then without same i ys else y ∷ without same i ys)) on ∙ rest)
      (λ off.
      let out : has same y (without same i ys) ≡ false = has-without same is_eq y i ys ∙ ap (λ b. if b then false else has same y ys) off ∙ both.0 in
      ap (λ b. are_distinct same (if b then without same i ys else y ∷ without same i ys)) off ∙ ap (λ b. not b && are_distinct same (without same i ys)) out ∙ rest)
