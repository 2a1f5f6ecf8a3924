-- Values at rising numbers, once one was put last, or one was taken out.
use Rattle.std.proofs.Common.{◌≡◌, ℕ, zero, suc, ◌+◌, ◌<◌, ◌≤◌, ◌-◌, ◌^◌, nat_eq, Bool, true, false, cond, List, [], ◌∷◌, ◌++◌, Option, Some, None, Result, Ok, Err, IsOk, OnOk, refl, sym, ap, ◌∙◌, inl, inr, add-one, if◌then◌else◌, nat_lt, arith}
use Rattle.std.proofs.lemmas.Bool.{false≢true, eq-eqb, eqb-true, cases_lt}
use Rattle.std.proofs.lemmas.Bool.Decides.{nat_tests}
use Rattle.std.specs.Map.{lookup, remove_entry}
use Rattle.engine_tables.specs.Numbered.{at_number, below, room_of, IsFresh}

pub not-same : (m n : ℕ) → m < n → nat_eq m n ≡ false
not-same m n h = grind (arith, nat_tests, h)

pub not-same-above : (m n : ℕ) → n < m → nat_eq m n ≡ false
not-same-above m n h = grind (arith, nat_tests, h)

-- what was to succeed is done
pub done-then : {T E P : Type 0} (r : Result T E) → IsOk r → OnOk r P → P
done-then (Ok t) i h = h
done-then (Err e) i h = absurd (false≢true i)

pub either-way : {A : Type 0} (b : Bool) (a : A) → a ≡ cond b a a
either-way true a = refl
either-way false a = refl

-- where there is room, memory is set aside
pub room-spare : (next spare : ℕ) → 0 < room_of next spare → 0 < spare
room-spare next spare h = put (nat_lt next (2 ^ 64 - 1)) h
  where
    put : (b : Bool) → 0 < (if b then spare else 0) → 0 < spare
    put true g = g
    put false g = absurd (omega (arith, g))

module _ {V : Type 0} where
  -- what is looked for is in the first part, or in the second
  pub lookup-past : (t : ℕ → Bool) (l r : List (ℕ × V)) → lookup t l ≡ None → lookup t (l ++ r) ≡ lookup t r
  lookup-past t [] r h = refl
  lookup-past t (e ∷ l) r h = put (t e.0) h (lookup-past t l r)
    where
      put : (b : Bool) → cond b (Some e.1) (lookup t l) ≡ None → (lookup t l ≡ None → lookup t (l ++ r) ≡ lookup t r) → cond b (Some e.1) (lookup t (l ++ r)) ≡ lookup t r
      put true g ih = absurd (let f : Some e.1 ≡ None = g in cc)
      put false g ih = ih g

  pub lookup-before : (t : ℕ → Bool) (l r : List (ℕ × V)) → lookup t r ≡ None → lookup t (l ++ r) ≡ lookup t l
  lookup-before t [] r h = h
  lookup-before t (e ∷ l) r h = ap (cond (t e.0) (Some e.1)) (lookup-before t l r h)

  remove-past : (t : ℕ → Bool) (l r : List (ℕ × V)) → lookup t l ≡ None → remove_entry t (l ++ r) ≡ l ++ remove_entry t r
  remove-past t [] r h = refl
  remove-past t (e ∷ l) r h = put (t e.0) h (remove-past t l r)
    where
      put : (b : Bool) → cond b (Some e.1) (lookup t l) ≡ None → (lookup t l ≡ None → remove_entry t (l ++ r) ≡ l ++ remove_entry t r) → cond b (l ++ r) (e ∷ remove_entry t (l ++ r)) ≡ e ∷ (l ++ remove_entry t r)
      put true g ih = absurd (let f : Some e.1 ≡ None = g in cc)
      put false g ih = ap (λ x. e ∷ x) (ih g)

  remove-before : (t : ℕ → Bool) (l r : List (ℕ × V)) → remove_entry t r ≡ r → remove_entry t (l ++ r) ≡ remove_entry t l ++ r
  remove-before t [] r h = h
  remove-before t (e ∷ l) r h = put (t e.0) (remove-before t l r h)
    where
      put : (b : Bool) → remove_entry t (l ++ r) ≡ remove_entry t l ++ r → cond b (l ++ r) (e ∷ remove_entry t (l ++ r)) ≡ cond b l (e ∷ remove_entry t l) ++ r
      put true ih = refl
      put false ih = ap (λ x. e ∷ x) ih

  -- what is at a number
  at-lookup : (m n : ℕ) (o : Option V) → lookup (nat_eq m) (at_number n o) ≡ cond (nat_eq m n) o None
  at-lookup m n None = either-way (nat_eq m n) None
  at-lookup m n (Some v) = refl

  at-remove : (m n : ℕ) (o : Option V) → remove_entry (nat_eq m) (at_number n o) ≡ cond (nat_eq m n) [] (at_number n o)
  at-remove m n None = either-way (nat_eq m n) []
  at-remove m n (Some v) = refl

  below-same : (f g : ℕ → Option V) (n : ℕ) → ((j : ℕ) → j < n → f j ≡ g j) → below f n ≡ below g n
  below-same f g zero h = refl
  below-same f g (suc n) h =
      ap (λ l. l ++ at_number n (f n)) (below-same f g n (λ j l. h j (omega (arith, l)))) ∙ ap (λ o. below g n ++ at_number n o) (h n (omega arith))

  pub below-none : (f : ℕ → Option V) (m n : ℕ) → n ≤ m → lookup (nat_eq m) (below f n) ≡ None
  below-none f m zero h = refl
  below-none f m (suc n) h =
      lookup-past (nat_eq m) (below f n) (at_number n (f n)) (below-none f m n (omega (arith, h)))
      ∙ at-lookup m n (f n) ∙ ap (λ b. cond b (f n) None) (not-same-above m n (omega (arith, h)))

  below-some : (f : ℕ → Option V) (m n : ℕ) → m < n → lookup (nat_eq m) (below f n) ≡ f m
  below-some f m zero h = absurd (omega (arith, h))
  below-some f m (suc n) h = put (nat_eq m n) refl (below-some f m n)
    where
      put : (b : Bool) → nat_eq m n ≡ b → (m < n → lookup (nat_eq m) (below f n) ≡ f m) → lookup (nat_eq m) (below f n ++ at_number n (f n)) ≡ f m
      put true e ih = let same = eqb-true m n e in
          lookup-past (nat_eq m) (below f n) (at_number n (f n)) (below-none f m n (omega (arith, same)))
          ∙ at-lookup m n (f n) ∙ ap (λ b. cond b (f n) None) e ∙ ap f (sym same)
      put false e ih =
          lookup-before (nat_eq m) (below f n) (at_number n (f n)) (at-lookup m n (f n) ∙ ap (λ b. cond b (f n) None) e)
          ∙ ih (grind (arith, nat_tests, e, h))

  -- what is found among all is what is at the number
  pub below-found : (f : ℕ → Option V) (m n : ℕ) → IsFresh f n → lookup (nat_eq m) (below f n) ≡ f m
  below-found f m n fresh = elim (cases_lt m n) [
    | inl l ↦ below-some f m n l
    | inr l ↦ below-none f m n l ∙ sym (fresh m l)
  ]

  pub below-put : (f g : ℕ → Option V) (n : ℕ) (v : V) → ((j : ℕ) → g j ≡ cond (nat_eq n j) (Some v) (f j)) → below g (n + 1) ≡ below f n ++ (n, v) ∷ []
  below-put f g n v h =
      rw add-one (ap (λ l. l ++ at_number n (g n)) (below-same g f n (λ j l. h j ∙ ap (λ b. cond b (Some v) (f j)) (not-same-above n j l)))
      ∙ ap (λ o. below f n ++ at_number n o) (h n ∙ ap (λ b. cond b (Some v) (f n)) (eq-eqb n n refl)))

  pub below-out : (f g : ℕ → Option V) (m n : ℕ) → ((j : ℕ) → g j ≡ cond (nat_eq m j) None (f j)) → below g n ≡ remove_entry (nat_eq m) (below f n)
  below-out f g m zero h = refl
  below-out f g m (suc n) h = put (nat_eq m n) refl (below-out f g m n h)
    where
      put : (b : Bool) → nat_eq m n ≡ b → below g n ≡ remove_entry (nat_eq m) (below f n) → below g n ++ at_number n (g n) ≡ remove_entry (nat_eq m) (below f n ++ at_number n (f n))
      put true e ih = let same = eqb-true m n e in
          ap (λ o. below g n ++ at_number n o) (h n ∙ ap (λ b. cond b None (f n)) e) ∙ ap (λ l. l ++ []) (below-same g f n (λ j l. h j ∙ ap (λ b. cond b None (f j)) (not-same-above m j (omega (arith, l, same)))))
          ∙ sym (remove-past (nat_eq m) (below f n) (at_number n (f n)) (below-none f m n (omega (arith, same))) ∙ ap (λ l. below f n ++ l) (at-remove m n (f n) ∙ ap (λ b. cond b [] (at_number n (f n))) e))
      put false e ih =
          ap (λ o. below g n ++ at_number n o) (h n ∙ ap (λ b. cond b None (f n)) e) ∙ ap (λ l. l ++ at_number n (f n)) ih
          ∙ sym (remove-before (nat_eq m) (below f n) (at_number n (f n)) (at-remove m n (f n) ∙ ap (λ b. cond b [] (at_number n (f n))) e))
