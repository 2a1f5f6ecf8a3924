-- The order of numbers, and that of moments with numbers.
use Rattle.std.proofs.Common.{◌≡◌, ℕ, ◌<◌, ◌≤◌, ◌==◌, ◌&&◌, ◌⊎◌, Bool, true, false, refl, sym, ap, ◌∙◌, inl, inr, arith, rules}
use Rattle.std.specs.Ordering.{nat_cmp, ordering_then, is_eq, is_gt}
use Rattle.std.specs.declared.cmp.Ordering.{Ordering}
use Rattle.std.specs.declared.cmp.Ordering.TheVariants.{Less, Equal, Greater}
use Rattle.std.proofs.lemmas.Cmp.{ranked, by_ranked}
use Rattle.std.proofs.lemmas.Bool.Decides.{nat_tests}
use Rattle.wakes.specs.Kept.{pair_cmp}

pub nat-same : (x y : ℕ) → is_eq (nat_cmp x y) ≡ (x == y)
nat-same x y = search (nat_tests, rules)

pub pair-same : (p q : ℕ × ℕ) → is_eq (pair_cmp p q) ≡ (p.0 == q.0) && (p.1 == q.1)
pair-same p q = let a = nat-same p.0 q.0 in let b = nat-same p.1 q.1 in put (nat_cmp p.0 q.0) (nat_cmp p.1 q.1) (p.0 == q.0) (p.1 == q.1) a b
  where
    put : (o r : Ordering) (x y : Bool) → is_eq o ≡ x → is_eq r ≡ y → is_eq (ordering_then o r) ≡ x && y
    put Less r x y a b = ap (λ z. z && y) a
    put Equal r x y a b = b ∙ ap (λ z. z && y) a
    put Greater r x y a b = ap (λ z. z && y) a

-- a moment with a number that isn't above another
abbrev pub IsNotAfter : ℕ → ℕ → ℕ → ℕ → Type 0
IsNotAfter at n m k = (at < m) ⊎ ((at ≡ m) × (n ≤ k))

pub not-after : (at n m k : ℕ) → is_gt (pair_cmp (at, n) (m, k)) ≡ false → IsNotAfter at n m k
not-after at n m k h = by_ranked (at < m) (at ≡ m) (m < at) (nat_cmp at m) (ranked at m (nat_cmp at m) refl) (λ e l. inl l)
    (λ e l. inr (l, by_ranked (n < k) (n ≡ k) (k < n) (nat_cmp n k) (ranked n k (nat_cmp n k) refl) (λ d s. omega arith) (λ d s. omega arith) (λ d s. absurd (clash (sym (ap (λ o. is_gt (ordering_then o (nat_cmp n k))) e ∙ ap is_gt d) ∙ h)))))
    (λ e l. absurd (clash (sym (ap (λ o. is_gt (ordering_then o (nat_cmp n k))) e) ∙ h)))
  where
    clash : true ≡ false → ⊥
    clash e = cc
