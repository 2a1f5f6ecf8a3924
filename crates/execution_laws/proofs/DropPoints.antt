-- Which strand is dropped at an index.
use Rattle.std.specs.Prelude.{◌≡◌, ◌≤◌, ◌<◌, ◌==◌, ℕ, Bool, true, false, List, [], ◌∷◌, ◌++◌, length, None, if◌then◌else◌, refl}
use Rattle.std.proofs.Common.{arith, ◌∙◌, ap}
use Rattle.std.proofs.lemmas.Bool.{eqb-true, eq-eqb}
use Rattle.std.proofs.lemmas.List.{length-append}
use Rattle.resty_base.specs.BoolLaws.{by_test}
use Rattle.executions.specs.Executions.{GlobalAction}
use Rattle.execution_laws.specs.Drops.{dropped_by, dropped_at}

differ : (m n : ℕ) → m < n → (m == n) ≡ false
differ m n h = by_test (m == n) (λ on. let e = eqb-true m n on in absurd (omega (arith, e, h))) (λ off. off)

module _ {J : Type 0} where
  pub longer : (xs : List (GlobalAction J)) (m : GlobalAction J) (ms : List (GlobalAction J)) → length ms < length (xs ++ m ∷ ms)
  longer xs m ms = let e = length-append xs (m ∷ ms) in omega (arith, e)

  -- the action after ms is the one at its length
  pub at-length : (xs : List (GlobalAction J)) (m : GlobalAction J) (ms : List (GlobalAction J)) → dropped_at (length ms) (xs ++ m ∷ ms) ≡ dropped_by m
  at-length [] m ms = ap (λ c. if c then dropped_by m else dropped_at (length ms) ms) (eq-eqb (length ms) (length ms) refl)
  at-length (x ∷ xs) m ms = ap (λ c. if c then dropped_by x else dropped_at (length ms) (xs ++ m ∷ ms)) (differ (length ms) (length (xs ++ m ∷ ms)) (longer xs m ms)) ∙ at-length xs m ms

  -- nothing is beyond the end
  pub beyond : (index : ℕ) (ms : List (GlobalAction J)) → length ms ≤ index → dropped_at index ms ≡ None
  beyond index [] h = refl
  beyond index (m ∷ ms) h = put (index == length ms) refl (beyond index ms (omega (arith, h)))
    where
      put : (c : Bool) → (index == length ms) ≡ c → dropped_at index ms ≡ None → (if c then dropped_by m else dropped_at index ms) ≡ None
      put true e ih = let f = eqb-true index (length ms) e in absurd (omega (arith, f, h))
      put false e ih = ih
