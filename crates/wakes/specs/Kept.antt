-- How deadlines are kept: by their numbers, and by their moments.
use Rattle.std.specs.Prelude.{◌≡◌, ℕ, ◌<◌, ◌==◌, Bool, false, Option, Some, None}
use Rattle.std.specs.Ordering.{nat_cmp, ordering_then}
use Rattle.std.specs.BTreeMap.{BTreeMap, IsOrdered, get}
use Rattle.std.specs.BTreeSet.{BTreeSet, contains}
use Rattle.std.specs.declared.cmp.Ordering.{Ordering}
use Rattle.wakes.specs.declared.deadlines.Armed.{Armed}

-- the order of moments, then of numbers
abbrev pub pair_cmp : ℕ × ℕ → ℕ × ℕ → Ordering
pair_cmp p q = ordering_then (nat_cmp p.0 q.0) (nat_cmp p.1 q.1)

-- what is armed is armed for this moment
abbrev pub is_at_moment : ℕ → Option Armed → Bool
is_at_moment at None = false
is_at_moment at (Some armed) = armed.at.0 == at

-- the set has the moment and the number of each deadline and no others; no number is above the last
pub record IsIndexed (by_number : BTreeMap ℕ Armed) (by_moment : BTreeSet (ℕ × ℕ)) (last : ℕ) : Type 0 where
  pub ordered : IsOrdered nat_cmp by_number
  pub moments : (at n : ℕ) → contains pair_cmp by_moment (at, n) ≡ is_at_moment at (get nat_cmp by_number n)
  pub fresh : (n : ℕ) → last < n → get nat_cmp by_number n ≡ None
