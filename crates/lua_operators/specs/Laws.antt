-- What holds of the order of values (Lua 5.1 Reference Manual, 2.5.2) and of types.
use Rattle.std.specs.Prelude.{◌≡◌, ℕ, ◌<◌, true, not, ◌⊎◌, ◌↔◌, List, ◌∷◌, ◌++◌, ℤ}
use Rattle.std.specs.Ordering.{nat_cmp, int_cmp}
use Rattle.std.specs.Cmp.Lexicographic.{slice_cmp}
use Rattle.lua_values.specs.declared.values.Value.TheVariants.{Truth, Text}
use Rattle.lua_operators.specs.declared.types.LuaType.{LuaType}
use Rattle.lua_operators.specs.declared.comparison.ComparisonOperator.TheVariants.{Less, LessOrEqual}
use Rattle.lua_operators.specs.declared.outcome.Outcome.TheVariants.{Gives}
use Rattle.lua_operators.specs.Comparison.{compared, holds}
use Rattle.lua_operators.specs.OperandFaults.{same_type}

-- the first text is all that both have in common, and the second goes on after it
pub record GoesOn (common first second : List ℕ) : Type 0 where
  pub next : ℕ
  pub after : List ℕ
  pub whole : first ≡ common
  pub longer : second ≡ common ++ next ∷ after

-- after what both have in common, the first text has the lesser byte
pub record HasLesser (common first second : List ℕ) : Type 0 where
  pub lesser : ℕ
  pub greater : ℕ
  pub after_lesser : List ℕ
  pub after_greater : List ℕ
  pub below : lesser < greater
  pub one : first ≡ common ++ lesser ∷ after_lesser
  pub other : second ≡ common ++ greater ∷ after_greater

-- the first text is below the second, as in a dictionary of unsigned bytes
abbrev pub IsBelow : List ℕ → List ℕ → Type 0
IsBelow first second = (common : List ℕ) × (GoesOn common first second ⊎ HasLesser common first second)

-- `s < t` of two texts is true exactly where `s` is below `t`
abbrev pub LessIsBelow : Type 0
LessIsBelow = (s t : List ℕ) → (compared Less (Text s) (Text t) ≡ Gives (Truth true)) ↔ IsBelow s t

-- `a <= b` is `not (b < a)`, of two numbers and of two texts
pub record OrEqualIsNotAbove : Type 0 where
  pub numbers : (m n : ℤ) → holds LessOrEqual (int_cmp m n) ≡ not (holds Less (int_cmp n m))
  pub texts : (s t : List ℕ) → holds LessOrEqual (slice_cmp nat_cmp s t) ≡ not (holds Less (slice_cmp nat_cmp t s))

-- the test of types in the texts of faults is equality
abbrev pub SameTypeIsEqual : Type 0
SameTypeIsEqual = (a b : LuaType) → (same_type a b ≡ true) ↔ (a ≡ b)
