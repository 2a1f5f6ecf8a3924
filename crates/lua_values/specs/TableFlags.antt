-- The flags that a table keeps beside its pairs: a form of this project.
use Rattle.std.specs.Prelude.{◌≡◌, ⊤, ℕ, ◌+◌, ◌<◌, ◌≤◌, nat_lt, Bool, true, false, not, ◌&&◌, List, [], length, map, Option, Some, None, slice_get}
use Rattle.std.specs.Map.{keys_of}
use Rattle.lua_values.specs.declared.values.Value.{Value}
use Rattle.lua_values.specs.declared.outlines.Outline.{Outline}
use Rattle.lua_values.specs.declared.outlines.Outline.TheVariants.{Full, Flagged, Walked}
use Rattle.lua_values.specs.Values.{same, is_nil, number}
use Rattle.lua_values.specs.Pairs.{value_at}
use Rattle.lua_values.specs.Flags.{flag_at}

-- which pairs have a value that isn't nil
abbrev pub lives : List (Value × Value) → List Bool
lives ps = map (λ p. not (is_nil p.1)) ps

-- k is below n, and nothing is at k + 1
abbrev pub is_hole : ℕ → List (Value × Value) → ℕ → Bool
is_hole n ps k = nat_lt k n && is_nil (value_at ps (number (k + 1)))

-- The entries' flags stand where a value isn't nil, and those of the numbers up to that of entries where nothing is.
pub record IsIndexed (ps : List (Value × Value)) (live holes : List Bool) : Type 0 where
  pub marks_live : (k : ℕ) → flag_at live k ≡ flag_at (lives ps) k
  pub marks_holes : (k : ℕ) → flag_at holes k ≡ is_hole (length ps) ps k
  pub live_there : length ps ≤ length live
  pub holes_there : length ps ≤ length holes

-- The flags are those of the first n pairs and numbers.
pub record IsFlaggedTo (ps : List (Value × Value)) (live holes : List Bool) (n : ℕ) : Type 0 where
  pub marks_live : (k : ℕ) → flag_at live k ≡ (nat_lt k n && flag_at (lives ps) k)
  pub marks_holes : (k : ℕ) → flag_at holes k ≡ is_hole n ps k
  pub live_there : n ≤ length live
  pub holes_there : n ≤ length holes

-- the index among the first n numbers that a key has, if it is one of them
abbrev pub IsHoleOf : Value → ℕ → Option ℕ → Type 0
IsHoleOf key n None = (k : ℕ) → k < n → same (number (k + 1)) key ≡ false
IsHoleOf key n (Some k) = (k < n) × (key ≡ number (k + 1))

-- the first n keys are the numbers 1 to n in this order
abbrev pub IsInOrder : List (Value × Value) → ℕ → Type 0
IsInOrder ps n = (k : ℕ) → k < n → slice_get (keys_of ps) k ≡ Some (number (k + 1))

-- The keys are the numbers 1, 2, .. in this order, and no value is nil.
pub record IsFull (ps : List (Value × Value)) : Type 0 where
  pub ordered : IsInOrder ps (length ps)
  pub filled : (k : ℕ) → k < length ps → flag_at (lives ps) k ≡ true

-- the pairs are as their outline says
abbrev pub IsOutline : Outline → List (Value × Value) → List Bool → List Bool → Type 0
IsOutline Full ps live holes = IsFull ps × (live ≡ []) × (holes ≡ [])
IsOutline Flagged ps live holes = IsIndexed ps live holes
IsOutline Walked ps live holes = ⊤
