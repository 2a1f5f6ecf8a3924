-- Lists of flags, and where in them the next one is that stands: a form of this project.
use Rattle.std.specs.Prelude.{◌≡◌, ℕ, suc, ◌<◌, ◌≤◌, ◌/◌, Bool, true, false, List, [], ◌∷◌, length, Option, Some, None, if◌then◌else◌, slice_index_or}
use Rattle.std.specs.Prelude.{slice_set}

-- the flag at an index, which doesn't stand after the last
abbrev pub flag_at : List Bool → ℕ → Bool
flag_at flags index = slice_index_or flags index false

-- the flag at the index stands, and none does from an index on and before it
pub record IsFirstAt (flags : List Bool) (from index : ℕ) : Type 0 where
  pub later : from ≤ index
  pub stands : flag_at flags index ≡ true
  pub before : (k : ℕ) → from ≤ k → k < index → flag_at flags k ≡ false

-- the first index from one on at which a flag stands, if there is any
abbrev pub IsFirstFrom : List Bool → ℕ → Option ℕ → Type 0
IsFirstFrom flags from None = (k : ℕ) → from ≤ k → flag_at flags k ≡ false
IsFirstFrom flags from (Some index) = IsFirstAt flags from index

-- the same of indices before an end
abbrev pub IsFirstWithin : List Bool → ℕ → ℕ → Option ℕ → Type 0
IsFirstWithin flags from end None = (k : ℕ) → from ≤ k → k < end → flag_at flags k ≡ false
IsFirstWithin flags from end (Some index) = (index < end) × IsFirstAt flags from index

-- no flag of the block of 32 stands
abbrev pub IsBlank : List Bool → ℕ → Type 0
IsBlank flags block = (k : ℕ) → k / 32 ≡ block → flag_at flags k ≡ false

-- the upper list has the flag of each block of the lower one: it stands where a flag of the block does
pub record IsSummary (lower upper : List Bool) : Type 0 where
  pub covers : (k : ℕ) → k < length lower → k / 32 < length upper
  pub marks : (k : ℕ) → flag_at lower k ≡ true → flag_at upper (k / 32) ≡ true
  pub holds : (block : ℕ) → flag_at upper block ≡ true → IsBlank lower block → ⊥

-- a flag that is set where an index is given
abbrev pub with_flag : List Bool → Option ℕ → Bool → List Bool
with_flag flags None flag = flags
with_flag flags (Some index) flag = slice_set flags index flag

-- how many flags stand
abbrev pub count_standing : List Bool → ℕ
count_standing [] = 0
count_standing (flag ∷ flags) = if flag then suc (count_standing flags) else count_standing flags
