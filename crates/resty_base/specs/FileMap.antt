-- Files as a map from names to bytes, and what a fetch returns.
use Rattle.std.specs.Prelude.{◌≡◌, ℕ, ◌≤◌, ◌<◌, Bool, true, false, List, length, Option, Some, None, IfSome}
use Rattle.resty_base.specs.Counting.{Rose}
use Rattle.resty_base.specs.declared.files.Fetched.{Fetched}
use Rattle.resty_base.specs.declared.files.Fetched.TheVariants.{Text, Missing, TooLong, Failed, Memory}

-- the bytes of each name that is there
abbrev pub FileMap : Type 0
FileMap = List ℕ → Option (List ℕ)

-- what contracts see of files
pub record FileAccount : Type 0 where
  -- what the files hold, where they report it
  pub told : Option FileMap
  -- for each name a count of faults, which rises where reading the file of that name fails
  pub faults : List ℕ → ℕ

-- the answer is a fault of reading
abbrev pub is_failed : Fetched → Bool
is_failed Failed = true
is_failed answer = false

-- what is returned for a file with these bytes, none where it is missing: its bytes where they are at most
-- `max`; a fault and out of memory may stand in place of any answer
abbrev pub IsAnswer : Option (List ℕ) → ℕ → Fetched → Type 0
IsAnswer (Some bytes) max (Text text) = (text ≡ bytes) × (length bytes ≤ max)
IsAnswer (Some bytes) max TooLong = max < length bytes
IsAnswer (Some bytes) max Missing = ⊥
IsAnswer None max (Text text) = ⊥
IsAnswer None max TooLong = ⊥
IsAnswer None max Missing = Unit {0}
IsAnswer file max Failed = Unit {0}
IsAnswer file max Memory = Unit {0}

-- where reading the file of this name failed, its count rose; where it didn't fail, no count did
abbrev pub FailsWhere : Bool → List ℕ → (List ℕ → ℕ) → (List ℕ → ℕ) → Type 0
FailsWhere true name before now = Rose (before name) (now name)
FailsWhere false name before now = (other : List ℕ) → now other ≡ before other

-- a fetch of at most `max` bytes of the file of this name gives this answer; the files stay as they were
pub record Answers (name : List ℕ) (max : ℕ) (answer : Fetched) (old new : FileAccount) : Type 0 where
  pub right : IfSome old.told (λ files. IsAnswer (files name) max answer)
  pub told : new.told ≡ old.told
  pub faults : FailsWhere (is_failed answer) name old.faults new.faults

-- no text is longer than `max`, also where the files report nothing
abbrev pub IsWithin : ℕ → Fetched → Type 0
IsWithin max (Text text) = length text ≤ max
IsWithin max answer = Unit {0}
