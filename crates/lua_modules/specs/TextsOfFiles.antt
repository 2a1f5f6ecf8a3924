-- The files of modules, and what reading one gives.
use Rattle.std.specs.Prelude.{◌≡◌, ℕ, ◌≤◌, ◌<◌, List, length, Some, None, Result, Err, if◌then◌else◌}
use Rattle.std.specs.Str.{is_utf8}
use Rattle.resty_base.specs.Counting.{Rose}
use Rattle.resty_base.specs.FileMap.{FileMap, FileAccount}
use Rattle.lua_modules.specs.declared.file_faults.ModuleFileFault.{ModuleFileFault}
use Rattle.lua_modules.specs.declared.file_faults.ModuleFileFault.TheVariants.{Missing, TooLong, Unreadable, Memory}

-- how many bytes the file of a module may have
abbrev pub most_bytes : ℕ
most_bytes = 1_048_576

-- the file of this name holds this text, of at most so many bytes
pub record Holds (files : FileMap) (name : List ℕ) (most : ℕ) (text : List ℕ) : Type 0 where
  pub here : files name ≡ Some text
  pub short : length text ≤ most

-- the file of this name has more than so many bytes
pub record IsTooLong (files : FileMap) (name : List ℕ) (most : ℕ) : Type 0 where
  pub text : List ℕ
  pub here : files name ≡ Some text
  pub long : most < length text

-- the files of modules; a name that isn't UTF-8 is that of no file
abbrev pub file_in : FileMap → FileMap
file_in held file = if is_utf8 file then held file else None

-- the file holds the text of a module
abbrev pub HoldsModule : FileMap → List ℕ → List ℕ → Type 0
HoldsModule held file text = Holds (file_in held) file most_bytes text

-- why there is no text of this file
abbrev pub IsUnread : FileMap → List ℕ → ModuleFileFault → Type 0
IsUnread held file (Missing f) = (f ≡ file) × (file_in held file ≡ None)
IsUnread held file (TooLong f) = (f ≡ file) × IsTooLong (file_in held) file most_bytes
IsUnread held file (Unreadable f) = f ≡ file
IsUnread held file Memory = Unit {0}
IsUnread held file other = ⊥

-- reading brought no fault
pub record ReadsWell (old new : FileAccount) : Type 0 where
  pub told : new.told ≡ old.told
  pub faults : (name : List ℕ) → new.faults name ≡ old.faults name

-- where the answer names a file that can't be read, reading it failed; any other brought no fault
abbrev pub Fares : {T : Type 0} → Result T ModuleFileFault → FileAccount → FileAccount → Type 0
Fares (Err (Unreadable file)) old new = Rose (old.faults file) (new.faults file)
Fares answer old new = ReadsWell old new
