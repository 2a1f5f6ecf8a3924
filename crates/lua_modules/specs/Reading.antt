-- The order in which the modules of a site are read, and why reading stops.
use Rattle.std.specs.Prelude.{◌≡◌, ◌≢◌, ℕ, ◌+◌, ◌<◌, ◌≤◌, List, length, slice_get, Some}
use Rattle.resty_base.specs.FileMap.{FileMap}
use Rattle.lua_linking.specs.Names.{Names}
use Rattle.lua_modules.specs.Files.{file_of}
use Rattle.lua_modules.specs.Sets.{Adds, IsUnchanged, next_function}
use Rattle.lua_modules.specs.Texts.{IsTextFault}
use Rattle.lua_modules.specs.declared.faults.ModuleFault.{ModuleFault}
use Rattle.lua_modules.specs.declared.faults.ModuleFault.TheVariants as chunk
use Rattle.lua_modules.specs.declared.sets.ModuleSet.{ModuleSet}
use Rattle.lua_modules.specs.TextsOfFiles.{HoldsModule, IsUnread}
use Rattle.lua_modules.specs.Finding.{most_modules, found_in, found_in_blocks}
use Rattle.lua_modules.specs.declared.file_faults.ModuleFileFault.{ModuleFileFault}
use Rattle.lua_modules.specs.declared.file_faults.ModuleFileFault.TheVariants.{Refused, TooMany, Memory}

-- how far reading is: the set, the names that were found, and for how many of them the module was read
pub record Progress : Type 0 where
  pub set : ModuleSet
  pub names : Names
  pub read : ℕ

abbrev pub progress : ModuleSet → Names → ℕ → Progress
progress set names read = record { set = set; names = names; read = read }

-- the names that the blocks require are found first
abbrev pub start : ModuleSet → Progress
start set = progress set (found_in_blocks set) 0

-- the module of this name is added by the text of its file
pub record ReadsModule (held : FileMap) (pattern name : List ℕ) (old new : ModuleSet) : Type 0 where
  pub text : List ℕ
  pub holds : HoldsModule held (file_of pattern name) text
  pub adds : Adds name (file_of pattern name) text old new

-- the module of this name is read next; no more are found than a site may have
pub record IsNext (at : Progress) (name : List ℕ) : Type 0 where
  pub few : length at.names ≤ most_modules
  pub next : slice_get at.names at.read ≡ Some name

-- the module of the next name is read, and what it requires is found
pub record ReadsNext (held : FileMap) (pattern : List ℕ) (old new : Progress) : Type 0 where
  pub name : List ℕ
  pub next : IsNext old name
  pub reads : ReadsModule held pattern name old.set new.set
  pub names : new.names ≡ found_in new.set old.names (next_function old.set)
  pub count : new.read ≡ old.read + 1

-- modules are read one after the other
pub data Reads (held : FileMap) (pattern : List ℕ) (old : Progress) : Progress → Type 0 where
  none : Reads held pattern old old
  more : {mid new : Progress} → Reads held pattern old mid → ReadsNext held pattern mid new → Reads held pattern old new

-- each module is read that the blocks of a set require, or that one of these requires
pub record ReadsModules (held : FileMap) (pattern : List ℕ) (old new : ModuleSet) : Type 0 where
  pub names : Names
  pub few : length names ≤ most_modules
  pub reads : Reads held pattern (start old) (progress new names (length names))

-- the text of the file is no chunk
pub record IsRefused (held : FileMap) (file : List ℕ) (fault : ModuleFault) : Type 0 where
  pub text : List ℕ
  pub holds : HoldsModule held file text
  pub refused : IsTextFault 1 text fault
  pub known : fault ≢ chunk.Memory

-- the fault of the text of this file
abbrev pub refusal : List ℕ → ModuleFault → ModuleFileFault
refusal file chunk.Memory = Memory
refusal file fault = Refused file fault

-- why there is no module in this file
abbrev pub HasNoModule : FileMap → List ℕ → ModuleFileFault → Type 0
HasNoModule held file (Refused f fault) = (f ≡ file) × IsRefused held file fault
HasNoModule held file fault = IsUnread held file fault

-- why reading goes no further: too many names were found, or there is no module in the file of the next
abbrev pub IsStuck : FileMap → List ℕ → Progress → ModuleFileFault → Type 0
IsStuck held pattern at TooMany = most_modules < length at.names
IsStuck held pattern at Memory = Unit {0}
IsStuck held pattern at fault = (name : List ℕ) × IsNext at name × HasNoModule held (file_of pattern name) fault

-- from here modules are read until it goes no further, which leaves this set
pub record Stops (held : FileMap) (pattern : List ℕ) (old : Progress) (new : ModuleSet) (fault : ModuleFileFault) : Type 0 where
  pub at : Progress
  pub reads : Reads held pattern old at
  pub stuck : IsStuck held pattern at fault
  pub left : IsUnchanged at.set new
