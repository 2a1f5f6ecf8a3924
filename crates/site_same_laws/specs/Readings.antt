-- What readings of modules agree in, which begin with sets that are the same.
use Rattle.std.specs.Prelude.{◌≡◌, ℕ, Bool, true, false, List}
use Rattle.resty_base.specs.FileMap.{FileMap}
use Rattle.lua_modules.specs.declared.sets.ModuleSet.{ModuleSet}
use Rattle.lua_modules.specs.Reading.{ReadsModules, Stops, start}
use Rattle.lua_modules.specs.declared.file_faults.ModuleFileFault.{ModuleFileFault}
use Rattle.lua_modules.specs.declared.file_faults.ModuleFileFault.TheVariants.{Missing, TooLong, Unreadable, Memory}
use Rattle.site_same_laws.specs.SameSet.{SameSet}

-- they leave sets that are the same
abbrev pub ReadingsAgree : Type 0
ReadingsAgree =
    (files : FileMap) (pattern : List ℕ) (a b a' b' : ModuleSet)
    → SameSet a b → ReadsModules files pattern a a' → ReadsModules files pattern b b' → SameSet a' b'

-- the files say why reading goes no further
abbrev pub IsOfFiles : ModuleFileFault → Type 0
IsOfFiles (Unreadable file) = ⊥
IsOfFiles Memory = ⊥
IsOfFiles fault = Unit {0}

-- a file isn't there, or is too long
abbrev pub lacks_text : ModuleFileFault → Bool
lacks_text (Missing file) = true
lacks_text (TooLong file) = true
lacks_text fault = false

-- what can be read isn't refused
abbrev pub NoReadingIsRefused : Type 0
NoReadingIsRefused =
    (files : FileMap) (pattern : List ℕ) (a b a' left : ModuleSet) (fault : ModuleFileFault)
    → SameSet a b → ReadsModules files pattern a a' → Stops files pattern (start b) left fault → IsOfFiles fault → ⊥

-- and what is refused is so for one kind of reason
abbrev pub RefusalsAreAlike : Type 0
RefusalsAreAlike =
    (files : FileMap) (pattern : List ℕ) (a b left left' : ModuleSet) (fault other : ModuleFileFault)
    → SameSet a b → Stops files pattern (start a) left fault → Stops files pattern (start b) left' other → IsOfFiles fault → IsOfFiles other
    → lacks_text fault ≡ lacks_text other
