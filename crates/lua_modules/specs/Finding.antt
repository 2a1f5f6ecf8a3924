-- The names of modules that are found, each once, in the order of finding.
use Rattle.std.specs.Prelude.{ℕ, ◌<◌, Bool, ◌||◌, List, [], ◌∷◌, ◌++◌, length, flat_map, bytes_eq, if◌then◌else◌}
use Rattle.std.specs.List.{list_any}
use Rattle.lua_linking.specs.Names.{Names, names_of}
use Rattle.lua_modules.specs.Sets.{has_module}
use Rattle.lua_modules.specs.declared.sets.ModuleSet.{ModuleSet}
use Rattle.lua_modules.specs.declared.file_faults.ModuleFileFault.{ModuleFileFault}
use Rattle.lua_modules.specs.declared.file_faults.ModuleFileFault.TheVariants.{TooMany, Memory}

-- how many modules a site may have that aren't built in
abbrev pub most_modules : ℕ
most_modules = 256

-- the name is that of a module of the set, as of one that is built in, or was found before
abbrev pub is_known : ModuleSet → Names → List ℕ → Bool
is_known set names name = has_module set.modules.items name || list_any (bytes_eq name) names

-- a name that isn't known is put last
abbrev pub with_name : ModuleSet → Names → List ℕ → Names
with_name set names name = if is_known set names name then names else names ++ name ∷ []

-- so is each of these, one after the other
abbrev pub with_names : ModuleSet → Names → Names → Names
with_names set names [] = names
with_names set names (name ∷ after) = with_names set (with_name set names name) after

-- so is each that a function requires
abbrev pub found_in : ModuleSet → Names → ℕ → Names
found_in set names function = with_names set names (names_of set.program.functions.items function)

-- what the blocks of a set require, in their order, but for the modules of the set
abbrev pub found_in_blocks : ModuleSet → Names
found_in_blocks set = with_names set [] (flat_map (names_of set.program.functions.items) set.blocks.items)

-- too many names were found, or memory ran out
abbrev pub IsOverLimit : Names → ModuleFileFault → Type 0
IsOverLimit names TooMany = most_modules < length names
IsOverLimit names Memory = Unit {0}
IsOverLimit names fault = ⊥
