-- What sets that are the same but for where their parts stand in memory lead to.
use Rattle.std.specs.Prelude.{◌≡◌, ℕ, List, Option}
use Rattle.lua_values.specs.declared.values.Value.{Value}
use Rattle.lua_values.specs.NativeCalls.{Meaning}
use Rattle.lua_meaning.specs.Evaluator.{Resume}
use Rattle.lua_meaning.specs.Life.{life}
use Rattle.lua_modules.specs.Sets.{Adds, AddsBlock, Lists, lists_of}
use Rattle.lua_modules.specs.declared.sets.ModuleSet.{ModuleSet}
use Rattle.lua_site.specs.Calls.{Life}
use Rattle.lua_site.specs.Starting.{started}
use Rattle.site_same_laws.specs.Programs.{in_setting}
use Rattle.site_same_laws.specs.SameSet.{SameSet}

-- a module, a prelude or a block that is added to the same sets leaves the same sets
abbrev pub ModulesKeepSetsSame : Type 0
ModulesKeepSetsSame =
    (name file text : List ℕ) (a a' b b' : ModuleSet) → SameSet a b → Adds name file text a a' → Adds name file text b b' → SameSet a' b'

abbrev pub BlocksKeepSetsSame : Type 0
BlocksKeepSetsSame =
    (file : List ℕ) (line : ℕ) (text : List ℕ) (a a' b b' : ModuleSet)
    → SameSet a b → AddsBlock file line text a a' → AddsBlock file line text b b' → SameSet a' b'

-- each thread comes to the same by both
abbrev pub AreEqualLives : Life → Life → Type 0
AreEqualLives life other = (f : Value) (args : List Value) (resumes : List Resume) → life f args resumes ≡ other f args resumes

-- by equal lives a site starts alike: with equal stores and blocks, or with one message
abbrev pub EqualLivesStartAlike : Type 0
EqualLivesStartAlike =
    (life other : Life) (natives : ℕ) (lists : Lists) (init : Option ℕ) → AreEqualLives life other
    → started life natives lists init ≡ started other natives lists init

-- the lives of a set's program with functions of the host
abbrev pub life_of : ModuleSet → ℕ → Meaning → Life
life_of set count lib = life (in_setting set.program count lib)

abbrev pub SameSetsStartAlike : Type 0
SameSetsStartAlike =
    (a b : ModuleSet) (count : ℕ) (lib : Meaning) (natives : ℕ) (init : Option ℕ) → SameSet a b
    → started (life_of a count lib) natives (lists_of a) init ≡ started (life_of b count lib) natives (lists_of b) init
