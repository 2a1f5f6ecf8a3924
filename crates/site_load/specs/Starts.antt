-- How a site starts that has these chunks.
use Rattle.std.specs.Prelude.{◌≡◌, ℕ, nat_lt, List, length, [], Option, Some, None, Result, Ok, Err, if◌then◌else◌}
use Rattle.conf.specs.declared.sites.Conf.{Conf}
use Rattle.lua_ast.specs.declared.programs.Program.{Program}
use Rattle.lua_modules.specs.Sets.{Lists, lists_of}
use Rattle.lua_modules.specs.declared.sets.ModuleSet.{ModuleSet}
use Rattle.lua_run.specs.Answers.{Site}
use Rattle.lua_run.specs.Views.{handler_at}
use Rattle.lua_site.specs.Starting.{Start, started}
use Rattle.site_load.specs.Programs.{life_of, natives_of}
use Rattle.site_load.specs.declared.faults.SiteFault.{SiteFault}
use Rattle.site_load.specs.declared.faults.SiteFault.TheVariants.{Init, Memory}

-- the init block, if it is one of so many
abbrev pub init_among : ℕ → Option ℕ → Option ℕ
init_among count None = None
init_among count (Some block) = if nat_lt block count then Some block else None

-- the start of a program with these chunks
unfoldable pub start_of : Conf → Program → Lists → Result Start (List ℕ)
start_of conf program lists = started (life_of program) (natives_of program) lists (init_among (length lists.blocks) conf.init)

-- the site that has started so
abbrev pub site_with : Conf → Program → Start → Site
site_with conf program start = record {
  conf = conf;
  handler = λ number. life_of program (handler_at start.blocks number) [];
  store = start.store;
}

-- the site of a set starts as this one
pub record StartsAs (conf : Conf) (set : ModuleSet) (site : Site) : Type 0 where
  pub start : Start
  pub begins : start_of conf set.program (lists_of set) ≡ Ok start
  pub is : site ≡ site_with conf set.program start

-- it doesn't start: a prelude or its init block failed with this message
abbrev pub FailsToStart : Conf → ModuleSet → List ℕ → Type 0
FailsToStart conf set message = start_of conf set.program (lists_of set) ≡ Err message

-- why a site doesn't start
abbrev pub IsStartFault : Conf → ModuleSet → SiteFault → Type 0
IsStartFault conf set (Init message) = FailsToStart conf set message
IsStartFault conf set Memory = Unit {0}
IsStartFault conf set fault = ⊥
