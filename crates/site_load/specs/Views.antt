-- The code's site as the definitions have it.
use Rattle.lua_run.specs.Answers.{Site}
use Rattle.lua_run.specs.Views.{site_seen}
use Rattle.lua_run.specs.declared.sites.Site as code
use Rattle.lua_threads.specs.declared.loaded.Loaded.{Loaded}
use Rattle.site_load.specs.Programs.{life_of}

abbrev pub site_of : {N : Type 0} → code.Site (Loaded N) → Site
site_of site = site_seen (λ machine. life_of machine.program) site
