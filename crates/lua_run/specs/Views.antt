-- The code's values as the definitions have them.
use Rattle.std.specs.Prelude.{ℕ, List, [], slice_get}
use Rattle.std.specs.Option.{option_map_or}
use Rattle.lua_machine.specs.Finishes.{Finish}
use Rattle.lua_values.specs.declared.values.Value.{Value}
use Rattle.lua_values.specs.declared.values.Value.TheVariants.{Nil, Closure}
use Rattle.lua_run.specs.declared.sites.Site as code
use Rattle.lua_run.specs.Answers.{Site}

-- the function of the handler of a number, by the closures of the blocks
abbrev pub handler_at : List ℕ → ℕ → Value
handler_at blocks number = option_map_or Closure (slice_get blocks number) Nil

-- by what comes of the threads of a machine
abbrev pub site_seen : {M : Type 0} → (M → Value → List Value → Finish) → code.Site M → Site
site_seen life site = record { conf = site.conf; handler = λ number. life site.machine (handler_at site.blocks number) []; store = site.store }
