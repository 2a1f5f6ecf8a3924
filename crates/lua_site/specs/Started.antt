-- What a start of a site answers: a form of this project.
use Rattle.std.specs.Prelude.{ℕ, List, Result}
use Rattle.lua_values.specs.Heap.{StoreView}
use Rattle.lua_site.specs.declared.faults.LuaSiteFault.{LuaSiteFault}
use Rattle.lua_site.specs.declared.sites.LuaSite.{LuaSite}
use Rattle.lua_site.specs.Making.{Gives}
use Rattle.lua_site.specs.Starting.{Start}

abbrev pub start_with : StoreView → List ℕ → Start
start_with store blocks = record { store = store; blocks = blocks }

abbrev pub start_of : LuaSite → Start
start_of site = start_with site.store site.blocks.items

-- it is the start that is meant, or the message with which this is refused, or memory ran out
abbrev pub IsStart : Result Start (List ℕ) → Result LuaSite LuaSiteFault → Type 0
IsStart meant result = Gives meant start_of result
