-- Methods that are looked up (Lua manual, 2.5.8).
use Rattle.std.specs.Prelude.{ℕ, List}
use Rattle.lua_values.specs.declared.values.Value.{Value}
use Rattle.lua_values.specs.declared.values.Value.TheVariants.{Text}
use Rattle.lua_meaning.specs.Works.{Places, Slots, Work, and_then}
use Rattle.lua_meaning.specs.Setting.{Setting}
use Rattle.lua_meaning.specs.Indexing.{index_work}
use Rattle.lua_frames.specs.declared.items.Item.{Item}
use Rattle.lua_frames.specs.Items.{resume_item}

-- the method of this name of an object, and then what an item does with it
abbrev pub method_then : Setting → ℕ → Value → List ℕ → Item → Places → Slots → Work
method_then S line object name item p s = and_then (index_work S line object (Text name) p s) (resume_item S item p)
