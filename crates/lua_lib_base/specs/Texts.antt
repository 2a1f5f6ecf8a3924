-- Texts that the library makes: each result text that is no argument and no table's content.
use Rattle.std.specs.Prelude.{ℕ, ◌+◌, List, [], ◌∷◌, length, Option}
use Rattle.lua_values.specs.declared.values.Value.TheVariants.{Text}
use Rattle.lua_values.specs.declared.faults.StoreFault.{StoreFault}
use Rattle.lua_values.specs.Heap.{Heap}
use Rattle.lua_values.specs.StoreCalls.{full_cause}
use Rattle.lua_lib_base.specs.Work.{making}
use Rattle.lua_lib_base.specs.Results.{LibraryResult, Gave, unless_refused}

-- why a text of n bytes is refused, and the heap once it is made: n + 16 units
abbrev pub text_cause : Heap → ℕ → Option StoreFault
text_cause heap n = full_cause heap (n + 16)

abbrev pub with_text : Heap → ℕ → Heap
with_text heap n = record heap { units = heap.units + (n + 16) }

-- a function gives a text that it makes
abbrev pub made_text : Heap → List ℕ → LibraryResult
made_text heap text = unless_refused (text_cause heap (length text)) heap (Gave (Text text ∷ []) (with_text heap (length text)) (making (length text)))
