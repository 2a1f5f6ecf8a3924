-- Parts of `tostring`.
use Rattle.std.specs.Prelude.{◌≡◌, ℕ, ◌+◌, ◌-◌, ◌/◌, ◌^◌, List, [], ◌∷◌, length, min, if◌then◌else◌}
use Rattle.lua_values.specs.declared.values.Value.{Value}
use Rattle.lua_values.specs.declared.values.Value.TheVariants.{Text}
use Rattle.lua_values.specs.Heap.{Heap, bytes_of_a_step}
use Rattle.lua_values.specs.StoreCalls.{is_full}
use Rattle.lua_values.specs.Values.{is_nil}
use Rattle.lua_operators.specs.declared.events.Event.TheVariants.{ToString}
use Rattle.lua_operators.specs.declared.faults.Fault.TheVariants.{StorageLimit}
use Rattle.lua_meaning.specs.Works.{Caller, Slots, Work, Look, Write, Count}
use Rattle.lua_meaning.specs.Setting.{Setting}
use Rattle.lua_meaning.specs.Positions.{raise_fault}
use Rattle.lua_meaning.specs.Signs.{give_one}
use Rattle.lua_meaning.specs.Metatables.{handler}
use Rattle.lua_meaning.specs.Concatenation.{with_text}
use Rattle.lua_meaning.specs.Calls.{call_for_one}
use Rattle.lua_meaning.specs.Natives.{make_text_of}

-- a count of bytes, of which no more are told than a number of the machine holds
pub record Told (bytes told : ℕ) : Type 0 where
  pub is : told ≡ min bytes (2 ^ 64 - 1)

-- `tostring` of a value, with arguments of so many bytes of text
abbrev pub tostring_of : Setting → List Caller → ℕ → Value → Slots → Work
tostring_of S callers bytes v s =
    Look (λ h. if is_nil (handler h v ToString) then make_text_of S callers bytes h v s
    else Count (bytes / bytes_of_a_step) (call_for_one callers (handler h v ToString) (v ∷ []) s give_one))

-- a text that is made, whose bytes are counted with those that were taken
abbrev pub text_made : Setting → List Caller → ℕ → Heap → List ℕ → Slots → Work
text_made S callers taken h text s =
    if is_full h (length text + 16) then Count (taken / bytes_of_a_step) (raise_fault S callers StorageLimit s)
    else Count ((taken + length text) / bytes_of_a_step) (Write (with_text h (length text)) (give_one (Text text) s))
