-- `..` (Lua 5.1 Reference Manual, 2.5.4), and the units of texts that are made.
use Rattle.std.specs.Prelude.{ℕ, ◌+◌, ◌/◌, List, [], ◌∷◌, length}
use Rattle.lua_values.specs.declared.values.Value.{Value}
use Rattle.lua_values.specs.declared.values.Value.TheVariants.{Text}
use Rattle.lua_values.specs.Heap.{Heap, bytes_of_a_step}
use Rattle.lua_values.specs.StoreCalls.{full_cause}
use Rattle.lua_operators.specs.declared.outcome.Outcome.{Outcome}
use Rattle.lua_operators.specs.declared.outcome.Outcome.TheVariants.{Gives, NeedsEvent, Faults}
use Rattle.lua_operators.specs.declared.events.Event.TheVariants.{Concat}
use Rattle.lua_operators.specs.Concatenation.{concatenated}
use Rattle.lua_operators.specs.OperandFaults.{concatenation_fault}
use Rattle.lua_meaning.specs.Works.{Caller, Slots, Work, Count, Look, Write}
use Rattle.lua_meaning.specs.Setting.{Setting}
use Rattle.lua_meaning.specs.Signs.{give_one}
use Rattle.lua_meaning.specs.Variables.{table_fault, unless_refused}
use Rattle.lua_meaning.specs.Metatables.{handler_of_two}
use Rattle.lua_meaning.specs.Arithmetic.{handled, outcome_work}

-- how many bytes of text a value has; of what is no text none
abbrev pub text_length : Value → ℕ
text_length (Text text) = length text
text_length v = 0

-- a text of n bytes that is made takes n + 16 units
abbrev pub with_text : Heap → ℕ → Heap
with_text h n = record h { units = h.units + (n + 16) }

abbrev pub make_text : Setting → List Caller → ℕ → Slots → Work → Work
make_text S callers n s go = Look (λ h. unless_refused S callers table_fault (full_cause h (n + 16)) s (Write (with_text h n) go))

-- two texts are joined: a step for each 64 bytes that are taken or made, and then the units of what is made
abbrev pub joined : Setting → List Caller → ℕ → Outcome → Slots → Work → Work
joined S callers taken (Gives v) s event = Count ((taken + text_length v) / bytes_of_a_step) (make_text S callers (text_length v) s (give_one v s))
joined S callers taken NeedsEvent s event = event
joined S callers taken (Faults fault) s event = outcome_work S callers (Faults fault) s event

-- `a .. b`
abbrev pub concatenation_work : Setting → List Caller → Value → Value → Slots → Work
concatenation_work S callers a b s =
    joined S callers (text_length a + text_length b) (concatenated a b) s
    (Look (λ h. handled S callers (handler_of_two h a b Concat) (a ∷ b ∷ []) (concatenation_fault a b) s))
