-- The functions of the host (Lua 5.1 Reference Manual, 5.1): numbers 0 to 4 are `pcall`, `xpcall`, `error`, `assert` and
-- `tostring`, and from 5 on they are those of the setting. Each counts a step for each 64 bytes of its text arguments.
use Rattle.std.specs.Prelude.{ℕ, ◌+◌, ◌-◌, ◌/◌, nat_lt, nat_eq, List, [], ◌∷◌, drop, length, sum_by, codes, ℤ, pos, negsuc, Option, Some, None, if◌then◌else◌}
use Rattle.lua_values.specs.declared.values.Value.{Value}
use Rattle.lua_values.specs.declared.values.Value.TheVariants.{Nil, Text}
use Rattle.lua_values.specs.NativeCalls.{NativeResult, Gives, Faults, Leaves}
use Rattle.lua_values.specs.Values.{is_nil}
use Rattle.lua_values.specs.Heap.{Heap, bytes_of_a_step}
use Rattle.lua_values.specs.StoreCalls.{is_full}
use Rattle.lua_operators.specs.declared.events.Event.TheVariants.{ToString}
use Rattle.lua_operators.specs.declared.faults.Fault.TheVariants.{StorageLimit}
use Rattle.lua_operators.specs.declared.faults.OperandFault.TheVariants as operand
use Rattle.lua_operators.specs.Conversions.{number_of, text_of}
use Rattle.lua_operators.specs.NamedFaults.{argument_text}
use Rattle.lua_operators.specs.TypeNames.{type_name}
use Rattle.lua_operators.specs.Types.{type_of, is_truthy}
use Rattle.lua_meaning.specs.declared.resumes.Resumed.{Resumed}
use Rattle.lua_meaning.specs.declared.resumes.Resumed.TheVariants as resumed
use Rattle.lua_meaning.specs.Works.{Caller, Slots, Failed, Work, End, Outside, Look, Write, Count}
use Rattle.lua_meaning.specs.Setting.{Setting}
use Rattle.lua_meaning.specs.Positions.{position_of, raise, raise_fault, raise_operand}
use Rattle.lua_meaning.specs.Signs.{first, give, give_one}
use Rattle.lua_meaning.specs.Metatables.{handler}
use Rattle.lua_meaning.specs.Concatenation.{text_length, with_text}
use Rattle.lua_meaning.specs.Calls.{call_for_one}
use Rattle.lua_meaning.specs.ProtectedCalls.{raise_missing, pcall_work, xpcall_work}

-- the bytes of the texts among some values
abbrev pub texts_length : List Value → ℕ
texts_length vs = sum_by text_length vs

-- a text is raised after the position of these callers, and any other value as it is
abbrev pub raise_value : Setting → List Caller → Value → Slots → Work
raise_value S callers (Text text) s = raise S callers text s
raise_value S callers v s = End (Failed v) s

-- `error(v, level)`: level n is the n-th Lua function from inside, and below 1 there is no position
abbrev pub raise_at : Setting → List Caller → Option ℤ → Value → Value → Slots → Work
raise_at S callers (Some (pos n)) level v s = if nat_eq n 0 then End (Failed v) s else raise_value S (drop (n - 1) callers) v s
raise_at S callers (Some (negsuc n)) level v s = End (Failed v) s
raise_at S callers None level v s = raise S callers (argument_text 2 (codes "error") (codes "number") (type_name (type_of level))) s

abbrev pub error_work : Setting → List Value → List Caller → Slots → Work
error_work S args callers s =
    raise_at S callers (if is_nil (first (drop 1 args)) then Some (pos 1) else number_of (first (drop 1 args))) (first (drop 1 args)) (first args) s

-- `assert(v, message)`
abbrev pub assert_work : Setting → List Value → List Caller → Slots → Work
assert_work S [] callers s = raise_missing S callers 1 (codes "assert") s
assert_work S (v ∷ more) callers s =
    if is_truthy v then give (v ∷ more) s
    else if is_nil (first more) then raise S callers (codes "assertion failed!") s
    else raise_value S callers (first more) s

-- the text of a value: a text is its own, and any other is made, which counts its bytes with those that were taken
abbrev pub make_text_of : Setting → List Caller → ℕ → Heap → Value → Slots → Work
make_text_of S callers taken h (Text text) s = Count (taken / bytes_of_a_step) (give_one (Text text) s)
make_text_of S callers taken h v s =
    if is_full h (length (text_of v) + 16) then Count (taken / bytes_of_a_step) (raise_fault S callers StorageLimit s)
    else Count ((taken + length (text_of v)) / bytes_of_a_step) (Write (with_text h (length (text_of v))) (give_one (Text (text_of v)) s))

-- `tostring(v)`: what the metatable's handler gives, or else its text
abbrev pub tostring_work : Setting → List Value → List Caller → Slots → Work
tostring_work S [] callers s = raise_missing S callers 1 (codes "tostring") s
tostring_work S (v ∷ more) callers s =
    Look (λ h. if is_nil (handler h v ToString) then make_text_of S callers (texts_length (v ∷ more)) h v s
    else Count (texts_length (v ∷ more) / bytes_of_a_step) (call_for_one callers (handler h v ToString) (v ∷ []) s give_one))

-- what the outside gives a call in the end
abbrev pub answer_of : Setting → List Caller → Slots → Resumed → Work
answer_of S callers s (resumed.Values vs) = give vs s
answer_of S callers s (resumed.Raise text) = raise S callers text s

-- what a function of the setting means: it leaves a heap and counts its steps, or leaves its answer to the outside
abbrev pub result_work : Setting → ℕ → List Value → List Caller → NativeResult → Slots → Work
result_work S number args callers (Gives vs h n) s = Write h (Count n (give vs s))
result_work S number args callers (Faults v h n) s = Write h (Count n (raise_value S callers v s))
result_work S number args callers (Leaves n) s = Count n (Outside number args (position_of S callers) (answer_of S callers s))

-- a function of the setting, if its number is there
abbrev pub library_work : Setting → ℕ → List Value → List Caller → Slots → Work
library_work S number args callers s =
    if nat_lt number S.count then Look (λ h. result_work S number args callers (S.lib number args h) s)
    else raise_operand S callers (operand.Call (type_of Nil)) s

abbrev pub native_work : Setting → ℕ → List Value → List Caller → Slots → Work
native_work S n args callers s =
    if nat_eq n 0 then Count (texts_length args / bytes_of_a_step) (pcall_work S args callers s)
    else if nat_eq n 1 then Count (texts_length args / bytes_of_a_step) (xpcall_work S args callers s)
    else if nat_eq n 2 then Count (texts_length args / bytes_of_a_step) (error_work S args callers s)
    else if nat_eq n 3 then Count (texts_length args / bytes_of_a_step) (assert_work S args callers s)
    else if nat_eq n 4 then tostring_work S args callers s
    else library_work S (n - 5) args callers s
