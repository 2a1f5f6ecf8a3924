-- `t[k]` and `t[k] = x` (Lua 5.1 Reference Manual, 2.3 and, for `__index` and `__newindex`, 2.8).
use Rattle.std.specs.Prelude.{ℕ, Bool, true, false, List, [], ◌∷◌, if◌then◌else◌}
use Rattle.lua_values.specs.declared.values.Value.{Value}
use Rattle.lua_values.specs.declared.values.Value.TheVariants.{Nil, Table}
use Rattle.lua_values.specs.Heap.{Heap}
use Rattle.lua_values.specs.Values.{is_nil}
use Rattle.lua_values.specs.Pairs.{value_at}
use Rattle.lua_values.specs.StoreCalls.{pairs_of, set_cause, with_pair}
use Rattle.lua_operators.specs.declared.events.Event.TheVariants.{Index, NewIndex}
use Rattle.lua_operators.specs.declared.faults.OperandFault.TheVariants as operand
use Rattle.lua_operators.specs.Types.{type_of}
use Rattle.lua_meaning.specs.Works.{Caller, Places, Slots, AnIndex, AStore, Work, End, Eval, Look, Write}
use Rattle.lua_meaning.specs.Setting.{Setting}
use Rattle.lua_meaning.specs.Positions.{callers_at, raise_operand}
use Rattle.lua_meaning.specs.Signs.{give, give_one}
use Rattle.lua_meaning.specs.Variables.{table_fault, unless_refused}
use Rattle.lua_meaning.specs.Metatables.{handler, is_function}
use Rattle.lua_meaning.specs.Calls.{call_for_one}

-- what a value has at a key by itself; only a table has anything
abbrev pub raw_value : Heap → Value → Value → Value
raw_value h (Table t) key = value_at (pairs_of h t) key
raw_value h v key = Nil

abbrev pub is_table : Value → Bool
is_table (Table t) = true
is_table v = false

-- with a handler for what the value hasn't: a function is called, and any other is indexed in turn
abbrev pub index_by : Value → ℕ → Value → Value → Places → Slots → Work
index_by by line v key p s =
    if is_function by then call_for_one (callers_at p line) by (v ∷ key ∷ []) s give_one
    else Eval (AnIndex line by key) p s (λ sign s'. End sign s')

-- without a value at the key: nil of a table without a handler, and a fault of what is no table
abbrev pub index_without : Setting → Value → ℕ → Value → Value → Places → Slots → Work
index_without S by line v key p s =
    if is_nil by
    then (if is_table v then give_one Nil s else raise_operand S (callers_at p line) (operand.Index (type_of v)) s)
    else index_by by line v key p s

-- `v[key]` at a line
abbrev pub index_work : Setting → ℕ → Value → Value → Places → Slots → Work
index_work S line v key p s =
    Look (λ h. if is_nil (raw_value h v key) then index_without S (handler h v Index) line v key p s else give_one (raw_value h v key) s)

-- sets the value at a key of a table, whatever its metatable
abbrev pub set_work : Setting → List Caller → ℕ → Value → Value → Slots → Work → Work
set_work S callers t key x s go = Look (λ h. unless_refused S callers table_fault (set_cause h t key x) s (Write (with_pair h t key x) go))

abbrev pub set_raw : Setting → ℕ → Value → Value → Value → Places → Slots → Work
set_raw S line (Table t) key x p s = set_work S (callers_at p line) t key x s (give [] s)
set_raw S line v key x p s = raise_operand S (callers_at p line) (operand.Index (type_of v)) s

-- with a handler for a key that isn't there: a function is called, and any other is written in turn
abbrev pub store_by : Value → ℕ → Value → Value → Value → Places → Slots → Work
store_by by line v key x p s =
    if is_function by then call_for_one (callers_at p line) by (v ∷ key ∷ x ∷ []) s (λ dropped s'. give [] s')
    else Eval (AStore line by key x) p s (λ sign s'. End sign s')

-- `v[key] = x` at a line: a key that is there is set, and so is any key where there is no handler
abbrev pub store_work : Setting → ℕ → Value → Value → Value → Places → Slots → Work
store_work S line v key x p s =
    Look (λ h. if is_nil (raw_value h v key)
    then (if is_nil (handler h v NewIndex) then set_raw S line v key x p s else store_by (handler h v NewIndex) line v key x p s)
    else set_raw S line v key x p s)
