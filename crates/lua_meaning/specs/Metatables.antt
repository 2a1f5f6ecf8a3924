-- Metatables (Lua 5.1 Reference Manual, 2.8): of a table its own, and of a text or an object that of its kind.
use Rattle.std.specs.Prelude.{ℕ, Bool, Option, Some, None, if◌then◌else◌}
use Rattle.lua_values.specs.declared.values.Value.{Value}
use Rattle.lua_values.specs.declared.values.Value.TheVariants as value
use Rattle.lua_values.specs.declared.kinds.TypeKind.TheVariants as kind
use Rattle.lua_values.specs.Heap.{Heap}
use Rattle.lua_values.specs.Values.{is_nil, same}
use Rattle.lua_values.specs.Pairs.{value_at}
use Rattle.lua_values.specs.StoreCalls.{table_of, pairs_of, type_metatable_of}
use Rattle.lua_operators.specs.declared.events.Event.{Event}
use Rattle.lua_operators.specs.declared.types.LuaType.TheVariants.{Function}
use Rattle.lua_operators.specs.Events.{key_of}
use Rattle.lua_operators.specs.Types.{type_of}
use Rattle.lua_operators.specs.OperandFaults.{same_type}

abbrev pub metatable_of : Heap → Value → Option ℕ
metatable_of h (value.Table t) = (table_of h t).meta
metatable_of h (value.Text text) = type_metatable_of h.metatables kind.Text
metatable_of h (value.Object k n) = type_metatable_of h.metatables (kind.Object k)
metatable_of h v = None

-- what a metatable has for an event, nil where it has nothing
abbrev pub handler_in : Heap → Option ℕ → Event → Value
handler_in h None event = value.Nil
handler_in h (Some t) event = value_at (pairs_of h t) (value.Text (key_of event))

-- the handler that a value has for an event
abbrev pub handler : Heap → Value → Event → Value
handler h v event = handler_in h (metatable_of h v) event

-- the handler of a binary operator: that of the first operand, or else of the second
abbrev pub handler_of_two : Heap → Value → Value → Event → Value
handler_of_two h a b event = if is_nil (handler h a event) then handler h b event else handler h a event

-- the handler of a comparison: the one that both operands have, where they are of one type
abbrev pub handler_of_both : Heap → Value → Value → Event → Value
handler_of_both h a b event =
    if same_type (type_of a) (type_of b) then (if same (handler h a event) (handler h b event) then handler h a event else value.Nil)
    else value.Nil

-- a handler of `__index` or `__newindex` is called if it is a function, and indexed if it isn't
abbrev pub is_function : Value → Bool
is_function v = same_type (type_of v) Function
