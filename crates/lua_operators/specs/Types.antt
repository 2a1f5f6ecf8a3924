-- The types of values and their truth (Lua 5.1 Reference Manual, 2.2).
use Rattle.std.specs.Prelude.{Bool, true, false}
use Rattle.lua_values.specs.declared.values.Value.{Value}
use Rattle.lua_values.specs.declared.values.Value.TheVariants.{Nil, Truth, Number, Text, Table, Closure, Native, Thread, Null, Object}
use Rattle.lua_values.specs.declared.values.ObjectKind.TheVariants.{Socket, Reader, Semaphore, Zone}
use Rattle.lua_operators.specs.declared.types.LuaType.{LuaType}
use Rattle.lua_operators.specs.declared.types.LuaType.TheVariants as types

-- the type of a value: what a program can call is a function, and all else of the host is userdata
abbrev pub type_of : Value → LuaType
type_of Nil = types.Nil
type_of (Truth truth) = types.Boolean
type_of (Number n) = types.Number
type_of (Text text) = types.String
type_of (Table t) = types.Table
type_of (Closure c) = types.Function
type_of (Native n) = types.Function
type_of (Thread n) = types.Thread
type_of Null = types.Userdata
type_of (Object Reader n) = types.Function
type_of (Object Socket n) = types.Userdata
type_of (Object Semaphore n) = types.Userdata
type_of (Object Zone n) = types.Userdata

-- a condition takes nil and false for false, and any other value for true
abbrev pub is_truthy : Value → Bool
is_truthy Nil = false
is_truthy (Truth truth) = truth
is_truthy value = true
