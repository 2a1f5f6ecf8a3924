-- The names of types, as `type` gives them (Lua 5.1 Reference Manual, 5.1).
use Rattle.std.specs.Prelude.{ℕ, List, codes}
use Rattle.lua_operators.specs.declared.types.LuaType.{LuaType}
use Rattle.lua_operators.specs.declared.types.LuaType.TheVariants.{Nil, Boolean, Number, String, Table, Function, Thread, Userdata}

abbrev pub type_name : LuaType → List ℕ
type_name Nil = codes "nil"
type_name Boolean = codes "boolean"
type_name Number = codes "number"
type_name String = codes "string"
type_name Table = codes "table"
type_name Function = codes "function"
type_name Thread = codes "thread"
type_name Userdata = codes "userdata"
