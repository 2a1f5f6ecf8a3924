-- The key of each event in a metatable (Lua 5.1 Reference Manual, 2.8; `__tostring` and `__metatable` are of 5.1).
use Rattle.std.specs.Prelude.{ℕ, List, codes}
use Rattle.lua_operators.specs.declared.events.Event.{Event}
use Rattle.lua_operators.specs.declared.events.Event.TheVariants.{Index, NewIndex, Call, Add, Sub, Mul, Div, Mod, Pow, Unm}
use Rattle.lua_operators.specs.declared.events.Event.TheVariants.{Concat, Eq, Lt, Le, ToString, Metatable}

abbrev pub key_of : Event → List ℕ
key_of Index = codes "__index"
key_of NewIndex = codes "__newindex"
key_of Call = codes "__call"
key_of Add = codes "__add"
key_of Sub = codes "__sub"
key_of Mul = codes "__mul"
key_of Div = codes "__div"
key_of Mod = codes "__mod"
key_of Pow = codes "__pow"
key_of Unm = codes "__unm"
key_of Concat = codes "__concat"
key_of Eq = codes "__eq"
key_of Lt = codes "__lt"
key_of Le = codes "__le"
key_of ToString = codes "__tostring"
key_of Metatable = codes "__metatable"
