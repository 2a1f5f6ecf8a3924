-- The values of Lua (Lua 5.1 Reference Manual, section 2.2).
use Rattle.std.specs.Prelude.{ℕ, Bool, true, false, [], ◌∷◌, pos}
use Rattle.std.specs.Hash as fed
use Rattle.lua_values.specs.declared.values.Value.{Value}
use Rattle.lua_values.specs.declared.values.Value.TheVariants.{Nil, Truth, Number, Text, Table, Closure, Native, Thread, Null, Object}
use Rattle.lua_values.specs.contracts.values.ValuePartialEq.TheImpl as derived

-- primitive equality (section 2.5.2), `==` of the type: true exactly where the two values are one, which is a law
abbrev pub same : Value → Value → Bool
same = derived.ghosts.eq

abbrev pub is_nil : Value → Bool
is_nil Nil = true
is_nil value = false

-- the number n as a value
abbrev pub number : ℕ → Value
number n = Number (pos n)

-- what a hasher is fed of a value, at most one write: the bytes of a text, a number, or the number that it goes by
abbrev pub hashed : Value → fed.HashWrites
hashed Nil = []
hashed (Truth truth) = fed.bool truth
hashed (Number number) = fed.i64 number
hashed (Text text) = text ∷ []
hashed (Table t) = fed.u32 t
hashed (Closure c) = fed.u32 c
hashed (Native n) = fed.u32 n
hashed (Thread n) = fed.u32 n
hashed Null = []
hashed (Object kind n) = fed.u32 n
