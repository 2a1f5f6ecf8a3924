-- The functions of the library that are built, with their numbers and names.
use Rattle.std.specs.Prelude.{ℕ, nat_eq, List, codes, Option, Some, None, if◌then◌else◌}
use Rattle.lua_lib_basic.specs.declared.functions.BasicFunction.{BasicFunction}
use Rattle.lua_lib_basic.specs.declared.functions.BasicFunction.TheVariants.{GetMetatable, SetMetatable, Ipairs, Next, Pairs, RawEqual, RawGet}
use Rattle.lua_lib_basic.specs.declared.functions.BasicFunction.TheVariants.{RawSet, Select, ToNumber, TypeName, Unpack}
use Rattle.lua_lib_basic.specs.declared.functions.PreludeFunction.{PreludeFunction}
use Rattle.lua_lib_basic.specs.declared.functions.PreludeFunction.TheVariants.{IpairsStep, Globals, ModuleName, RunModules}
use Rattle.lua_lib_basic.specs.declared.functions.Function.{Function}
use Rattle.lua_lib_basic.specs.declared.functions.Function.TheVariants.{Basic, Prelude}

-- the basic function of a number of the library
abbrev pub basic_at : ℕ → Option BasicFunction
basic_at n =
    if nat_eq n 0 then Some GetMetatable
    else if nat_eq n 1 then Some SetMetatable
    else if nat_eq n 2 then Some Ipairs
    else if nat_eq n 3 then Some Next
    else if nat_eq n 4 then Some Pairs
    else if nat_eq n 5 then Some RawEqual
    else if nat_eq n 6 then Some RawGet
    else if nat_eq n 7 then Some RawSet
    else if nat_eq n 8 then Some Select
    else if nat_eq n 9 then Some ToNumber
    else if nat_eq n 10 then Some TypeName
    else if nat_eq n 11 then Some Unpack
    else None

-- its name, as faults have it
abbrev pub basic_name : BasicFunction → List ℕ
basic_name GetMetatable = codes "getmetatable"
basic_name SetMetatable = codes "setmetatable"
basic_name Ipairs = codes "ipairs"
basic_name Next = codes "next"
basic_name Pairs = codes "pairs"
basic_name RawEqual = codes "rawequal"
basic_name RawGet = codes "rawget"
basic_name RawSet = codes "rawset"
basic_name Select = codes "select"
basic_name ToNumber = codes "tonumber"
basic_name TypeName = codes "type"
basic_name Unpack = codes "unpack"

-- the function that the library's own texts alone call
abbrev pub prelude_at : ℕ → Option PreludeFunction
prelude_at n =
    if nat_eq n 46 then Some IpairsStep
    else if nat_eq n 53 then Some Globals
    else if nat_eq n 54 then Some ModuleName
    else if nat_eq n 55 then Some RunModules
    else None

-- the name of the function for which it is called
abbrev pub prelude_name : PreludeFunction → List ℕ
prelude_name IpairsStep = codes "ipairs"
prelude_name Globals = codes "_G"
prelude_name ModuleName = codes "require"
prelude_name RunModules = codes "require"

-- the function of a number, none where it isn't built
abbrev pub prelude_function : Option PreludeFunction → Option Function
prelude_function (Some function) = Some (Prelude function)
prelude_function None = None

abbrev pub basic_or : Option BasicFunction → Option Function → Option Function
basic_or (Some function) other = Some (Basic function)
basic_or None other = other

abbrev pub function_at : ℕ → Option Function
function_at n = basic_or (basic_at n) (prelude_function (prelude_at n))

abbrev pub function_name : Function → List ℕ
function_name (Basic function) = basic_name function
function_name (Prelude function) = prelude_name function
