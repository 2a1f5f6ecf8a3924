-- What each number of the library means.
use Rattle.std.specs.Prelude.{ℕ, List, [], Option, Some, None}
use Rattle.lua_values.specs.declared.values.Value.{Value}
use Rattle.lua_values.specs.Heap.{Heap}
use Rattle.lua_values.specs.NativeCalls.{Meaning}
use Rattle.lua_lib_base.specs.Results.{LibraryResult, Left, counted}
use Rattle.lua_lib_basic.specs.declared.functions.BasicFunction.{BasicFunction}
use Rattle.lua_lib_basic.specs.declared.functions.BasicFunction.TheVariants as basic
use Rattle.lua_lib_basic.specs.declared.functions.PreludeFunction.{PreludeFunction}
use Rattle.lua_lib_basic.specs.declared.functions.PreludeFunction.TheVariants as prelude
use Rattle.lua_lib_basic.specs.declared.functions.Function.{Function}
use Rattle.lua_lib_basic.specs.declared.functions.Function.TheVariants.{Basic, Prelude}
use Rattle.lua_lib_basic.specs.Functions.{function_at, function_name}
use Rattle.lua_lib_basic.specs.Metatables.{getmetatable, setmetatable}
use Rattle.lua_lib_basic.specs.Traversal.{ipairs, next, pairs, ipairs_step}
use Rattle.lua_lib_basic.specs.Raw.{rawequal, rawget, rawset}
use Rattle.lua_lib_basic.specs.Lists.{select, unpack}
use Rattle.lua_lib_basic.specs.Conversions.{tonumber, type_}
use Rattle.lua_lib_basic.specs.Modules.{globals, module_name, run_modules}

abbrev pub basic_result : BasicFunction → List Value → Heap → LibraryResult
basic_result basic.GetMetatable args heap = getmetatable args heap
basic_result basic.SetMetatable args heap = setmetatable args heap
basic_result basic.Ipairs args heap = ipairs args heap
basic_result basic.Next args heap = next args heap
basic_result basic.Pairs args heap = pairs args heap
basic_result basic.RawEqual args heap = rawequal args heap
basic_result basic.RawGet args heap = rawget args heap
basic_result basic.RawSet args heap = rawset args heap
basic_result basic.Select args heap = select args heap
basic_result basic.ToNumber args heap = tonumber args heap
basic_result basic.TypeName args heap = type_ args heap
basic_result basic.Unpack args heap = unpack args heap

abbrev pub prelude_result : PreludeFunction → List Value → Heap → LibraryResult
prelude_result prelude.IpairsStep args heap = ipairs_step args heap
prelude_result prelude.Globals args heap = globals heap
prelude_result prelude.ModuleName args heap = module_name args heap
prelude_result prelude.RunModules args heap = run_modules heap

abbrev pub function_result : Function → List Value → Heap → LibraryResult
function_result (Basic function) args heap = basic_result function args heap
function_result (Prelude function) args heap = prelude_result function args heap

-- how many numbers the library has, whatever of them is built
abbrev pub library_count : ℕ
library_count = 56

-- a call of a function; what isn't built leaves its answer to the outside
abbrev pub call_result : Option Function → List Value → Heap → LibraryResult
call_result (Some function) args heap = function_result function args heap
call_result None args heap = Left

abbrev pub call_name : Option Function → List ℕ
call_name (Some function) = function_name function
call_name None = []

abbrev pub library_meaning : Meaning
library_meaning number args heap = counted (call_name (function_at number)) args (call_result (function_at number) args heap)
