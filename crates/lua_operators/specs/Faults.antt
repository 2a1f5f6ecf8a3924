-- The texts of faults that name no value. They are this project's, after those of Lua where Lua has the fault.
use Rattle.std.specs.Prelude.{ℕ, List, codes}
use Rattle.lua_numbers.specs.declared.faults.NumFault.{NumFault}
use Rattle.lua_numbers.specs.declared.faults.NumFault.TheVariants.{Range, Inexact, ByZero}
use Rattle.lua_operators.specs.declared.faults.Fault.{Fault}
use Rattle.lua_operators.specs.declared.faults.Fault.TheVariants.{Number, StorageLimit, StackOverflow, TooManyThreads, TooManySockets}
use Rattle.lua_operators.specs.declared.faults.Fault.TheVariants.{TooManySubrequests, NilKey, FrozenTable, FrozenVariable, SortMixed}
use Rattle.lua_operators.specs.declared.faults.Fault.TheVariants.{ForInitial, ForLimit, ForStep, ForStepZero, MalformedPattern}
use Rattle.lua_operators.specs.declared.faults.Fault.TheVariants.{TooManyCaptures, PatternTooComplex, DeadCoroutine, RunningCoroutine, BadRequest}

abbrev pub number_fault_text : NumFault → List ℕ
number_fault_text Range = codes "number out of range"
number_fault_text Inexact = codes "number has no whole result"
number_fault_text ByZero = codes "attempt to divide by zero"

abbrev pub fault_text : Fault → List ℕ
fault_text (Number fault) = number_fault_text fault
fault_text StorageLimit = codes "not enough memory (storage limit)"
fault_text StackOverflow = codes "stack overflow"
fault_text TooManyThreads = codes "too many threads"
fault_text TooManySockets = codes "too many sockets"
fault_text TooManySubrequests = codes "too many nested subrequests"
fault_text NilKey = codes "table index is nil"
fault_text FrozenTable = codes "attempt to modify a frozen table"
fault_text FrozenVariable = codes "attempt to modify a frozen variable"
fault_text SortMixed = codes "table.sort takes all numbers or all strings"
fault_text ForInitial = codes "'for' initial value must be a number"
fault_text ForLimit = codes "'for' limit must be a number"
fault_text ForStep = codes "'for' step must be a number"
fault_text ForStepZero = codes "'for' step is zero"
fault_text MalformedPattern = codes "malformed pattern"
fault_text TooManyCaptures = codes "too many captures"
fault_text PatternTooComplex = codes "pattern too complex"
fault_text DeadCoroutine = codes "cannot resume dead coroutine"
fault_text RunningCoroutine = codes "cannot resume non-suspended coroutine"
fault_text BadRequest = codes "bad request"
