-- Calls (Lua 5.1 Reference Manual, 2.5.8): a call knows the callers around it, and nothing of its caller's variables.
use Rattle.std.specs.Prelude.{ℕ, zero, suc, ◌+◌, nat_lt, Bool, true, false, List, [], ◌∷◌, drop, length, Option, Some, None, slice_get, if◌then◌else◌}
use Rattle.lua_ast.specs.declared.programs.Function.{Function}
use Rattle.lua_values.specs.declared.values.Value.{Value}
use Rattle.lua_values.specs.declared.values.Value.TheVariants.{Nil}
use Rattle.lua_values.specs.Heap.{ClosureView}
use Rattle.lua_operators.specs.declared.faults.Fault.TheVariants.{StackOverflow}
use Rattle.lua_operators.specs.declared.faults.OperandFault.TheVariants as operand
use Rattle.lua_operators.specs.Types.{type_of}
use Rattle.lua_meaning.specs.declared.slots.Slot.TheVariants.{Plain}
use Rattle.lua_meaning.specs.Works.{Caller, Places, Slots, ACall, Sign, Values, Return, Break, Failed, Work, End, Eval, and_then}
use Rattle.lua_meaning.specs.Setting.{Setting}
use Rattle.lua_meaning.specs.Positions.{raise_fault, raise_operand}
use Rattle.lua_meaning.specs.Signs.{first, or_nil, on_values}
use Rattle.lua_meaning.specs.Blocks.{block}

-- the place of a call among these callers
abbrev pub calling : List Caller → Bool → Places
calling callers tail = record { lua = false; function = 0; cells = []; extras = []; around = callers; tail = tail }

-- how a call ends for its caller: with values, or in a fault
abbrev pub call_end : Sign → Sign
call_end (Values vs) = Values vs
call_end (Return vs) = Values vs
call_end Break = Values []
call_end (Failed v) = Failed v

-- calls a value, and goes on with how that ended
abbrev pub call_at : Places → Value → List Value → (Sign → Work) → Work
call_at q f args go = Eval (ACall f args) q [] (λ sign s. go (call_end sign))

-- a call among these callers, whose end the caller hands on
abbrev pub call : List Caller → Value → List Value → Slots → Work
call callers f args s = call_at (calling callers false) f args (λ sign. End sign s)

-- one of which the first value is wanted
abbrev pub call_for_one : List Caller → Value → List Value → Slots → (Value → Slots → Work) → Work
call_for_one callers f args s go = call_at (calling callers false) f args (λ sign. on_values (λ vs s'. go (first vs) s') sign s)

-- how a function ends whose last statement was a tail call
abbrev pub returned : Sign → Sign
returned (Values vs) = Return vs
returned (Return vs) = Return vs
returned Break = Return []
returned (Failed v) = Failed v

-- a tail call, `return f(args)`: the caller ends with it
abbrev pub tail_call : List Caller → Value → List Value → Slots → Work
tail_call callers f args s = call_at (calling callers true) f args (λ sign. End (returned sign) s)

-- a function returns what `return` gives, and nothing where its block ends
abbrev pub function_end : Sign → Sign
function_end (Values vs) = Values []
function_end (Return vs) = Values vs
function_end Break = Values []
function_end (Failed v) = Failed v

-- an argument of a parameter is nil where it is missing
abbrev pub argument : ℕ → ℕ → List Value → Value
argument i params args = if nat_lt i params then or_nil (slice_get args i) else Nil

-- n slots from the i-th on: those of parameters have the arguments, and all others nil
abbrev pub slots_from : ℕ → ℕ → ℕ → List Value → Slots
slots_from zero i params args = []
slots_from (suc n) i params args = Plain (argument i params args) ∷ slots_from n (i + 1) params args

-- the arguments after the parameters, which a function without `...` drops
abbrev pub extras_of : Function → List Value → List Value
extras_of f args = if f.vararg then drop f.params args else []

-- the Lua functions around a function that is called: a tail call gives up its caller
abbrev pub around_callee : Places → List Caller
around_callee q = if q.tail then drop 1 q.around else q.around

-- where a function's body runs
abbrev pub inside : ℕ → Function → List ℕ → List Value → List Caller → Places
inside number f cells args around = record { lua = true; function = number; cells = cells; extras = extras_of f args; around = around; tail = false }

-- how many Lua functions may be around one
abbrev pub most_callers : ℕ
most_callers = 5_000

-- runs a function of the program, if its number is there and few enough functions run
abbrev pub run : Setting → ℕ → Option Function → List ℕ → List Value → Places → Slots → Work
run S number None cells args q s = raise_operand S q.around (operand.Call (type_of Nil)) s
run S number (Some f) cells args q s =
    if nat_lt (length (around_callee q)) most_callers
    then and_then (block f.body.value.items (inside number f cells args (around_callee q)) (slots_from f.slots 0 f.params args))
    (λ sign s'. End (function_end sign) s)
    else raise_fault S q.around StackOverflow s

-- a call of a closure, if there is one
abbrev pub call_closure : Setting → Option ClosureView → List Value → Places → Slots → Work
call_closure S None args q s = raise_operand S q.around (operand.Call (type_of Nil)) s
call_closure S (Some closure) args q s = run S closure.function (slice_get S.program.functions.items closure.function) closure.cells args q s
