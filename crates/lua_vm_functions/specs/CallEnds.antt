-- The work of a call, plain or tail, once it is known what is called.
use Rattle.std.specs.Prelude.{ℕ, Bool, true, false, List, [], Option}
use Rattle.lua_ast.specs.declared.programs.Function.{Function}
use Rattle.lua_values.specs.declared.values.Value.{Value}
use Rattle.lua_values.specs.Heap.{ClosureView}
use Rattle.lua_meaning.specs.Works.{Caller, Sign, Slots, Work, End, and_then}
use Rattle.lua_meaning.specs.Setting.{Setting}
use Rattle.lua_meaning.specs.Calls.{call_end, returned, function_end, calling, around_callee, inside, slots_from, run, call_closure}
use Rattle.lua_meaning.specs.Blocks.{block}

-- how a call ends for its caller: a tail call's end is returned
abbrev pub ended : Bool → Sign → Sign
ended false sign = call_end sign
ended true sign = returned (call_end sign)

-- the caller goes on in its slots
abbrev pub back_in : Bool → Slots → Sign → Slots → Work
back_in tail s sign s' = End (ended tail sign) s

-- a call of a closure that was looked up, for a caller with these slots
abbrev pub closure_called : Setting → Option ClosureView → List Value → List Caller → Bool → Slots → Work
closure_called S closure args callers tail s = and_then (call_closure S closure args (calling callers tail) []) (back_in tail s)

-- a call of a function that was looked up
abbrev pub function_called : Setting → ℕ → Option Function → List ℕ → List Value → List Caller → Bool → Slots → Work
function_called S number f cells args callers tail s = and_then (run S number f cells args (calling callers tail) []) (back_in tail s)

-- a function's body, with room for its frame
abbrev pub body_called : ℕ → Function → List ℕ → List Value → List Caller → Bool → Slots → Work
body_called number f cells args callers tail s =
    and_then (and_then (block f.body.value.items (inside number f cells args (around_callee (calling callers tail))) (slots_from f.slots 0 f.params args))
    (λ sign s'. End (function_end sign) [])) (back_in tail s)
