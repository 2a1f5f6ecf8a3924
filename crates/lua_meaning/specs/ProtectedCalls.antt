-- `pcall` and `xpcall` (Lua 5.1 Reference Manual, 5.1): calls whose faults become values. Spent steps and a parked thread are
-- no faults, so nothing catches them.
use Rattle.std.specs.Prelude.{ℕ, true, false, List, [], ◌∷◌, codes}
use Rattle.lua_values.specs.declared.values.Value.{Value}
use Rattle.lua_values.specs.declared.values.Value.TheVariants.{Truth}
use Rattle.lua_operators.specs.NamedFaults.{argument_text}
use Rattle.lua_meaning.specs.Works.{Caller, Slots, Sign, Values, Return, Break, Failed, Work}
use Rattle.lua_meaning.specs.Setting.{Setting}
use Rattle.lua_meaning.specs.Positions.{raise}
use Rattle.lua_meaning.specs.Signs.{first, give}
use Rattle.lua_meaning.specs.Calls.{calling, call_at}

-- an argument, numbered from 1, of which only that it is there is asked
abbrev pub raise_missing : Setting → List Caller → ℕ → List ℕ → Slots → Work
raise_missing S callers number name s = raise S callers (argument_text number name (codes "value") (codes "no value")) s

-- true and the values of a call, or false and its fault
abbrev pub protected : Sign → List Value
protected (Values vs) = Truth true ∷ vs
protected (Return vs) = Truth true ∷ vs
protected Break = Truth true ∷ []
protected (Failed v) = Truth false ∷ v ∷ []

-- `pcall(f, ..)`
abbrev pub pcall_work : Setting → List Value → List Caller → Slots → Work
pcall_work S [] callers s = raise_missing S callers 1 (codes "pcall") s
pcall_work S (f ∷ args) callers s = call_at (calling callers false) f args (λ sign. give (protected sign) s)

-- false and the first value of a handler, or the handler's own fault
abbrev pub handled_fault : Sign → List Value
handled_fault (Values vs) = Truth false ∷ first vs ∷ []
handled_fault (Return vs) = Truth false ∷ first vs ∷ []
handled_fault Break = Truth false ∷ first [] ∷ []
handled_fault (Failed v) = Truth false ∷ v ∷ []

-- true and the values of a call, or what the handler makes of its fault once the call is over
abbrev pub protected_by : Value → List Caller → Slots → Sign → Work
protected_by by callers s (Failed v) = call_at (calling callers false) by (v ∷ []) (λ sign. give (handled_fault sign) s)
protected_by by callers s sign = give (protected sign) s

-- `xpcall(f, handler)`
abbrev pub xpcall_work : Setting → List Value → List Caller → Slots → Work
xpcall_work S [] callers s = raise_missing S callers 1 (codes "xpcall") s
xpcall_work S (f ∷ []) callers s = raise_missing S callers 2 (codes "xpcall") s
xpcall_work S (f ∷ by ∷ more) callers s = call_at (calling callers false) f [] (protected_by by callers s)
