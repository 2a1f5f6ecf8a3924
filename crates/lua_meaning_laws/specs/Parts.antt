-- What the equations are written with: evaluations that end, or go on with what others gave.
use Rattle.std.specs.Prelude.{ℕ, false, List, [], ◌∷◌, Option, Some, None, if◌then◌else◌}
use Rattle.lua_ast.specs.declared.expressions.Expr.{Expr}
use Rattle.lua_values.specs.declared.values.Value.{Value}
use Rattle.lua_values.specs.declared.values.Value.TheVariants.{Nil, Table}
use Rattle.lua_values.specs.declared.faults.StoreFault.{StoreFault}
use Rattle.lua_values.specs.Heap.{Heap}
use Rattle.lua_values.specs.Values.{is_nil}
use Rattle.lua_values.specs.StoreCalls.{set_cause, with_pair}
use Rattle.lua_operators.specs.declared.events.Event.TheVariants.{Index, NewIndex}
use Rattle.lua_operators.specs.declared.faults.Fault.{Fault}
use Rattle.lua_operators.specs.declared.faults.OperandFault.{OperandFault}
use Rattle.lua_operators.specs.declared.faults.OperandFault.TheVariants as operand
use Rattle.lua_operators.specs.Faults.{fault_text}
use Rattle.lua_operators.specs.OperandFaults.{operand_fault_text}
use Rattle.lua_operators.specs.Types.{type_of}
use Rattle.lua_meaning.specs.Works.{Caller, Places, Slots, AValue, ACall, AnIndex, AStore, Values, Failed}
use Rattle.lua_meaning.specs.Evaluator.{State, Ending, Ended, after}
use Rattle.lua_meaning.specs.Setting.{Setting}
use Rattle.lua_meaning.specs.Positions.{callers_at, positioned}
use Rattle.lua_meaning.specs.Signs.{first}
use Rattle.lua_meaning.specs.Variables.{table_fault}
use Rattle.lua_meaning.specs.Metatables.{handler, is_function}
use Rattle.lua_meaning.specs.Indexing.{raw_value, is_table}
use Rattle.lua_meaning.specs.Calls.{calling, call_end}
use Rattle.lua_meaning.specs.Nodes.{eval}
use Rattle.lua_meaning.specs.DirectEquations.{with_values}

-- ends with these values, or with one
abbrev pub gives : List Value → Slots → State → Ending
gives vs s w = Ended (Values vs) s w

abbrev pub gives_one : Value → Slots → State → Ending
gives_one v s w = gives (v ∷ []) s w

-- ends in a fault, whose text stands after the position of these callers
abbrev pub faults : Setting → List Caller → Fault → Slots → State → Ending
faults S callers fault s w = Ended (Failed (positioned S callers (fault_text fault))) s w

abbrev pub faults_at : Setting → List Caller → OperandFault → Slots → State → Ending
faults_at S callers fault s w = Ended (Failed (positioned S callers (operand_fault_text fault))) s w

-- an expression of which one value is wanted, and what goes on with it
abbrev pub eval_one : Setting → Expr → Places → Slots → State → (Value → Slots → State → Ending) → Ending
eval_one S x p s w go = with_values (eval S (AValue x) p s w) (λ vs s' w'. go (first vs) s' w')

-- a call among these callers, which leaves the caller's variables as they are
abbrev pub call_in : Setting → List Caller → Value → List Value → Slots → State → Ending
call_in S callers f args s w = after (eval S (ACall f args) (calling callers false) [] w) (λ sign s' w'. Ended (call_end sign) s w')

-- and one of which the first value is wanted
abbrev pub call_one : Setting → List Caller → Value → List Value → Slots → State → (Value → Slots → State → Ending) → Ending
call_one S callers f args s w go = with_values (call_in S callers f args s w) (λ vs s' w'. go (first vs) s' w')

-- the same in another heap
abbrev pub with_heap : State → Heap → State
with_heap w h = record w { store = record { heap = h; steps = w.store.steps } }

-- the store takes a heap, unless it refuses it for a cause
abbrev pub written : Setting → List Caller → Option StoreFault → Heap → Slots → State → (State → Ending) → Ending
written S callers (Some cause) h s w go = faults S callers (table_fault cause) s w
written S callers None h s w go = go (with_heap w h)

-- a table gets a value at a key, whatever its metatable
abbrev pub set_in : Setting → List Caller → ℕ → Value → Value → Slots → State → (State → Ending) → Ending
set_in S callers t key x s w go = written S callers (set_cause w.store.heap t key x) (with_pair w.store.heap t key x) s w go

-- `v[key]` where v has nothing there, with what its metatable has for `__index`
abbrev pub index_else : Setting → ℕ → Value → Value → Value → Places → Slots → State → Ending
index_else S line by v key p s w =
    if is_nil by then (if is_table v then gives_one Nil s w else faults_at S (callers_at p line) (operand.Index (type_of v)) s w)
    else if is_function by then call_one S (callers_at p line) by (v ∷ key ∷ []) s w gives_one
    else eval S (AnIndex line by key) p s w

-- `v[key]` at a line
abbrev pub index_in : Setting → ℕ → Value → Value → Places → Slots → State → Ending
index_in S line v key p s w =
    if is_nil (raw_value w.store.heap v key) then index_else S line (handler w.store.heap v Index) v key p s w
    else gives_one (raw_value w.store.heap v key) s w

-- `v[key] = x` where v is a table, and the fault where it isn't
abbrev pub set_raw_in : Setting → ℕ → Value → Value → Value → Places → Slots → State → Ending
set_raw_in S line (Table t) key x p s w = set_in S (callers_at p line) t key x s w (λ w'. gives [] s w')
set_raw_in S line v key x p s w = faults_at S (callers_at p line) (operand.Index (type_of v)) s w

-- `v[key] = x` where v has nothing there, with what its metatable has for `__newindex`
abbrev pub store_else : Setting → ℕ → Value → Value → Value → Value → Places → Slots → State → Ending
store_else S line by v key x p s w =
    if is_nil by then set_raw_in S line v key x p s w
    else if is_function by then call_one S (callers_at p line) by (v ∷ key ∷ x ∷ []) s w (λ dropped s' w'. gives [] s' w')
    else eval S (AStore line by key x) p s w

-- `v[key] = x` at a line
abbrev pub store_in : Setting → ℕ → Value → Value → Value → Places → Slots → State → Ending
store_in S line v key x p s w =
    if is_nil (raw_value w.store.heap v key) then store_else S line (handler w.store.heap v NewIndex) v key x p s w
    else set_raw_in S line v key x p s w
