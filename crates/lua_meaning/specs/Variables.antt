-- Local variables, those that closures share (Lua 5.1 Reference Manual, 2.6), and the faults of writes that a store refuses.
use Rattle.std.specs.Prelude.{ℕ, List, [], ◌∷◌, drop, Option, Some, None, slice_set}
use Rattle.lua_values.specs.declared.values.Value.{Value}
use Rattle.lua_values.specs.declared.values.Value.TheVariants.{Nil}
use Rattle.lua_values.specs.declared.faults.StoreFault.{StoreFault}
use Rattle.lua_values.specs.declared.faults.StoreFault.TheVariants as store
use Rattle.lua_values.specs.Heap.{Heap}
use Rattle.lua_values.specs.StoreCalls.{cell_of, with_cell_value, frozen_cause}
use Rattle.lua_operators.specs.declared.faults.Fault.{Fault}
use Rattle.lua_operators.specs.declared.faults.Fault.TheVariants.{StorageLimit, FrozenTable, FrozenVariable, NilKey}
use Rattle.lua_meaning.specs.declared.slots.Slot.{Slot}
use Rattle.lua_meaning.specs.declared.slots.Slot.TheVariants.{Plain, Shared}
use Rattle.lua_meaning.specs.Works.{Caller, Slots, Work, Look, Write}
use Rattle.lua_meaning.specs.Setting.{Setting}
use Rattle.lua_meaning.specs.Positions.{raise_fault}
use Rattle.lua_meaning.specs.Signs.{first}

-- the fault of a write to a table that is refused for a cause, which is never `Memory`
abbrev pub table_fault : StoreFault → Fault
table_fault store.BadKey = NilKey
table_fault store.Frozen = FrozenTable
table_fault store.Full = StorageLimit
table_fault store.Memory = StorageLimit

-- and to a variable
abbrev pub variable_fault : StoreFault → Fault
variable_fault store.Frozen = FrozenVariable
variable_fault cause = table_fault cause

-- the fault, if the store refuses for a cause, else the work
abbrev pub unless_refused : Setting → List Caller → (StoreFault → Fault) → Option StoreFault → Slots → Work → Work
unless_refused S callers fault (Some cause) s go = raise_fault S callers (fault cause) s
unless_refused S callers fault None s go = go

-- the value in a cell, nil where there is none
abbrev pub in_cell : Option ℕ → Heap → Value
in_cell None h = Nil
in_cell (Some c) h = cell_of h c

-- the value in a slot, nil where there is none
abbrev pub in_slot : Option Slot → Heap → Value
in_slot None h = Nil
in_slot (Some (Plain v)) h = v
in_slot (Some (Shared c)) h = cell_of h c

-- a value is written to a cell, if there is one
abbrev pub write_cell : Setting → List Caller → Option ℕ → Value → Slots → Work → Work
write_cell S callers None v s go = go
write_cell S callers (Some c) v s go =
    Look (λ h. unless_refused S callers variable_fault (frozen_cause h.base.cells c) s (Write (with_cell_value h c v) go))

-- and to the variable in a slot
abbrev pub write_slot : Setting → List Caller → Option Slot → ℕ → Value → Slots → (Slots → Work) → Work
write_slot S callers None i v s go = go s
write_slot S callers (Some (Plain old)) i v s go = go (slice_set s i (Plain v))
write_slot S callers (Some (Shared c)) i v s go = write_cell S callers (Some c) v s (go s)

-- new local variables: each slot gets the value at its place, or nil (Lua 5.1 Reference Manual, 2.4.7)
abbrev pub with_locals : List ℕ → List Value → Slots → Slots
with_locals [] vs s = s
with_locals (i ∷ slots) vs s = with_locals slots (drop 1 vs) (slice_set s i (Plain (first vs)))
