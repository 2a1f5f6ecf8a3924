-- What a start makes in a heap, one thing after the other, until one is refused: a form of this project.
use Rattle.std.specs.Prelude.{◌≡◌, ℕ, List, [], ◌∷◌, Option, Some, None, Result, Ok, Err}
use Rattle.lua_values.specs.declared.values.Value.{Value}
use Rattle.lua_values.specs.declared.faults.StoreFault.{StoreFault}
use Rattle.lua_values.specs.declared.faults.StoreFault.TheVariants as store
use Rattle.lua_values.specs.Heap.{Heap, StoreView}
use Rattle.lua_values.specs.StoreCalls.{full_cause, frozen_cause, set_cause, closure_units, with_table, with_closure, with_pair, with_metatable}
use Rattle.lua_operators.specs.Faults.{fault_text}
use Rattle.lua_meaning.specs.Variables.{table_fault}
use Rattle.lua_site.specs.declared.faults.LuaSiteFault.{LuaSiteFault}
use Rattle.lua_site.specs.declared.faults.LuaSiteFault.TheVariants.{Init, Memory}

-- a heap, or the message with which the start is refused
abbrev pub Made : Type 0
Made = Result Heap (List ℕ)

-- goes on with what was made
abbrev pub and_then : {A B : Type 0} → Result A (List ℕ) → (A → Result B (List ℕ)) → Result B (List ℕ)
and_then (Ok a) go = go a
and_then (Err text) go = Err text

-- makes something of each thing of a list, in order
abbrev pub for_each : {X : Type 0} → (Heap → X → Made) → Heap → List X → Made
for_each make heap [] = Ok heap
for_each make heap (x ∷ xs) = and_then (make heap x) (λ h. for_each make h xs)

-- the message of what a store refuses
abbrev pub cause_text : StoreFault → List ℕ
cause_text cause = fault_text (table_fault cause)

-- what is made, unless the store refuses it
abbrev pub unless : Option StoreFault → Heap → Made
unless None heap = Ok heap
unless (Some cause) heap = Err (cause_text cause)

abbrev pub table_made : Heap → Made
table_made heap = unless (full_cause heap 32) (with_table heap)

-- a closure of a function that captures nothing
abbrev pub closure_made : Heap → ℕ → Made
closure_made heap function = unless (full_cause heap (closure_units [])) (with_closure heap function [])

abbrev pub entry_set : Heap → ℕ → Value → Value → Made
entry_set heap t key value = unless (set_cause heap t key value) (with_pair heap t key value)

abbrev pub metatable_set : Heap → ℕ → ℕ → Made
metatable_set heap t meta = unless (frozen_cause heap.base.tables t) (with_metatable heap t (Some meta))

-- what a refusal of the store is to a start
abbrev pub of_store : StoreFault → LuaSiteFault
of_store store.Memory = Memory
of_store cause = Init (cause_text cause)

-- a result is what is meant, seen as that, or memory ran out
abbrev pub Gives : {A B : Type 0} → Result B (List ℕ) → (A → B) → Result A LuaSiteFault → Type 0
Gives meant seen (Ok a) = meant ≡ Ok (seen a)
Gives meant seen (Err (Init text)) = meant ≡ Err text
Gives meant seen (Err Memory) = Unit {0}

-- what is meant is left in a store
abbrev pub Makes : {A : Type 0} → Made → Result A LuaSiteFault → StoreView → Type 0
Makes meant result store = Gives meant (λ a. store.heap) result
