-- What an index and an assignment at a key come to, by way of the handlers of what lacks the key.
use Rattle.std.specs.Prelude.{◌≡◌, ℕ, List, [], ◌∷◌}
use Rattle.lua_values.specs.declared.values.Value.{Value}
use Rattle.lua_values.specs.Heap.{StoreView}
use Rattle.lua_operators.specs.declared.faults.OperandFault.TheVariants as operand
use Rattle.lua_meaning.specs.Works.{Places, Slots, Work}
use Rattle.lua_meaning.specs.Evaluator.{Resume, Spent, do_work}
use Rattle.lua_meaning.specs.Setting.{Setting}
use Rattle.lua_meaning.specs.Positions.{callers_at, raise_operand}
use Rattle.lua_meaning.specs.Signs.{give, give_one}
use Rattle.lua_meaning.specs.Calls.{call_for_one}
use Rattle.lua_meaning.specs.Indexing.{index_work, set_raw, store_work}
use Rattle.lua_meaning.specs.Nodes.{eval}
use Rattle.lua_frames.specs.Follows.{ComesTo}
use Rattle.lua_vm_tables.specs.declared.destinations.Destination.{Destination}
use Rattle.lua_vm_tables.specs.declared.destinations.Destination.TheVariants as to
use Rattle.lua_vm_tables.specs.declared.chains.Read.{Read}
use Rattle.lua_vm_tables.specs.declared.chains.Read.TheVariants as read

-- work at any line and place
abbrev pub Located : Type 0
Located = Setting → ℕ → Places → Slots → Work

-- an index comes to other work in a store
abbrev pub IndexComesTo : Value → Value → StoreView → Located → StoreView → Type 0
IndexComesTo v key before work store =
    (S : Setting) (line : ℕ) (p : Places) (s : Slots) → ComesTo S (index_work S line v key p s) before (work S line p s) store

-- an index comes to what was found
abbrev pub Reads : Value → Value → StoreView → Read → StoreView → Type 0
Reads v key before (read.Gives x) store = IndexComesTo v key before (λ S line p s. give_one x s) store
Reads v key before (read.Calls by object) store =
    IndexComesTo v key before (λ S line p s. call_for_one (callers_at p line) by (object ∷ key ∷ []) s give_one) store
Reads v key before (read.Unindexable t) store = IndexComesTo v key before (λ S line p s. raise_operand S (callers_at p line) (operand.Index t) s) store
Reads v key before read.Spent store = (S : Setting) (line : ℕ) (p : Places) (s : Slots) (resumes : List Resume)
    → do_work (eval S) (index_work S line v key p s) (record { store = before; resumes = resumes }) ≡ Spent

-- what a handler of an assignment gives is dropped
abbrev pub dropping : Value → Slots → Work
dropping v s = give [] s

-- an assignment at a key, of any value, comes to other work in a store
abbrev pub StoreComesTo : Value → Value → StoreView → (Value → Located) → StoreView → Type 0
StoreComesTo v key before work store =
    (x : Value) (S : Setting) (line : ℕ) (p : Places) (s : Slots) → ComesTo S (store_work S line v key x p s) before (work x S line p s) store

-- an assignment at a key leads there
abbrev pub Leads : Value → Value → StoreView → Destination → StoreView → Type 0
Leads v key before (to.Itself owner) store = StoreComesTo v key before (λ x S line p s. set_raw S line owner key x p s) store
Leads v key before (to.Calls by object) store =
    StoreComesTo v key before (λ x S line p s. call_for_one (callers_at p line) by (object ∷ key ∷ x ∷ []) s dropping) store
Leads v key before to.Spent store = (x : Value) (S : Setting) (line : ℕ) (p : Places) (s : Slots) (resumes : List Resume)
    → do_work (eval S) (store_work S line v key x p s) (record { store = before; resumes = resumes }) ≡ Spent
