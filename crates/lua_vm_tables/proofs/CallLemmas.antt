-- Indexes and assignments at keys, and the handlers that they call.
use Rattle.std.specs.Prelude.{◌≡◌, ℕ, List, [], ◌∷◌, Result, Ok, refl}
use Rattle.lua_values.specs.declared.values.Value.{Value}
use Rattle.lua_values.specs.Heap.{StoreView}
use Rattle.lua_operators.specs.declared.faults.OperandFault.TheVariants as operand
use Rattle.lua_operators.specs.declared.types.LuaType.{LuaType}
use Rattle.lua_meaning.specs.Works.{Values, and_then}
use Rattle.lua_meaning.specs.Setting.{Setting}
use Rattle.lua_meaning.specs.Positions.{callers_at, raise_operand}
use Rattle.lua_meaning.specs.Signs.{give_one}
use Rattle.lua_meaning.specs.Calls.{call, call_for_one}
use Rattle.lua_meaning.specs.Indexing.{index_work, set_raw, store_work}
use Rattle.lua_frames.specs.declared.flow.Flow.{Flow}
use Rattle.lua_frames.specs.declared.flow.Flow.TheVariants as flow
use Rattle.lua_frames.specs.declared.items.Item.TheVariants as i
use Rattle.lua_frames.specs.declared.threads.Frames.{Frames}
use Rattle.lua_frames.specs.Items.{resume_item}
use Rattle.lua_frames.specs.Frames.{here, slots_of}
use Rattle.lua_frames.specs.Follows.{Works}
use Rattle.lua_frames.specs.Changes.{Waits, Ends}
use Rattle.lua_frames.proofs.FollowLemmas.{works_as, works_by, works_from, ends_works, spends, work_under}
use Rattle.lua_vm_tables.specs.declared.destinations.Destination.TheVariants as to
use Rattle.lua_vm_tables.specs.declared.chains.Read.TheVariants as read
use Rattle.lua_vm_tables.specs.Chains.{Reads, Leads, dropping}

-- a handler of which no value is wanted
pub none_wanted : {E : Type 0} (S : Setting) (line : ℕ) (by : Value) (args : List Value) (old mid fs : Frames) (before store : StoreView) (r : Result Flow E)
    → Waits old i.Discard mid → Works S (call (callers_at (here mid) line) by args (slots_of mid)) mid before fs store r
    → Works S (call_for_one (callers_at (here old) line) by args (slots_of old) dropping) old before fs store r
none_wanted S line by args old mid fs before store r h w =
    works_as S (call_for_one (callers_at (here old) line) by args (slots_of old) dropping) (and_then (call (callers_at (here old) line) by args (slots_of old)) (resume_item S i.Discard (here old))) old fs before store r
    (work_under S old mid fs i.Discard (λ p s. call (callers_at p line) by args s) before store r h w) refl

-- an index gives what was found
pub index_gives : {E : Type 0} (S : Setting) (line : ℕ) (v key x : Value) (old new : Frames) (before store : StoreView) (r : Result Flow E)
    → Reads v key before (read.Gives x) store → Ends (Values (x ∷ [])) old new r → Works S (index_work S line v key (here old) (slots_of old)) old before new store r
index_gives S line v key x old new before store r h k =
    works_by S (index_work S line v key (here old) (slots_of old)) (give_one x (slots_of old)) old new before store store r (h S line (here old) (slots_of old)) (ends_works S (Values (x ∷ [])) old new store r k)

-- or calls a handler
pub index_calls : {E : Type 0} (S : Setting) (line : ℕ) (v key by object : Value) (args : List Value) (old mid fs : Frames) (before between store : StoreView) (r : Result Flow E)
    → Reads v key before (read.Calls by object) between → args ≡ object ∷ key ∷ [] → mid.below ≡ old.below → mid.top ≡ old.top
    → Works S (call_for_one (callers_at (here mid) line) by args (slots_of mid) give_one) mid between fs store r → Works S (index_work S line v key (here old) (slots_of old)) old before fs store r
index_calls S line v key by object args old mid fs before between store r h e b t w =
    works_by S (index_work S line v key (here old) (slots_of old)) (call_for_one (callers_at (here old) line) by (object ∷ key ∷ []) (slots_of old) give_one) old fs before between store r (h S line (here old) (slots_of old))
    (works_as S (call_for_one (callers_at (here old) line) by (object ∷ key ∷ []) (slots_of old) give_one) (call_for_one (callers_at (here mid) line) by args (slots_of mid) give_one) old fs between store r
    (works_from S (call_for_one (callers_at (here mid) line) by args (slots_of mid) give_one) old mid fs between store r b t w)
    (rw (b, t, e) refl))

-- or fails
pub index_fails : {E : Type 0} (S : Setting) (line : ℕ) (v key : Value) (t : LuaType) (old new : Frames) (before store : StoreView) (r : Result Flow E)
    → Reads v key before (read.Unindexable t) store → Works S (raise_operand S (callers_at (here old) line) (operand.Index t) (slots_of old)) old store new store r
    → Works S (index_work S line v key (here old) (slots_of old)) old before new store r
index_fails S line v key t old new before store r h w =
    works_by S (index_work S line v key (here old) (slots_of old)) (raise_operand S (callers_at (here old) line) (operand.Index t) (slots_of old)) old new before store store r (h S line (here old) (slots_of old)) w

-- or has no step left
pub index_spent : {E : Type 0} (S : Setting) (line : ℕ) (v key : Value) (old new : Frames) (before store : StoreView)
    → Reads v key before read.Spent store → Works {E = E} S (index_work S line v key (here old) (slots_of old)) old before new store (Ok flow.Spent)
index_spent S line v key old new before store h = spends S (index_work S line v key (here old) (slots_of old)) old new before store (h S line (here old) (slots_of old))

-- an assignment sets the key in a value
pub store_sets : {E : Type 0} (S : Setting) (line : ℕ) (v key x owner : Value) (old fs : Frames) (before between store : StoreView) (r : Result Flow E)
    → Leads v key before (to.Itself owner) between → Works S (set_raw S line owner key x (here old) (slots_of old)) old between fs store r
    → Works S (store_work S line v key x (here old) (slots_of old)) old before fs store r
store_sets S line v key x owner old fs before between store r h w =
    works_by S (store_work S line v key x (here old) (slots_of old)) (set_raw S line owner key x (here old) (slots_of old)) old fs before between store r (h x S line (here old) (slots_of old)) w

-- or calls a handler
pub store_calls : {E : Type 0} (S : Setting) (line : ℕ) (v key x by object : Value) (args : List Value) (old mid fs : Frames) (before between store : StoreView) (r : Result Flow E)
    → Leads v key before (to.Calls by object) between → args ≡ object ∷ key ∷ x ∷ [] → mid.below ≡ old.below → mid.top ≡ old.top
    → Works S (call_for_one (callers_at (here mid) line) by args (slots_of mid) dropping) mid between fs store r → Works S (store_work S line v key x (here old) (slots_of old)) old before fs store r
store_calls S line v key x by object args old mid fs before between store r h e b t w =
    works_by S (store_work S line v key x (here old) (slots_of old)) (call_for_one (callers_at (here old) line) by (object ∷ key ∷ x ∷ []) (slots_of old) dropping) old fs before between store r (h x S line (here old) (slots_of old))
    (works_as S (call_for_one (callers_at (here old) line) by (object ∷ key ∷ x ∷ []) (slots_of old) dropping) (call_for_one (callers_at (here mid) line) by args (slots_of mid) dropping) old fs between store r
    (works_from S (call_for_one (callers_at (here mid) line) by args (slots_of mid) dropping) old mid fs between store r b t w)
    (rw (b, t, e) refl))

-- or has no step left
pub store_spent : {E : Type 0} (S : Setting) (line : ℕ) (v key x : Value) (old new : Frames) (before store : StoreView)
    → Leads v key before to.Spent store → Works {E = E} S (store_work S line v key x (here old) (slots_of old)) old before new store (Ok flow.Spent)
store_spent S line v key x old new before store h = spends S (store_work S line v key x (here old) (slots_of old)) old new before store (h x S line (here old) (slots_of old))
