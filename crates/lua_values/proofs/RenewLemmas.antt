-- An entry at which something is, is written: that is allowed, and takes no new entry.
use Rattle.std.proofs.Common.{◌≡◌, ℕ, ◌+◌, ◌≤◌, nat_lt, Bool, true, false, not, ◌&&◌, ◌||◌, [], length, Option, Some, None, slice_get, slice_set, unwrap_or, refl, sym, ap, ◌∙◌, arith}
use Rattle.std.proofs.lemmas.Bool.{le-ltb}
use Rattle.lua_values.specs.declared.values.Value.{Value}
use Rattle.lua_values.specs.Values.{is_nil}
use Rattle.lua_values.specs.Pairs.{value_at, has_entry, with_value, needs_entry}
use Rattle.lua_values.specs.Heap.{Heap, TableView}
use Rattle.lua_values.specs.StoreCalls.{table_of, pairs_of, takes_entry, set_cause, with_pair}
use Rattle.lua_values.proofs.BorderLemmas.{has_if_live}

there-of : (heap : Heap) (t : ℕ) (table : TableView) → slice_get heap.tables t ≡ Some table → table_of heap t ≡ table
there-of heap t table at = ap (λ (found : Option TableView). unwrap_or found (record { pairs = []; meta = None })) at

no_entry : (heap : Heap) (t : ℕ) (key v : Value) → is_nil (value_at (pairs_of heap t) key) ≡ false → takes_entry heap t key v ≡ false
no_entry heap t key v live = by (nat_lt t (length heap.tables))
  where
    needless : (nil : Bool) → not (nil || has_entry (pairs_of heap t) key) ≡ false
    needless true = refl
    needless false = ap not (has_if_live (pairs_of heap t) key live)

    by : (b : Bool) → (b && needs_entry (pairs_of heap t) key v) ≡ false
    by true = needless (is_nil v)
    by false = refl

pub renew-seen : (heap : Heap) (t : ℕ) (key : Value) (table : TableView) → slice_get heap.tables t ≡ Some table → is_nil (value_at table.pairs key) ≡ false
    → is_nil (value_at (pairs_of heap t) key) ≡ false
renew-seen heap t key table at live = ap (λ (x : TableView). is_nil (value_at x.pairs key)) (there-of heap t table at) ∙ live

pub renew-allowed : (heap : Heap) (t : ℕ) (key v : Value) → is_nil key ≡ false → heap.base.tables ≤ t → is_nil (value_at (pairs_of heap t) key) ≡ false
    → set_cause heap t key v ≡ None
renew-allowed heap t key v some unfrozen live = rw (some, le-ltb t heap.base.tables unfrozen, no_entry heap t key v live) refl

pub renewed : (heap : Heap) (t : ℕ) (key v : Value) (table new : TableView) → slice_get heap.tables t ≡ Some table → is_nil (value_at table.pairs key) ≡ false
    → new ≡ record { pairs = with_value table.pairs key v; meta = table.meta } → record heap { tables = slice_set heap.tables t new } ≡ with_pair heap t key v
renewed heap t key v table new at live is =
    let units : heap.units ≡ heap.units + 0 = omega arith in
    rw (is, no_entry heap t key v (renew-seen heap t key table at live))
    (ap (λ (x : TableView). record heap { tables = slice_set heap.tables t (record { pairs = with_value x.pairs key v; meta = x.meta }) }) (sym (there-of heap t table at))
    ∙ ap (λ (n : ℕ). record heap { tables = slice_set heap.tables t (record { pairs = with_value (pairs_of heap t) key v; meta = (table_of heap t).meta }); units = n }) units)
