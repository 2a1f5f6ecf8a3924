-- What is read of a heap that stands is known there.
use Rattle.std.proofs.Common.{ℕ, Bool, true, false, List, [], ◌∷◌, Option, None, Some, IfSome, All, if◌then◌else◌}
use Rattle.std.proofs.lemmas.List.Elements.{All-nil, All-head, All-tail}
use Rattle.resty_base.specs.ListLaws.{read_all}
use Rattle.lua_values.specs.declared.values.Value.{Value}
use Rattle.lua_values.specs.declared.values.Value.TheVariants.{Nil, Truth, Number, Text, Table, Closure, Native, Thread, Null, Object}
use Rattle.lua_values.specs.Values.{same, is_nil}
use Rattle.lua_values.specs.Pairs.{value_at}
use Rattle.lua_values.specs.Heap.{Heap}
use Rattle.lua_values.specs.NativeNumbers.{NamesBelow, TableNamesBelow}
use Rattle.lua_values.specs.StoreCalls as calls
use Rattle.lua_operators.specs.declared.events.Event.{Event}
use Rattle.lua_operators.specs.Events.{key_of}
use Rattle.lua_operators.specs.Types.{type_of}
use Rattle.lua_operators.specs.OperandFaults.{same_type}
use Rattle.lua_meaning.specs.declared.slots.Slot.{Slot}
use Rattle.lua_meaning.specs.declared.slots.Slot.TheVariants.{Plain, Shared}
use Rattle.lua_meaning.specs.Setting.{Setting}
use Rattle.lua_meaning.specs.Over.{native_count}
use Rattle.lua_meaning.specs.Signs.{first}
use Rattle.lua_meaning.specs.Variables.{in_cell, in_slot}
use Rattle.lua_meaning.specs.Indexing.{raw_value}
use Rattle.lua_meaning.specs.Metatables.{metatable_of, handler_in, handler, handler_of_two, handler_of_both}
use Rattle.lua_meaning_laws.specs.Standing.{Stands, Known}
use Rattle.lua_meaning_laws.proofs.Known.{Given, SlotKnown}

-- either of two
pub either : {X : Type 0} (P : X → Type 0) (b : Bool) (x y : X) → P x → P y → P (if b then x else y)
either P true x y p q = p
either P false x y p q = q

abbrev NamedPair : ℕ → Value × Value → Type 0
NamedPair bound p = NamesBelow bound p.0 × NamesBelow bound p.1

pub table_named : (bound : ℕ) (h : Heap) (t : ℕ) → All (TableNamesBelow bound) h.tables → All (λ (p : Value × Value). NamesBelow bound p.0 × NamesBelow bound p.1) (calls.pairs_of h t)
table_named bound h t n = read_all (TableNamesBelow bound) h.tables t (record { pairs = []; meta = None }) n (All-nil (NamedPair bound))

value_named : (bound : ℕ) (ps : List (Value × Value)) (key : Value) → All (NamedPair bound) ps → NamesBelow bound (value_at ps key)
value_named bound [] key n = tt
value_named bound (p ∷ ps) key n = by (same key p.0) (value_named bound ps key (All-tail (NamedPair bound) p ps n))
  where
    by : (b : Bool) → NamesBelow bound (value_at ps key) → NamesBelow bound (if b then p.1 else value_at ps key)
    by true rest = (All-head (NamedPair bound) p ps n).1
    by false rest = rest

module _ (S : Setting) (G : Given S) where
  pub at_known : (h : Heap) (t : ℕ) (key : Value) → Stands S h → Known S h (value_at (calls.pairs_of h t) key)
  at_known h t key st = (G.reads.get h t key st.fits, value_named (native_count S) (calls.pairs_of h t) key (table_named (native_count S) h t st.over.natives.tables))

  pub cell_known : (h : Heap) (c : ℕ) → Stands S h → Known S h (calls.cell_of h c)
  cell_known h c st = (G.reads.cell h c st.fits, read_all (NamesBelow (native_count S)) h.cells c Nil st.over.natives.cells tt)

  pub in_slot_known : (h : Heap) (x : Option Slot) → Stands S h → IfSome x (SlotKnown S h) → Known S h (in_slot x h)
  in_slot_known h None st k = (tt, tt)
  in_slot_known h (Some (Plain v)) st k = k
  in_slot_known h (Some (Shared c)) st k = cell_known h c st

  pub in_cell_known : (h : Heap) (c : Option ℕ) → Stands S h → Known S h (in_cell c h)
  in_cell_known h None st = (tt, tt)
  in_cell_known h (Some c) st = cell_known h c st

  pub raw_known : (h : Heap) (v key : Value) → Stands S h → Known S h (raw_value h v key)
  raw_known h (Table t) key st = at_known h t key st
  raw_known h Nil key st = (tt, tt)
  raw_known h (Truth b) key st = (tt, tt)
  raw_known h (Number n) key st = (tt, tt)
  raw_known h (Text x) key st = (tt, tt)
  raw_known h (Closure n) key st = (tt, tt)
  raw_known h (Native n) key st = (tt, tt)
  raw_known h (Thread n) key st = (tt, tt)
  raw_known h Null key st = (tt, tt)
  raw_known h (Object k n) key st = (tt, tt)

  pub first_known : (h : Heap) (vs : List Value) → All (Known S h) vs → Known S h (first vs)
  first_known h [] k = (tt, tt)
  first_known h (v ∷ vs) k = All-head (Known S h) v vs k

  in_known : (h : Heap) (meta : Option ℕ) (event : Event) → Stands S h → Known S h (handler_in h meta event)
  in_known h None event st = (tt, tt)
  in_known h (Some t) event st = at_known h t (Text (key_of event)) st

  pub handler_known : (h : Heap) (v : Value) (event : Event) → Stands S h → Known S h (handler h v event)
  handler_known h v event st = in_known h (metatable_of h v) event st

  pub of_two_known : (h : Heap) (a b : Value) (event : Event) → Stands S h → Known S h (handler_of_two h a b event)
  of_two_known h a b event st =
      either (Known S h) (is_nil (handler h a event)) (handler h b event) (handler h a event) (handler_known h b event st) (handler_known h a event st)

  pub of_both_known : (h : Heap) (a b : Value) (event : Event) → Stands S h → Known S h (handler_of_both h a b event)
  of_both_known h a b event st =
      either (Known S h) (same_type (type_of a) (type_of b)) (if same (handler h a event) (handler h b event) then handler h a event else Nil) Nil
      (either (Known S h) (same (handler h a event) (handler h b event)) (handler h a event) Nil (handler_known h a event st) (tt, tt)) (tt, tt)
