-- What the functions of the library leave of a heap.
use Rattle.std.proofs.Common.{◌≡◌, ℕ, ◌+◌, ◌<◌, ◌≤◌, nat_lt, Bool, true, false, List, [], ◌∷◌, length, Option, None, Some, Result, Ok, Err, slice_set, All, refl, if◌then◌else◌, ◌&&◌, arith}
use borrow.Author.Tests.{ltb-false}
use Rattle.std.proofs.lemmas.List.{take-set-le}
use Rattle.std.proofs.lemmas.List.Elements.{All-nil, All-cons, All-set}
use Rattle.lua_values.specs.declared.values.Value.{Value}
use Rattle.lua_values.specs.declared.values.Value.TheVariants.{Text, Table}
use Rattle.lua_values.specs.declared.faults.StoreFault.{StoreFault}
use Rattle.lua_values.specs.declared.faults.StoreFault.TheVariants.{Full, Frozen, BadKey}
use Rattle.lua_values.specs.Values.{is_nil}
use Rattle.lua_values.specs.Pairs.{with_value}
use Rattle.lua_values.specs.Heap.{Heap, TableView}
use Rattle.lua_values.specs.Fits.{FitsMeta, IsNoShorter}
use Rattle.lua_values.specs.Laws.{Keeps}
use Rattle.lua_values.specs.NativeNumbers.{TableNamesBelow}
use Rattle.lua_values.specs.NativeCalls.{IsKnown, LeavesHeap}
use Rattle.lua_values.specs.StoreCalls as calls
use Rattle.lua_lib_base.specs.declared.refusals.Refusal.{Refusal}
use Rattle.lua_lib_base.specs.declared.refusals.Refusal.TheVariants.{ProtectedMetatable}
use Rattle.lua_lib_base.specs.Work.{making}
use Rattle.lua_lib_base.specs.Results.{LibraryResult, Gave, gives, refuses, with_argument, unless_refused}
use Rattle.lua_lib_base.specs.Texts.{text_cause, with_text, made_text}
use Rattle.lua_lib_base.specs.Lawful.{IsLawfulResult}
use Rattle.lua_lib_basic.specs.Raw.{set_raw}
use Rattle.lua_lib_basic.specs.Metatables.{protection, set_metatable}
use Rattle.lua_lib_basic.proofs.KnownLemmas.{Setup, table_named, with_value_named}

-- nothing is written
pub kept : (bound : ℕ) (heap : Heap) (args : List Value) → Setup bound heap args → LeavesHeap bound heap heap
kept bound heap args s = record {
  frozen = record { base = refl; tables = refl; cells = refl; closures = refl; no_shorter = record { tables = omega arith; cells = omega arith; closures = omega arith } };
  closures = refl;
  fits = s.fits;
  natives = s.names;
}

pub with_lawful : {T : Type 0} (bound : ℕ) (heap : Heap) (args : List Value) (r : Result T Refusal) (go : T → LibraryResult) → Setup bound heap args
    → ((a : T) → r ≡ Ok a → IsLawfulResult bound heap (go a)) → IsLawfulResult bound heap (with_argument r heap go)
with_lawful bound heap args (Ok a) go s h = h a refl
with_lawful bound heap args (Err e) go s h = kept bound heap args s

pub unless_lawful : (bound : ℕ) (heap : Heap) (args : List Value) (cause : Option StoreFault) (go : LibraryResult) → Setup bound heap args
    → (cause ≡ None → IsLawfulResult bound heap go) → IsLawfulResult bound heap (unless_refused cause heap go)
unless_lawful bound heap args None go s h = h refl
unless_lawful bound heap args (Some cause) go s h = kept bound heap args s

-- a text that is made
pub made_lawful : (bound : ℕ) (heap : Heap) (args : List Value) (text : List ℕ) → Setup bound heap args → IsLawfulResult bound heap (made_text heap text)
made_lawful bound heap args text s =
    unless_lawful bound heap args (text_cause heap (length text)) (Gave (Text text ∷ []) (with_text heap (length text)) (making (length text))) s (λ _.
    let keeps : Keeps heap (with_text heap (length text)) = s.writes.add_units heap (heap.units + (length text + 16)) s.fits in (
      record {
        frozen = record { base = refl; tables = refl; cells = refl; closures = refl; no_shorter = keeps.1 };
        closures = refl;
        fits = keeps.0;
        natives = record { tables = s.names.tables; cells = s.names.cells };
      },
      All-cons (IsKnown bound (with_text heap (length text))) (Text text) [] (tt, tt) (All-nil (IsKnown bound (with_text heap (length text)))),
    ))

-- a table that isn't frozen is written
written : (bound : ℕ) (heap new : Heap) (args : List Value) (t : ℕ) (table : TableView) → Setup bound heap args → heap.base.tables ≤ t → Keeps heap new → TableNamesBelow bound table
    → new.tables ≡ slice_set heap.tables t table → new.cells ≡ heap.cells → new.closures ≡ heap.closures → new.base ≡ heap.base → LeavesHeap bound heap new
written bound heap new args t table s later keeps names e1 e2 e3 e4 = record {
  frozen = record {
    base = e4;
    tables = rw e1 (take-set-le heap.base.tables heap.tables t table later);
    cells = rw e2 refl;
    closures = rw e3 refl;
    no_shorter = keeps.1;
  };
  closures = e3;
  fits = keeps.0;
  natives = record { tables = rw e1 (All-set (TableNamesBelow bound) heap.tables t table names s.names.tables); cells = rw e2 s.names.cells };
}

-- no frozen table is written
set_later : (heap : Heap) (t : ℕ) (key value : Value) → calls.set_cause heap t key value ≡ None → heap.base.tables ≤ t
set_later heap t key value e = by (is_nil key) (nat_lt t heap.base.tables) (calls.takes_entry heap t key value && calls.is_full heap 32) refl e
  where
    by : (b c d : Bool) → nat_lt t heap.base.tables ≡ c → (if b then Some BadKey else if c then Some Frozen else if d then Some Full else None) ≡ None → heap.base.tables ≤ t
    by true c d q f = absurd (cc)
    by false true d q f = absurd (cc)
    by false false d q f = ltb-false t heap.base.tables q

meta_later : (heap : Heap) (t : ℕ) → calls.frozen_cause heap.base.tables t ≡ None → heap.base.tables ≤ t
meta_later heap t e = by (nat_lt t heap.base.tables) refl e
  where
    by : (c : Bool) → nat_lt t heap.base.tables ≡ c → (if c then Some Frozen else None) ≡ None → heap.base.tables ≤ t
    by true q f = absurd (cc)
    by false q f = ltb-false t heap.base.tables q

table_given : (bound : ℕ) (heap new : Heap) (t : ℕ) → t < length heap.tables → IsNoShorter heap new → All (IsKnown bound new) (Table t ∷ [])
table_given bound heap new t there longer = All-cons (IsKnown bound new) (Table t) [] (omega (arith, there, longer.tables), tt) (All-nil (IsKnown bound new))

pub set_raw_lawful : (bound : ℕ) (heap : Heap) (args : List Value) (t : ℕ) (key value : Value) → Setup bound heap args → t < length heap.tables → IsKnown bound heap key → IsKnown bound heap value
    → IsLawfulResult bound heap (set_raw heap t key value)
set_raw_lawful bound heap args t key value s there k v =
    unless_lawful bound heap args (calls.set_cause heap t key value) (gives (Table t ∷ []) (calls.with_pair heap t key value)) s (λ none.
    let keeps : Keeps heap (calls.with_pair heap t key value) = s.writes.set heap t key value s.fits k.0 v.0 in (
      written bound heap (calls.with_pair heap t key value) args t (record { pairs = with_value (calls.pairs_of heap t) key value; meta = (calls.table_of heap t).meta }) s
          (set_later heap t key value none) keeps (with_value_named bound (calls.pairs_of heap t) key value k.1 v.1 (table_named bound heap t s.names)) refl refl refl refl,
      table_given bound heap (calls.with_pair heap t key value) t there keeps.1,
    ))

pub set_metatable_lawful : (bound : ℕ) (heap : Heap) (args : List Value) (t : ℕ) (meta : Option ℕ) → Setup bound heap args → t < length heap.tables → FitsMeta heap meta
    → IsLawfulResult bound heap (set_metatable heap t meta)
set_metatable_lawful bound heap args t meta s there m = by (is_nil (protection heap (calls.table_of heap t).meta))
  where
    set : IsLawfulResult bound heap (unless_refused (calls.frozen_cause heap.base.tables t) heap (gives (Table t ∷ []) (calls.with_metatable heap t meta)))
    set =
        unless_lawful bound heap args (calls.frozen_cause heap.base.tables t) (gives (Table t ∷ []) (calls.with_metatable heap t meta)) s (λ none.
        let keeps : Keeps heap (calls.with_metatable heap t meta) = s.writes.set_metatable heap t meta s.fits m in (
          written bound heap (calls.with_metatable heap t meta) args t (record { pairs = calls.pairs_of heap t; meta = meta }) s
              (meta_later heap t none) keeps (table_named bound heap t s.names) refl refl refl refl,
          table_given bound heap (calls.with_metatable heap t meta) t there keeps.1,
        ))

    by : (b : Bool) → IsLawfulResult bound heap (if b then unless_refused (calls.frozen_cause heap.base.tables t) heap (gives (Table t ∷ []) (calls.with_metatable heap t meta)) else refuses ProtectedMetatable heap)
    by true = set
    by false = kept bound heap args s
