-- What a call writes leaves a heap that keeps standing.
use Rattle.std.proofs.Common.{◌≡◌, ℕ, ◌≤◌, nat_lt, Bool, true, false, ◌&&◌, List, [], ◌∷◌, None, Some, All, refl, if◌then◌else◌}
use borrow.Author.Tests.{ltb-false}
use Rattle.std.proofs.lemmas.List.{take-set-le, take-append-le}
use Rattle.std.proofs.lemmas.List.Elements.{All-nil, All-cons, All-head, All-tail, All-append, All-set}
use Rattle.lua_values.specs.declared.values.Value.{Value}
use Rattle.lua_values.specs.declared.faults.StoreFault.TheVariants.{Full, Frozen, BadKey}
use Rattle.lua_values.specs.Values.{same, is_nil}
use Rattle.lua_values.specs.Pairs.{with_value}
use Rattle.lua_values.specs.Heap.{Heap, TableView}
use Rattle.lua_values.specs.Fits.{FitCells}
use Rattle.lua_values.specs.Laws.{Keeps}
use Rattle.lua_values.specs.NativeNumbers.{NamesBelow, TableNamesBelow}
use Rattle.lua_values.specs.StoreCalls as calls
use Rattle.lua_meaning.specs.Setting.{Setting}
use Rattle.lua_meaning.specs.Over.{IsClosureOver, native_count}
use Rattle.lua_meaning_laws.specs.Standing.{Stands, Known, StandsAfter}
use Rattle.lua_meaning_laws.proofs.Known.{Given}
use Rattle.lua_meaning_laws.proofs.Readings.{table_named}

abbrev NamedPair : ℕ → Value × Value → Type 0
NamedPair bound p = NamesBelow bound p.0 × NamesBelow bound p.1

with_value_named : (bound : ℕ) (ps : List (Value × Value)) (key value : Value) → NamesBelow bound key → NamesBelow bound value → All (NamedPair bound) ps → All (NamedPair bound) (with_value ps key value)
with_value_named bound [] key value nk nv n = by (is_nil value)
  where
    by : (b : Bool) → All (NamedPair bound) (if b then [] else (key, value) ∷ [])
    by true = All-nil (NamedPair bound)
    by false = All-cons (NamedPair bound) (key, value) [] (nk, nv) (All-nil (NamedPair bound))
with_value_named bound (p ∷ ps) key value nk nv n = by (same key p.0) (with_value_named bound ps key value nk nv (All-tail (NamedPair bound) p ps n))
  where
    by : (b : Bool) → All (NamedPair bound) (with_value ps key value) → All (NamedPair bound) (if b then (p.0, value) ∷ ps else p ∷ with_value ps key value)
    by true rest = All-cons (NamedPair bound) (p.0, value) ps ((All-head (NamedPair bound) p ps n).0, nv) (All-tail (NamedPair bound) p ps n)
    by false rest = All-cons (NamedPair bound) p (with_value ps key value) (All-head (NamedPair bound) p ps n) rest

-- nothing that is frozen is written
set_later : (h : Heap) (t : ℕ) (key value : Value) → calls.set_cause h t key value ≡ None → h.base.tables ≤ t
set_later h t key value e = by (is_nil key) (nat_lt t h.base.tables) (calls.takes_entry h t key value && calls.is_full h 32) refl e
  where
    by : (b c d : Bool) → nat_lt t h.base.tables ≡ c → (if b then Some BadKey else if c then Some Frozen else if d then Some Full else None) ≡ None → h.base.tables ≤ t
    by true c d q f = absurd (cc)
    by false true d q f = absurd (cc)
    by false false d q f = ltb-false t h.base.tables q

frozen_later : (frozen n : ℕ) → calls.frozen_cause frozen n ≡ None → frozen ≤ n
frozen_later frozen n e = by (nat_lt n frozen) refl e
  where
    by : (c : Bool) → nat_lt n frozen ≡ c → (if c then Some Frozen else None) ≡ None → frozen ≤ n
    by true q f = absurd (cc)
    by false q f = ltb-false n frozen q

module _ (S : Setting) (G : Given S) where
  pub pair_keeps : (h : Heap) (t : ℕ) (key value : Value) → Stands S h → Known S h key → Known S h value → calls.set_cause h t key value ≡ None → StandsAfter S h (calls.with_pair h t key value)
  pair_keeps h t key value st k v e =
      let keeps : Keeps h (calls.with_pair h t key value) = G.writes.set h t key value st.fits k.0 v.0 in
      let Names = TableNamesBelow (native_count S) in
      let table : TableView = record { pairs = with_value (calls.pairs_of h t) key value; meta = (calls.table_of h t).meta } in
      let named : Names table = with_value_named (native_count S) (calls.pairs_of h t) key value k.1 v.1 (table_named (native_count S) h t st.over.natives.tables) in
      record {
        stands = record {
          fits = keeps.0;
          over = record { closures = st.over.closures; natives = record { tables = All-set Names h.tables t table named st.over.natives.tables; cells = st.over.natives.cells } };
        };
        frozen = record { base = refl; tables = take-set-le h.base.tables h.tables t table (set_later h t key value e); cells = refl; closures = refl; no_shorter = keeps.1 };
      }

  pub table_keeps : (h : Heap) → Stands S h → StandsAfter S h (calls.with_table h)
  table_keeps h st =
      let keeps : Keeps h (calls.with_table h) = G.writes.make_table h st.fits in
      let Names = TableNamesBelow (native_count S) in
      let table : TableView = record { pairs = []; meta = None } in
      record {
        stands = record {
          fits = keeps.0;
          over = record {
            closures = st.over.closures;
            natives = record { tables = All-append Names h.tables (table ∷ []) st.over.natives.tables (All-cons Names table [] (All-nil (NamedPair (native_count S))) (All-nil Names)); cells = st.over.natives.cells };
          };
        };
        frozen = record { base = refl; tables = take-append-le h.base.tables h.tables (table ∷ []) st.fits.frozen_tables; cells = refl; closures = refl; no_shorter = keeps.1 };
      }

  pub cell_keeps : (h : Heap) (v : Value) → Stands S h → Known S h v → StandsAfter S h (calls.with_cell h v)
  cell_keeps h v st k =
      let keeps : Keeps h (calls.with_cell h v) = G.writes.make_cell h v st.fits k.0 in
      let Names = NamesBelow (native_count S) in
      record {
        stands = record {
          fits = keeps.0;
          over = record {
            closures = st.over.closures;
            natives = record { tables = st.over.natives.tables; cells = All-append Names h.cells (v ∷ []) st.over.natives.cells (All-cons Names v [] k.1 (All-nil Names)) };
          };
        };
        frozen = record { base = refl; tables = refl; cells = take-append-le h.base.cells h.cells (v ∷ []) st.fits.frozen_cells; closures = refl; no_shorter = keeps.1 };
      }

  pub cell_value_keeps : (h : Heap) (c : ℕ) (v : Value) → Stands S h → Known S h v → calls.frozen_cause h.base.cells c ≡ None → StandsAfter S h (calls.with_cell_value h c v)
  cell_value_keeps h c v st k e =
      let keeps : Keeps h (calls.with_cell_value h c v) = G.writes.set_cell h c v st.fits k.0 in
      record {
        stands = record {
          fits = keeps.0;
          over = record {
            closures = st.over.closures;
            natives = record { tables = st.over.natives.tables; cells = All-set (NamesBelow (native_count S)) h.cells c v k.1 st.over.natives.cells };
          };
        };
        frozen = record { base = refl; tables = refl; cells = take-set-le h.base.cells h.cells c v (frozen_later h.base.cells c e); closures = refl; no_shorter = keeps.1 };
      }

  pub closure_keeps : (h : Heap) (function : ℕ) (cells : List ℕ) → Stands S h → FitCells h cells → IsClosureOver S (record { function = function; cells = cells })
      → StandsAfter S h (calls.with_closure h function cells)
  closure_keeps h function cells st fit is =
      let keeps : Keeps h (calls.with_closure h function cells) = G.writes.make_closure h function cells st.fits fit in
      let Over = IsClosureOver S in
      record {
        stands = record {
          fits = keeps.0;
          over = record {
            closures = All-append Over h.closures ((record { function = function; cells = cells }) ∷ []) st.over.closures (All-cons Over (record { function = function; cells = cells }) [] is (All-nil Over));
            natives = record { tables = st.over.natives.tables; cells = st.over.natives.cells };
          };
        };
        frozen = record { base = refl; tables = refl; cells = refl; closures = take-append-le h.base.closures h.closures ((record { function = function; cells = cells }) ∷ []) st.fits.frozen_closures; no_shorter = keeps.1 };
      }

  pub units_keep : (h : Heap) (n : ℕ) → Stands S h → StandsAfter S h (record h { units = n })
  units_keep h n st =
      let keeps : Keeps h (record h { units = n }) = G.writes.add_units h n st.fits in
      record {
        stands = record { fits = keeps.0; over = record { closures = st.over.closures; natives = record { tables = st.over.natives.tables; cells = st.over.natives.cells } } };
        frozen = record { base = refl; tables = refl; cells = refl; closures = refl; no_shorter = keeps.1 };
      }
