-- What fits a heap.
use Rattle.std.proofs.Common.{◌≡◌, ℕ, ◌+◌, ◌<◌, ◌≤◌, Bool, true, false, List, [], ◌∷◌, ◌++◌, length, Option, None, Some, IfSome, slice_set, All, refl, ap, ◌∙◌, if◌then◌else◌, arith, length-append}
use Rattle.std.proofs.lemmas.List.{length-set}
use Rattle.std.proofs.lemmas.List.Elements.{All-nil, All-cons, All-head, All-tail, All-set, All-push, All-weaker}
use Rattle.resty_base.specs.ListLaws.{read_all as read-all, read_some as read-some}
use Rattle.lua_values.specs.declared.values.Value.{Value}
use Rattle.lua_values.specs.declared.values.Value.TheVariants.{Nil, Truth, Number, Text, Table, Closure, Native, Thread, Null, Object}
use Rattle.lua_values.specs.declared.values.ObjectKind.TheVariants.{Socket, Reader, Semaphore, Zone}
use Rattle.lua_values.specs.declared.kinds.TypeKind.{TypeKind}
use Rattle.lua_values.specs.declared.kinds.TypeKind.TheVariants.{Text as OfTexts, Object as OfObjects}
use Rattle.lua_values.specs.declared.kinds.TypeMetatables.{TypeMetatables}
use Rattle.lua_values.specs.Values.{same, is_nil}
use Rattle.lua_values.specs.Pairs.{value_at, with_value, first_live, pairs_after, next_pair}
use Rattle.lua_values.specs.Heap.{Heap, TableView, ClosureView}
use Rattle.lua_values.specs.Fits.{Fits, FitsMeta, FitsPair, FitsTable, FitCells, FitTypes, FitsHeap, FitsItself, IsNoShorter}
use Rattle.lua_values.specs.Laws.{Keeps, StillFits, WritesKeepFitting, ReadsFit}
use Rattle.lua_values.specs.StoreCalls as calls

-- what fits a heap fits a longer one
pub later-value : (h g : Heap) → IsNoShorter h g → (v : Value) → Fits h v → Fits g v
later-value h g l (Table t) f = omega arith
later-value h g l (Closure c) f = omega arith
later-value h g l Nil f = tt
later-value h g l (Truth b) f = tt
later-value h g l (Number n) f = tt
later-value h g l (Text b) f = tt
later-value h g l (Native n) f = tt
later-value h g l (Thread n) f = tt
later-value h g l Null f = tt
later-value h g l (Object k n) f = tt

later-meta : (h g : Heap) → IsNoShorter h g → (m : Option ℕ) → FitsMeta h m → FitsMeta g m
later-meta h g l None f = tt
later-meta h g l (Some t) f = omega arith

later-pair : (h g : Heap) → IsNoShorter h g → (p : Value × Value) → FitsPair h p → FitsPair g p
later-pair h g l p f = (later-value h g l p.0 f.0, later-value h g l p.1 f.1)

later-table : (h g : Heap) → IsNoShorter h g → (table : TableView) → FitsTable h table → FitsTable g table
later-table h g l table f = (All-weaker (FitsPair h) (FitsPair g) (later-pair h g l) table.pairs f.0, later-meta h g l table.meta f.1)

later-cells : (h g : Heap) → IsNoShorter h g → (cells : List ℕ) → FitCells h cells → FitCells g cells
later-cells h g l cells f = All-weaker (λ c. c < length h.cells) (λ c. c < length g.cells) (λ c lt. omega arith) cells f

later-types : (h g : Heap) → IsNoShorter h g → (metas : TypeMetatables) → FitTypes h metas → FitTypes g metas
later-types h g l metas f = record {
  text = later-meta h g l metas.text f.text;
  socket = later-meta h g l metas.socket f.socket;
  reader = later-meta h g l metas.reader f.reader;
  semaphore = later-meta h g l metas.semaphore f.semaphore;
  zone = later-meta h g l metas.zone f.zone;
}

later-heap : (h g other : Heap) → IsNoShorter h g → FitsHeap h other → FitsHeap g other
later-heap h g other l f = record {
  tables = All-weaker (FitsTable h) (FitsTable g) (later-table h g l) other.tables f.tables;
  cells = All-weaker (Fits h) (Fits g) (later-value h g l) other.cells f.cells;
  closures = All-weaker (λ closure. FitCells h closure.cells) (λ closure. FitCells g closure.cells) (λ closure. later-cells h g l closure.cells) other.closures f.closures;
  globals = omega (arith, f.globals, l.tables);
  metatables = later-types h g l other.metatables f.metatables;
  frozen_tables = omega (arith, f.frozen_tables, l.tables);
  frozen_cells = omega (arith, f.frozen_cells, l.cells);
  frozen_closures = omega (arith, f.frozen_closures, l.closures);
}

pub still_fits : StillFits
still_fits = record { value = λ h g v l f. later-value h g l v f; heap = later-heap }

-- the parts of a heap that fit an earlier one
pub record FitsEarlier (h g : Heap) : Type 0 where
  pub longer : IsNoShorter h g
  pub tables : All (FitsTable h) g.tables
  pub cells : All (Fits h) g.cells
  pub closures : All (λ closure. FitCells h closure.cells) g.closures
  pub globals : g.globals < length h.tables
  pub metatables : FitTypes h g.metatables
  pub frozen_tables : g.base.tables ≤ length g.tables
  pub frozen_cells : g.base.cells ≤ length g.cells
  pub frozen_closures : g.base.closures ≤ length g.closures

-- such a heap fits itself
keeps : (h g : Heap) → FitsEarlier h g → Keeps h g
keeps h g f = (
  record {
    tables = All-weaker (FitsTable h) (FitsTable g) (later-table h g f.longer) g.tables f.tables;
    cells = All-weaker (Fits h) (Fits g) (later-value h g f.longer) g.cells f.cells;
    closures = All-weaker (λ closure. FitCells h closure.cells) (λ closure. FitCells g closure.cells) (λ closure. later-cells h g f.longer closure.cells) g.closures f.closures;
    globals = omega arith;
    metatables = later-types h g f.longer g.metatables f.metatables;
    frozen_tables = f.frozen_tables;
    frozen_cells = f.frozen_cells;
    frozen_closures = f.frozen_closures;
  },
  f.longer,
)

pub table-fits : (h : Heap) (t : ℕ) → FitsItself h → FitsTable h (calls.table_of h t)
table-fits h t f = read-all (FitsTable h) h.tables t (record { pairs = []; meta = None }) f.tables (All-nil (FitsPair h), tt)

-- values of pairs that fit
value_at-fits : (h : Heap) (ps : List (Value × Value)) (k : Value) → All (FitsPair h) ps → Fits h (value_at ps k)
value_at-fits h [] k f = tt
value_at-fits h (p ∷ ps) k f = by (same k p.0) (value_at-fits h ps k (All-tail (FitsPair h) p ps f))
  where
    by : (b : Bool) → Fits h (value_at ps k) → Fits h (if b then p.1 else value_at ps k)
    by true rest = (All-head (FitsPair h) p ps f).1
    by false rest = rest

with_value-fits : (h : Heap) (ps : List (Value × Value)) (k v : Value) → Fits h k → Fits h v → All (FitsPair h) ps → All (FitsPair h) (with_value ps k v)
with_value-fits h [] k v fk fv f = by (is_nil v)
  where
    by : (b : Bool) → All (FitsPair h) (if b then [] else (k, v) ∷ [])
    by true = All-nil (FitsPair h)
    by false = All-cons (FitsPair h) (k, v) [] (fk, fv) (All-nil (FitsPair h))
with_value-fits h (p ∷ ps) k v fk fv f = by (same k p.0) (with_value-fits h ps k v fk fv (All-tail (FitsPair h) p ps f))
  where
    by : (b : Bool) → All (FitsPair h) (with_value ps k v) → All (FitsPair h) (if b then (p.0, v) ∷ ps else p ∷ with_value ps k v)
    by true rest = All-cons (FitsPair h) (p.0, v) ps ((All-head (FitsPair h) p ps f).0, fv) (All-tail (FitsPair h) p ps f)
    by false rest = All-cons (FitsPair h) p (with_value ps k v) (All-head (FitsPair h) p ps f) rest

first_live-fits : (h : Heap) (ps : List (Value × Value)) → All (FitsPair h) ps → IfSome (first_live ps) (FitsPair h)
first_live-fits h [] f = tt
first_live-fits h (p ∷ ps) f = by (is_nil p.1) (first_live-fits h ps (All-tail (FitsPair h) p ps f))
  where
    by : (b : Bool) → IfSome (first_live ps) (FitsPair h) → IfSome (if b then first_live ps else Some p) (FitsPair h)
    by true rest = rest
    by false rest = All-head (FitsPair h) p ps f

after-fits : (h : Heap) (ps : List (Value × Value)) (k : Value) → All (FitsPair h) ps → All (FitsPair h) (pairs_after ps k)
after-fits h [] k f = f
after-fits h (p ∷ ps) k f = by (same k p.0) (after-fits h ps k (All-tail (FitsPair h) p ps f))
  where
    by : (b : Bool) → All (FitsPair h) (pairs_after ps k) → All (FitsPair h) (if b then ps else pairs_after ps k)
    by true rest = All-tail (FitsPair h) p ps f
    by false rest = rest

next-fits : (h : Heap) (ps : List (Value × Value)) (k : Value) → All (FitsPair h) ps → IfSome (next_pair ps k) (FitsPair h)
next-fits h ps k f = by (is_nil k)
  where
    by : (b : Bool) → IfSome (first_live (if b then ps else pairs_after ps k)) (FitsPair h)
    by true = first_live-fits h ps f
    by false = first_live-fits h (pairs_after ps k) (after-fits h ps k f)

type-fits : (h : Heap) (metas : TypeMetatables) (kind : TypeKind) → FitTypes h metas → FitsMeta h (calls.type_metatable_of metas kind)
type-fits h metas OfTexts f = f.text
type-fits h metas (OfObjects Socket) f = f.socket
type-fits h metas (OfObjects Reader) f = f.reader
type-fits h metas (OfObjects Semaphore) f = f.semaphore
type-fits h metas (OfObjects Zone) f = f.zone

with_type-fits : (h : Heap) (metas : TypeMetatables) (kind : TypeKind) (m : Option ℕ) → FitTypes h metas → FitsMeta h m → FitTypes h (calls.with_type_metatable metas kind m)
with_type-fits h metas OfTexts m f g = record { text = g; socket = f.socket; reader = f.reader; semaphore = f.semaphore; zone = f.zone }
with_type-fits h metas (OfObjects Socket) m f g = record { text = f.text; socket = g; reader = f.reader; semaphore = f.semaphore; zone = f.zone }
with_type-fits h metas (OfObjects Reader) m f g = record { text = f.text; socket = f.socket; reader = g; semaphore = f.semaphore; zone = f.zone }
with_type-fits h metas (OfObjects Semaphore) m f g = record { text = f.text; socket = f.socket; reader = f.reader; semaphore = g; zone = f.zone }
with_type-fits h metas (OfObjects Zone) m f g = record { text = f.text; socket = f.socket; reader = f.reader; semaphore = f.semaphore; zone = g }

pub reads_fit : ReadsFit
reads_fit = record {
  get = λ h t k f. value_at-fits h (calls.pairs_of h t) k (table-fits h t f).0;
  next = λ h t k f. next-fits h (calls.pairs_of h t) k (table-fits h t f).0;
  metatable = λ h t f. (table-fits h t f).1;
  cell = λ h c f. read-all (Fits h) h.cells c Nil f.cells tt;
  closure = λ h c f. read-some (λ closure. FitCells h closure.cells) h.closures c f.closures;
  type_metatable = λ h kind f. type-fits h h.metatables kind f.metatables;
}

-- each write leaves parts that fit the heap before it
set-tables : (h g : Heap) (t : ℕ) (table : TableView) → FitsItself h → FitsTable h table → g.tables ≡ slice_set h.tables t table
    → g.cells ≡ h.cells → g.closures ≡ h.closures → g.base ≡ h.base → g.globals ≡ h.globals → g.metatables ≡ h.metatables → FitsEarlier h g
set-tables h g t table f ft e1 e2 e3 e4 e5 e6 =
    let long : length g.tables ≡ length h.tables = ap length e1 ∙ length-set h.tables t table in
    record {
      longer = record { tables = omega arith; cells = rw e2 (omega arith); closures = rw e3 (omega arith) };
      tables = rw e1 (All-set (FitsTable h) h.tables t table ft f.tables);
      cells = rw e2 f.cells;
      closures = rw e3 f.closures;
      globals = rw e5 f.globals;
      metatables = rw e6 f.metatables;
      frozen_tables = rw (e4, long) f.frozen_tables;
      frozen_cells = rw (e4, e2) f.frozen_cells;
      frozen_closures = rw (e4, e3) f.frozen_closures;
    }

pub writes_keep_fitting : WritesKeepFitting
writes_keep_fitting = record {
  set = λ h t k v f fk fv. keeps h (calls.with_pair h t k v) (set-tables h (calls.with_pair h t k v) t (record { pairs = with_value (calls.pairs_of h t) k v; meta = (calls.table_of h t).meta }) f (with_value-fits h (calls.pairs_of h t) k v fk fv (table-fits h t f).0, (table-fits h t f).1) refl refl refl refl refl refl);
  set_metatable = λ h t m f fm. keeps h (calls.with_metatable h t m) (set-tables h (calls.with_metatable h t m) t (record { pairs = calls.pairs_of h t; meta = m }) f ((table-fits h t f).0, fm) refl refl refl refl refl refl);
  make_table = λ h f. keeps h (calls.with_table h) (one_table h f);
  make_cell = λ h v f fv. keeps h (calls.with_cell h v) (one_cell h v f fv);
  set_cell = λ h c v f fv. keeps h (calls.with_cell_value h c v) (cell_value h c v f fv);
  make_closure = λ h function cells f fc. keeps h (calls.with_closure h function cells) (one_closure h function cells f fc);
  freeze = λ h f. keeps h (calls.frozen h) (record { longer = record { tables = omega arith; cells = omega arith; closures = omega arith }; tables = f.tables; cells = f.cells; closures = f.closures; globals = f.globals; metatables = f.metatables; frozen_tables = omega arith; frozen_cells = omega arith; frozen_closures = omega arith });
  set_globals = λ h t f there. keeps h (record h { globals = t }) (record { longer = record { tables = omega arith; cells = omega arith; closures = omega arith }; tables = f.tables; cells = f.cells; closures = f.closures; globals = there; metatables = f.metatables; frozen_tables = f.frozen_tables; frozen_cells = f.frozen_cells; frozen_closures = f.frozen_closures });
  set_type_metatable = λ h kind m f fm.
      keeps h (record h { metatables = calls.with_type_metatable h.metatables kind m })
      (record { longer = record { tables = omega arith; cells = omega arith; closures = omega arith }; tables = f.tables; cells = f.cells; closures = f.closures; globals = f.globals; metatables = with_type-fits h h.metatables kind m f.metatables fm; frozen_tables = f.frozen_tables; frozen_cells = f.frozen_cells; frozen_closures = f.frozen_closures });
  add_units = λ h n f. keeps h (record h { units = n }) (record { longer = record { tables = omega arith; cells = omega arith; closures = omega arith }; tables = f.tables; cells = f.cells; closures = f.closures; globals = f.globals; metatables = f.metatables; frozen_tables = f.frozen_tables; frozen_cells = f.frozen_cells; frozen_closures = f.frozen_closures });
  new = new_fits;
}
  where
    one_table : (h : Heap) → FitsItself h → FitsEarlier h (calls.with_table h)
    one_table h f =
        let long : length (h.tables ++ (record { pairs = []; meta = None }) ∷ []) ≡ length h.tables + 1 = length-append h.tables ((record { pairs = []; meta = None }) ∷ []) in
        record {
          longer = record { tables = omega arith; cells = omega arith; closures = omega arith };
          tables = All-push (FitsTable h) h.tables (record { pairs = []; meta = None }) f.tables (All-nil (FitsPair h), tt);
          cells = f.cells;
          closures = f.closures;
          globals = f.globals;
          metatables = f.metatables;
          frozen_tables = omega (arith, f.frozen_tables);
          frozen_cells = f.frozen_cells;
          frozen_closures = f.frozen_closures;
        }

    one_cell : (h : Heap) (v : Value) → FitsItself h → Fits h v → FitsEarlier h (calls.with_cell h v)
    one_cell h v f fv =
        let long : length (h.cells ++ v ∷ []) ≡ length h.cells + 1 = length-append h.cells (v ∷ []) in
        record {
          longer = record { tables = omega arith; cells = omega arith; closures = omega arith };
          tables = f.tables;
          cells = All-push (Fits h) h.cells v f.cells fv;
          closures = f.closures;
          globals = f.globals;
          metatables = f.metatables;
          frozen_tables = f.frozen_tables;
          frozen_cells = omega (arith, f.frozen_cells);
          frozen_closures = f.frozen_closures;
        }

    cell_value : (h : Heap) (c : ℕ) (v : Value) → FitsItself h → Fits h v → FitsEarlier h (calls.with_cell_value h c v)
    cell_value h c v f fv =
        let long : length (slice_set h.cells c v) ≡ length h.cells = length-set h.cells c v in
        record {
          longer = record { tables = omega arith; cells = omega arith; closures = omega arith };
          tables = f.tables;
          cells = All-set (Fits h) h.cells c v fv f.cells;
          closures = f.closures;
          globals = f.globals;
          metatables = f.metatables;
          frozen_tables = f.frozen_tables;
          frozen_cells = omega (arith, f.frozen_cells);
          frozen_closures = f.frozen_closures;
        }

    one_closure : (h : Heap) (function : ℕ) (cells : List ℕ) → FitsItself h → FitCells h cells → FitsEarlier h (calls.with_closure h function cells)
    one_closure h function cells f fc =
        let closure : ClosureView = record { function = function; cells = cells } in
        let long : length (h.closures ++ closure ∷ []) ≡ length h.closures + 1 = length-append h.closures (closure ∷ []) in
        record {
          longer = record { tables = omega arith; cells = omega arith; closures = omega arith };
          tables = f.tables;
          cells = f.cells;
          closures = All-push (λ closure. FitCells h closure.cells) h.closures closure f.closures fc;
          globals = f.globals;
          metatables = f.metatables;
          frozen_tables = f.frozen_tables;
          frozen_cells = f.frozen_cells;
          frozen_closures = omega (arith, f.frozen_closures);
        }

    new_fits : FitsItself calls.new_store.heap
    new_fits = record {
      tables = All-cons (FitsTable calls.new_store.heap) (record { pairs = []; meta = None }) [] (All-nil (FitsPair calls.new_store.heap), tt) (All-nil (FitsTable calls.new_store.heap));
      cells = All-nil (Fits calls.new_store.heap);
      closures = All-nil (λ closure. FitCells calls.new_store.heap closure.cells);
      globals = omega arith;
      metatables = record { text = tt; socket = tt; reader = tt; semaphore = tt; zone = tt };
      frozen_tables = omega arith;
      frozen_cells = omega arith;
      frozen_closures = omega arith;
    }
