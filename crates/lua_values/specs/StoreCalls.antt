-- What each call of a store gives and leaves: raw access without metatables (Lua 5.1 Reference Manual, section 5.1, `rawget` and `rawset`). A number
-- that isn't there reads as an empty table, nil or nothing, and a write to it changes nothing.
use Rattle.std.specs.Prelude.{◌≡◌, ℕ, ◌+◌, ◌*◌, nat_lt, Bool, ◌&&◌, List, [], ◌∷◌, ◌++◌, length, Option, Some, None, slice_get, slice_set, unwrap_or}
use Rattle.std.specs.Prelude.{if◌then◌else◌}
use Rattle.lua_values.specs.declared.values.Value.{Value}
use Rattle.lua_values.specs.declared.values.Value.TheVariants.{Nil}
use Rattle.lua_values.specs.declared.values.ObjectKind.TheVariants.{Socket, Reader, Semaphore, Zone}
use Rattle.lua_values.specs.declared.kinds.TypeKind.{TypeKind}
use Rattle.lua_values.specs.declared.kinds.TypeKind.TheVariants.{Text, Object}
use Rattle.lua_values.specs.declared.kinds.TypeMetatables.{TypeMetatables}
use Rattle.lua_values.specs.declared.faults.StoreFault.{StoreFault}
use Rattle.lua_values.specs.declared.faults.StoreFault.TheVariants.{Full, Frozen, BadKey, Memory}
use Rattle.lua_values.specs.Values.{is_nil}
use Rattle.lua_values.specs.Pairs.{with_value, needs_entry}
use Rattle.lua_values.specs.declared.shifts.Shift.{Shift}
use Rattle.lua_values.specs.Shifts.{shifted, new_entries}
use Rattle.lua_values.specs.Heap.{Heap, TableView, StoreView, unit_limit}

-- the pairs and the metatable of a table
abbrev pub table_of : Heap → ℕ → TableView
table_of heap t = unwrap_or (slice_get heap.tables t) (record { pairs = []; meta = None })

abbrev pub pairs_of : Heap → ℕ → List (Value × Value)
pairs_of heap t = (table_of heap t).pairs

abbrev pub cell_of : Heap → ℕ → Value
cell_of heap c = unwrap_or (slice_get heap.cells c) Nil

-- the call is refused by its cause, or by `Memory` where it has none
abbrev pub IsCause : Option StoreFault → StoreFault → Type 0
IsCause None fault = fault ≡ Memory
IsCause (Some cause) fault = fault ≡ cause

-- n units more don't fit
abbrev pub is_full : Heap → ℕ → Bool
is_full heap n = nat_lt unit_limit (heap.units + n)

-- why n units more are refused
abbrev pub full_cause : Heap → ℕ → Option StoreFault
full_cause heap n = if is_full heap n then Some Full else None

-- why a write is refused to what is number n where so many are frozen
abbrev pub frozen_cause : ℕ → ℕ → Option StoreFault
frozen_cause frozen n = if nat_lt n frozen then Some Frozen else None

-- the table is there, and the key needs a new entry in it
abbrev pub takes_entry : Heap → ℕ → Value → Value → Bool
takes_entry heap t key value = nat_lt t (length heap.tables) && needs_entry (pairs_of heap t) key value

-- why a value isn't set at a key
abbrev pub set_cause : Heap → ℕ → Value → Value → Option StoreFault
set_cause heap t key value =
    if is_nil key then Some BadKey
    else if nat_lt t heap.base.tables then Some Frozen
    else if takes_entry heap t key value && is_full heap 32 then Some Full
    else None

-- a value at a key of a table; a new entry takes 32 units
abbrev pub with_pair : Heap → ℕ → Value → Value → Heap
with_pair heap t key value = record heap {
  tables = slice_set heap.tables t (record (table_of heap t) { pairs = with_value (pairs_of heap t) key value });
  units = heap.units + (if takes_entry heap t key value then 32 else 0);
}

-- the values at some numbers of a table, each moved by one; each new entry takes 32 units
abbrev pub shift_entries : Heap → ℕ → Shift → ℕ
shift_entries heap t shift = if nat_lt t (length heap.tables) then new_entries (pairs_of heap t) shift else 0

abbrev pub with_shift : Heap → ℕ → Shift → Heap
with_shift heap t shift =
    if nat_lt shift.to shift.from then heap
    else record heap {
      tables = slice_set heap.tables t (record (table_of heap t) { pairs = shifted (pairs_of heap t) shift });
      units = heap.units + 32 * shift_entries heap t shift;
    }

-- why values aren't moved
abbrev pub shift_cause : Heap → ℕ → Shift → Option StoreFault
shift_cause heap t shift =
    if nat_lt shift.to shift.from then None
    else if nat_lt t heap.base.tables then Some Frozen
    else if is_full heap (32 * shift_entries heap t shift) then Some Full
    else None

abbrev pub with_metatable : Heap → ℕ → Option ℕ → Heap
with_metatable heap t meta = record heap { tables = slice_set heap.tables t (record (table_of heap t) { meta = meta }) }

-- one more table, which is empty
abbrev pub with_table : Heap → Heap
with_table heap = record heap { tables = heap.tables ++ (record { pairs = []; meta = None }) ∷ []; units = heap.units + 32 }

abbrev pub with_cell : Heap → Value → Heap
with_cell heap value = record heap { cells = heap.cells ++ value ∷ []; units = heap.units + 16 }

abbrev pub with_cell_value : Heap → ℕ → Value → Heap
with_cell_value heap c value = record heap { cells = slice_set heap.cells c value }

-- the units of a closure
abbrev pub closure_units : List ℕ → ℕ
closure_units cells = 32 + 8 * length cells

abbrev pub with_closure : Heap → ℕ → List ℕ → Heap
with_closure heap function cells = record heap {
  closures = heap.closures ++ (record { function = function; cells = cells }) ∷ [];
  units = heap.units + closure_units cells;
}

-- all that is there is frozen
abbrev pub frozen : Heap → Heap
frozen heap = record heap { base = record { tables = length heap.tables; cells = length heap.cells; closures = length heap.closures } }

-- the metatable of all texts, or of all objects of a kind
abbrev pub type_metatable_of : TypeMetatables → TypeKind → Option ℕ
type_metatable_of metas Text = metas.text
type_metatable_of metas (Object Socket) = metas.socket
type_metatable_of metas (Object Reader) = metas.reader
type_metatable_of metas (Object Semaphore) = metas.semaphore
type_metatable_of metas (Object Zone) = metas.zone

abbrev pub with_type_metatable : TypeMetatables → TypeKind → Option ℕ → TypeMetatables
with_type_metatable metas Text meta = record metas { text = meta }
with_type_metatable metas (Object Socket) meta = record metas { socket = meta }
with_type_metatable metas (Object Reader) meta = record metas { reader = meta }
with_type_metatable metas (Object Semaphore) meta = record metas { semaphore = meta }
with_type_metatable metas (Object Zone) meta = record metas { zone = meta }

-- a new store: one empty table, which is the global table
abbrev pub new_store : StoreView
new_store = record {
  heap = record {
    tables = (record { pairs = []; meta = None }) ∷ [];
    cells = [];
    closures = [];
    base = record { tables = 0; cells = 0; closures = 0 };
    globals = 0;
    metatables = record { text = None; socket = None; reader = None; semaphore = None; zone = None };
    units = 32;
  };
  steps = 0;
}
