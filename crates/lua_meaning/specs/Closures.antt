-- Closures (Lua 5.1 Reference Manual, 2.5.9 and 2.6): the variables that a closure captures become cells, which it shares with
-- the enclosing function and with its other closures.
use Rattle.std.specs.Prelude.{ℕ, List, [], ◌∷◌, ◌++◌, length, Option, Some, None, slice_get, slice_set}
use Rattle.lua_ast.specs.declared.programs.Capture.{Capture}
use Rattle.lua_ast.specs.declared.programs.Capture.TheVariants as capture
use Rattle.lua_ast.specs.declared.programs.Function.{Function}
use Rattle.lua_values.specs.declared.values.Value.{Value}
use Rattle.lua_values.specs.declared.values.Value.TheVariants.{Closure}
use Rattle.lua_values.specs.Heap.{Heap}
use Rattle.lua_values.specs.StoreCalls.{full_cause, with_cell, with_closure, closure_units}
use Rattle.lua_meaning.specs.declared.slots.Slot.{Slot}
use Rattle.lua_meaning.specs.declared.slots.Slot.TheVariants.{Plain, Shared}
use Rattle.lua_meaning.specs.Works.{Caller, Places, Slots, Work, Look, Write}
use Rattle.lua_meaning.specs.Setting.{Setting}
use Rattle.lua_meaning.specs.Positions.{callers_at}
use Rattle.lua_meaning.specs.Variables.{table_fault, unless_refused, in_slot, in_cell}

-- the cell of a slot that is shared
abbrev pub cell_of_slot : Option Slot → Option ℕ
cell_of_slot None = None
cell_of_slot (Some (Plain v)) = None
cell_of_slot (Some (Shared c)) = Some c

-- the cell that a variable has already
abbrev pub present_cell : Capture → Places → Slots → Option ℕ
present_cell (capture.Slot i) p s = cell_of_slot (slice_get s i)
present_cell (capture.Outer i) p s = slice_get p.cells i

-- the value of a variable
abbrev pub variable_value : Capture → Places → Slots → Heap → Value
variable_value (capture.Slot i) p s h = in_slot (slice_get s i) h
variable_value (capture.Outer i) p s h = in_cell (slice_get p.cells i) h

-- the slots once a variable is in a cell
abbrev pub with_cell_in : Capture → ℕ → Slots → Slots
with_cell_in (capture.Slot i) c s = slice_set s i (Shared c)
with_cell_in (capture.Outer i) c s = s

-- a variable that has no cell yet gets one, with its value, which takes 16 units
abbrev pub share_from : Setting → List Caller → Option ℕ → Capture → Places → Slots → (ℕ → Slots → Work) → Work
share_from S callers (Some c) variable p s go = go c s
share_from S callers None variable p s go =
    Look (λ h. unless_refused S callers table_fault (full_cause h 16) s
    (Write (with_cell h (variable_value variable p s h)) (go (length h.cells) (with_cell_in variable (length h.cells) s))))

-- the cells of further captures, after those that are done
abbrev pub share : Setting → List Caller → List Capture → Places → List ℕ → Slots → (List ℕ → Slots → Work) → Work
share S callers [] p done s go = go done s
share S callers (variable ∷ captures) p done s go =
    share_from S callers (present_cell variable p s) variable p s (λ c s'. share S callers captures p (done ++ c ∷ []) s' go)

-- a closure of a function over these cells, which takes 32 units and 8 for each cell
abbrev pub close : Setting → List Caller → ℕ → List ℕ → Slots → (Value → Slots → Work) → Work
close S callers function cells s go =
    Look (λ h. unless_refused S callers table_fault (full_cause h (closure_units cells)) s
    (Write (with_closure h function cells) (go (Closure (length h.closures)) s)))

-- the captures of a function of the program
abbrev pub captures_of : Option Function → List Capture
captures_of None = []
captures_of (Some f) = f.captures.items

-- a new closure of a function of the program, which the expression at a line makes
abbrev pub closure_work : Setting → ℕ → ℕ → Places → Slots → (Value → Slots → Work) → Work
closure_work S line function p s go =
    share S (callers_at p line) (captures_of (slice_get S.program.functions.items function)) p [] s
    (λ cells s'. close S (callers_at p line) function cells s' go)
