-- Closures that are made in the frame on top, whose slots may become cells.
use Rattle.std.specs.Prelude.{◌≡◌, ℕ, List, [], Option, Some, None, slice_get}
use Rattle.std.specs.Option.{option_map}
use Rattle.lua_ast.specs.declared.programs.Capture.{Capture}
use Rattle.lua_ast.specs.declared.programs.Program.{Program}
use Rattle.lua_values.specs.declared.values.Value.TheVariants.{Closure}
use Rattle.lua_values.specs.Heap.{StoreView}
use Rattle.lua_operators.specs.declared.faults.Fault.TheVariants.{StorageLimit}
use Rattle.lua_meaning.specs.Works.{Caller, Slots, Work}
use Rattle.lua_meaning.specs.Setting.{Setting}
use Rattle.lua_meaning.specs.Positions.{raise_fault}
use Rattle.lua_meaning.specs.Closures.{captures_of, present_cell, share_from, share, close, with_cell_in}
use Rattle.lua_frames.specs.declared.threads.Frames.{Frames}
use Rattle.lua_frames.specs.Frames.{here, slots_of}
use Rattle.lua_frames.specs.Follows.{ComesTo}
use Rattle.lua_frames.specs.Changes.{KeepsAllButSlots}

-- work that takes units, and goes on with what it made
abbrev pub Making : Type 0 → Type 0
Making A = Setting → List Caller → (A → Slots → Work) → Work

-- goes on with what was made, or fails where the units don't suffice
abbrev pub made : {A : Type 0} → Setting → List Caller → Option A → Slots → (A → Slots → Work) → Work
made S callers None s go = raise_fault S callers StorageLimit s
made S callers (Some a) s go = go a s

-- this was made, and stays in slots and store, or the units didn't suffice
pub record Made {A : Type 0} (making : Making A) (old : Frames) (before : StoreView) (new : Frames) (store : StoreView) (a : Option A) : Type 0 where
  pub keeps : KeepsAllButSlots old new
  pub comes : (S : Setting) (callers : List Caller) (go : A → Slots → Work) → ComesTo S (making S callers go) before (made S callers a (slots_of new) go) store

-- a variable's cell
abbrev pub Shares : Capture → Frames → StoreView → Frames → StoreView → Option ℕ → Type 0
Shares variable old before new store c =
    Made (λ S callers go. share_from S callers (present_cell variable (here old) (slots_of old)) variable (here old) (slots_of old) go) old before new store c

-- the cells of variables, in their order
abbrev pub SharesAll : List Capture → Frames → StoreView → Frames → StoreView → Option (List ℕ) → Type 0
SharesAll variables old before new store cells =
    Made (λ S callers go. share S callers variables (here old) [] (slots_of old) go) old before new store cells

-- a closure of a function over cells
abbrev pub Closes : ℕ → List ℕ → Frames → StoreView → Frames → StoreView → Option ℕ → Type 0
Closes function cells old before new store c =
    Made (λ S callers go. close S callers function cells (slots_of old) go) old before new store (option_map Closure c)

-- a closure of a function of a program, over the cells of the variables that the function captures
abbrev pub Makes : Program → ℕ → Frames → StoreView → Frames → StoreView → Option ℕ → Type 0
Makes program function old before new store c =
    Made (λ S callers go. share S callers (captures_of (slice_get program.functions.items function)) (here old) [] (slots_of old)
    (λ cells s. close S callers function cells s go)) old before new store (option_map Closure c)

-- a variable in a slot is in a cell from now on
pub record KeepsCell (variable : Capture) (c : ℕ) (old new : Frames) : Type 0 where
  pub keeps : KeepsAllButSlots old new
  pub slots : slots_of new ≡ with_cell_in variable c (slots_of old)
