-- `..` of texts and numbers that are there (Lua 5.1 Reference Manual, 2.5.4): its text takes units of the store.
use Rattle.std.specs.Prelude.{◌≡◌, ◌<◌, ◌≤◌, ◌+◌, ◌/◌, ℕ, Bool, true, false, [], ◌∷◌, None, slice_set}
use Rattle.std.specs.declared.rc.Rc.{Rc}
use Rattle.std.specs.declared.alloc.Global.{Global}
use Rattle.lua_ast.specs.declared.expressions.BinOp.TheVariants.{Concat}
use Rattle.lua_ast.specs.declared.expressions.Expr.{Expr}
use Rattle.lua_ast.specs.declared.expressions.ExprKind.{out-ExprKind}
use Rattle.lua_ast.specs.declared.expressions.ExprKind.TheOpen as e
use Rattle.lua_values.specs.Heap.{Heap, StoreView, step_limit, unit_limit, bytes_of_a_step}
use Rattle.lua_values.specs.StoreCalls.{full_cause}
use Rattle.lua_operators.specs.declared.outcome.Outcome.TheVariants as outcome
use Rattle.lua_operators.specs.Concatenation.{concatenated}
use Rattle.lua_meaning.specs.declared.slots.Slot.TheVariants.{Plain}
use Rattle.lua_meaning.specs.Concatenation.{text_length}
use Rattle.lua_meaning.specs.Works.{Places, Slots, AValue, AnExpr, Values}
use Rattle.lua_meaning.specs.Evaluator.{State, Ended}
use Rattle.lua_meaning.specs.Setting.{Setting}
use Rattle.lua_meaning.specs.Nodes.{eval}
use Rattle.lua_vm_fast.specs.declared.places.Valued.{Valued}
use Rattle.lua_vm_fast.specs.declared.concatenation.Made.{Made}

-- n steps and u units more
abbrev pub with_units : ℕ → Heap → Heap
with_units u h = record h { units = h.units + u }

abbrev pub making : ℕ → ℕ → StoreView → StoreView
making n u store = record { heap = with_units u store.heap; steps = store.steps + n }

abbrev pub made : ℕ → ℕ → State → State
made n u w = record w { store = making n u w.store }

-- An expression gives a value, and counts its steps and units, wherever it is evaluated with these variables and this heap, if these are left.
-- Nothing else is changed.
pub record Makes (x : Expr) (s : Slots) (h : Heap) (m : Made) : Type 0 where
  pub one : (S : Setting) (p : Places) (w : State) → w.store.heap ≡ h → w.store.steps + m.steps < step_limit → h.units + m.units ≤ unit_limit
      → eval S (AValue x) p s w ≡ Ended (Values (m.value ∷ [])) s (made m.steps m.units w)
  pub all : (S : Setting) (p : Places) (w : State) → w.store.heap ≡ h → w.store.steps + m.steps < step_limit → h.units + m.units ≤ unit_limit
      → eval S (AnExpr x) p s w ≡ Ended (Values (m.value ∷ [])) s (made m.steps m.units w)

-- `a .. b` gives a value
abbrev pub MakesBinary : Expr → Expr → Slots → Heap → Made → Type 0
MakesBinary a b s h m =
    (x : Expr) (left right : Rc Expr Global) → out-ExprKind x.kind ≡ e.Binary Concat left right → left.value ≡ a → right.value ≡ b → Makes x s h m

-- two values are joined: a step for each 64 bytes that are taken or made, and the units of the text that is made
pub record Joins (left : Valued) (right : Made) (m : Made) : Type 0 where
  pub is : concatenated left.value right.value ≡ outcome.Gives m.value
  pub steps : m.steps ≡ left.steps + right.steps + 1 + (text_length left.value + text_length right.value + text_length m.value) / bytes_of_a_step
  pub units : m.units ≡ right.units + (text_length m.value + 16)

-- a slot got a value that was made, with so many steps more
pub record Takes (i : ℕ) (m : Made) (more : ℕ) (s : Slots) (before : StoreView) (s' : Slots) (store : StoreView) : Type 0 where
  pub few : before.steps + (m.steps + more) < step_limit
  pub allowed : full_cause before.heap m.units ≡ None
  pub set : s' ≡ slice_set s i (Plain m.value)
  pub is : store ≡ making (m.steps + more) m.units before

-- or nothing was changed
abbrev pub TakesIf : Bool → ℕ → Made → ℕ → Slots → StoreView → Slots → StoreView → Type 0
TakesIf true i m more s before s' store = Takes i m more s before s' store
TakesIf false i m more s before s' store = (s' ≡ s) × (store ≡ before)
