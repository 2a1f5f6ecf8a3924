-- Assignments (Lua 5.1 Reference Manual, 2.4.3): all expressions are evaluated before any assignment is done, and then the
-- targets get their values, from the last to the first.
use Rattle.std.specs.Prelude.{ℕ, List, [], ◌∷◌, ◌++◌, drop, reverse, slice_get}
use Rattle.lua_ast.specs.declared.expressions.Expr.{Expr}
use Rattle.lua_ast.specs.declared.expressions.ExprKind.{ExprKind, out-ExprKind}
use Rattle.lua_ast.specs.declared.expressions.ExprKind.TheOpen.{ExprKind-F}
use Rattle.lua_ast.specs.declared.expressions.ExprKind.TheOpen as e
use Rattle.lua_ast.specs.declared.expressions.TableItem.{TableItem}
use Rattle.lua_values.specs.declared.values.Value.{Value}
use Rattle.lua_values.specs.declared.values.Value.TheVariants.{Text, Table}
use Rattle.lua_meaning.specs.Works.{Places, Slots, Work, Count, Look, and_then}
use Rattle.lua_meaning.specs.Setting.{Setting}
use Rattle.lua_meaning.specs.Positions.{callers_at}
use Rattle.lua_meaning.specs.Signs.{first, give, on_values, value, values_of}
use Rattle.lua_meaning.specs.Variables.{write_cell, write_slot}
use Rattle.lua_meaning.specs.Indexing.{store_work}

-- what is assigned to, at a line: a slot, a captured variable, or a value at a key; what is no variable is no target
pub data Target : Type 0 where
  InSlot : (line i : ℕ) → Target
  InCapture : (line i : ℕ) → Target
  AtKey : (line : ℕ) (v key : Value) → Target
  Nowhere : Target

-- a target, with its object and key evaluated
abbrev pub target_of : ℕ → ExprKind-F ExprKind TableItem Expr → Places → Slots → (Target → Slots → Work) → Work
target_of line (e.Slot i) p s go = go (InSlot line i) s
target_of line (e.Captured i) p s go = go (InCapture line i) s
target_of line (e.Global name) p s go = Look (λ h. go (AtKey line (Table h.globals) (Text name)) s)
target_of line (e.Index a b) p s go = value a.value p s (λ v s'. value b.value p s' (λ key s''. go (AtKey line v key) s''))
target_of line k p s go = go Nowhere s

-- further targets, after those that are done; each counts one step as it is entered
abbrev pub targets_of : List Expr → Places → List Target → Slots → (List Target → Slots → Work) → Work
targets_of [] p done s go = go done s
targets_of (x ∷ xs) p done s go =
    Count 1 (target_of x.line (out-ExprKind x.kind) p s (λ target s'. targets_of xs p (done ++ target ∷ []) s' go))

-- each target with its value, nil where there are too few
abbrev pub assigned : List Target → List Value → List (Target × Value)
assigned [] vs = []
assigned (t ∷ targets) vs = (t, first vs) ∷ assigned targets (drop 1 vs)

-- a value is assigned to a target
abbrev pub assign_to : Setting → Target → Value → Places → Slots → Work
assign_to S (InSlot line i) v p s = write_slot S (callers_at p line) (slice_get s i) i v s (give [])
assign_to S (InCapture line i) v p s = write_cell S (callers_at p line) (slice_get p.cells i) v s (give [] s)
assign_to S (AtKey line object key) v p s = store_work S line object key v p s
assign_to S Nowhere v p s = give [] s

-- one assignment after another
abbrev pub assign_all : Setting → List (Target × Value) → Places → Slots → Work
assign_all S [] p s = give [] s
assign_all S (a ∷ assignments) p s = and_then (assign_to S a.0 a.1 p s) (on_values (λ vs s'. assign_all S assignments p s'))

abbrev pub assignment_work : Setting → List Expr → List Expr → Places → Slots → Work
assignment_work S targets values p s =
    targets_of targets p [] s (λ ts s'. and_then (values_of values p s')
    (on_values (λ vs s''. assign_all S (reverse (assigned ts vs)) p s'')))
