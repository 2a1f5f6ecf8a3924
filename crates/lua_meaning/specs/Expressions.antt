-- The work of expressions (Lua 5.1 Reference Manual, 2.5).
use Rattle.std.specs.Prelude.{ℕ, List, [], ◌∷◌, length, slice_get, if◌then◌else◌}
use Rattle.lua_ast.specs.declared.expressions.Expr.{Expr}
use Rattle.lua_ast.specs.declared.expressions.ExprKind.{ExprKind}
use Rattle.lua_ast.specs.declared.expressions.ExprKind.TheOpen.{ExprKind-F}
use Rattle.lua_ast.specs.declared.expressions.ExprKind.TheOpen as e
use Rattle.lua_ast.specs.declared.expressions.TableItem.{TableItem}
use Rattle.lua_values.specs.declared.values.Value.{Value}
use Rattle.lua_values.specs.declared.values.Value.TheVariants.{Nil, Truth, Number, Text, Table}
use Rattle.std.specs.Prelude.{true, false}
use Rattle.lua_operators.specs.Types.{is_truthy}
use Rattle.lua_meaning.specs.Works.{Places, Slots, Work, Count, Look, and_then}
use Rattle.lua_meaning.specs.Setting.{Setting}
use Rattle.lua_meaning.specs.Positions.{callers_at}
use Rattle.lua_meaning.specs.Signs.{first, give, give_one, on_values, value, values_of}
use Rattle.lua_meaning.specs.Variables.{in_slot, in_cell}
use Rattle.lua_meaning.specs.Closures.{closure_work}
use Rattle.lua_meaning.specs.Indexing.{index_work}
use Rattle.lua_meaning.specs.Calls.{call}
use Rattle.lua_meaning.specs.Operators.{unary_work, binary_work}
use Rattle.lua_meaning.specs.Tables.{constructor_work}

-- `...` counts a step for each value that it gives
abbrev pub give_counted : List Value → Slots → Work
give_counted vs s = Count (length vs) (give vs s)

-- the first of the arguments after the parameters, where one value is wanted; it counts a step if there is one
abbrev pub first_extra : List Value → Slots → Work
first_extra [] s = give_one Nil s
first_extra (v ∷ vs) s = Count 1 (give_one v s)

-- a global variable is what the global table has at its name (2.3)
abbrev pub global_work : Setting → ℕ → List ℕ → Places → Slots → Work
global_work S line name p s = Look (λ h. index_work S line (Table h.globals) (Text name) p s)

-- the arguments of a call are evaluated after the function, and then it is called (2.5.8)
abbrev pub call_work : ℕ → Value → List Expr → Places → Slots → Work
call_work line f args p s = and_then (values_of args p s) (on_values (λ vs s'. call (callers_at p line) f vs s'))

-- a method is called with its object as the first argument
abbrev pub method_work : ℕ → Value → Value → List Expr → Places → Slots → Work
method_work line f object args p s = and_then (values_of args p s) (on_values (λ vs s'. call (callers_at p line) f (object ∷ vs) s'))

-- an expression at a line
abbrev pub expr_work : Setting → ℕ → ExprKind-F ExprKind TableItem Expr → Places → Slots → Work
expr_work S line e.Nil p s = give_one Nil s
expr_work S line e.True p s = give_one (Truth true) s
expr_work S line e.False p s = give_one (Truth false) s
expr_work S line (e.Number n) p s = give_one (Number n) s
expr_work S line (e.Text t) p s = give_one (Text t) s
expr_work S line e.Vararg p s = give_counted p.extras s
expr_work S line (e.Function n) p s = closure_work S line n p s give_one
expr_work S line (e.Slot i) p s = Look (λ h. give_one (in_slot (slice_get s i) h) s)
expr_work S line (e.Captured i) p s = Look (λ h. give_one (in_cell (slice_get p.cells i) h) s)
expr_work S line (e.Global name) p s = global_work S line name p s
expr_work S line (e.Index a b) p s = value a.value p s (λ v s'. value b.value p s' (λ key s''. index_work S line v key p s''))
expr_work S line (e.Call f args) p s = value f.value p s (λ v s'. call_work line v args.value.items p s')
expr_work S line (e.Method a name args) p s =
    value a.value p s (λ object s'. and_then (index_work S line object (Text name) p s')
    (on_values (λ fs s''. method_work line (first fs) object args.value.items p s'')))
expr_work S line (e.Unary o a) p s = value a.value p s (λ v s'. unary_work S (callers_at p line) o v s')
expr_work S line (e.Binary o a b) p s = value a.value p s (λ v s'. value b.value p s' (λ x s''. binary_work S (callers_at p line) o v x s''))
expr_work S line (e.And a b) p s = value a.value p s (λ v s'. if is_truthy v then value b.value p s' give_one else give_one v s')
expr_work S line (e.Or a b) p s = value a.value p s (λ v s'. if is_truthy v then give_one v s' else value b.value p s' give_one)
expr_work S line (e.Paren a) p s = value a.value p s give_one
expr_work S line (e.Table items) p s = constructor_work S line items.value.items p s

-- the same where one value is wanted, which makes a difference to `...` alone: any other expression is evaluated first
abbrev pub value_work : Setting → ℕ → ExprKind-F ExprKind TableItem Expr → Places → Slots → Work
value_work S line e.Vararg p s = first_extra p.extras s
value_work S line k p s = expr_work S line k p s
