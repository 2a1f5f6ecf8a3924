-- Table constructors (Lua 5.1 Reference Manual, 2.5.7): a new table, and its items in the order of the text.
use Rattle.std.specs.Prelude.{ℕ, ◌+◌, List, [], ◌∷◌, length}
use Rattle.lua_ast.specs.declared.expressions.Expr.{Expr}
use Rattle.lua_ast.specs.declared.expressions.ExprKind.{ExprKind}
use Rattle.lua_ast.specs.declared.expressions.TableItem.{TableItem}
use Rattle.lua_ast.specs.declared.expressions.TableItem as item
use Rattle.lua_values.specs.declared.values.Value.{Value}
use Rattle.lua_values.specs.declared.values.Value.TheVariants.{Table}
use Rattle.lua_values.specs.Values.{number}
use Rattle.lua_values.specs.StoreCalls.{full_cause, with_table}
use Rattle.lua_meaning.specs.Works.{Caller, Places, Slots, AnExpr, Work, Eval, Look, Write}
use Rattle.lua_meaning.specs.Setting.{Setting}
use Rattle.lua_meaning.specs.Positions.{callers_at}
use Rattle.lua_meaning.specs.Signs.{give_one, on_values, value}
use Rattle.lua_meaning.specs.Variables.{table_fault, unless_refused}
use Rattle.lua_meaning.specs.Indexing.{set_work}

-- values at the numbers from n on
abbrev pub fill : Setting → List Caller → ℕ → ℕ → List Value → Slots → Work → Work
fill S callers t n [] s go = go
fill S callers t n (v ∷ vs) s go = set_work S callers t (number n) v s (fill S callers t (n + 1) vs s go)

-- the expression of an item, by its line and its kind
abbrev pub expr_of : ℕ → ExprKind → Expr
expr_of line kind = record { line = line; kind = kind }

-- Further items of a table, of which the next without a key is the n-th; the last gives all of its values. In the patterns
-- `l` and `m` are the lines of the expressions, and `k` and `j` their kinds.
abbrev pub items_work : Setting → ℕ → ℕ → ℕ → List TableItem → Places → Slots → Work
items_work S line t n [] p s = give_one (Table t) s
items_work S line t n (item.Pair' l k m j ∷ items) p s =
    value (expr_of l k) p s (λ key s'. value (expr_of m j) p s' (λ v s''. set_work S (callers_at p line) t key v s'' (items_work S line t n items p s'')))
items_work S line t n (item.Item' l k ∷ []) p s =
    Eval (AnExpr (expr_of l k)) p s (on_values (λ vs s'. fill S (callers_at p line) t n vs s' (give_one (Table t) s')))
items_work S line t n (item.Item' l k ∷ i ∷ items) p s =
    value (expr_of l k) p s (λ v s'. set_work S (callers_at p line) t (number n) v s' (items_work S line t (n + 1) (i ∷ items) p s'))

-- a constructor at a line; the table takes 32 units
abbrev pub constructor_work : Setting → ℕ → List TableItem → Places → Slots → Work
constructor_work S line items p s =
    Look (λ h. unless_refused S (callers_at p line) table_fault (full_cause h 32) s (Write (with_table h) (items_work S line (length h.tables) 1 items p s)))
