-- The work of statements (Lua 5.1 Reference Manual, 2.4).
use Rattle.std.specs.Prelude.{ℕ, List, [], ◌∷◌, ◌++◌, drop, slice_get, slice_set, Option, Some, None, pos, if◌then◌else◌}
use Rattle.std.specs.declared.rc.Rc.{Rc}
use Rattle.std.specs.declared.alloc.Global.{Global}
use Rattle.lua_ast.specs.declared.expressions.Expr.{Expr}
use Rattle.lua_ast.specs.declared.expressions.ExprKind.{ExprKind, out-ExprKind}
use Rattle.lua_ast.specs.declared.expressions.ExprKind.TheOpen.{ExprKind-F}
use Rattle.lua_ast.specs.declared.expressions.ExprKind.TheOpen as e
use Rattle.lua_ast.specs.declared.expressions.TableItem.{TableItem}
use Rattle.lua_ast.specs.declared.statements.Stmt.{Stmt}
use Rattle.lua_ast.specs.declared.statements.Arm.{Arm, out-Arm}
use Rattle.lua_ast.specs.declared.statements.StmtKind.{StmtKind}
use Rattle.lua_ast.specs.declared.statements.StmtKind.TheOpen.{StmtKind-F}
use Rattle.lua_ast.specs.declared.statements.StmtKind.TheOpen as s
use Rattle.lua_values.specs.declared.values.Value.{Value}
use Rattle.lua_values.specs.declared.values.Value.TheVariants.{Nil, Number, Text}
use Rattle.lua_operators.specs.Types.{is_truthy}
use Rattle.lua_meaning.specs.declared.slots.Slot.TheVariants.{Plain}
use Rattle.lua_meaning.specs.Works.{Places, Slots, AnExpr, Return, Break, Work, End, Eval, Count, and_then}
use Rattle.lua_meaning.specs.Setting.{Setting}
use Rattle.lua_meaning.specs.Positions.{callers_at}
use Rattle.lua_meaning.specs.Signs.{first, give, on_values, value, values_of}
use Rattle.lua_meaning.specs.Variables.{with_locals, write_slot}
use Rattle.lua_meaning.specs.Closures.{closure_work}
use Rattle.lua_meaning.specs.Indexing.{index_work}
use Rattle.lua_meaning.specs.Calls.{tail_call}
use Rattle.lua_meaning.specs.Blocks.{block}
use Rattle.lua_meaning.specs.Assignments.{assignment_work}
use Rattle.lua_meaning.specs.Loops.{while_work, again, for_work, iterate}
use Rattle.lua_meaning.specs.Works.{ARepeat}

-- evaluates a list of expressions, and goes on with its values
abbrev pub with_values : List Expr → Places → Slots → (List Value → Slots → Work) → Work
with_values xs p s go = and_then (values_of xs p s) (on_values go)

-- `local function`: the variable is there, with nil, when the closure captures it, and then has the closure (2.4.7)
abbrev pub local_function : Setting → ℕ → ℕ → ℕ → Places → Slots → Work
local_function S line slot function p s =
    closure_work S line function p (slice_set s slot (Plain Nil))
    (λ f s'. write_slot S (callers_at p line) (slice_get s' slot) slot f s' (give []))

-- the first arm whose test holds, or else the last block
abbrev pub if_work : List Arm → List Stmt → Places → Slots → Work
if_work [] last p s = block last p s
if_work (a ∷ arms) last p s =
    value (out-Arm a).test p s (λ v s'. if is_truthy v then block (out-Arm a).body.value.items p s' else if_work arms last p s')

-- a bound of `for`; the step is 1 where there is none
abbrev pub step_of : Option (Rc Expr Global) → Places → Slots → (Value → Slots → Work) → Work
step_of None p s go = go (Number (pos 1)) s
step_of (Some x) p s go = value x.value p s go

-- `return` of a call alone is a tail call, in which the call is entered as an expression is (2.4.4 and 2.5.8)
abbrev pub tail_work : ℕ → Value → List Value → List Expr → Places → Slots → Work
tail_work line f before args p s =
    with_values args p s (λ vs s'. tail_call (callers_at p line) f (before ++ vs) s')

abbrev pub return_one : Setting → Expr → ExprKind-F ExprKind TableItem Expr → Places → Slots → Work
return_one S x (e.Call f args) p s = Count 1 (value f.value p s (λ v s'. tail_work x.line v [] args.value.items p s'))
return_one S x (e.Method a name args) p s =
    Count 1 (value a.value p s (λ object s'. and_then (index_work S x.line object (Text name) p s')
    (on_values (λ fs s''. tail_work x.line (first fs) (object ∷ []) args.value.items p s''))))
return_one S x k p s = with_values (x ∷ []) p s (λ vs s'. End (Return vs) s')

abbrev pub return_work : Setting → List Expr → Places → Slots → Work
return_work S (x ∷ []) p s = return_one S x (out-ExprKind x.kind) p s
return_work S xs p s = with_values xs p s (λ vs s'. End (Return vs) s')

-- a statement at a line
abbrev pub stmt_work : Setting → ℕ → StmtKind-F StmtKind Arm Stmt → Places → Slots → Work
stmt_work S line (s.Local slots xs) p s = with_values xs.value.items p s (λ vs s'. give [] (with_locals slots.value.items vs s'))
stmt_work S line (s.LocalFunction slot function) p s = local_function S line slot function p s
stmt_work S line (s.Assign targets xs) p s = assignment_work S targets.value.items xs.value.items p s
stmt_work S line (s.Call x) p s = Eval (AnExpr x) p s (on_values (λ vs s'. give [] s'))
stmt_work S line (s.Do body) p s = block body.value.items p s
stmt_work S line (s.While test body) p s = while_work test.value body.value.items p s
stmt_work S line (s.Repeat body test) p s = again (ARepeat body.value.items test.value) p s
stmt_work S line (s.If arms last) p s = if_work arms.value.items last.value.items p s
stmt_work S line (s.NumericFor slot from to step body) p s =
    value from.value p s (λ a s1. value to.value p s1 (λ b s2. step_of step p s2 (λ c s3. for_work S line slot a b c body.value.items p s3)))
stmt_work S line (s.GenericFor slots xs body) p s =
    with_values xs.value.items p s (λ vs s'. iterate line slots.value.items (first vs) (first (drop 1 vs)) (first (drop 2 vs)) body.value.items p s')
stmt_work S line (s.Return xs) p s = return_work S xs.value.items p s
stmt_work S line s.Break p s = End Break s
