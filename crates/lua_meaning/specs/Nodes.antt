-- What each node of Lua means, and the evaluator of Lua.
use Rattle.std.specs.Prelude.{List, ◌∷◌, slice_get, if◌then◌else◌}
use Rattle.lua_ast.specs.declared.expressions.ExprKind.{out-ExprKind}
use Rattle.lua_ast.specs.declared.statements.StmtKind.{out-StmtKind}
use Rattle.lua_values.specs.declared.values.Value.{Value}
use Rattle.lua_values.specs.declared.values.Value.TheVariants.{Closure, Native}
use Rattle.lua_values.specs.Values.{is_nil}
use Rattle.lua_operators.specs.declared.events.Event.TheVariants.{Call}
use Rattle.lua_operators.specs.declared.faults.OperandFault.TheVariants as operand
use Rattle.lua_operators.specs.Types.{type_of}
use Rattle.lua_meaning.specs.Works.{Places, Slots, Node, AValue, AnExpr, AStmt, ATurn, ARepeat, AFor, AnIter, ACall, AnIndex, AStore, Work, End, Eval, Look}
use Rattle.lua_meaning.specs.Evaluator.{Evaluator, eval_by}
use Rattle.lua_meaning.specs.Setting.{Setting}
use Rattle.lua_meaning.specs.Positions.{raise_operand}
use Rattle.lua_meaning.specs.Metatables.{handler}
use Rattle.lua_meaning.specs.Indexing.{index_work, store_work}
use Rattle.lua_meaning.specs.Calls.{call_closure}
use Rattle.lua_meaning.specs.Expressions.{expr_work, value_work}
use Rattle.lua_meaning.specs.Loops.{turn_work, repeat_work, for_turn, iter_turn}
use Rattle.lua_meaning.specs.Statements.{stmt_work}
use Rattle.lua_meaning.specs.Natives.{native_work}

-- what is no function is called by the handler that it has for that, before its arguments (2.8)
abbrev pub call_by : Setting → Value → Value → List Value → Places → Slots → Work
call_by S by f args q s =
    if is_nil by then raise_operand S q.around (operand.Call (type_of f)) s
    else Eval (ACall by (f ∷ args)) q s (λ sign s'. End sign s')

-- the call of a value
abbrev pub callee_work : Setting → Value → List Value → Places → Slots → Work
callee_work S (Closure c) args q s = Look (λ h. call_closure S (slice_get h.closures c) args q s)
callee_work S (Native n) args q s = native_work S n args q.around s
callee_work S f args q s = Look (λ h. call_by S (handler h f Call) f args q s)

abbrev pub work_of : Setting → Node → Places → Slots → Work
work_of S (AValue x) p s = value_work S x.line (out-ExprKind x.kind) p s
work_of S (AnExpr x) p s = expr_work S x.line (out-ExprKind x.kind) p s
work_of S (AStmt st) p s = stmt_work S st.line (out-StmtKind st.kind) p s
work_of S (ATurn test body) p s = turn_work test body p s
work_of S (ARepeat body test) p s = repeat_work body test p s
work_of S (AFor line slot i limit step body) p s = for_turn S line slot i limit step body p s
work_of S (AnIter line slots f state vs body) p s = iter_turn line slots f state vs body p s
work_of S (ACall f args) q s = callee_work S f args q s
work_of S (AnIndex line v key) p s = index_work S line v key p s
work_of S (AStore line v key x) p s = store_work S line v key x p s

-- The evaluator of Lua.
abbrev pub eval : Setting → Evaluator
eval S = eval_by (work_of S)
