use Rattle.std.proofs.Common.{take}
use Rattle.std.specs.List.{All}
use Rattle.lua_ast.specs.WholeProgram.{IsWholeExpr, IsWholeItem}
use Rattle.lua_ast.proofs.whole_programs.+whole_expr.Given as goal

abbrev pub invariant-are_whole_exprs-loop-expr : goal.invariant-are_whole_exprs-loop-expr
invariant-are_whole_exprs-loop-expr l = All (IsWholeExpr l.functions l.f) (take l.expr-index l.exprs)

abbrev pub invariant-are_whole_items-loop-item : goal.invariant-are_whole_items-loop-item
invariant-are_whole_items-loop-item l = All (IsWholeItem l.functions l.f) (take l.item-index l.items)
