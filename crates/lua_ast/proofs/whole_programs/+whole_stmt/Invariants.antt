use Rattle.std.proofs.Common.{take}
use Rattle.std.specs.List.{All}
use Rattle.lua_ast.specs.WholeProgram.{IsWholeStmt, IsWholeArm}
use Rattle.lua_ast.proofs.whole_programs.+whole_stmt.Given as goal

abbrev pub invariant-is_whole_block-loop-stmt : goal.invariant-is_whole_block-loop-stmt
invariant-is_whole_block-loop-stmt l = All (IsWholeStmt l.functions l.f) (take l.stmt-index l.block)

abbrev pub invariant-are_whole_arms-loop-arm : goal.invariant-are_whole_arms-loop-arm
invariant-are_whole_arms-loop-arm l = All (IsWholeArm l.functions l.f) (take l.arm-index l.arms)
