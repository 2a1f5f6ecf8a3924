use Rattle.std.proofs.Common.{take}
use Rattle.std.specs.List.{All}
use Rattle.lua_ast.specs.WholeProgram.{IsWholeFunction}
use Rattle.lua_ast.proofs.whole_programs.is_whole.Given as goal

abbrev pub invariant-loop-function : goal.invariant-loop-function
invariant-loop-function l = All (IsWholeFunction l.program) (take l.function-index l.program.functions.items)
