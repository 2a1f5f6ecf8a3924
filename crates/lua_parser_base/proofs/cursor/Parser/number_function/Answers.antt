use Rattle.std.proofs.Common.{arith}
use Rattle.std.proofs.lemmas.Grind.{common_steps}
use Rattle.lua_parser_base.proofs.cursor.Parser.number_function.Goals as goal

pub returns-in_err-empty_function : goal.returns-in_err-empty_function
returns-in_err-empty_function c = grind (arith, common_steps)

pub returns-in_err-push : goal.returns-in_err-push
returns-in_err-push c = grind (arith, common_steps)
