use Rattle.std.proofs.Common.{arith}
use Rattle.std.proofs.lemmas.Grind.{common_steps}
use Rattle.lua_parser_base.proofs.cursor.Parser.name_member.Goals as goal

pub returns-in_err-line : goal.returns-in_err-line
returns-in_err-line c = grind (arith, common_steps)

pub returns-in_err-object : goal.returns-in_err-object
returns-in_err-object c = grind (arith, common_steps)

pub returns-in_err-member : goal.returns-in_err-member
returns-in_err-member c = grind (arith, common_steps)

pub returns-clause-reads : goal.returns-clause-reads
returns-clause-reads c = grind (arith, common_steps)
