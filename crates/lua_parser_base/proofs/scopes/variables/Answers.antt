use Rattle.std.proofs.Common.{arith}
use Rattle.std.proofs.lemmas.Grind.{common_steps}
use Rattle.lua_parser_base.proofs.scopes.variables.Goals as goal

pub loop-captured-init : goal.loop-captured-init
loop-captured-init c = grind (arith, common_steps)

pub loop-captured-preserved : goal.loop-captured-preserved
loop-captured-preserved c = grind (arith, common_steps)

pub returns : goal.returns
returns c = grind (arith, common_steps)
