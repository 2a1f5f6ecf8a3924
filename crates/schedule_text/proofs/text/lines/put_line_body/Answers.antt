use Rattle.std.proofs.Common.{arith}
use Rattle.std.proofs.lemmas.Grind.{common_steps}
use Rattle.schedule_text.proofs.text.lines.put_line_body.Goals as goal

pub returns-in-Given : goal.returns-in-Given
returns-in-Given c = grind (arith, common_steps)

pub returns-in-None : goal.returns-in-None
returns-in-None c = grind (arith, common_steps)

pub returns-in-Some : goal.returns-in-Some
returns-in-Some c = grind (arith, common_steps)

pub returns-in-FailNext : goal.returns-in-FailNext
returns-in-FailNext c = grind (arith, common_steps)

pub returns-in-FailDial : goal.returns-in-FailDial
returns-in-FailDial c = grind (arith, common_steps)

pub returns-in-FailLog : goal.returns-in-FailLog
returns-in-FailLog c = grind (arith, common_steps)

pub returns-in-FailListen : goal.returns-in-FailListen
returns-in-FailListen c = grind (arith, common_steps)

pub returns-in-FailPut : goal.returns-in-FailPut
returns-in-FailPut c = grind (arith, common_steps)
