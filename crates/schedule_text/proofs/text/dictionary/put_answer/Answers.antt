use Rattle.std.proofs.Common.{arith}
use Rattle.std.proofs.lemmas.Grind.{common_steps}
use Rattle.schedule_text.proofs.text.dictionary.put_answer.Goals as goal

pub returns-in-Found : goal.returns-in-Found
returns-in-Found c = grind (arith, common_steps)

pub returns-in-Nothing : goal.returns-in-Nothing
returns-in-Nothing c = grind (arith, common_steps)

pub returns-in-Done : goal.returns-in-Done
returns-in-Done c = grind (arith, common_steps)

pub returns-in-Exists : goal.returns-in-Exists
returns-in-Exists c = grind (arith, common_steps)

pub returns-in-Missing : goal.returns-in-Missing
returns-in-Missing c = grind (arith, common_steps)

pub returns-in-NoMemory : goal.returns-in-NoMemory
returns-in-NoMemory c = grind (arith, common_steps)

pub returns-in-NotNumber : goal.returns-in-NotNumber
returns-in-NotNumber c = grind (arith, common_steps)

pub returns-in-OutOfRange : goal.returns-in-OutOfRange
returns-in-OutOfRange c = grind (arith, common_steps)

pub returns-in-Number : goal.returns-in-Number
returns-in-Number c = grind (arith, common_steps)

pub returns-in-Count : goal.returns-in-Count
returns-in-Count c = grind (arith, common_steps)

pub returns-in-Names : goal.returns-in-Names
returns-in-Names c = grind (arith, common_steps)
