use Rattle.std.proofs.Common.{arith}
use Rattle.std.proofs.lemmas.Grind.{common_steps}
use Rattle.schedule_text.proofs.text.events.put_event.Goals as goal

pub returns-in-Arrive : goal.returns-in-Arrive
returns-in-Arrive c = grind (arith, common_steps)

pub returns-in-Bytes : goal.returns-in-Bytes
returns-in-Bytes c = grind (arith, common_steps)

pub returns-in-Ended : goal.returns-in-Ended
returns-in-Ended c = grind (arith, common_steps)

pub returns-in-Broken : goal.returns-in-Broken
returns-in-Broken c = grind (arith, common_steps)

pub returns-in-Ready : goal.returns-in-Ready
returns-in-Ready c = grind (arith, common_steps)

pub returns-in-Dialled : goal.returns-in-Dialled
returns-in-Dialled c = grind (arith, common_steps)

pub returns-in-Refused : goal.returns-in-Refused
returns-in-Refused c = grind (arith, common_steps)

pub returns-in-Moment : goal.returns-in-Moment
returns-in-Moment c = grind (arith, common_steps)

pub returns-in-Stop : goal.returns-in-Stop
returns-in-Stop c = grind (arith, common_steps)
