use Rattle.std.proofs.Common.{arith}
use Rattle.std.proofs.lemmas.Grind.{common_steps}
use Rattle.schedule_text.proofs.text.entries.put_plain_entry.Goals as goal

pub returns-in-Given : goal.returns-in-Given
returns-in-Given c = grind (arith, common_steps)

pub returns-in-Put : goal.returns-in-Put
returns-in-Put c = grind (arith, common_steps)

pub returns-in-Later : goal.returns-in-Later
returns-in-Later c = grind (arith, common_steps)

pub returns-in-Lost : goal.returns-in-Lost
returns-in-Lost c = grind (arith, common_steps)

pub returns-in-Close : goal.returns-in-Close
returns-in-Close c = grind (arith, common_steps)

pub returns-in-Start : goal.returns-in-Start
returns-in-Start c = grind (arith, common_steps)

pub returns-in-Turned : goal.returns-in-Turned
returns-in-Turned c = grind (arith, common_steps)

pub returns-in-Dropped : goal.returns-in-Dropped
returns-in-Dropped c = grind (arith, common_steps)
