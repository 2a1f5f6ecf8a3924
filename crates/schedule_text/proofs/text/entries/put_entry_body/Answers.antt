use Rattle.std.proofs.Common.{arith}
use Rattle.std.proofs.lemmas.Grind.{common_steps}
use Rattle.schedule_text.proofs.text.entries.put_entry_body.Goals as goal

pub returns-in-Dial : goal.returns-in-Dial
returns-in-Dial c = grind (arith, common_steps)

pub returns-in-Log : goal.returns-in-Log
returns-in-Log c = grind (arith, common_steps)

pub returns-in-Dict : goal.returns-in-Dict
returns-in-Dict c = grind (arith, common_steps)

pub returns-in-Take : goal.returns-in-Take
returns-in-Take c = grind (arith, common_steps)

pub returns-in-Keep : goal.returns-in-Keep
returns-in-Keep c = grind (arith, common_steps)

pub returns-in-Timer : goal.returns-in-Timer
returns-in-Timer c = grind (arith, common_steps)
