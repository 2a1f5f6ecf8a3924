use Rattle.schedule_text.proofs.Histories.{accepted}
use Rattle.schedule_text.proofs.reading.histories.history_of.Goals as goal

pub returns-clause-accepted : goal.returns-clause-accepted
returns-clause-accepted c = accepted (λ history. history.entries) c.args.text.now c.read_entries.result c.read_entries.ensures
