use Rattle.schedule_text.proofs.Spelled.{entry-read}
use Rattle.schedule_text.proofs.reading.spelled.read_entry.Goals as goal

pub returns-in-Ok : goal.returns-in-Ok
returns-in-Ok c = rw c.then_some.ensures (entry-read c.args.text.now c.in_ok-entry.entry c.in-Ok.spelled c.in_ok-entry.ensures c.in-Ok.ensures)
