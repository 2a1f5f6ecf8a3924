use Rattle.schedule_text.proofs.Spelled.{line-read}
use Rattle.schedule_text.proofs.reading.spelled.read_line.Goals as goal

pub returns : goal.returns
returns c = rw c.then_some.ensures (line-read c.args.text.now c.in_ok-line.line c.in_ok-spelled.spelled c.in_ok-line.ensures c.in_ok-spelled.ensures)
