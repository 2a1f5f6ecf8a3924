use Rattle.schedule_text.proofs.Spelled.{next-read}
use Rattle.schedule_text.proofs.reading.reader.Reader.read_next.Goals as goal

pub returns : goal.returns
returns c = next-read c.args.self.now.lines.items c.args.text.now c.in_ok-read.read c.next_of.result c.in_ok-read.ensures c.next_of.ensures
