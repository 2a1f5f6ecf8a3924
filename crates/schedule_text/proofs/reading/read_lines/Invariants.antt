use Rattle.std.proofs.Common.{length}
use Rattle.schedule_text.proofs.Reached.{Reached}
use Rattle.schedule_text.proofs.reading.read_lines.Given as goal

abbrev pub invariant-loop-line : goal.invariant-loop-line
invariant-loop-line l = Reached l.text l.reader.lines.items l.rest

abbrev pub decreases-loop-line : goal.decreases-loop-line
decreases-loop-line l = length l.rest
