use Rattle.std.proofs.Common.{length}
use Rattle.schedule_text.proofs.Histories.{Came}
use Rattle.schedule_text.proofs.reading.histories.read_entries.Given as goal

abbrev pub invariant-loop-line : goal.invariant-loop-line
invariant-loop-line l = Came l.text l.history.entries l.rest l.number

abbrev pub decreases-loop-line : goal.decreases-loop-line
decreases-loop-line l = length l.rest
