use Rattle.std.proofs.Common.{reverse, take}
use Rattle.schedule_text.proofs.Gathering.{Gathered}
use Rattle.schedule_text.proofs.events.events_of.Given as goal

abbrev pub invariant-loop-entry : goal.invariant-loop-entry
invariant-loop-entry l = Gathered (reverse (take l.entry-index (reverse l.history.entries))) l.lines.items l.present l.stopped
