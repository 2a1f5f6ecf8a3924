use Rattle.std.proofs.Common.{length}
use Rattle.schedule_text.proofs.Finding.{Unquotes}
use Rattle.schedule_text.proofs.reading.quotes.split_quoted.Given as goal

abbrev pub invariant-loop-bytes : goal.invariant-loop-bytes
invariant-loop-bytes l = Unquotes l.text l.bytes.items l.rest

abbrev pub decreases-loop-bytes : goal.decreases-loop-bytes
decreases-loop-bytes l = length l.rest
