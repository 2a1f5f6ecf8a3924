use Rattle.std.proofs.Common.{◌≡◌, ◌++◌, ◌-◌, length}
use Rattle.schedule_text.specs.FoundEntries.{names_in}
use Rattle.schedule_text.proofs.reading.dictionary.names_in.Given as goal

abbrev pub invariant-loop : goal.invariant-loop
invariant-loop l = names_in (length l.text) l.text ≡ l.names.items ++ names_in (l.end - l.counter) l.rest
