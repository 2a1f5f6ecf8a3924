use Rattle.std.proofs.Common.{◌≡◌, reverse, take}
use Rattle.std.specs.List.{flat_map}
use Rattle.schedule_text.specs.EntryTexts.{entry_line}
use Rattle.schedule_text.proofs.text.history_text.Given as goal

abbrev pub invariant-loop-entry : goal.invariant-loop-entry
invariant-loop-entry l = l.out.items ≡ flat_map entry_line (take l.entry-index (reverse l.history.entries))
