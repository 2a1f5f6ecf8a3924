use Rattle.std.proofs.Common.{◌≡◌, take}
use Rattle.schedule_text.specs.LineTexts.{schedule_text}
use Rattle.schedule_text.proofs.text.schedule_text.Given as goal

abbrev pub invariant-loop-line : goal.invariant-loop-line
invariant-loop-line l = l.out.items ≡ schedule_text (take l.line-index l.schedule)
