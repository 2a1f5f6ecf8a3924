use Rattle.std.proofs.Common.{◌≡◌, ◌≤◌, ◌+◌, length}
use Rattle.conf_text.specs.Layout.{layout_from, layout_size}
use Rattle.conf_text.proofs.layout.layout_size.Given as goal

abbrev pub invariant-loop-rest : goal.invariant-loop-rest
invariant-loop-rest l = (layout_size l.text + length l.rest ≡ length l.text + layout_from l.commented l.rest) × (length l.rest ≤ length l.text)

abbrev pub decreases-loop-rest : goal.decreases-loop-rest
decreases-loop-rest l = length l.rest
