use Rattle.std.proofs.Common.{◌≡◌, length}
use Rattle.http_base.specs.Elements as spec
use Rattle.http_base.proofs.lists.after_blanks.Given as goal

abbrev pub invariant-loop-rest : goal.invariant-loop-rest
invariant-loop-rest l = spec.after_blanks l.text ≡ spec.after_blanks l.rest

abbrev pub decreases-loop-rest : goal.decreases-loop-rest
decreases-loop-rest l = length l.rest
