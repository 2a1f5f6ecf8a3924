use Rattle.std.proofs.Common.{◌≡◌, length}
use Rattle.http_base.specs.Elements as spec
use Rattle.http_base.proofs.lists.before_blanks.Given as goal

abbrev pub invariant-loop-rest : goal.invariant-loop-rest
invariant-loop-rest l = spec.before_blanks l.text ≡ spec.before_blanks l.rest

abbrev pub decreases-loop-rest : goal.decreases-loop-rest
decreases-loop-rest l = length l.rest
