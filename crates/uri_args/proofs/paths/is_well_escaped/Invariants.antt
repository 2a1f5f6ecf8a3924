use Rattle.std.proofs.Common.{◌≡◌, length}
use Rattle.uri_args.specs.Paths as spec
use Rattle.uri_args.proofs.paths.is_well_escaped.Given as goal

abbrev pub invariant-loop-rest : goal.invariant-loop-rest
invariant-loop-rest l = spec.is_well_escaped l.text ≡ spec.is_well_escaped l.rest

abbrev pub decreases-loop-rest : goal.decreases-loop-rest
decreases-loop-rest l = length l.rest
