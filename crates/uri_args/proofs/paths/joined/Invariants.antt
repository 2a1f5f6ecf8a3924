use Rattle.std.proofs.Common.{◌≡◌, take}
use Rattle.http_base.specs.Lent.{texts}
use Rattle.uri_args.specs.Paths as spec
use Rattle.uri_args.proofs.paths.joined.Given as goal

abbrev pub invariant-loop-segment : goal.invariant-loop-segment
invariant-loop-segment l = l.path.items ≡ spec.joined (texts (take l.segment-index l.segments))
