use Rattle.std.proofs.Common.{◌≡◌}
use Rattle.http_base.specs.Splitting.{later_pieces}
use Rattle.http_base.proofs.Pieces.{left}
use Rattle.uri_args.specs.Arguments.{ampersand}
use Rattle.request_api.specs.Variables as spec
use Rattle.request_api.proofs.arguments.argument.Given as goal

abbrev pub invariant-loop-rest : goal.invariant-loop-rest
invariant-loop-rest l = spec.value_among (later_pieces ampersand l.rest) l.name ≡ spec.argument l.args l.name

abbrev pub decreases-loop-rest : goal.decreases-loop-rest
decreases-loop-rest l = left l.rest
