use Rattle.std.proofs.Common.{◌≡◌, []}
use Rattle.std.specs.Option.{option_copied}
use Rattle.resty_base.specs.Ascii.{slash}
use Rattle.http_base.specs.Lent.{texts}
use Rattle.http_base.specs.Splitting.{later_pieces}
use Rattle.http_base.proofs.Pieces.{left}
use Rattle.uri_args.specs.Paths as spec
use Rattle.uri_args.proofs.paths.resolved.Given as goal

abbrev pub invariant-loop-rest : goal.invariant-loop-rest
invariant-loop-rest l = spec.resolved (texts l.kept.items) (later_pieces slash (option_copied l.rest)) ≡ spec.resolved [] (spec.segments l.path)

abbrev pub decreases-loop-rest : goal.decreases-loop-rest
decreases-loop-rest l = left (option_copied l.rest)
