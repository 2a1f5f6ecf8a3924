use Rattle.std.proofs.Common.{◌≡◌}
use Rattle.std.specs.Option.{option_copied}
use Rattle.resty_base.specs.Ascii.{slash}
use Rattle.http_base.specs.Splitting.{later_pieces, split}
use Rattle.http_base.proofs.Pieces.{left}
use Rattle.uri_args.specs.Plain as plain
use Rattle.uri_args.proofs.paths.keeps_all.Given as goal

abbrev pub invariant-loop-rest : goal.invariant-loop-rest
invariant-loop-rest l = plain.keeps_all (later_pieces slash (option_copied l.rest)) ≡ plain.keeps_all (split slash l.path)

abbrev pub decreases-loop-rest : goal.decreases-loop-rest
decreases-loop-rest l = left (option_copied l.rest)
