use Rattle.std.proofs.Common.{◌≡◌, ◌<◌, ◌++◌, length, map, filter}
use Rattle.http_base.specs.Splitting.{later_pieces}
use Rattle.http_base.proofs.Pieces.{left}
use Rattle.uri_args.specs.Arguments as spec
use Rattle.uri_args.proofs.arguments.args_of.Given as goal

abbrev pub invariant-loop-rest : goal.invariant-loop-rest
invariant-loop-rest l = record {
  found : l.pairs.items ++ filter spec.is_named (map spec.pair_of (later_pieces spec.ampersand l.rest)) ≡ spec.named_args l.text;
  room : 0 < l.max → length l.pairs.items < l.max;
}

abbrev pub decreases-loop-rest : goal.decreases-loop-rest
decreases-loop-rest l = left l.rest
