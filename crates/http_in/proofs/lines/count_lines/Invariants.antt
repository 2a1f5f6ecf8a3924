use Rattle.std.proofs.Common.{◌≡◌, ◌+◌, length}
use Rattle.std.specs.Option.{option_copied}
use Rattle.resty_base.specs.Ascii.{line_feed}
use Rattle.http_base.specs.Splitting.{later_pieces}
use Rattle.http_base.proofs.Pieces.{left}
use Rattle.http_in.specs.Lines as spec
use Rattle.http_in.proofs.lines.count_lines.Given as goal

abbrev pub invariant-loop-rest : goal.invariant-loop-rest
invariant-loop-rest l = l.count + length (spec.without_empty (later_pieces line_feed (option_copied l.rest))) ≡ length (spec.full_lines l.text)

abbrev pub decreases-loop-rest : goal.decreases-loop-rest
decreases-loop-rest l = left (option_copied l.rest)
