use Rattle.std.proofs.Common.{◌≡◌, ◌+◌, ◌≤◌, length}
use Rattle.http_bodies.specs.Skips.{skipped, skip_count}
use Rattle.http_bodies.proofs.skips.skip.Given as goal

abbrev pub invariant-loop-rest : goal.invariant-loop-rest
invariant-loop-rest l = record {
  within : length l.rest ≤ length l.piece;
  moved : skipped l.state l.rest ≡ skipped l.fn.state l.piece;
  counted : length l.piece + skip_count l.state l.rest ≡ skip_count l.fn.state l.piece + length l.rest;
}

abbrev pub decreases-loop-rest : goal.decreases-loop-rest
decreases-loop-rest l = length l.rest
