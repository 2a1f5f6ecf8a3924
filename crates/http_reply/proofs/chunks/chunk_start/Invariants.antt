use Rattle.std.proofs.Common.{◌≡◌, ◌≤◌, length, drop, false}
use Rattle.std.specs.Fmt.{digits_onto}
use Rattle.http_reply.specs.Chunks as chunks
use Rattle.http_reply.proofs.chunks.chunk_start.Given as goal

abbrev pub invariant-loop-start : goal.invariant-loop-start
invariant-loop-start l = record {
  within : l.start ≤ 16;
  size : length l.bytes ≡ 18;
  written : digits_onto l.start 16 false l.rest (drop l.start l.bytes) ≡ chunks.chunk_start l.length;
}

abbrev pub decreases-loop-start : goal.decreases-loop-start
decreases-loop-start l = l.start
