use Rattle.std.proofs.Common.{refl, arith}
use Rattle.http_reply.proofs.Sizes.{size_begins}
use Rattle.http_reply.proofs.chunks.chunk_start.Goals as goal

pub loop-start-init : goal.loop-start-init
loop-start-init c = record {
  within = omega arith;
  size = refl;
  written = size_begins c.args.length (omega (arith, c.ranges.length.fits));
}
