use Rattle.std.proofs.Common.{length, ap, sym, arith}
use Rattle.reply_stages.proofs.Sending.{length-more}
use Rattle.reply_stages.proofs.replies.are_fewer.Goals as goal

pub loop-piece-preserved : goal.loop-piece-preserved
loop-piece-preserved c =
    let piece = c.piece-item.result in
    let more = length-more c.args.pieces.now c.loop-piece.piece-index piece c.loop-piece-test.true in
    let same = ap length (sym c.piece-item.is) in
    omega (arith, more, same, c.len.ensures.value, c.loop-piece.invariant)
