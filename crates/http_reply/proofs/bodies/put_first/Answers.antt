use Rattle.std.proofs.Common.{◌∙◌, sym}
use Rattle.http_reply.proofs.Joining.{first_more}
use Rattle.http_reply.proofs.bodies.put_first.Goals as goal

pub loop-piece-preserved : goal.loop-piece-preserved
loop-piece-preserved c =
    let piece = c.piece-item.result in
    let put = rw c.deref.ensures at c.in_ok-extend_from_slice.ensures.items in
    first_more c.loop-piece.out.items c.extend_from_slice.new.self.items c.loop-piece.left c.min-kept.result c.args.pieces.now c.loop-piece.piece-index piece piece c.loop-piece-test.true (sym c.piece-item.is) (rw c.len.ensures.value at c.min-kept.ensures) put
    ∙ c.loop-piece.invariant
