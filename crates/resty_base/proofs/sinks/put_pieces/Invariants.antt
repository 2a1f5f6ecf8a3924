use Rattle.std.proofs.Common.{take}
use Rattle.resty_base.specs.Taking.{TakesAll, joined}
use Rattle.resty_base.proofs.sinks.put_pieces.Given as goal

abbrev pub invariant-loop-piece : goal.invariant-loop-piece
invariant-loop-piece g l =
    TakesAll (joined (take l.piece-index l.pieces)) (g.S.Sink.account l.fn.sink) (g.S.Sink.account l.sink)
