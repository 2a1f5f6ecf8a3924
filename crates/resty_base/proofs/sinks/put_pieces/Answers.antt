use Rattle.resty_base.proofs.Results.{on_err_holds}
use Rattle.resty_base.proofs.Taking.{part-at}
use Rattle.resty_base.proofs.sinks.put_pieces.Goals as goal

pub returns-in_err-put_all-clause-err : goal.returns-in_err-put_all-clause-err
returns-in_err-put_all-clause-err g c =
    on_err_holds c.from_residual.result (part-at _ _ _ _ _ _ c.loop-piece-test.true c.loop-piece.invariant c.in_err-put_all.ensures.err)
