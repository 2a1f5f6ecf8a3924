use Rattle.connection_strand.proofs.Ends.{ok-both}
use Rattle.connection_strand.proofs.state.Connection.take_next.Goals as goal

pub returns-in-Ok : goal.returns-in-Ok
returns-in-Ok g c = ok-both c.take_parts.result _ _ _ (λ on takes spends. (c.in-Ok.next, c.in-Ok.is, takes, spends)) c.take_parts.ensures.moves c.take_parts.ensures.costs
