use Rattle.std.proofs.Common.{Ok, ◌∙◌}
use Rattle.connection_strand.proofs.Ends.{ok-map, of-beside}
use Rattle.connection_strand.proofs.state.Connection.take_run.Goals as goal

pub returns-in-Ok : goal.returns-in-Ok
returns-in-Ok g c = ok-map c.take_next.result _ _ (λ on x. (c.in-Ok.run', x.0, c.in-Ok.is ∙ of-beside c.in-Ok.run' (Ok c.in-Ok.first) x.0 x.1, x.2, x.3)) c.take_next.ensures
