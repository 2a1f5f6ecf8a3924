use Rattle.connection_laws.proofs.Hanging.{hangs-up-taken}
use Rattle.connection_laws.proofs.laws.who_is_hung_up_took_all.Goals as goal

pub returns : goal.returns
returns g c site es x = hangs-up-taken site es x
