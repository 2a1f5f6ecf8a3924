use Rattle.connection_laws.proofs.Executing.{replies-said-alone}
use Rattle.connection_laws.proofs.laws.replies_are_said_alone.Goals as goal

pub returns : goal.returns
returns g c = replies-said-alone g.S.Minding.service g.S.Minding.holds g.S.Minding.runs g.S.Minding.minds
