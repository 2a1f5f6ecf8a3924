use Rattle.connection_laws.proofs.Executing.{lines-logged-alone}
use Rattle.connection_laws.proofs.laws.lines_are_logged_alone.Goals as goal

pub returns : goal.returns
returns g c = lines-logged-alone g.S.Minding.service g.S.Minding.holds g.S.Minding.runs g.S.Minding.minds
