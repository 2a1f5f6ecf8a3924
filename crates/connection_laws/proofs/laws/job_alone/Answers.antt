use Rattle.connection_laws.proofs.Executing.{job-alone}
use Rattle.connection_laws.proofs.laws.job_alone.Goals as goal

pub returns : goal.returns
returns g c = job-alone g.S.Minding.service g.S.Minding.holds g.S.Minding.runs g.S.Minding.minds
