use Rattle.execution_laws.proofs.Worlds.{same-part}
use Rattle.execution_laws.proofs.strands.two_worlds.Goals as goal

pub returns : goal.returns
returns g c = λ site. same-part (g.S.StrandContract.meaning site).behavior (g.met.S.StrandContract.quiet site)
