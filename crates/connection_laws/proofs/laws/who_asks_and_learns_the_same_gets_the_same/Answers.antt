use Rattle.connection_laws.proofs.Said.{same-reply}
use Rattle.connection_laws.proofs.laws.who_asks_and_learns_the_same_gets_the_same.Goals as goal

pub returns : goal.returns
returns g c es fs older others head target reply other x y same = same-reply g.S.Minding.service es fs older others head target reply other x y same
