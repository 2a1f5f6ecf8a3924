use Rattle.connection_laws.proofs.Numbering.{same-part-renumbered}
use Rattle.connection_laws.proofs.laws.who_is_given_the_same_does_the_same.Goals as goal

pub returns : goal.returns
returns g x site ms ns s t n f h v w e = same-part-renumbered site ms ns s t n f h v w e
