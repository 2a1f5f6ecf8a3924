use Rattle.engine_examples.proofs.laws.whole.Goals as goal
use Rattle.engine_examples.proofs.Whole.{whole}

pub returns : goal.returns
returns g c same b ms is-same h = whole same is-same b ms h
