use Rattle.phases.specs.Laws.{IsBounded}
use Rattle.phases.proofs.Bounds as bounds
use Rattle.phases.proofs.laws.is_bounded.Goals as goal

pub returns : goal.returns
returns c = record { begins = bounds.begins; ends = bounds.ends }
