use Rattle.http_body_laws.proofs.Trees.{large}
use Rattle.http_body_laws.proofs.laws.refused_are_too_large.Goals as goal

pub returns : goal.returns
returns c = large
