use Rattle.http_body_laws.proofs.Refused.{none}
use Rattle.http_body_laws.proofs.laws.refused_are_no_bodies.Goals as goal

pub returns : goal.returns
returns c = none
