use Rattle.http_body_laws.proofs.Trees.{whole}
use Rattle.http_body_laws.proofs.laws.whole_are_chunked_bodies.Goals as goal

pub returns : goal.returns
returns c = whole
