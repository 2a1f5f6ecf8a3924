use Rattle.http_body_laws.proofs.Complete.{read_whole}
use Rattle.http_body_laws.proofs.laws.chunked_bodies_are_read.Goals as goal

pub returns : goal.returns
returns c = read_whole
