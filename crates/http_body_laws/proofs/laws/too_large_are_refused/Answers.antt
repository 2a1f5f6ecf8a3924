use Rattle.http_body_laws.proofs.Complete.{refused}
use Rattle.http_body_laws.proofs.laws.too_large_are_refused.Goals as goal

pub returns : goal.returns
returns c = refused
