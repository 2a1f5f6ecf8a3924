use Rattle.http_body_laws.proofs.Live.{goes_on}
use Rattle.http_body_laws.proofs.laws.others_go_on.Goals as goal

pub returns : goal.returns
returns c = goes_on
