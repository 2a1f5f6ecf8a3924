use Rattle.client_line.proofs.Serving.{one-reading}
use Rattle.client_line.proofs.laws.bytes_have_one_list_of_requests.Goals as goal

pub returns : goal.returns
returns c = one-reading
