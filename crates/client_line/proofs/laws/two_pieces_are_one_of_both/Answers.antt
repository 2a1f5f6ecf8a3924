use Rattle.client_line.proofs.Feeds.{two-feeds}
use Rattle.client_line.proofs.laws.two_pieces_are_one_of_both.Goals as goal

pub returns : goal.returns
returns c = two-feeds
