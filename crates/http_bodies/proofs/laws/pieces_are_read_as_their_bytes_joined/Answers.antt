use Rattle.http_bodies.proofs.Pieces.{after_bytes-append}
use Rattle.http_bodies.proofs.laws.pieces_are_read_as_their_bytes_joined.Goals as goal

pub returns : goal.returns
returns c = after_bytes-append
