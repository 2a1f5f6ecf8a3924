-- A keep closes one of its key, where there are enough.
use Rattle.shared_rules.proofs.IdleSockets.{kept-once, kept-few}
use Rattle.shared_rules.proofs.laws.stays_small.Goals as goal

pub returns : goal.returns
returns c = record { once = kept-once; few = kept-few }
