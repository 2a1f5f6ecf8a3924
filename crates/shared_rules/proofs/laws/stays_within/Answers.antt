-- By cases of the call.
use Rattle.shared_rules.proofs.Within.{dict-within, store-within, first-within}
use Rattle.shared_rules.proofs.laws.stays_within.Goals as goal

pub returns : goal.returns
returns c = record { dict = dict-within; store = store-within; first = first-within }
