-- By induction on the items.
use Rattle.shared_rules.proofs.Within.{without-used, first-used, expired-used}
use Rattle.shared_rules.proofs.laws.counts_used.Goals as goal

pub returns : goal.returns
returns c = record { without = without-used; first = first-used; expired = expired-used }
