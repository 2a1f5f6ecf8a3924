use Rattle.shared_dict.proofs.Answering.{empty-within}
use Rattle.shared_dict.proofs.zone.Zone.new.Goals as goal

pub invariant_of-result : goal.invariant_of-result
invariant_of-result c = rw c.new.ensures (empty-within c.args.size)
