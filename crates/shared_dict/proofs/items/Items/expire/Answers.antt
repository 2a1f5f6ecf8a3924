-- What was stored so far was stored before the flush.
use Rattle.shared_dict.proofs.Entries.{expired-is}
use Rattle.shared_dict.proofs.items.Items.expire.Goals as goal

pub returns : goal.returns
returns c = rw (← c.self.view_is) (expired-is c.self.inside.flush c.self.inside.last c.args.now c.self.inside.recent c.self.invariant.numbers)
