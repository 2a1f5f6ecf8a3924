use Rattle.std.proofs.Common.{sym, ◌∙◌}
use Rattle.shared_dict.proofs.Entries.{promoted-is, promoted-used, promoted-numbered}
use Rattle.shared_dict.proofs.items.Items.promote.Goals as goal

pub invariant_of-self : goal.invariant_of-self
invariant_of-self c = rw c.promote.ensures (record {
  counted = c.self.invariant.counted ∙ sym (promoted-used c.self.inside.flush c.args.key.now c.self.inside.recent);
  numbers = promoted-numbered c.self.inside.last c.args.key.now c.self.inside.recent c.self.invariant.numbers;
  flushed = c.self.invariant.flushed;
})

pub returns : goal.returns
returns c = rw (← c.self.view_is, c.promote.ensures) (sym (promoted-is c.self.inside.flush c.args.key.now c.self.inside.recent))
