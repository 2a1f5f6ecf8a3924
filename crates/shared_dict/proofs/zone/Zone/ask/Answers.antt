use Rattle.shared_rules.specs.Dictionary.{dict}
use Rattle.shared_dict.proofs.Answering.{within-after}
use Rattle.shared_dict.proofs.zone.Zone.ask.Goals as goal

pub invariant_of-self : goal.invariant_of-self
invariant_of-self c =
    within-after c.self.inside.size c.self.inside.items c.ask.new.items (dict c.self.inside.size c.args.call.now c.args.now.0 c.self.inside.items).1 c.ask.result c.ask.ensures.items c.ask.ensures.unchanged
    (c.stays_within.ensures.dict c.self.inside.size c.args.now.0 c.args.call.now c.self.inside.items c.requires.moment c.requires.range c.self.invariant) c.self.invariant
