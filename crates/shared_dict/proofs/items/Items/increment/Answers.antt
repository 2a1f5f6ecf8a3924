use Rattle.shared_dict.proofs.Answering.{numbered-there}
use Rattle.shared_dict.proofs.items.Items.increment.Goals as goal

pub raised-requires-clause-value : goal.raised-requires-clause-value
raised-requires-clause-value c = numbered-there c.args.now.0 c.args.key.now c.args.self.now c.in-Some.kept.now c.requires.kept c.in-Some.ensures
