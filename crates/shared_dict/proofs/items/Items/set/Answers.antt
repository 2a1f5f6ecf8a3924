use Rattle.std.proofs.Common.{sym, ◌∙◌}
use Rattle.shared_rules.specs.Items.{found}
use Rattle.shared_dict.proofs.Answering.{set-stored}
use Rattle.shared_dict.proofs.items.Items.set.Goals as goal

pub returns-in-None-clause-answer : goal.returns-in-None-clause-answer
returns-in-None-clause-answer c =
    rw (set-stored c.args.size c.args.how (found c.args.now.0 c.args.item.key c.args.self.now) c.args.item c.args.self.now (sym c.refusal.ensures ∙ c.in-None.is)) c.store.ensures.answer

pub returns-in-None-clause-items : goal.returns-in-None-clause-items
returns-in-None-clause-items c =
    rw (set-stored c.args.size c.args.how (found c.args.now.0 c.args.item.key c.args.self.now) c.args.item c.args.self.now (sym c.refusal.ensures ∙ c.in-None.is)) c.store.ensures.items
