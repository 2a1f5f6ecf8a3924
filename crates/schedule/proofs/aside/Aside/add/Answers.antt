use Rattle.std.proofs.Common.{true, ap}
use Rattle.schedule.specs.Aside.{Aside}
use Rattle.schedule.proofs.AsideLemmas.{has-updated}
use Rattle.schedule.proofs.aside.Aside.add.Goals as goal

pub returns-clause-aside : goal.returns-clause-aside
returns-clause-aside c = λ s.
    has-updated s c.args.strand c.self.inside.strands.keys c.args.self.now.strands c.insert.new.self.keys true
    (ap (λ (a : Aside). a.strands) c.self.view_is) (c.in-Ok.ensures.updates.0 s)
