use Rattle.std.proofs.Common.{None, ap}
use Rattle.live_world.specs.Kept.{Kept}
use Rattle.live_world.proofs.KeptLemmas.{kept-updated}
use Rattle.live_world.proofs.standings.Standings.remove.Goals as goal

pub returns-clause-ids : goal.returns-clause-ids
returns-clause-ids c = λ x.
    kept-updated x c.args.id c.self.inside.ids.entries c.args.self.now.ids c.swap_remove.new.self.entries None
    (ap (λ (k : Kept). k.ids) c.self.view_is) (c.swap_remove.ensures.updates.0 x)
