use Rattle.std.proofs.Common.{Some, ap}
use Rattle.live_world.specs.Kept.{Kept}
use Rattle.live_world.proofs.KeptLemmas.{kept-updated}
use Rattle.live_world.proofs.standings.Standings.add.Goals as goal

pub returns-clause-ids : goal.returns-clause-ids
returns-clause-ids c = λ x.
    kept-updated x c.args.id c.self.inside.ids.entries c.args.self.now.ids c.insert.new.self.entries (Some c.args.standing)
    (ap (λ (k : Kept). k.ids) c.self.view_is) (c.in-Ok.ensures.updates.0 x)
