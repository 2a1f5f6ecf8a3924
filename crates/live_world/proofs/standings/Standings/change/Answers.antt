use Rattle.std.proofs.Common.{Some, ap, sym, ◌∙◌}
use Rattle.live_world.specs.Kept.{Kept}
use Rattle.live_world.specs.Standings.{kept_at}
use Rattle.live_world.proofs.KeptLemmas.{kept-updated, kept-lookup}
use Rattle.live_world.proofs.standings.Standings.change.Goals as goal

pub returns-clause-ids : goal.returns-clause-ids
returns-clause-ids c = λ x.
    kept-updated x c.args.id c.self.inside.ids.entries c.args.self.now.ids c.insert.new.self.entries (Some c.args.standing)
    (ap (λ (k : Kept). k.ids) c.self.view_is) (c.in-Ok.ensures.updates.0 x)

pub unreachable-requires : goal.unreachable-requires
unreachable-requires c =
    c.requires (ap (λ es. kept_at es c.args.id) (sym (ap (λ (k : Kept). k.ids) c.self.view_is)) ∙ kept-lookup c.args.id c.self.inside.ids.entries ∙ c.in_default.ensures.absent)
