use Rattle.std.proofs.Common.{◌≡◌, Some, None, unwrap_or, sym, ap, ◌∙◌}
use Rattle.live_world.specs.Kept.{Kept}
use Rattle.live_world.specs.Standings.{kept_at, nothing}
use Rattle.live_world.proofs.KeptLemmas.{kept-lookup}
use Rattle.live_world.proofs.standings.Standings.at.Goals as goal

pub returns-in-Some : goal.returns-in-Some
returns-in-Some c =
    let found : kept_at c.args.self.now.ids c.args.id ≡ Some c.in-Some.standing.now =
    ap (λ (k : Kept). kept_at k.ids c.args.id) (sym c.self.view_is) ∙ kept-lookup c.args.id c.self.inside.ids.entries ∙ sym c.in-Some.ensures.value in
    sym (ap (λ o. unwrap_or o nothing) found)

pub returns-in-None : goal.returns-in-None
returns-in-None c =
    let found : kept_at c.args.self.now.ids c.args.id ≡ None =
    ap (λ (k : Kept). kept_at k.ids c.args.id) (sym c.self.view_is) ∙ kept-lookup c.args.id c.self.inside.ids.entries ∙ sym c.in-None.ensures.value in
    sym (ap (λ o. unwrap_or o nothing) found)
