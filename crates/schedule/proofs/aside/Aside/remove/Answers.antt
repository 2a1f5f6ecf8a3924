use Rattle.std.proofs.Common.{◌≡◌, sym, ap, ◌∙◌}
use Rattle.std.specs.Prelude.{◌+◌, length, false, if◌then◌else◌}
use Rattle.schedule.specs.Aside.{Aside, is_aside}
use Rattle.schedule.proofs.AsideLemmas.{has-any, has-updated}
use Rattle.schedule.proofs.aside.Aside.remove.Goals as goal

pub returns-clause-aside : goal.returns-clause-aside
returns-clause-aside c = λ s.
    has-updated s c.args.strand c.self.inside.strands.keys c.args.self.now.strands c.swap_remove.new.self.keys false
    (ap (λ (a : Aside). a.strands) c.self.view_is) (c.swap_remove.ensures.updates.0 s)

pub returns-clause-count : goal.returns-clause-count
returns-clause-count c =
    let found : is_aside c.args.self.now c.args.strand ≡ c.swap_remove.result =
    ap (λ (a : Aside). is_aside a c.args.strand) (sym c.self.view_is) ∙ has-any c.args.strand c.self.inside.strands.keys ∙ sym c.swap_remove.ensures.found in
    ap (λ b. length c.swap_remove.new.self.keys + (if b then 1 else 0)) found ∙ c.swap_remove.ensures.len ∙ ap (λ (a : Aside). length a.strands) c.self.view_is
