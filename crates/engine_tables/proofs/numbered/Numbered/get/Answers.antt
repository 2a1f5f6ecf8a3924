-- What is at the number is what is found among all.
use Rattle.std.proofs.Common.{nat_eq, sym, ap, ◌∙◌}
use Rattle.std.specs.Map.{lookup}
use Rattle.indexmap.specs.IndexMap.{get}
use Rattle.engine_tables.specs.Numbered.{NumberedView}
use Rattle.engine_tables.proofs.Rising.{below-found}
use Rattle.engine_tables.proofs.numbered.Numbered.get.Goals as goal

pub returns : goal.returns
returns g c =
    c.get.ensures.value ∙ sym (below-found (get nat_eq c.self.inside.by_number) c.args.number c.self.inside.next c.self.invariant)
    ∙ ap (λ (w : NumberedView _). lookup (nat_eq c.args.number) w.entries) c.self.view_is
