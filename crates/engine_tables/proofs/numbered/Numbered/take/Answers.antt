-- The number has nothing any more.
use Rattle.std.proofs.Common.{nat_eq, sym, ap, ◌∙◌}
use Rattle.std.specs.Map.{lookup, remove_entry}
use Rattle.indexmap.specs.IndexMap.{get}
use Rattle.engine_tables.specs.Numbered.{NumberedView}
use Rattle.engine_tables.proofs.Rising.{below-found, below-out}
use Rattle.engine_tables.proofs.numbered.Numbered.take.Goals as goal

pub returns-clause-value : goal.returns-clause-value
returns-clause-value g c =
    c.swap_remove.ensures.value ∙ sym (below-found (get nat_eq c.self.inside.by_number) c.args.number c.self.inside.next c.self.invariant)
    ∙ ap (λ (w : NumberedView _). lookup (nat_eq c.args.number) w.entries) c.self.view_is

pub returns-clause-left : goal.returns-clause-left
returns-clause-left g c =
    below-out (get nat_eq c.self.inside.by_number) (get nat_eq c.swap_remove.new.self) c.args.number c.self.inside.next c.swap_remove.ensures.updates.0
    ∙ ap (λ (w : NumberedView _). remove_entry (nat_eq c.args.number) w.entries) c.self.view_is
