-- The moment of what comes first.
use Rattle.std.proofs.Common.{option_map, ap, ◌∙◌}
use Rattle.resty_base.specs.declared.names.Ms.{Ms}
use Rattle.engine_tables.specs.Agenda.{first_moment}
use Rattle.engine_tables.proofs.First.{earliest-at}
use Rattle.engine_tables.proofs.agenda.Agenda.earliest.Goals as goal

pub returns : goal.returns
returns c = ap (option_map (λ (at : Ms). at.0)) c.earliest.ensures ∙ earliest-at c.self.inside.deadlines.armed ∙ ap first_moment c.self.view_is
