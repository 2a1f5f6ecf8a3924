-- None is armed, and there are no numbers.
use Rattle.engine_tables.specs.Numbers.{number_at}
use Rattle.engine_tables.proofs.Kept.{none-kept}
use Rattle.engine_tables.proofs.agenda.Agenda.new.Goals as goal

pub invariant_of-result : goal.invariant_of-result
invariant_of-result c = none-kept (number_at c.new.result) c.new-2.result c.new.ensures c.new-2.ensures
