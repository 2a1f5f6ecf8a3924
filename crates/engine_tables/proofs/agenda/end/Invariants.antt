-- What has left so far is the strand's.
use Rattle.std.proofs.Common.{◌≡◌}
use Rattle.executions.specs.Agenda.{without_those, is_of}
use Rattle.engine_tables.specs.Agenda.{agenda_of}
use Rattle.engine_tables.specs.Numbers.{number_at, count_at}
use Rattle.engine_tables.specs.Kept.{IsKept}
use Rattle.engine_tables.proofs.agenda.end.Given as goal

abbrev pub invariant-loop-k : goal.invariant-loop-k
invariant-loop-k l = record {
  kept : IsKept (number_at l.numbers) l.deadlines;
  left : without_those (is_of l.who) (agenda_of l.deadlines.armed) ≡ without_those (is_of l.who) (agenda_of l.fn.deadlines.armed);
}

abbrev pub decreases-loop-k : goal.decreases-loop-k
decreases-loop-k l = count_at l.numbers l.who
