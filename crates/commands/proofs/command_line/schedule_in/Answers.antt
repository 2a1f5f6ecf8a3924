use Rattle.std.proofs.Common.{true}
use Rattle.commands.specs.Words.{texts, HasSchedule}
use Rattle.commands.proofs.Commands.{wider_none}
use Rattle.commands.proofs.command_line.schedule_in.Goals as goal

pub returns-then-has_schedule-clause-none : goal.returns-then-has_schedule-clause-none
returns-then-has_schedule-clause-none c =
    wider_none c.value_of.result _ _
    (λ none name rest has. let h : HasSchedule true name rest (texts c.args.words.now) = rw c.if-has_schedule.true at has in none name rest h.1 h.0)
    c.value_of.ensures.none
