-- The deadline leaves with its number.
use Rattle.std.proofs.Common.{Option, ℕ, ap, ◌∙◌}
use Rattle.engine_tables.specs.Numbers.{number_at}
use Rattle.engine_tables.specs.Kept.{disarmed}
use Rattle.engine_tables.proofs.Kept.{left-of}
use Rattle.engine_tables.proofs.agenda.cancel.Goals as goal

pub returns-in-Some-clause-kept : goal.returns-in-Some-clause-kept
returns-in-Some-clause-kept c = (left-of (number_at c.args.numbers.now) (number_at c.take.new.self) c.args.deadlines.now c.cancel.new.self c.args.who c.args.k c.requires c.take.ensures.left
    (c.cancel.ensures ∙ ap (λ (o : Option ℕ). disarmed o c.args.deadlines.now) c.in-Some.ensures.number)).0

pub returns-in-Some-clause-left : goal.returns-in-Some-clause-left
returns-in-Some-clause-left c = (left-of (number_at c.args.numbers.now) (number_at c.take.new.self) c.args.deadlines.now c.cancel.new.self c.args.who c.args.k c.requires c.take.ensures.left
    (c.cancel.ensures ∙ ap (λ (o : Option ℕ). disarmed o c.args.deadlines.now) c.in-Some.ensures.number)).1

pub returns-in_default-clause-kept : goal.returns-in_default-clause-kept
returns-in_default-clause-kept c = (left-of (number_at c.args.numbers.now) (number_at c.take.new.self) c.args.deadlines.now c.args.deadlines.now c.args.who c.args.k c.requires c.take.ensures.left
    (ap (λ (o : Option ℕ). disarmed o c.args.deadlines.now) c.in_default.ensures.number)).0

pub returns-in_default-clause-left : goal.returns-in_default-clause-left
returns-in_default-clause-left c = (left-of (number_at c.args.numbers.now) (number_at c.take.new.self) c.args.deadlines.now c.args.deadlines.now c.args.who c.args.k c.requires c.take.ensures.left
    (ap (λ (o : Option ℕ). disarmed o c.args.deadlines.now) c.in_default.ensures.number)).1
