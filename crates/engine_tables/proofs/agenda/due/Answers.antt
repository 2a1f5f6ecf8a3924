-- The deadline that is due is a strand's, and leaves with its number.
use Rattle.std.proofs.Common.{Option, ℕ, option_map, sym, ap, subst, ◌∙◌}
use Rattle.resty_base.specs.declared.names.StrandId.{StrandId}
use Rattle.wakes.specs.Times.{DeadlinesView}
use Rattle.executions.specs.Agenda.{OfStrand}
use Rattle.engine_tables.specs.Agenda.{agenda_of, without_given}
use Rattle.engine_tables.specs.Numbers.{number_at}
use Rattle.engine_tables.specs.Kept.{IsKept}
use Rattle.engine_tables.proofs.First.{none-due, one-due}
use Rattle.engine_tables.proofs.Kept.{left-of}
use Rattle.engine_tables.proofs.agenda.due.Goals as goal

pub returns-in_err-due-clause-kept : goal.returns-in_err-due-clause-kept
returns-in_err-due-clause-kept c =
    let n = none-due (number_at c.args.numbers.now) c.args.now.0 c.args.deadlines.now c.requires c.in_err-due.ensures.strand in
    subst (IsKept (number_at c.args.numbers.now)) (sym (c.due_strand.ensures.left ∙ n.0)) c.requires

pub returns-in_err-due-clause-whose : goal.returns-in_err-due-clause-whose
returns-in_err-due-clause-whose c =
    let n = none-due (number_at c.args.numbers.now) c.args.now.0 c.args.deadlines.now c.requires c.in_err-due.ensures.strand in
    ap (option_map (λ (d : StrandId × ℕ). OfStrand d.0 d.1)) c.from_residual.ensures ∙ n.1

pub returns-in_err-due-clause-left : goal.returns-in_err-due-clause-left
returns-in_err-due-clause-left c =
    let n = none-due (number_at c.args.numbers.now) c.args.now.0 c.args.deadlines.now c.requires c.in_err-due.ensures.strand in
    ap (λ (w : DeadlinesView). agenda_of w.armed) (c.due_strand.ensures.left ∙ n.0) ∙ sym (ap (λ (o : Option (StrandId × ℕ)). without_given o (agenda_of c.args.deadlines.now.armed)) c.from_residual.ensures)

pub returns-clause-kept : goal.returns-clause-kept
returns-clause-kept c =
    let t = c.in_ok-due.due in
    let o = one-due (number_at c.args.numbers.now) c.args.now.0 c.args.deadlines.now c.requires t c.in_ok-due.ensures.strand in
    (left-of (number_at c.args.numbers.now) (number_at c.take-number.new.self) c.args.deadlines.now c.due_strand.new.deadlines t.0 t.1 c.requires c.take-number.ensures.left (c.due_strand.ensures.left ∙ o.0)).0

pub returns-clause-whose : goal.returns-clause-whose
returns-clause-whose c = (one-due (number_at c.args.numbers.now) c.args.now.0 c.args.deadlines.now c.requires c.in_ok-due.due c.in_ok-due.ensures.strand).1

pub returns-clause-left : goal.returns-clause-left
returns-clause-left c =
    let t = c.in_ok-due.due in
    let o = one-due (number_at c.args.numbers.now) c.args.now.0 c.args.deadlines.now c.requires t c.in_ok-due.ensures.strand in
    (left-of (number_at c.args.numbers.now) (number_at c.take-number.new.self) c.args.deadlines.now c.due_strand.new.deadlines t.0 t.1 c.requires c.take-number.ensures.left (c.due_strand.ensures.left ∙ o.0)).1
