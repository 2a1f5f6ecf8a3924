-- The deadline is armed with its number, or neither is there.
use Rattle.std.proofs.Common.{ℕ, ◌+◌, Some, sym, ap, subst, ◌∙◌}
use Rattle.wakes.specs.declared.deadlines.Whose.TheVariants as owner
use Rattle.wakes.specs.Times.{DeadlinesView}
use Rattle.engine_tables.specs.Agenda.{agenda_of}
use Rattle.engine_tables.specs.Numbers.{number_at, changed}
use Rattle.engine_tables.specs.Kept.{IsKept, disarmed}
use Rattle.engine_tables.proofs.Kept.{armed-more, armed-agenda, undone}
use Rattle.engine_tables.proofs.agenda.arm.Goals as goal

pub returns-in_default-clause-kept : goal.returns-in_default-clause-kept
returns-in_default-clause-kept c =
    let v = c.args.deadlines.now in
    let m = undone (number_at c.args.numbers.now) (number_at c.put.new.self) v c.args.at (owner.Strand c.args.who c.args.k) c.requires.kept c.in_default.ensures.kept in
    subst (IsKept (number_at c.put.new.self)) (sym (c.cancel.ensures ∙ ap (λ (n : ℕ). disarmed (Some n) c.arm.new.self) c.in_ok-number.ensures.number ∙ ap (disarmed (Some (v.last + 1))) c.in_ok-number.ensures.done)) m.0

pub returns-in_default-clause-refused : goal.returns-in_default-clause-refused
returns-in_default-clause-refused c =
    let v = c.args.deadlines.now in
    let m = undone (number_at c.args.numbers.now) (number_at c.put.new.self) v c.args.at (owner.Strand c.args.who c.args.k) c.requires.kept c.in_default.ensures.kept in
    ap (λ (w : DeadlinesView). agenda_of w.armed) (c.cancel.ensures ∙ ap (λ (n : ℕ). disarmed (Some n) c.arm.new.self) c.in_ok-number.ensures.number ∙ ap (disarmed (Some (v.last + 1))) c.in_ok-number.ensures.done) ∙ ap agenda_of m.1

pub returns-clause-kept : goal.returns-clause-kept
returns-clause-kept c =
    subst (IsKept (number_at c.put.new.self)) (sym c.in_ok-number.ensures.done)
    (armed-more (number_at c.args.numbers.now) (number_at c.put.new.self) c.args.deadlines.now c.args.who c.args.k c.requires.kept c.args.at c.requires.gone
    (λ s j. c.in-Ok.ensures.done s j ∙ ap (λ (n : ℕ). changed c.args.who c.args.k (Some n) (number_at c.args.numbers.now) s j) c.in_ok-number.ensures.number))

pub returns-clause-done : goal.returns-clause-done
returns-clause-done c = ap (λ (w : DeadlinesView). agenda_of w.armed) c.in_ok-number.ensures.done ∙ armed-agenda c.args.deadlines.now c.args.at (owner.Strand c.args.who c.args.k)
