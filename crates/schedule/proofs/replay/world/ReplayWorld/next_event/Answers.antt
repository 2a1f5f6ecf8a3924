use Rattle.std.proofs.Common.{length, slice_get, refl, sym, ap, ◌∙◌, arith}
use Rattle.schedule.specs.ReplayBook.{book_of}
use Rattle.schedule.proofs.NextLine.{nothing_ahead, absent_ahead, after_last}
use Rattle.schedule.proofs.Running.{bad-on, gave-bad, gave-past}
use Rattle.schedule.proofs.replay.world.ReplayWorld.next_event.Goals as goal

pub fail_at_end-requires-clause-end : goal.fail_at_end-requires-clause-end
fail_at_end-requires-clause-end c =
    let world = c.args.self.now in
    let at = c.answering-index.result in
    let none = nothing_ahead world.history.entries (slice_get world.course at) (sym c.ahead.ensures.next ∙ c.in-Nothing.is) in
    let past = c.pass_to-in-Nothing.ensures in
    omega (arith, after_last world.course at none, past.there, ap length past.past.schedule, c.pass_to-in-Nothing.new.self.passed_lines)

pub returns-in-Absent-clause-gave : goal.returns-in-Absent-clause-gave
returns-in-Absent-clause-gave c =
    let world = c.args.self.now in
    let new = c.pass_to.new.self in
    let past = c.pass_to.ensures.past in
    let next = absent_ahead world.history.entries (slice_get world.course c.answering-index.result) (sym c.ahead.ensures.next ∙ c.in-Absent.is) in
    gave-bad (book_of world) new.passed (book_of new) _ past.passed past.book (record {
      lines = new.course;
      schedule = refl;
      next = omega (arith, c.pass_to.ensures.there);
      bad = next.bad;
      here = rw (past.schedule, c.pass_to.ensures.there) next.here;
      absent = rw (new.known.arrived, new.known.dialled, past.entries) next.absent;
    })

pub returns-in-Absent-clause-same : goal.returns-in-Absent-clause-same
returns-in-Absent-clause-same c =
    let world = c.args.self.now in
    let past = c.pass_to.ensures.past in
    let next = absent_ahead world.history.entries (slice_get world.course c.answering-index.result) (sym c.ahead.ensures.next ∙ c.in-Absent.is) in
    bad-on world c.pass_to.new.self next.bad past (rw (past.schedule, c.pass_to.ensures.there) next.here) (rw past.entries next.absent)

pub returns-in-Fault-clause-gave : goal.returns-in-Fault-clause-gave
returns-in-Fault-clause-gave c =
    gave-past c.args.self.now c.pass_to-in-Fault.new.self c.fail_next.new.self c.fail_next.result c.pass_to-in-Fault.ensures.past c.fail_next.ensures.gave

pub returns-in-Nothing-clause-gave : goal.returns-in-Nothing-clause-gave
returns-in-Nothing-clause-gave c =
    gave-past c.args.self.now c.pass_to-in-Nothing.new.self c.fail_at_end.new.self c.fail_at_end.result c.pass_to-in-Nothing.ensures.past c.fail_at_end.ensures.gave
