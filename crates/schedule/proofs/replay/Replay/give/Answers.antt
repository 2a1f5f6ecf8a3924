use Rattle.std.proofs.Common.{subst, arith}
use Rattle.std.proofs.lemmas.Grind.{common_steps}
use Rattle.resty_world.specs.Given.{Gave}
use Rattle.schedule.specs.ReplayBook.{book_of}
use Rattle.schedule.specs.ReplayLaws.{IsLater-joins}
use Rattle.schedule.proofs.Running.{answered-on, gave-memory, gave-past}
use Rattle.schedule.proofs.replay.Replay.give.Goals as goal

pub returns-then-is_err-clause-gave : goal.returns-then-is_err-clause-gave
returns-then-is_err-clause-gave c = gave-memory (book_of c.args.self.now) (book_of c.make_ready.new.self) c.make_ready.ensures.book

pub returns-clause-gave : goal.returns-clause-gave
returns-clause-gave c =
    subst (λ b. Gave b (book_of c.give_next.new.self) c.give_next.result) c.make_ready.ensures.book
    (gave-past c.make_ready.new.self c.pass_to.new.self c.give_next.new.self c.give_next.result c.pass_to.ensures.past c.give_next.ensures.gave)

pub returns-clause-later : goal.returns-clause-later
returns-clause-later c =
    IsLater-joins c.args.self.now c.make_ready.new.self c.give_next.new.self c.make_ready.ensures.later
    (answered-on c.make_ready.new.self c.pass_to.new.self c.give_next.new.self c.pass_to.ensures.past c.give_next.ensures.answered)

pub returns-then-is_err-clause-later : goal.returns-then-is_err-clause-later
returns-then-is_err-clause-later c = c.make_ready.ensures.later

pub returns-in_default-clause-gave : goal.returns-in_default-clause-gave
returns-in_default-clause-gave c = grind (arith, common_steps)

pub returns-in_default-clause-later : goal.returns-in_default-clause-later
returns-in_default-clause-later c = grind (arith, common_steps)

pub pass_to-requires-clause-below : goal.pass_to-requires-clause-below
pass_to-requires-clause-below c = grind (arith, common_steps)

pub pass_to-requires-clause-quiet : goal.pass_to-requires-clause-quiet
pass_to-requires-clause-quiet c = grind (arith, common_steps)

pub give_next-requires-clause-ready : goal.give_next-requires-clause-ready
give_next-requires-clause-ready c = grind (arith, common_steps)

pub give_next-requires-clause-copy : goal.give_next-requires-clause-copy
give_next-requires-clause-copy c = grind (arith, common_steps)

pub give_next-requires-clause-here : goal.give_next-requires-clause-here
give_next-requires-clause-here c = grind (arith, common_steps)

pub give_next-requires-clause-fits : goal.give_next-requires-clause-fits
give_next-requires-clause-fits c = grind (arith, common_steps)

pub give_next-requires-clause-there : goal.give_next-requires-clause-there
give_next-requires-clause-there c = grind (arith, common_steps)

pub give_next-requires-clause-due : goal.give_next-requires-clause-due
give_next-requires-clause-due c = grind (arith, common_steps)
