use Rattle.std.proofs.Common.{subst, ◌∙◌}
use Rattle.resty_world.specs.Book.{Book}
use Rattle.resty_world.specs.Given.{Gave}
use Rattle.live_world.specs.Accounts.{book_of}
use Rattle.live_world.proofs.world.LiveWorld.next_event.Goals as goal

pub loop-preserved-in_default : goal.loop-preserved-in_default
loop-preserved-in_default g c = c.turn.ensures ∙ c.loop.invariant

pub returns-in-Some-gives-clause-gave : goal.returns-in-Some-gives-clause-gave
returns-in-Some-gives-clause-gave g c =
    subst (λ (b : Book). Gave b (book_of c.gives.new.self) c.in-Some-gives.event) (c.turn.ensures ∙ c.loop.invariant) c.in-Some-gives.ensures.some

pub loop-preserved : goal.loop-preserved
loop-preserved g c = c.in_default-gives.ensures.none ∙ (c.turn.ensures ∙ c.loop.invariant)

pub returns-clause-gave : goal.returns-clause-gave
returns-clause-gave g c = subst (λ (b : Book). Gave b (book_of c.faults_at_end.new.self) c.faults_at_end.result) c.loop.invariant c.faults_at_end.ensures
