use Rattle.std.proofs.Common.{◌≡◌, [], ◌∷◌, sym, ◌∙◌, subst, arith}
use Rattle.lua_meaning.specs.Life.{Done, Failure, OutOfSteps}
use Rattle.run_threads.specs.Handlers.{Answered, answers_call, with_store}
use Rattle.run_threads.specs.Threads.{IsLeft}
use Rattle.run_threads.specs.Views.{answered_seen, running_seen}
use Rattle.run_threads.proofs.Handling.{ends_as, goes_left, fewer_left, answered_by, answered_steps}
use Rattle.run_threads.proofs.handlers.go_on.Goals as goal

pub loop-left-smaller : goal.loop-left-smaller
loop-left-smaller g c =
    let running = running_seen c.loop-left.answered.running in
    let op = c.in-Parked.op in
    let told : answered_seen c.in_ok-answered-in-Parked.answered ≡ answers_call op.number op.args (with_store running c.resume.new.store) =
    answered_by op.number op.args c.as_slice.result.now (with_store running c.resume.new.store) _ c.in_ok-answered-in-Parked.ensures c.as_slice.ensures in
    omega (arith, answered_steps _ _ told, fewer_left op.number op.args running c.resume.new.store c.in-Parked.ensures.counts c.in-Parked.ensures.within)

pub loop-left-preserved : goal.loop-left-preserved
loop-left-preserved g c = λ life came left.
    let a = answered_seen c.loop-left.answered in
    let op = c.in-Parked.op in
    let told : answered_seen c.in_ok-answered-in-Parked.answered ≡ answers_call op.number op.args (with_store a.running c.resume.new.store) =
    answered_by op.number op.args c.as_slice.result.now (with_store a.running c.resume.new.store) _ c.in_ok-answered-in-Parked.ensures c.as_slice.ensures in
    subst (λ (b : Answered). IsLeft life (g.M.Machine.finish c.args.machine.now c.in-Parked.left) b came) (sym told)
    (goes_left life (g.M.Machine.finish c.args.machine.now c.loop-left.thread) (g.M.Machine.finish c.args.machine.now c.in-Parked.left) a came op.number op.args op.position c.resume.new.store
    (c.loop-left.invariant life came left) (c.in-Parked.ensures.goes_on []) (λ r more. c.in-Parked.ensures.goes_on (r ∷ more)) c.in-Parked.ensures.counts c.in-Parked.ensures.within)

pub returns-in-Done : goal.returns-in-Done
returns-in-Done g c = λ life came left.
    c.ended.ensures ∙ (ends_as life (g.M.Machine.finish c.args.machine.now c.loop-left.thread) (answered_seen c.loop-left.answered) came (Done c.in-Done.field-0 c.resume.new.store)
    (c.loop-left.invariant life came left) (c.in-Done.ensures.goes_on [])).1

pub returns-in-Failed : goal.returns-in-Failed
returns-in-Failed g c = λ life came left.
    c.ended-in-Failed.ensures ∙ (ends_as life (g.M.Machine.finish c.args.machine.now c.loop-left.thread) (answered_seen c.loop-left.answered) came (Failure c.in-Failed.value c.resume.new.store)
    (c.loop-left.invariant life came left) (c.in-Failed.ensures.goes_on [])).1

pub returns-in-Spent : goal.returns-in-Spent
returns-in-Spent g c = λ life came left.
    c.ended-in-Spent.ensures ∙ (ends_as life (g.M.Machine.finish c.args.machine.now c.loop-left.thread) (answered_seen c.loop-left.answered) came OutOfSteps
    (c.loop-left.invariant life came left) (c.in-Spent.ensures.goes_on [])).1
