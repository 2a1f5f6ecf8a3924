use Rattle.std.proofs.Common.{sym, ◌∙◌, ap, arith}
use Rattle.lua_meaning.specs.Life.{outcome_of}
use Rattle.lua_threads.specs.declared.threads.Stage.{Stage}
use Rattle.lua_threads.specs.Left.{resumed_at}
use Rattle.lua_threads.proofs.LeftLemmas.{comes_as, answer_goes, steps_left, no_steps_left}
use Rattle.lua_threads.proofs.threads.Thread.go_on.Goals as goal

pub returns-in-New-clause-comes : goal.returns-in-New-clause-comes
returns-in-New-clause-comes g c = λ rs.
    comes_as (g.H.Host.setting c.args.host.now) _ _ rs c.run_on.new.store c.run_on.result
    (ap (λ (t : Stage). outcome_of (resumed_at (g.H.Host.setting c.args.host.now) c.args.self.frames t (record { store = c.args.store.now; answer = c.args.given }) rs)) c.in-New.is) (c.run_on.ensures.comes rs)

pub returns-then-steps-ge-STEP_LIMIT-clause-comes : goal.returns-then-steps-ge-STEP_LIMIT-clause-comes
returns-then-steps-ge-STEP_LIMIT-clause-comes g c = λ rs.
    ap outcome_of
    (ap (λ (t : Stage). resumed_at (g.H.Host.setting c.args.host.now) c.args.self.frames t (record { store = c.args.store.now; answer = c.args.given }) rs) c.in-Parked.is
    ∙ no_steps_left (g.H.Host.setting c.args.host.now) c.args.self.frames c.in-Parked.position (record { store = c.args.store.now; answer = c.args.given }) rs (omega (arith, c.steps.ensures.steps, c.if-steps-ge-STEP_LIMIT.true)))

pub returns-in_ok-answer-in-Parked-clause-comes : goal.returns-in_ok-answer-in-Parked-clause-comes
returns-in_ok-answer-in-Parked-clause-comes g c = λ rs.
    comes_as (g.H.Host.setting c.args.host.now) _ _ rs c.run_on-in-Parked.new.store c.run_on-in-Parked.result
    (ap outcome_of
    (ap (λ (t : Stage). resumed_at (g.H.Host.setting c.args.host.now) c.args.self.frames t (record { store = c.args.store.now; answer = c.args.given }) rs) c.in-Parked.is
    ∙ steps_left (g.H.Host.setting c.args.host.now) c.args.self.frames c.in-Parked.position (record { store = c.args.store.now; answer = c.args.given }) rs (omega (arith, c.steps.ensures.steps, c.if-steps-ge-STEP_LIMIT.false))
    ∙ sym (answer_goes (g.H.Host.setting c.args.host.now) c.program.result.now c.in-Parked.position c.args.given c.args.self.frames c.answer.new.frames c.args.store.now rs (sym c.program.ensures) c.in_ok-answer-in-Parked.ensures)))
    (c.run_on-in-Parked.ensures.comes rs)
