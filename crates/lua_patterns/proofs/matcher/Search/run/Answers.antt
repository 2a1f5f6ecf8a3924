use Rattle.std.proofs.Common.{◌++◌, arith, refl, inl}
use Rattle.std.proofs.lemmas.Result.{err_from_is_err_and}
use Rattle.lua_patterns.specs.Searches.{answer}
use Rattle.lua_patterns.specs.Matching.{ahead, left_after}
use Rattle.lua_patterns.proofs.Walking.{left_falls}
use Rattle.lua_patterns.proofs.Resuming.{resumes_true, resumes_false}
use Rattle.lua_patterns.proofs.Balancing.{no_pairs}
use Rattle.lua_patterns.proofs.Running.{steps_on, steps_back, steps_whole}
use Rattle.lua_patterns.proofs.matcher.Search.run.Goals as goal

pub loop-balance-init : goal.loop-balance-init
loop-balance-init c = (no_pairs _ _ c.new.ensures.items, λ expected before. before)

pub returns-in_err-step : goal.returns-in_err-step
returns-in_err-step c =
    let p = err_from_is_err_and c.from_residual.result c.from_residual.ensures.1 in
    rw (p.1, p.2) (λ expected before. c.in_err-step.ensures.steps expected (c.loop-balance.invariant.1 expected before))

pub loop-balance-smaller-in-On : goal.loop-balance-smaller-in-On
loop-balance-smaller-in-On c =
    let expected = answer c.args.self.now.limit c.loop-balance.state.tests (ahead c.args.self.now c.loop-balance.state ++ left_after c.args.self.now c.loop-balance.state) in
    left_falls c.args.self.now _ c.loop-balance.state c.step.new.state refl (steps_on c.args.self.now c.loop-balance.state c.step.new.state expected c.in_ok-step.field-0 c.in-On.is (c.in_ok-step.ensures.steps expected refl)).1

pub loop-balance-preserved-in-On : goal.loop-balance-preserved-in-On
loop-balance-preserved-in-On c = (
  c.in_ok-step.ensures.right,
  λ expected before.
      (steps_on c.args.self.now c.loop-balance.state c.step.new.state expected c.in_ok-step.field-0 c.in-On.is (c.in_ok-step.ensures.steps expected (c.loop-balance.invariant.1 expected before))).0,
)

pub returns-in_err-resume-in-Back : goal.returns-in_err-resume-in-Back
returns-in_err-resume-in-Back c =
    let p = err_from_is_err_and c.from_residual-in_err-resume-in-Back.result c.from_residual-in_err-resume-in-Back.ensures.1 in
    rw (p.1, p.2) (λ expected before.
    c.in_err-resume-in-Back.ensures expected
    (steps_back c.args.self.now c.loop-balance.state c.step.new.state expected c.in_ok-step.field-0 c.in-Back.is (c.in_ok-step.ensures.steps expected (c.loop-balance.invariant.1 expected before))).0)

pub returns-then-not-branch : goal.returns-then-not-branch
returns-then-not-branch c = λ expected before.
    resumes_false c.args.self.now c.step.new.state c.resume.new.state expected c.in_ok-resume-in-Back.field-0 c.if-not-branch.true
    (c.in_ok-resume-in-Back.ensures expected
    (steps_back c.args.self.now c.loop-balance.state c.step.new.state expected c.in_ok-step.field-0 c.in-Back.is (c.in_ok-step.ensures.steps expected (c.loop-balance.invariant.1 expected before))).0)

pub loop-balance-smaller : goal.loop-balance-smaller
loop-balance-smaller c =
    let expected = answer c.args.self.now.limit c.loop-balance.state.tests (ahead c.args.self.now c.loop-balance.state ++ left_after c.args.self.now c.loop-balance.state) in
    let back = steps_back c.args.self.now c.loop-balance.state c.step.new.state expected c.in_ok-step.field-0 c.in-Back.is (c.in_ok-step.ensures.steps expected refl) in
    let on = resumes_true c.args.self.now c.step.new.state c.resume.new.state expected c.in_ok-resume-in-Back.field-0 c.if-not-branch.false (c.in_ok-resume-in-Back.ensures expected back.0) in
    left_falls c.args.self.now _ c.loop-balance.state c.resume.new.state refl (inl (omega (arith, back.1, on.1)))

pub loop-balance-preserved : goal.loop-balance-preserved
loop-balance-preserved c = (
  c.in_ok-step.ensures.right,
  λ expected before.
      (resumes_true c.args.self.now c.step.new.state c.resume.new.state expected c.in_ok-resume-in-Back.field-0 c.if-not-branch.false
      (c.in_ok-resume-in-Back.ensures expected
      (steps_back c.args.self.now c.loop-balance.state c.step.new.state expected c.in_ok-step.field-0 c.in-Back.is (c.in_ok-step.ensures.steps expected (c.loop-balance.invariant.1 expected before))).0)).0,
)

pub returns-in-Whole : goal.returns-in-Whole
returns-in-Whole c = λ expected before.
    steps_whole c.args.self.now c.loop-balance.state c.step.new.state expected c.in_ok-step.field-0 c.in-Whole.found c.in-Whole.is (c.in_ok-step.ensures.steps expected (c.loop-balance.invariant.1 expected before))
