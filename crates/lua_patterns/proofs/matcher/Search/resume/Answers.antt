use Rattle.std.proofs.Common.{arith, refl, Ok}
use Rattle.lua_patterns.specs.Searches.{answer}
use Rattle.lua_patterns.specs.Matching.{left_after}
use Rattle.std.proofs.lemmas.Result.{err_from_is_err_and}
use Rattle.lua_patterns.proofs.Resuming.{popped_at, fewer_left, forgotten, reopened, none_left, resumes_later, tries_true, tries_false}
use Rattle.lua_patterns.proofs.matcher.Search.resume.Goals as goal

pub loop-pending-init : goal.loop-pending-init
loop-pending-init c = (λ expected before. before, omega arith)

pub returns-in_err-fewer-in-Fewer : goal.returns-in_err-fewer-in-Fewer
returns-in_err-fewer-in-Fewer c =
    let p = err_from_is_err_and c.from_residual.result c.from_residual.ensures.1 in
    rw (p.1, p.2) (λ expected before. c.in_err-fewer-in-Fewer.ensures expected (popped_at c.args.self.now c.loop-pending.state c.in-Some.pending _ c.pop.new.self.items expected c.in-Some.ensures.items c.in-Fewer.is (c.loop-pending.invariant.0 expected before)))

pub returns-in-Fewer : goal.returns-in-Fewer
returns-in-Fewer c = λ expected before.
    let takes = c.in_ok-fewer-in-Fewer.ensures expected (popped_at c.args.self.now c.loop-pending.state c.in-Some.pending _ c.pop.new.self.items expected c.in-Some.ensures.items c.in-Fewer.is (c.loop-pending.invariant.0 expected before)) in
    (takes.0, omega (arith, takes.1, c.loop-pending.invariant.1))

pub returns-in_err-more-in-More : goal.returns-in_err-more-in-More
returns-in_err-more-in-More c =
    let p = err_from_is_err_and c.from_residual-in_err-more-in-More.result c.from_residual-in_err-more-in-More.ensures.1 in
    rw (p.1, p.2) (λ expected before. c.in_err-more-in-More.ensures expected (popped_at c.args.self.now c.loop-pending.state c.in-Some.pending _ c.pop.new.self.items expected c.in-Some.ensures.items c.in-More.is (c.loop-pending.invariant.0 expected before)))

pub returns-then-branch : goal.returns-then-branch
returns-then-branch c = λ expected before.
    let tries = tries_true c.args.self.now (record c.loop-pending.state { pending = c.pop.new.self }) c.more.new.state expected c.in_ok-more-in-More.field-0 c.if-branch.true
    (c.in_ok-more-in-More.ensures expected (popped_at c.args.self.now c.loop-pending.state c.in-Some.pending _ c.pop.new.self.items expected c.in-Some.ensures.items c.in-More.is (c.loop-pending.invariant.0 expected before))) in
    (tries.0, omega (arith, tries.1, c.loop-pending.invariant.1))

pub loop-pending-smaller-else-branch : goal.loop-pending-smaller-else-branch
loop-pending-smaller-else-branch c =
    let expected = answer c.args.self.now.limit c.loop-pending.state.tests (left_after c.args.self.now c.loop-pending.state) in
    let tries = tries_false c.args.self.now (record c.loop-pending.state { pending = c.pop.new.self }) c.more.new.state expected c.in_ok-more-in-More.field-0 c.if-branch.false
    (c.in_ok-more-in-More.ensures expected (popped_at c.args.self.now c.loop-pending.state c.in-Some.pending _ c.pop.new.self.items expected c.in-Some.ensures.items c.in-More.is refl)) in
    rw tries.2 (fewer_left _ _ _ c.in-Some.ensures.items)

pub loop-pending-preserved-else-branch : goal.loop-pending-preserved-else-branch
loop-pending-preserved-else-branch c =
    let whole = answer c.args.self.now.limit c.loop-pending.state.tests (left_after c.args.self.now c.loop-pending.state) in
    let counted = tries_false c.args.self.now (record c.loop-pending.state { pending = c.pop.new.self }) c.more.new.state whole c.in_ok-more-in-More.field-0 c.if-branch.false
    (c.in_ok-more-in-More.ensures whole (popped_at c.args.self.now c.loop-pending.state c.in-Some.pending _ c.pop.new.self.items whole c.in-Some.ensures.items c.in-More.is refl)) in (
      λ expected before. (tries_false c.args.self.now (record c.loop-pending.state { pending = c.pop.new.self }) c.more.new.state expected c.in_ok-more-in-More.field-0 c.if-branch.false
          (c.in_ok-more-in-More.ensures expected (popped_at c.args.self.now c.loop-pending.state c.in-Some.pending _ c.pop.new.self.items expected c.in-Some.ensures.items c.in-More.is (c.loop-pending.invariant.0 expected before)))).0,
      omega (arith, counted.1, c.loop-pending.invariant.1),
    )

pub loop-pending-smaller-in-Forget : goal.loop-pending-smaller-in-Forget
loop-pending-smaller-in-Forget c = fewer_left _ _ _ c.in-Some.ensures.items

pub loop-pending-preserved-in-Forget : goal.loop-pending-preserved-in-Forget
loop-pending-preserved-in-Forget c = (
  λ expected before. forgotten c.args.self.now c.loop-pending.state c.in-Some.pending c.pop.new.self.items _ expected c.in-Some.ensures.items c.in-Forget.is c.forget_last.ensures (c.loop-pending.invariant.0 expected before),
  c.loop-pending.invariant.1,
)

pub loop-pending-smaller : goal.loop-pending-smaller
loop-pending-smaller c = fewer_left _ _ _ c.in-Some.ensures.items

pub loop-pending-preserved : goal.loop-pending-preserved
loop-pending-preserved c = (
  λ expected before. reopened c.args.self.now c.loop-pending.state c.in-Some.pending c.in-Reopen.found c.pop.new.self.items _ expected c.in-Some.ensures.items c.in-Reopen.is c.open_again.ensures (c.loop-pending.invariant.0 expected before),
  c.loop-pending.invariant.1,
)

pub returns : goal.returns
returns c = λ expected before.
    resumes_later c.args.self.now c.args.state.now (record c.loop-pending.state { pending = c.pop.new.self }) c.next_start.new.state expected (Ok c.next_start.result) c.loop-pending.invariant.1
    (c.next_start.ensures expected (none_left c.args.self.now c.loop-pending.state c.pop.new.self.items expected c.in_default.ensures.items (c.loop-pending.invariant.0 expected before)))
