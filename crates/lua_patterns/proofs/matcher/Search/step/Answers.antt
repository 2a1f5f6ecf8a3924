use Rattle.std.proofs.Common.{drop, refl}
use Rattle.lua_patterns.proofs.Walking.{item_into, end_into, open_into, position_into, balanced_into, wrong_into}
use Rattle.lua_patterns.proofs.matcher.Search.step.Goals as goal

pub returns-then-state-self-clause-steps : goal.returns-then-state-self-clause-steps
returns-then-state-self-clause-steps c = λ expected before.
    c.whole.ensures expected (end_into c.args.self.now c.args.state.now expected c.if-state-self.true before)

pub returns-in-Repeated-clause-steps : goal.returns-in-Repeated-clause-steps
returns-in-Repeated-clause-steps c = λ expected before.
    c.repeated.ensures expected (item_into c.args.self.now c.args.state.now c.item_at-item.result _ expected c.if-state-self.false c.item_at-item.ensures.value c.item_at-item.ensures.within.0 c.in-Repeated.is before)

pub returns-in-Open-clause-steps : goal.returns-in-Open-clause-steps
returns-in-Open-clause-steps c = λ expected before.
    c.captured.ensures expected (open_into c.args.self.now c.args.state.now _ _ expected (item_into c.args.self.now c.args.state.now c.item_at-item.result _ expected c.if-state-self.false c.item_at-item.ensures.value c.item_at-item.ensures.within.0 c.in-Open.is before))

pub returns-in-Position-clause-steps : goal.returns-in-Position-clause-steps
returns-in-Position-clause-steps c = λ expected before.
    c.captured-in-Position.ensures expected (position_into c.args.self.now c.args.state.now _ expected (item_into c.args.self.now c.args.state.now c.item_at-item.result _ expected c.if-state-self.false c.item_at-item.ensures.value c.item_at-item.ensures.within.0 c.in-Position.is before))

pub returns-in-Close-clause-steps : goal.returns-in-Close-clause-steps
returns-in-Close-clause-steps c = λ expected before.
    c.closed.ensures expected (item_into c.args.self.now c.args.state.now c.item_at-item.result _ expected c.if-state-self.false c.item_at-item.ensures.value c.item_at-item.ensures.within.0 c.in-Close.is before)

pub returns-in_ok-len-in-Balanced-clause-steps : goal.returns-in_ok-len-in-Balanced-clause-steps
returns-in_ok-len-in-Balanced-clause-steps c = λ expected before.
    c.advance.ensures expected (balanced_into c.args.self.now c.args.state.now c.in-Balanced.opening c.in-Balanced.closing _ (drop c.args.state.now.index c.args.self.now.subject.now) _ expected refl c.in_ok-len-in-Balanced.ensures.value
    (item_into c.args.self.now c.args.state.now c.item_at-item.result _ expected c.if-state-self.false c.item_at-item.ensures.value c.item_at-item.ensures.within.0 c.in-Balanced.is before))

pub returns-in-Reference-clause-steps : goal.returns-in-Reference-clause-steps
returns-in-Reference-clause-steps c = λ expected before.
    c.referred.ensures expected (item_into c.args.self.now c.args.state.now c.item_at-item.result _ expected c.if-state-self.false c.item_at-item.ensures.value c.item_at-item.ensures.within.0 c.in-Reference.is before)

pub returns-in-End-clause-steps : goal.returns-in-End-clause-steps
returns-in-End-clause-steps c = λ expected before.
    c.at_end.ensures expected (item_into c.args.self.now c.args.state.now c.item_at-item.result _ expected c.if-state-self.false c.item_at-item.ensures.value c.item_at-item.ensures.within.0 c.in-End.is before)

pub returns-in-Wrong-clause-steps : goal.returns-in-Wrong-clause-steps
returns-in-Wrong-clause-steps c = λ expected before other.
    wrong_into c.args.self.now c.args.state.now c.in-Wrong.at _ expected (item_into c.args.self.now c.args.state.now c.item_at-item.result _ expected c.if-state-self.false c.item_at-item.ensures.value c.item_at-item.ensures.within.0 c.in-Wrong.is before)
