use Rattle.std.proofs.Common.{[], refl, inr}
use Rattle.std.proofs.lemmas.Result.{err_from_is_err_and}
use Rattle.lua_patterns.proofs.Capturing.{test_full, end_goes, no_end, no_end_steps}
use Rattle.lua_patterns.proofs.matcher.Search.at_end.Goals as goal

pub returns-then-state-self : goal.returns-then-state-self
returns-then-state-self c = λ expected before.
    (end_goes c.args.self.now c.args.state.now c.args.after expected c.if-state-self.true before, inr (refl, c.requires.further, c.requires.within))

pub returns-in_err-make_tests : goal.returns-in_err-make_tests
returns-in_err-make_tests c =
    let p = err_from_is_err_and c.from_residual.result c.from_residual.ensures.1 in
    rw (p.1, p.2) (λ expected before other. test_full c.args.self.now c.args.state.now [] _ expected c.in_err-make_tests.ensures.err (no_end c.args.self.now c.args.state.now c.args.after expected c.if-state-self.false before))

pub returns : goal.returns
returns c = λ expected before.
    no_end_steps c.args.self.now c.args.state.now _ c.args.after expected c.in_ok-make_tests.ensures.ok c.if-state-self.false before
