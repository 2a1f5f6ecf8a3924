use Rattle.std.proofs.lemmas.Result.{err_from_is_err_and}
use Rattle.lua_patterns.proofs.Capturing.{test_full, advanced_none, advanced_steps}
use Rattle.lua_patterns.proofs.matcher.Search.advance.Goals as goal

pub returns-in_err-make_tests : goal.returns-in_err-make_tests
returns-in_err-make_tests c =
    let p = err_from_is_err_and c.from_residual.result c.from_residual.ensures.1 in
    rw (p.1, p.2) (λ expected before other. test_full c.args.self.now c.args.state.now _ _ expected c.in_err-make_tests.ensures.err before)

pub returns-in_default : goal.returns-in_default
returns-in_default c = λ expected before.
    advanced_none c.args.self.now c.args.state.now _ c.args.len _ expected c.in_ok-make_tests.ensures.ok c.in_default.is before

pub returns : goal.returns
returns c = λ expected before.
    advanced_steps c.args.self.now c.args.state.now _ c.args.after c.args.len c.in-Some.len expected c.in_ok-make_tests.ensures.ok c.in-Some.is before
