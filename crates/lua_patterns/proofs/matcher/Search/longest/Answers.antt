use Rattle.std.proofs.Common.{ap, is_ok}
use Rattle.std.proofs.ResultArms.{chosen}
use Rattle.std.proofs.lemmas.Result.{err_from_is_err_and}
use Rattle.lua_patterns.proofs.Stepping.{longest_full_first, longest_full_last, longest_none, longest_some}
use Rattle.lua_patterns.proofs.matcher.Search.longest.Goals as goal

pub returns-in_err-make_tests : goal.returns-in_err-make_tests
returns-in_err-make_tests c =
    let p = err_from_is_err_and c.from_residual.result c.from_residual.ensures.1 in
    rw (p.1, p.2) (λ expected before other. longest_full_first c.args.self.now c.args.state.now _ c.args.class c.args.after _ expected c.run_len-taken.ensures.value c.in_err-make_tests.ensures.err before)

pub returns-in_err-make_tests-2 : goal.returns-in_err-make_tests-2
returns-in_err-make_tests-2 c =
    let p = err_from_is_err_and c.from_residual-in_err-make_tests-2.result c.from_residual-in_err-make_tests-2.ensures.1 in
    rw (p.1, p.2) (λ expected before other. longest_full_last c.args.self.now c.args.state.now _ _ c.args.class c.args.after _ expected c.run_len-taken.ensures.value c.in_ok-make_tests.ensures.ok c.in_err-make_tests-2.ensures.err before)

pub returns-then-taken-eq0 : goal.returns-then-taken-eq0
returns-then-taken-eq0 c = λ expected.
    longest_none c.args.self.now c.args.state.now _ _ _ c.args.class c.args.after expected c.run_len-taken.ensures.value c.in_ok-make_tests.ensures.ok c.in_ok-make_tests-2.ensures.ok c.if-taken-eq0.true

pub returns : goal.returns
returns c = λ expected.
    longest_some c.args.self.now c.args.state.now _ _ _ c.args.class c.args.after _ expected c.run_len-taken.ensures.value c.in_ok-make_tests.ensures.ok c.in_ok-make_tests-2.ensures.ok c.if-taken-eq0.false (chosen _ _ _ _ c.push.ensures.items (ap is_ok c.in_ok-push.was))
