use Rattle.std.proofs.Common.{sym, ◌∙◌, ap, is_ok}
use Rattle.std.proofs.ResultArms.{chosen}
use Rattle.std.proofs.lemmas.Result.{err_from_is_err_and}
use Rattle.lua_patterns.proofs.Stepping.{full_steps, optional_steps, optional_fails}
use Rattle.lua_patterns.proofs.matcher.Search.optional.Goals as goal

pub returns-in_err-make_tests : goal.returns-in_err-make_tests
returns-in_err-make_tests c =
    let p = err_from_is_err_and c.from_residual.result c.from_residual.ensures.1 in
    rw (p.1, p.2) (λ expected before other. full_steps c.args.self.now c.args.state.now c.args.class _ c.args.after _ expected c.in_err-make_tests.ensures.err (λ e. cc) (λ e. cc) before)

pub returns-then-not-accepts_at : goal.returns-then-not-accepts_at
returns-then-not-accepts_at c = λ expected.
    optional_fails c.args.self.now c.args.state.now _ c.args.class c.args.after expected c.in_ok-make_tests.ensures.ok (sym c.accepts_at.ensures.value ∙ c.if-not-accepts_at.true)

pub returns : goal.returns
returns c = λ expected.
    optional_steps c.args.self.now c.args.state.now _ c.args.class c.args.after _ expected c.in_ok-make_tests.ensures.ok (sym c.accepts_at.ensures.value ∙ c.if-not-accepts_at.false) (chosen _ _ _ _ c.push.ensures.items (ap is_ok c.in_ok-push.was))
