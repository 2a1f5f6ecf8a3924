use Rattle.std.proofs.Common.{sym, ◌∙◌, ap, is_ok}
use Rattle.std.proofs.ResultArms.{chosen}
use Rattle.std.proofs.lemmas.Result.{err_from_is_err_and}
use Rattle.lua_patterns.proofs.Stepping.{more_full, more_fails, more_steps}
use Rattle.lua_patterns.proofs.matcher.Search.more.Goals as goal

pub returns-in_err-make_tests : goal.returns-in_err-make_tests
returns-in_err-make_tests c =
    let p = err_from_is_err_and c.from_residual.result c.from_residual.ensures.1 in
    rw (p.1, p.2) (λ expected before other. more_full c.args.self.now c.args.state.now c.args.class c.args.after c.args.index _ expected c.in_err-make_tests.ensures.err before)

pub returns-then-not-accepts_at : goal.returns-then-not-accepts_at
returns-then-not-accepts_at c = λ expected.
    more_fails c.args.self.now c.args.state.now _ c.args.class c.args.after c.args.index expected c.in_ok-make_tests.ensures.ok (sym c.accepts_at.ensures.value ∙ c.if-not-accepts_at.true)

pub returns : goal.returns
returns c = λ expected.
    more_steps c.args.self.now c.args.state.now _ c.args.class c.args.after c.args.index _ expected c.in_ok-make_tests.ensures.ok (sym c.accepts_at.ensures.value ∙ c.if-not-accepts_at.false) (chosen _ _ _ _ c.push.ensures.items (ap is_ok c.in_ok-push.was))
