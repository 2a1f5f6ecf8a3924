use Rattle.std.proofs.Common.{sym, ◌∙◌, ap, is_ok}
use Rattle.std.proofs.ResultArms.{chosen}
use Rattle.std.proofs.lemmas.Result.{err_from_is_err_and}
use Rattle.lua_patterns.specs.Captures.{last_open}
use Rattle.lua_patterns.proofs.Capturing.{none_closed, closed_full, closed_steps}
use Rattle.lua_patterns.proofs.matcher.Search.closed.Goals as goal

pub returns-in_default : goal.returns-in_default
returns-in_default c = λ expected before other.
    none_closed c.args.self.now c.args.state.now c.args.at c.args.after _ expected (c.last_open.ensures ∙ ap last_open c.deref.ensures.value) c.in_default.is before

pub returns-in_err-make_tests : goal.returns-in_err-make_tests
returns-in_err-make_tests c =
    let p = err_from_is_err_and c.from_residual.result c.from_residual.ensures.1 in
    rw (p.1, p.2) (λ expected before other. closed_full c.args.self.now c.args.state.now c.args.at c.args.after c.in-Some.found _ expected c.in_err-make_tests.ensures.err (sym c.in-Some.is ∙ c.last_open.ensures ∙ ap last_open c.deref.ensures.value) before)

pub returns : goal.returns
returns c = λ expected before.
    closed_steps c.args.self.now c.args.state.now _ c.args.at c.args.after c.in-Some.found _ _ expected c.in_ok-make_tests.ensures.ok (sym c.in-Some.is ∙ c.last_open.ensures ∙ ap last_open c.deref.ensures.value) (chosen _ _ _ _ c.push.ensures.items (ap is_ok c.in_ok-push.was)) c.close_at.ensures before
