use Rattle.std.proofs.Common.{sym, ◌∙◌, ap}
use Rattle.std.proofs.lemmas.Result.{err_from_is_err_and}
use Rattle.lua_patterns.specs.Captures.{first_open, closed_ones}
use Rattle.lua_patterns.proofs.Capturing.{whole_open, whole_full, whole_met}
use Rattle.lua_patterns.proofs.matcher.Search.whole.Goals as goal

pub returns-in-Some : goal.returns-in-Some
returns-in-Some c = λ expected before other.
    whole_open c.args.self.now c.args.state.now c.in-Some.at expected (sym c.in-Some.is ∙ c.first_open.ensures ∙ ap first_open c.deref.ensures.value) before

pub returns-in_err-make_tests : goal.returns-in_err-make_tests
returns-in_err-make_tests c =
    let p = err_from_is_err_and c.from_residual.result c.from_residual.ensures.1 in
    rw (p.1, p.2) (λ expected before other. whole_full c.args.self.now c.args.state.now _ expected c.in_err-make_tests.ensures.err (sym c.in_default.is ∙ c.first_open.ensures ∙ ap first_open c.deref.ensures.value) before)

pub returns : goal.returns
returns c = λ expected before.
    whole_met c.args.self.now c.args.state.now _ _ expected c.in_ok-make_tests.ensures.ok (sym c.in_default.is ∙ c.first_open.ensures ∙ ap first_open c.deref.ensures.value) (c.in_ok-captures.ensures.value ∙ ap closed_ones c.deref-2.ensures.value) before
