use Rattle.lua_patterns.specs.Matching.{next_at}
use Rattle.std.proofs.Common.{[], ◌∷◌, ◌++◌, ap, is_ok}
use Rattle.std.proofs.ResultArms.{chosen}
use Rattle.std.proofs.lemmas.Result.{err_from_is_err_and}
use Rattle.lua_patterns.proofs.Capturing.{captured_too_many, captured_room, test_full, captured_steps}
use Rattle.lua_patterns.proofs.matcher.Search.captured.Goals as goal

pub returns-then-as_slice-ge-MOST_CAPTURES : goal.returns-then-as_slice-ge-MOST_CAPTURES
returns-then-as_slice-ge-MOST_CAPTURES c = λ expected before other.
    captured_too_many c.args.self.now c.args.state.now c.args.capture (next_at c.args.self.now c.args.state.now.start c.args.after c.args.state.now.index) c.args.state.now.captures.items expected (rw c.as_slice.ensures.value at c.if-as_slice-ge-MOST_CAPTURES.true) before

pub returns-in_err-make_tests : goal.returns-in_err-make_tests
returns-in_err-make_tests c =
    let p = err_from_is_err_and c.from_residual.result c.from_residual.ensures.1 in
    let next = next_at c.args.self.now c.args.state.now.start c.args.after c.args.state.now.index in
    rw (p.1, p.2) (λ expected before other.
    test_full c.args.self.now c.args.state.now (next (c.args.state.now.captures.items ++ c.args.capture ∷ [])) _ expected c.in_err-make_tests.ensures.err
    (captured_room c.args.self.now c.args.state.now c.args.capture next c.args.state.now.captures.items expected (rw c.as_slice.ensures.value at c.if-as_slice-ge-MOST_CAPTURES.false) before))

pub returns : goal.returns
returns c = λ expected before.
    captured_steps c.args.self.now c.args.state.now _ c.args.capture c.args.after _ _ expected c.in_ok-make_tests.ensures.ok (chosen _ _ _ _ c.push.ensures.items (ap is_ok c.in_ok-push.was)) (chosen _ _ _ _ c.push-2.ensures.items (ap is_ok c.in_ok-push-2.was))
    (captured_room c.args.self.now c.args.state.now c.args.capture (next_at c.args.self.now c.args.state.now.start c.args.after c.args.state.now.index) c.args.state.now.captures.items expected (rw c.as_slice.ensures.value at c.if-as_slice-ge-MOST_CAPTURES.false) before)
