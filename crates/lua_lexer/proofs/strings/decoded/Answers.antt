use Rattle.std.proofs.Common.{ap, is_ok, rules}
use Rattle.std.proofs.ResultArms.{chosen}
use Rattle.std.proofs.lemmas.Result.{err_from_is_err_and}
use Rattle.lua_lexer.proofs.Bodies.{decoded_kept, decoded_whole, decoded_wrong}
use Rattle.lua_lexer.proofs.strings.decoded.Goals as goal

pub returns-in_err-first : goal.returns-in_err-first
returns-in_err-first c =
    let p = err_from_is_err_and c.from_residual-in_err-first.result c.from_residual-in_err-first.ensures.1 in
    rw (p.1, p.2) (λ _. decoded_wrong _ _ _ _ _ (search rules) c.loop-rest.invariant.0 c.in_err-first.ensures.value)

pub loop-rest-preserved : goal.loop-rest-preserved
loop-rest-preserved c =
    decoded_kept _ _ _ _ _ _ _ _ _ _ (search rules) c.loop-rest.invariant c.in_ok-first.ensures.value c.in_ok-first.ensures.within (chosen _ _ _ _ c.push.ensures.items (ap is_ok c.in_ok-push.was)) (c.line_ends-line.ensures.value, c.line_ends-line.ensures.within) c.first_bytes.ensures c.bytes_after-rest.ensures

pub returns : goal.returns
returns c = decoded_whole _ _ _ _ c.loop-rest.invariant.0 (search rules)
