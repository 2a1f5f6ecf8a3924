use Rattle.std.proofs.Common.{rules, sym, ◌∙◌}
use Rattle.lua_lexer.proofs.Bodies.{body_ends, body_at, body_whole, body_kept}
use Rattle.lua_lexer.proofs.strings.body_len.Goals as goal

pub returns-then-ends_body-clause-value : goal.returns-then-ends_body-clause-value
returns-then-ends_body-clause-value c =
    body_at _ _ _ _ c.loop-rest.invariant (body_ends _ _ (search rules) (sym c.ends_body.ensures ∙ c.if-ends_body.true))

pub loop-rest-preserved : goal.loop-rest-preserved
loop-rest-preserved c =
    body_kept _ _ _ _ _ _ _ (search rules) (sym c.ends_body.ensures ∙ c.if-ends_body.false) c.loop-rest.invariant c.bytes_after-inside.ensures c.taken_along.ensures.value c.bytes_after-rest.ensures

pub returns-clause-value : goal.returns-clause-value
returns-clause-value c = body_whole _ _ _ _ c.loop-rest.invariant (search rules)
