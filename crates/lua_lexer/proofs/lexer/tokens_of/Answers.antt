use Rattle.std.proofs.Common.{◌∙◌, ap, take, arith, rules}
use Rattle.std.proofs.lemmas.Result.{err_from_is_err_and}
use Rattle.lua_lexer.specs.Characters.{line_ends}
use Rattle.lua_lexer.proofs.Lexes.{sound_piece}
use Rattle.lua_lexer.proofs.Listing.{tokens_kept, tokens_whole, tokens_wrong}
use Rattle.lua_lexer.proofs.Standing.{stand_after, stand_in_order}
use Rattle.lua_lexer.proofs.lexer.tokens_of.Goals as goal

pub returns-in_err-kind-clause-value : goal.returns-in_err-kind-clause-value
returns-in_err-kind-clause-value c =
    let p = err_from_is_err_and c.from_residual-in_err-kind.result c.from_residual-in_err-kind.ensures.1 in
    rw (p.1, p.2) (λ other. tokens_wrong _ _ _ _ _ _ (search rules) c.loop-alloc.invariant.0 (c.in_err-kind.ensures.value other))

pub lines_of_piece-lines-requires-clause-piece : goal.lines_of_piece-lines-requires-clause-piece
lines_of_piece-lines-requires-clause-piece c = rw c.as_slice.ensures (sound_piece _ _ _ (search rules) c.in_ok-kind.ensures.value).is

pub loop-alloc-preserved : goal.loop-alloc-preserved
loop-alloc-preserved c =
    let was = c.loop-alloc.invariant in
    let within = c.in_ok-kind.ensures.within in
    let kept = tokens_kept _ _ _ _ _ _ _ _ _ _ _ (search rules) (was.0, was.1, was.2) c.in_ok-kind.ensures.value within c.in_ok-push_token.ensures.ok (c.lines_of_piece-lines.ensures.value ∙ ap (λ text. line_ends (take c.in_ok-kind.field-0.size text)) c.as_slice.ensures, c.lines_of_piece-lines.ensures.within) c.advance.ensures in
    (kept.0, kept.1, kept.2, stand_after _ _ _ _ _ _ _ _ _ was.3 within.some c.in_ok-push_token.ensures.ok)

pub returns-clause-value : goal.returns-clause-value
returns-clause-value c = tokens_whole _ _ _ _ _ c.loop-alloc.invariant.0 (search rules)

pub returns-clause-order : goal.returns-clause-order
returns-clause-order c = let h = c.loop-alloc.invariant in stand_in_order _ _ _ _ _ _ h.3 (omega (arith, h.2))
