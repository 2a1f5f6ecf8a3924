-- A block with its tokens and its program, and why it has none.
use Rattle.std.proofs.Common.{subst, sym}
use Rattle.std.proofs.lemmas.Result.{err_from_is_err_and}
use Rattle.lua_lexer.specs.Lexical.{HasTokens}
use Rattle.lua_grammar.specs.Grammar.{IsProgramOf}
use Rattle.site_check.proofs.Blocks.{by_tokens, by_grammar}
use Rattle.site_check.proofs.checking.block_program.Goals as goal

pub returns-clause-ok : goal.returns-clause-ok
returns-clause-ok c =
    let lexed = subst (λ text. HasTokens c.args.block.now.line text c.in_ok-tokens.tokens.items) c.as_slice.ensures c.in_ok-tokens.ensures.tokens in
    let parsed = subst (λ tokens. IsProgramOf tokens c.in_ok-parse.field-0) c.as_slice-2.ensures.value c.in_ok-parse.ensures.program in
    record { tokens = c.in_ok-tokens.tokens.items; lexed = lexed; parsed = parsed }

pub returns-in_err-tokens-clause-err : goal.returns-in_err-tokens-clause-err
returns-in_err-tokens-clause-err c =
    let p = err_from_is_err_and c.from_residual.result c.from_residual.ensures.1 in
    let fault = c.in_err-tokens.ensures.fault in
    let wrong = rw c.as_slice.ensures at fault in
    rw (p.1, p.2) (by_tokens c.args.block.now _ wrong)

pub returns-in_err-parse-clause-err : goal.returns-in_err-parse-clause-err
returns-in_err-parse-clause-err c =
    let p = err_from_is_err_and c.from_residual-in_err-parse.result c.from_residual-in_err-parse.ensures.1 in
    let lexed = subst (λ text. HasTokens c.args.block.now.line text c.in_ok-tokens.tokens.items) c.as_slice.ensures c.in_ok-tokens.ensures.tokens in
    let same = sym c.as_slice-2.ensures.value in
    let has = subst (λ tokens. HasTokens c.args.block.now.line c.args.block.now.text tokens) same lexed in
    rw (p.1, p.2) (by_grammar c.args.block.now c.as_slice-2.result.now has _ c.in_err-parse.ensures.unfit c.in_err-parse.ensures.limits c.in_err-parse.ensures.complete)
