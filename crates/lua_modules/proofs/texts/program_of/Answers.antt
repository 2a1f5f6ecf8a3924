-- A text with its tokens and its program, and why it has none.
use Rattle.std.proofs.Common.{subst, sym}
use Rattle.std.proofs.lemmas.Result.{err_from_is_err_and}
use Rattle.lua_lexer.specs.Lexical.{HasTokens}
use Rattle.lua_modules.proofs.Causes.{by_tokens, by_grammar}
use Rattle.lua_modules.proofs.texts.program_of.Goals as goal

pub returns-in_err-tokens-clause-fault : goal.returns-in_err-tokens-clause-fault
returns-in_err-tokens-clause-fault c =
    let p = err_from_is_err_and c.from_residual.result c.from_residual.ensures.1 in
    rw (p.1, p.2) (by_tokens c.args.line c.args.text.now _ c.in_err-tokens.ensures.fault)

pub returns-in_err-parse-clause-fault : goal.returns-in_err-parse-clause-fault
returns-in_err-parse-clause-fault c =
    let p = err_from_is_err_and c.from_residual-in_err-parse.result c.from_residual-in_err-parse.ensures.1 in
    let same = sym c.as_slice.ensures.value in
    let has = subst (λ tokens. HasTokens c.args.line c.args.text.now tokens) same c.in_ok-tokens.ensures.tokens in
    rw (p.1, p.2) (by_grammar c.args.line c.args.text.now c.as_slice.result.now has _ c.in_err-parse.ensures.unfit c.in_err-parse.ensures.limits
    c.in_err-parse.ensures.complete)
