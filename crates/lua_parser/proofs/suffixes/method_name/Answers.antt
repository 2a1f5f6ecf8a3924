use Rattle.lua_lexer.specs.declared.signs.Sign.TheVariants.{Colon}
use Rattle.lua_lexer.specs.declared.tokens.TokenKind.TheVariants.{Sign as SignKind}
use Rattle.lua_parser_base.proofs.Arguments.{method_no_name, method_too_high}
use Rattle.lua_parser_base.proofs.Breaking.{missing_first, suffix_breaks}
use Rattle.lua_parser_base.proofs.Handing.{handed_on}
use Rattle.lua_parser_base.proofs.Next.{on_err}
use Rattle.lua_parser_base.proofs.OpenFunctions.{few_there}
use Rattle.lua_parser_base.specs.Refusals.{RefusesSuffix}
use Rattle.lua_parser_base.specs.Standing as standing
use Rattle.lua_parser_base.specs.States.{state}
use Rattle.lua_parser.proofs.suffixes.method_name.Goals as goal

pub returns-in_err-colon-clause-order : goal.returns-in_err-colon-clause-order
returns-in_err-colon-clause-order c =
    handed_on _ c.from_residual.result _ c.from_residual.ensures.1
    (λ s read start stands. missing_first _ _ _ _ c.in_err-colon.ensures.misses start (standing.after_prefix stands read))

pub returns-in_err-above-clause-refuses : goal.returns-in_err-above-clause-refuses
returns-in_err-above-clause-refuses c = λ next.
    handed_on (RefusesSuffix c.args.at c.args.object.now (state c.args.tokens.now c.args.parser.now) (state c.args.tokens.now c.take_sign.new.self)) c.from_residual-in_err-above.result _
    c.from_residual-in_err-above.ensures.1 (method_too_high c.args.at _ _ c.args.object.now _ _ c.in_ok-colon.ensures.takes c.in_err-above.ensures)

pub returns-in_err-above-clause-order : goal.returns-in_err-above-clause-order
returns-in_err-above-clause-order c =
    handed_on _ c.from_residual-in_err-above.result _ c.from_residual-in_err-above.ensures.1
    (λ s read. suffix_breaks (SignKind Colon) c.args.at _ c.args.object.now s _ _ (state c.args.tokens.now c.take_sign.new.self) _ (few_there _ _) tt c.in_ok-colon.ensures.takes c.in_err-above.ensures read)

pub returns-clause-refuses : goal.returns-clause-refuses
returns-clause-refuses c = λ next.
    on_err c.take_name.result c.take_name.ensures.misses (λ fault missing. method_no_name c.args.at _ _ _ c.args.object.now _ _ c.in_ok-colon.ensures.takes missing)

pub returns-clause-order : goal.returns-clause-order
returns-clause-order c =
    on_err c.take_name.result c.take_name.ensures.misses (λ fault missing s read start stands.
    missing_first _ _ _ _ missing start (standing.after_colon stands read c.in_ok-colon.ensures.takes c.in_ok-above.ensures))
