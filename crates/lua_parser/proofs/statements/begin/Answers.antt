use Rattle.lua_lexer.specs.declared.signs.Sign.TheVariants as sign
use Rattle.lua_lexer.specs.declared.tokens.TokenKind.TheVariants.{Sign}
use Rattle.lua_parser.proofs.FunctionBodies.{body_unopened, parameters_refused, parameters_unclosed}
use Rattle.lua_parser_base.proofs.Bodies.{enters_state}
use Rattle.lua_parser_base.proofs.Breaking.{missing_first}
use Rattle.lua_parser_base.proofs.Handing.{handed_on}
use Rattle.lua_parser_base.proofs.Next.{on_err, on_want}
use Rattle.lua_parser_base.proofs.Scoping.{on_ok, turned}
use Rattle.lua_parser_base.specs.Next.{IsKind, Misses, OnAt}
use Rattle.lua_parser_base.specs.StatementRefusals.{RefusesParameters}
use Rattle.lua_parser_base.specs.Standing as standing
use Rattle.lua_parser_base.specs.States.{scope_of, state}
use Rattle.lua_parser.specs.Parts.{ReadsHead}
use Rattle.lua_parser_base.specs.Functions.{Enters}
use Rattle.lua_parser_base.specs.declared.functions.Begun.{Begun}
use Rattle.std.proofs.Common.{IfErr, refl, rules}
use Rattle.lua_parser.proofs.statements.begin.Goals as goal

pub returns-clause-reads : goal.returns-clause-reads
returns-clause-reads c =
    let same = turned c.args.tokens.now c.take_sign-2.new.self c.enter.new.self _ c.enter.ensures.index c.enter.ensures.line refl in
    let head : (begun : Begun) → Enters c.in_ok-parameters.parameters c.args.line begun (scope_of c.take_sign-2.new.self) (scope_of c.enter.new.self) →
    ReadsHead c.args.line c.args.first.items (state c.args.tokens.now c.args.parser.now) begun (state c.args.tokens.now c.enter.new.self) =
    λ begun enters. record {
      open_at = _;
      close_at = _;
      parameters = c.in_ok-parameters.parameters;
      inside = state c.args.tokens.now c.take_sign.new.self;
      last = state c.args.tokens.now c.parameters.new.self;
      after = state c.args.tokens.now c.take_sign-2.new.self;
      opens = c.in_ok-take_sign.ensures.takes;
      reads = c.in_ok-parameters.ensures.reads;
      closes = c.in_ok-take_sign-2.ensures.takes;
      enters = enters_state c.args.tokens.now c.take_sign-2.new.self c.enter.new.self _ _ _ enters;
      left = same.left;
    } in
    on_ok c.enter.result c.enter.ensures.enters head

pub returns-in_err-take_sign-clause-refuses : goal.returns-in_err-take_sign-clause-refuses
returns-in_err-take_sign-clause-refuses c = λ at.
    let h : IfErr c.from_residual.result (OnAt (Misses (IsKind (Sign sign.OpenParenthesis)) (state c.args.tokens.now c.args.parser.now) (state c.args.tokens.now c.take_sign.new.self))) = search rules in
    on_err c.from_residual.result h (λ fault missed. body_unopened at c.args.line c.args.first.items fault _ _ missed)

pub returns-in_err-parameters-clause-refuses : goal.returns-in_err-parameters-clause-refuses
returns-in_err-parameters-clause-refuses c = λ at.
    let h : IfErr c.from_residual-in_err-parameters.result (RefusesParameters c.args.first.items (state c.args.tokens.now c.take_sign.new.self) (state c.args.tokens.now c.parameters.new.self)) = search rules in
    on_err c.from_residual-in_err-parameters.result h (λ fault refuses. parameters_refused at c.args.line c.args.first.items fault _ _ _ _ c.in_ok-take_sign.ensures.takes refuses)

pub returns-in_err-take_sign-2-clause-refuses : goal.returns-in_err-take_sign-2-clause-refuses
returns-in_err-take_sign-2-clause-refuses c = λ at.
    let h : IfErr c.from_residual-in_err-take_sign-2.result (OnAt (Misses (IsKind (Sign sign.CloseParenthesis)) (state c.args.tokens.now c.parameters.new.self) (state c.args.tokens.now c.take_sign-2.new.self))) = search rules in
    on_err c.from_residual-in_err-take_sign-2.result h (λ fault missed.
    parameters_unclosed at c.args.line c.args.first.items fault _ _ _ _ _ _ c.in_ok-take_sign.ensures.takes c.in_ok-parameters.ensures.reads missed)

pub returns-clause-refuses : goal.returns-clause-refuses
returns-clause-refuses c = λ at. on_want _ c.enter.result (λ k never none. absurd none) c.enter.ensures.memory

pub returns-in_err-take_sign-clause-order : goal.returns-in_err-take_sign-clause-order
returns-in_err-take_sign-clause-order c = λ at.
    handed_on _ c.from_residual.result _ c.from_residual.ensures.1
    (λ start stands. missing_first _ _ _ _ c.in_err-take_sign.ensures.misses start (standing.before_it stands))

pub returns-in_err-parameters-clause-order : goal.returns-in_err-parameters-clause-order
returns-in_err-parameters-clause-order c = λ at.
    handed_on _ c.from_residual-in_err-parameters.result _ c.from_residual-in_err-parameters.ensures.1
    (λ start stands. c.in_err-parameters.ensures.order start (standing.of_parameters stands c.in_ok-take_sign.ensures.takes))

pub returns-in_err-take_sign-2-clause-order : goal.returns-in_err-take_sign-2-clause-order
returns-in_err-take_sign-2-clause-order c = λ at.
    handed_on _ c.from_residual-in_err-take_sign-2.result _ c.from_residual-in_err-take_sign-2.ensures.1
    (λ start stands. missing_first _ _ _ _ c.in_err-take_sign-2.ensures.misses start (standing.after_parameters (standing.of_parameters stands c.in_ok-take_sign.ensures.takes) c.in_ok-parameters.ensures.reads))

pub returns-clause-order : goal.returns-clause-order
returns-clause-order c = λ at. on_want _ c.enter.result (λ start stands. tt) c.enter.ensures.memory
