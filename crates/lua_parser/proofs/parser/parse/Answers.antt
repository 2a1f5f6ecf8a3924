use Rattle.std.proofs.Common.{◌≡◌, ◌∷◌, [], ◌∙◌, ap, refl}
use Rattle.std.proofs.lemmas.Result.{err_from_is_err_and}
use Rattle.lua_parser.proofs.WholeText.{block_broken, block_refused, block_unfit, token_unfit, too_many_tokens}
use Rattle.lua_parser_base.proofs.Bodies.{chunk_read}
use Rattle.lua_parser_base.proofs.Next.{on_memory}
use Rattle.lua_parser_base.proofs.Scoping.{on_node}
use Rattle.lua_ast.specs.declared.programs.Program.{Program}
use Rattle.lua_grammar.specs.Grammar.{IsProgramOf}
use Rattle.lua_parser_base.specs.States.{state}
use Rattle.lua_parser.proofs.parser.parse.Goals as goal

pub returns : goal.returns
returns c =
    let start = c.in_ok-parser.ensures in
    let outer = c.outermost.ensures in
    let whole = c.in_ok-functions.ensures.functions in
    let read : (program : Program) → (program.files ≡ [] ∷ []) × (program.functions ≡ c.in_ok-functions.functions) → IsProgramOf c.args.tokens.now program =
    λ program is. chunk_read _ _ _ _ _ _ _ _ program c.in_ok-body.ensures.reads start.index start.scope.1 outer.depth outer.vararg outer.in_loop c.if-parser-tokens.false c.first_line.ensures
    whole.1 (ap (λ fs. fs.items) is.1 ∙ whole.2) is.0 in
    record {
      program = on_node _ c.program_of.ensures read;
      whole = on_node _ c.program_of.ensures (λ program is. c.a_program_is_whole.ensures _ _ (read program is));
      unfit = on_memory _ _ c.program_of.result tt c.program_of.ensures;
      limits = on_memory _ _ c.program_of.result tt c.program_of.ensures;
      complete = on_memory _ _ c.program_of.result (λ other. absurd (other refl)) c.program_of.ensures;
    }

pub returns-in_err-body-clause-complete : goal.returns-in_err-body-clause-complete
returns-in_err-body-clause-complete c =
    let start = c.in_ok-parser.ensures in
    let p = err_from_is_err_and c.from_residual-in_err-body.result c.from_residual-in_err-body.ensures.1 in
    rw (p.1, p.2) (block_refused _ c.args.tokens.now _ _ _ c.in_err-body.field-0.0 c.outermost.ensures start.index start.scope.1 c.in_err-body.ensures.refuses)

pub returns-then-parser-tokens-clause-complete : goal.returns-then-parser-tokens-clause-complete
returns-then-parser-tokens-clause-complete c = λ other. too_many_tokens _ c.args.tokens.now _ _ _ c.in_ok-parser.ensures.index c.in_ok-body.ensures.reads c.if-parser-tokens.true

pub returns-in_err-body-clause-unfit : goal.returns-in_err-body-clause-unfit
returns-in_err-body-clause-unfit c =
    let start = c.in_ok-parser.ensures in
    let p = err_from_is_err_and c.from_residual-in_err-body.result c.from_residual-in_err-body.ensures.1 in
    rw (p.1, p.2) (block_unfit _ c.args.tokens.now _ _ _ c.in_err-body.field-0.0 c.outermost.ensures start.index start.scope.1 c.in_err-body.ensures.refuses c.in_err-body.ensures.order)

pub returns-then-parser-tokens-clause-unfit : goal.returns-then-parser-tokens-clause-unfit
returns-then-parser-tokens-clause-unfit c =
    let start = c.in_ok-parser.ensures in
    token_unfit _ c.args.tokens.now _ _ _ _ _ c.outermost.ensures start.index start.scope.1 c.in_ok-body.ensures.reads c.if-parser-tokens.true c.unfit.ensures

pub returns-in_err-body-clause-limits : goal.returns-in_err-body-clause-limits
returns-in_err-body-clause-limits c =
    let start = c.in_ok-parser.ensures in
    let p = err_from_is_err_and c.from_residual-in_err-body.result c.from_residual-in_err-body.ensures.1 in
    rw (p.1, p.2) (block_broken _ c.args.tokens.now _ (state c.args.tokens.now c.block.new.parser) _ c.in_err-body.field-0.0 c.outermost.ensures start.index start.scope.1 c.in_err-body.ensures.order)
