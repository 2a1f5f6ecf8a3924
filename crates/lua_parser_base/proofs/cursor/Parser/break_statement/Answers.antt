use Rattle.std.proofs.Common.{◌≡◌, true, false, not, refl, rules, sym, ap, IfErr, ◌∙◌}
use Rattle.lua_lexer.specs.declared.tokens.TokenKind.TheVariants.{Word}
use Rattle.lua_lexer.specs.declared.words.Word.TheVariants.{Break}
use Rattle.lua_grammar.specs.Waiting.{token}
use Rattle.lua_grammar.specs.Reading.{last}
use Rattle.lua_parser_base.specs.States.{state}
use Rattle.lua_parser_base.specs.Next.{IsKind, Misses, OnAt}
use Rattle.lua_parser_base.proofs.Next.{on_err}
use Rattle.lua_parser_base.proofs.Refusing.{never_missed}
use Rattle.lua_parser_base.proofs.Blocks.{break_read}
use Rattle.lua_parser_base.proofs.BlockRefusals.{break_refused}
use Rattle.lua_parser_base.specs.Standing as standing
use Rattle.lua_parser_base.proofs.Breaking.{missing_first}
use Rattle.lua_parser_base.proofs.Handing.{handed_on}
use Rattle.lua_parser_base.proofs.OpenFunctions.{few_there}
use Rattle.lua_parser_base.proofs.cursor.Parser.break_statement.Goals as goal

pub returns-clause-reads : goal.returns-clause-reads
returns-clause-reads c =
    let inside : c.args.at.in_loop ≡ true = search rules in
    break_read _ _ _ _ _ c.in_ok-line.ensures.takes inside refl

pub returns-in_err-line-clause-refuses : goal.returns-in_err-line-clause-refuses
returns-in_err-line-clause-refuses c = λ next.
    let h : IfErr c.from_residual.result (OnAt (Misses (IsKind (Word Break)) (state c.args.tokens.now c.args.self.now) (state c.args.tokens.now c.take_word.new.self))) = search rules in
    on_err c.from_residual.result h (λ fault missed k suppose. never_missed fault _ (token (last k)) (IsKind (Word Break)) _ _ missed suppose next)

pub returns-then-not-at-clause-refuses : goal.returns-then-not-at-clause-refuses
returns-then-not-at-clause-refuses c = λ next. break_refused c.args.at _ _ _ _ c.in_ok-line.ensures.takes (λ inside. let e : false ≡ true = sym (ap not inside) ∙ c.if-not-at.true in cc)

pub returns-then-not-at-clause-order : goal.returns-then-not-at-clause-order
returns-then-not-at-clause-order c = λ start stands.
    let outside : c.args.at.in_loop ≡ false = search rules in
    standing.break_outside stands c.in_ok-line.ensures.takes outside (few_there _ _)

pub returns-in_err-line-clause-order : goal.returns-in_err-line-clause-order
returns-in_err-line-clause-order c =
    handed_on _ c.from_residual.result _ c.from_residual.ensures.1
    (λ start stands. missing_first _ _ _ _ c.in_err-line.ensures.misses start (standing.before_it stands))
