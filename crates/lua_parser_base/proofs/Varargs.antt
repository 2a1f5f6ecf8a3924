-- Where `...` is refused: in a function that takes no more arguments.
use Rattle.std.proofs.Common.{◌≡◌, ℕ, false, sym, ◌∙◌}
use Rattle.std.proofs.lemmas.Bool.{false≢true}
use Rattle.lua_grammar.specs.Tree as tree
use Rattle.lua_grammar.specs.Validity.{IsValid}
use Rattle.lua_grammar.specs.Waiting.{exp, more_exp}
use Rattle.lua_lexer.specs.declared.tokens.TokenKind.TheVariants.{Sign}
use Rattle.lua_lexer.specs.declared.signs.Sign.TheVariants as sign
use Rattle.lua_parser_base.specs.declared.faults.ParseFault.TheVariants.{VarargOutside}
use Rattle.lua_parser_base.specs.declared.nesting.Nesting.{Nesting}
use Rattle.lua_parser_base.specs.States.{State, Takes}
use Rattle.lua_parser_base.specs.Refusals.{RefusesExp}
use Rattle.lua_parser_base.proofs.Fitting.{first_exp_fits}
use Rattle.lua_parser_base.proofs.Moving.{by_token, dead_stuck, refused_on}

pub vararg_refused : (at : Nesting) (s t : State) (line : ℕ) → Takes (Sign sign.Ellipsis) line s t → at.vararg ≡ false → RefusesExp at s t (VarargOutside line)
unfolding IsValid
vararg_refused at s t line taken none = λ m k suppose.
    refused_on (by_token (exp m k) (Sign sign.Ellipsis) line s t taken) (record {
      sticks = dead_stuck (VarargOutside line) (more_exp m (tree.dots line) k) t (λ b c. c)
          (λ whole from. suppose whole (λ f. false≢true (sym none ∙ (first_exp_fits at s.scope.enclosing (tree.dots line) whole from f).valid))) tt;
      reports = tt;
    })
