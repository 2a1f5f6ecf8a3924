-- Why a text is no chunk, by its tokens and by their grammar.
use Rattle.std.proofs.Common.{◌≡◌, ◌≢◌, ℕ, List}
use Rattle.lua_ast.specs.declared.programs.Program.{Program}
use Rattle.lua_lexer.specs.Lexical.{HasTokens, HasFault}
use Rattle.lua_lexer.specs.declared.tokens.LexFault.{LexFault}
use Rattle.lua_lexer.specs.declared.tokens.LexFault.TheVariants as lex
use Rattle.lua_lexer.specs.declared.tokens.Token.{Token}
use Rattle.lua_grammar.specs.Grammar.{IsProgramOf}
use Rattle.lua_parser_base.specs.Standing.{IsBroken, OnLimit}
use Rattle.lua_parser_base.specs.declared.faults.ParseFault.{ParseFault}
use Rattle.lua_parser_base.specs.declared.faults.ParseFault.TheVariants as parse
use Rattle.lua_parser.specs.Unfit.{IsUnfit, OfAt}
use Rattle.lua_modules.specs.Texts.{HasNoProgram, IsTextFault, of_tokens, of_grammar}

module _ (line : ℕ) (text : List ℕ) where
  -- by its tokens
  pub by_tokens : (fault : LexFault) → (fault ≢ lex.Memory → HasFault line text fault) → IsTextFault line text (of_tokens fault)
  by_tokens (lex.BadByte n) wrong = wrong (λ e. let no : lex.BadByte n ≡ lex.Memory = e in cc)
  by_tokens (lex.OpenString n) wrong = wrong (λ e. let no : lex.OpenString n ≡ lex.Memory = e in cc)
  by_tokens (lex.OpenComment n) wrong = wrong (λ e. let no : lex.OpenComment n ≡ lex.Memory = e in cc)
  by_tokens (lex.BadEscape n) wrong = wrong (λ e. let no : lex.BadEscape n ≡ lex.Memory = e in cc)
  by_tokens (lex.Fraction n) wrong = wrong (λ e. let no : lex.Fraction n ≡ lex.Memory = e in cc)
  by_tokens (lex.Range n) wrong = wrong (λ e. let no : lex.Range n ≡ lex.Memory = e in cc)
  by_tokens (lex.TooLong n) wrong = wrong (λ e. let no : lex.TooLong n ≡ lex.Memory = e in cc)
  by_tokens lex.Memory wrong = tt

  module _ (tokens : List Token) (lexed : HasTokens line text tokens) where
    none_of : (fault : ParseFault) → OfAt (IsUnfit tokens) fault → OnLimit (IsBroken tokens) fault → ((program : Program) → IsProgramOf tokens program → ⊥)
        → HasNoProgram line text fault
    none_of fault unfit limit none = record { tokens = tokens; lexed = lexed; unfit = unfit; limit = limit; none = none }

    -- by their grammar
    pub by_grammar : (fault : ParseFault) → OfAt (IsUnfit tokens) fault → OnLimit (IsBroken tokens) fault
        → ((fault ≡ parse.Memory → ⊥) → (program : Program) → IsProgramOf tokens program → ⊥) → IsTextFault line text (of_grammar fault)
    by_grammar (parse.At n) unfit limit none = none_of _ unfit limit (none (λ e. let no : parse.At n ≡ parse.Memory = e in cc))
    by_grammar (parse.Depth n) unfit limit none = none_of _ unfit limit (none (λ e. let no : parse.Depth n ≡ parse.Memory = e in cc))
    by_grammar (parse.Locals n) unfit limit none = none_of _ unfit limit (none (λ e. let no : parse.Locals n ≡ parse.Memory = e in cc))
    by_grammar (parse.Upvalues n) unfit limit none = none_of _ unfit limit (none (λ e. let no : parse.Upvalues n ≡ parse.Memory = e in cc))
    by_grammar (parse.Ambiguous n) unfit limit none = none_of _ unfit limit (none (λ e. let no : parse.Ambiguous n ≡ parse.Memory = e in cc))
    by_grammar (parse.BreakOutside n) unfit limit none = none_of _ unfit limit (none (λ e. let no : parse.BreakOutside n ≡ parse.Memory = e in cc))
    by_grammar (parse.VarargOutside n) unfit limit none = none_of _ unfit limit (none (λ e. let no : parse.VarargOutside n ≡ parse.Memory = e in cc))
    by_grammar parse.Memory unfit limit none = tt
