-- Why a block of Lua is no program, by its tokens and by their grammar, and why the text of a site is none.
use Rattle.std.proofs.Common.{◌≡◌, ◌≢◌, ℕ, List}
use Rattle.lua_ast.specs.declared.programs.Program.{Program}
use Rattle.lua_lexer.specs.Lexical.{HasTokens, HasFault}
use Rattle.lua_lexer.specs.declared.tokens.LexFault.{LexFault}
use Rattle.lua_lexer.specs.declared.tokens.LexFault.TheVariants as lex
use Rattle.lua_lexer.specs.declared.tokens.Token.{Token}
use Rattle.lua_grammar.specs.Grammar.{IsProgramOf}
use Rattle.lua_parser_base.specs.Standing.{IsBroken, OnLimit}
use Rattle.lua_parser_base.specs.declared.faults.ParseFault.{ParseFault}
use Rattle.lua_parser_base.specs.declared.faults.ParseFault.TheVariants as parse
use Rattle.lua_parser.specs.Unfit.{IsUnfit, OfAt}
use Rattle.conf.specs.Reading.{IsConf, IsFault}
use Rattle.conf.specs.declared.faults.ConfFault.{ConfFault}
use Rattle.conf.specs.declared.faults.ConfFault.TheVariants as conf
use Rattle.conf.specs.declared.sites.Block.{Block}
use Rattle.conf.specs.declared.sites.Conf as site
use Rattle.site_check.specs.Sites.{HasNoProgram, IsBlockFault, IsFirstFault, IsSiteFault}
use Rattle.site_check.specs.Texts.{of_conf, of_tokens, of_grammar}
use Rattle.site_check.specs.declared.faults.CheckFault.{CheckFault}
use Rattle.site_check.specs.declared.faults.CheckFault.TheVariants.{Conf, Lex, Parse, Memory}

-- by its tokens
pub by_tokens : (block : Block) (fault : LexFault) → (fault ≢ lex.Memory → HasFault block.line block.text fault) → IsBlockFault block (of_tokens fault)
by_tokens block (lex.BadByte line) wrong = wrong (λ e. let no : lex.BadByte line ≡ lex.Memory = e in cc)
by_tokens block (lex.OpenString line) wrong = wrong (λ e. let no : lex.OpenString line ≡ lex.Memory = e in cc)
by_tokens block (lex.OpenComment line) wrong = wrong (λ e. let no : lex.OpenComment line ≡ lex.Memory = e in cc)
by_tokens block (lex.BadEscape line) wrong = wrong (λ e. let no : lex.BadEscape line ≡ lex.Memory = e in cc)
by_tokens block (lex.Fraction line) wrong = wrong (λ e. let no : lex.Fraction line ≡ lex.Memory = e in cc)
by_tokens block (lex.Range line) wrong = wrong (λ e. let no : lex.Range line ≡ lex.Memory = e in cc)
by_tokens block (lex.TooLong line) wrong = wrong (λ e. let no : lex.TooLong line ≡ lex.Memory = e in cc)
by_tokens block lex.Memory wrong = tt

module _ (block : Block) (tokens : List Token) (lexed : HasTokens block.line block.text tokens) where
  no_program : (fault : ParseFault) → OfAt (IsUnfit tokens) fault → OnLimit (IsBroken tokens) fault → ((program : Program) → IsProgramOf tokens program → ⊥)
      → (found : List Token) × HasTokens block.line block.text found × HasNoProgram found fault
  no_program fault unfit limit none = (tokens, lexed, record { unfit = unfit; limit = limit; none = none })

  -- by their grammar
  pub by_grammar : (fault : ParseFault) → OfAt (IsUnfit tokens) fault → OnLimit (IsBroken tokens) fault
      → ((fault ≡ parse.Memory → ⊥) → (program : Program) → IsProgramOf tokens program → ⊥) → IsBlockFault block (of_grammar fault)
  by_grammar (parse.At line) unfit limit none = no_program _ unfit limit (none (λ e. let no : parse.At line ≡ parse.Memory = e in cc))
  by_grammar (parse.Depth line) unfit limit none = no_program _ unfit limit (none (λ e. let no : parse.Depth line ≡ parse.Memory = e in cc))
  by_grammar (parse.Locals line) unfit limit none = no_program _ unfit limit (none (λ e. let no : parse.Locals line ≡ parse.Memory = e in cc))
  by_grammar (parse.Upvalues line) unfit limit none = no_program _ unfit limit (none (λ e. let no : parse.Upvalues line ≡ parse.Memory = e in cc))
  by_grammar (parse.Ambiguous line) unfit limit none = no_program _ unfit limit (none (λ e. let no : parse.Ambiguous line ≡ parse.Memory = e in cc))
  by_grammar (parse.BreakOutside line) unfit limit none = no_program _ unfit limit (none (λ e. let no : parse.BreakOutside line ≡ parse.Memory = e in cc))
  by_grammar (parse.VarargOutside line) unfit limit none = no_program _ unfit limit (none (λ e. let no : parse.VarargOutside line ≡ parse.Memory = e in cc))
  by_grammar parse.Memory unfit limit none = tt

-- by its configuration
pub by_conf : (text : List ℕ) (fault : ConfFault) → IsFault text fault → IsSiteFault text (of_conf fault)
by_conf text (conf.At line) wrong = wrong
by_conf text (conf.Unknown line) wrong = wrong
by_conf text (conf.Twice line) wrong = wrong
by_conf text (conf.Value line) wrong = wrong
by_conf text (conf.Place line) wrong = wrong
by_conf text (conf.Block line) wrong = wrong
by_conf text conf.Memory wrong = tt

-- by a block of its configuration
pub by_block : (text : List ℕ) (conf : site.Conf) → IsConf text conf → (fault : CheckFault) → IsFirstFault conf.blocks fault → IsSiteFault text fault
by_block text conf read (Conf fault) first = absurd first.wrong
by_block text conf read (Lex fault) first = record { conf = conf; read = read; first = first }
by_block text conf read (Parse fault) first = record { conf = conf; read = read; first = first }
by_block text conf read Memory first = tt
