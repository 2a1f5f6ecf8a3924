-- Which texts are chunks of Lua, and why a text is none.
use Rattle.std.specs.Prelude.{ℕ, List}
use Rattle.lua_ast.specs.declared.programs.Program.{Program}
use Rattle.lua_lexer.specs.Lexical.{HasTokens, HasFault}
use Rattle.lua_lexer.specs.declared.tokens.LexFault.{LexFault}
use Rattle.lua_lexer.specs.declared.tokens.LexFault.TheVariants as lex
use Rattle.lua_lexer.specs.declared.tokens.Token.{Token}
use Rattle.lua_grammar.specs.Grammar.{IsProgramOf}
use Rattle.lua_parser_base.specs.Standing.{IsBroken, OnLimit}
use Rattle.lua_parser_base.specs.declared.faults.ParseFault.{ParseFault}
use Rattle.lua_parser_base.specs.declared.faults.ParseFault.TheVariants as parse
use Rattle.lua_parser.specs.Unfit.{IsUnfit, OfAt}
use Rattle.lua_modules.specs.declared.faults.ModuleFault.{ModuleFault}
use Rattle.lua_modules.specs.declared.faults.ModuleFault.TheVariants.{Lex, Parse, Memory}

-- a fault of tokens and of the grammar as one of a text
abbrev pub of_tokens : LexFault → ModuleFault
of_tokens lex.Memory = Memory
of_tokens fault = Lex fault

abbrev pub of_grammar : ParseFault → ModuleFault
of_grammar parse.Memory = Memory
of_grammar fault = Parse fault

-- a text that begins on this line has tokens, and these have this program
pub record HasProgram (line : ℕ) (text : List ℕ) (program : Program) : Type 0 where
  pub tokens : List Token
  pub lexed : HasTokens line text tokens
  pub parsed : IsProgramOf tokens program

-- it has tokens, which are those of no program for this reason
pub record HasNoProgram (line : ℕ) (text : List ℕ) (fault : ParseFault) : Type 0 where
  pub tokens : List Token
  pub lexed : HasTokens line text tokens
  pub unfit : OfAt (IsUnfit tokens) fault
  pub limit : OnLimit (IsBroken tokens) fault
  pub none : (program : Program) → IsProgramOf tokens program → ⊥

-- why a text that begins on this line is no chunk; out of memory says nothing of it
abbrev pub IsTextFault : ℕ → List ℕ → ModuleFault → Type 0
IsTextFault line text (Lex fault) = HasFault line text fault
IsTextFault line text (Parse fault) = HasNoProgram line text fault
IsTextFault line text Memory = Unit {0}
