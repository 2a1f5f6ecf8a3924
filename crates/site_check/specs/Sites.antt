-- Which texts are sites, and why a text is none.
use Rattle.std.specs.Prelude.{◌≡◌, ℕ, ◌<◌, List, length, Some, slice_get}
use Rattle.lua_ast.specs.declared.programs.Program.{Program}
use Rattle.lua_lexer.specs.Lexical.{HasTokens, HasFault}
use Rattle.lua_lexer.specs.declared.tokens.Token.{Token}
use Rattle.lua_grammar.specs.Grammar.{IsProgramOf}
use Rattle.lua_parser_base.specs.Standing.{IsBroken, OnLimit}
use Rattle.lua_parser_base.specs.declared.faults.ParseFault.{ParseFault}
use Rattle.lua_parser.specs.Unfit.{IsUnfit, OfAt}
use Rattle.conf.specs.Reading.{IsConf, IsRefusedAt, IsWhole}
use Rattle.conf.specs.declared.sites.Block.{Block}
use Rattle.conf.specs.declared.sites.Conf as site
use Rattle.site_check.specs.declared.faults.CheckFault.{CheckFault}
use Rattle.site_check.specs.declared.faults.CheckFault.TheVariants.{Conf, Lex, Parse, Memory}

-- the text of a block, from its line on, has tokens, and the program is that of these
pub record HasProgram (block : Block) (program : Program) : Type 0 where
  pub tokens : List Token
  pub lexed : HasTokens block.line block.text tokens
  pub parsed : IsProgramOf tokens program

abbrev pub IsProgram : Block → Type 0
IsProgram block = (program : Program) × HasProgram block program

-- each block is a program
abbrev pub ArePrograms : List Block → Type 0
ArePrograms blocks = (i : ℕ) (block : Block) → slice_get blocks i ≡ Some block → IsProgram block

-- tokens are those of no program, for this reason
pub record HasNoProgram (tokens : List Token) (fault : ParseFault) : Type 0 where
  pub unfit : OfAt (IsUnfit tokens) fault
  pub limit : OnLimit (IsBroken tokens) fault
  pub none : (program : Program) → IsProgramOf tokens program → ⊥

-- the text of a block has tokens, which are those of no program for this reason
abbrev pub IsUnparsed : Block → ParseFault → Type 0
IsUnparsed block fault = (tokens : List Token) × HasTokens block.line block.text tokens × HasNoProgram tokens fault

-- why a block is no program; out of memory says nothing of it
abbrev pub IsBlockFault : Block → CheckFault → Type 0
IsBlockFault block (Conf fault) = ⊥
IsBlockFault block (Lex fault) = HasFault block.line block.text fault
IsBlockFault block (Parse fault) = IsUnparsed block fault
IsBlockFault block Memory = Unit {0}

-- the first block that is no program is none for this reason
pub record IsFirstFault (blocks : List Block) (fault : CheckFault) : Type 0 where
  pub index : ℕ
  pub block : Block
  pub here : slice_get blocks index ≡ Some block
  pub before : (i : ℕ) (other : Block) → i < index → slice_get blocks i ≡ Some other → IsProgram other
  pub wrong : IsBlockFault block fault

-- the text of a site: a configuration whose blocks of Lua are programs
pub record IsSite (text : List ℕ) : Type 0 where
  pub conf : site.Conf
  pub read : IsConf text conf
  pub programs : ArePrograms conf.blocks

-- these are the programs of blocks, in order
pub record HavePrograms (blocks : List Block) (programs : List Program) : Type 0 where
  pub counted : length programs ≡ length blocks
  pub parsed : (i : ℕ) (block : Block) (program : Program) → slice_get blocks i ≡ Some block → slice_get programs i ≡ Some program
      → HasProgram block program

-- the text of a site says this configuration, and these are the programs of its blocks
pub record IsRead (text : List ℕ) (conf : site.Conf) (programs : List Program) : Type 0 where
  pub read : IsConf text conf
  pub whole : IsWhole conf
  pub each : HavePrograms conf.blocks programs

-- a text is a configuration, but a block is no program for this reason, the first such one
pub record IsBlocked (text : List ℕ) (fault : CheckFault) : Type 0 where
  pub conf : site.Conf
  pub read : IsConf text conf
  pub first : IsFirstFault conf.blocks fault

-- why a text is no site: the configuration comes before all blocks; out of memory says nothing of it
abbrev pub IsSiteFault : List ℕ → CheckFault → Type 0
IsSiteFault text (Conf fault) = IsRefusedAt text fault
IsSiteFault text Memory = Unit {0}
IsSiteFault text fault = IsBlocked text fault
