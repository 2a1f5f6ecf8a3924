-- A site has no fault.
use Rattle.std.proofs.Common.{◌≡◌, ℕ, List, slice_get, refl, subst, ◌∙◌, ap}
use Rattle.lua_lexer.specs.Laws.{HasOneReading}
use Rattle.lua_lexer.specs.Lexical.{HasFault}
use Rattle.lua_lexer.specs.declared.tokens.LexFault.{LexFault}
use Rattle.lua_grammar.specs.Grammar.{IsProgramOf}
use Rattle.lua_parser_base.specs.declared.faults.ParseFault.{ParseFault}
use Rattle.conf.specs.Reading.{IsConf, IsRefusedAt}
use Rattle.conf.specs.declared.faults.ConfFault.{ConfFault}
use Rattle.conf.specs.declared.sites.Block.{Block}
use Rattle.conf.specs.declared.sites.Conf as site
use Rattle.site_check.specs.Sites.{IsProgram, IsUnparsed, IsSite, IsBlocked, IsSiteFault}
use Rattle.site_check.specs.declared.faults.CheckFault.{CheckFault}
use Rattle.site_check.specs.declared.faults.CheckFault.TheVariants.{Conf, Lex, Parse, Memory}

module _ (one_conf : (text : List ℕ) (conf other : site.Conf) → IsConf text conf → IsConf text other → conf ≡ other)
    (none_refused : (text : List ℕ) (conf : site.Conf) (fault : ConfFault) → IsConf text conf → IsRefusedAt text fault → ⊥)
    (one_reading : (line : ℕ) (text : List ℕ) → HasOneReading line text) where
  -- a program has no fault of its tokens
  no_lex : (block : Block) (fault : LexFault) → IsProgram block → HasFault block.line block.text fault → ⊥
  no_lex block fault is wrong = (one_reading block.line block.text).apart is.1.tokens fault is.1.lexed wrong

  -- a program has no fault of its grammar
  no_parse : (block : Block) (fault : ParseFault) → IsProgram block → IsUnparsed block fault → ⊥
  no_parse block fault is wrong =
      let same = (one_reading block.line block.text).tokens is.1.tokens wrong.0 is.1.lexed wrong.1 in
      wrong.2.none is.0 (subst (λ t. IsProgramOf t is.0) same is.1.parsed)

  -- the block of a first fault is one of a site's
  here : (text : List ℕ) (fault : CheckFault) → IsSite text → (at : IsBlocked text fault) → IsProgram at.first.block
  here text fault is at =
      is.programs at.first.index at.first.block (ap (λ c. slice_get c.blocks at.first.index) (one_conf text is.conf at.conf is.read at.read) ∙ at.first.here)

  pub apart : (text : List ℕ) (fault : CheckFault) → IsSite text → IsSiteFault text fault → fault ≡ Memory
  apart text (Conf fault) is wrong = absurd (none_refused text is.conf fault is.read wrong)
  apart text (Lex fault) is wrong = absurd (no_lex wrong.first.block fault (here text (Lex fault) is wrong) wrong.first.wrong)
  apart text (Parse fault) is wrong = absurd (no_parse wrong.first.block fault (here text (Parse fault) is wrong) wrong.first.wrong)
  apart text Memory is wrong = refl
