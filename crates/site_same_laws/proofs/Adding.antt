-- A text that is added to sets that are the same leaves sets that are the same.
use Rattle.std.proofs.Common.{◌≡◌, ℕ, List, refl, sym, ap₂, ◌∙◌, subst}
use Rattle.std.proofs.lemmas.List.Elements.{length_all_zip}
use Rattle.lua_ast.specs.SameProgram.{SameFunction, SameProgram}
use Rattle.lua_ast.specs.declared.programs.Program.{Program}
use Rattle.lua_lexer.specs.Laws.{HasOneReading}
use Rattle.lua_lexer.specs.declared.tokens.Token.{Token}
use Rattle.lua_grammar.specs.Grammar.{IsProgramOf}
use Rattle.lua_modules.specs.Texts.{HasProgram}
use Rattle.lua_modules.specs.Sets.{JoinsText, Lists, next_function, of_file, with_block, with_chunk}
use Rattle.lua_modules.specs.declared.sets.ModuleSet.{ModuleSet}
use Rattle.site_same_laws.specs.Programs.{JoinedProgramsAreSame}
use Rattle.site_same_laws.specs.SameSet.{SameSet}
use Rattle.site_same_laws.specs.Sets.{BlocksKeepSetsSame, ModulesKeepSetsSame}

module _
    (one_reading : (line : ℕ) (text : List ℕ) → HasOneReading line text)
    (one_program : (tokens : List Token) (p q : Program) → IsProgramOf tokens p → IsProgramOf tokens q → SameProgram p q)
    (joined_same : JoinedProgramsAreSame) where
  -- a text has one program
  chunk_same : (line : ℕ) (text : List ℕ) (p q : Program) → HasProgram line text p → HasProgram line text q → SameProgram p q
  chunk_same line text p q a b =
      let same = (one_reading line text).tokens b.tokens a.tokens b.lexed a.lexed in
      one_program a.tokens p q a.parsed (subst (λ tokens. IsProgramOf tokens q) same b.parsed)

  named_same : (file : List ℕ) (p q : Program) → SameProgram p q → SameProgram (of_file file p) (of_file file q)
  named_same file p q h = record { files = refl; functions = h.functions }

  program_same : (file : List ℕ) (line : ℕ) (text : List ℕ) (a a' b b' : ModuleSet) → SameSet a b → JoinsText file line text a a' → JoinsText file line text b b'
      → SameProgram a'.program b'.program
  program_same file line text a a' b b' same x y =
      joined_same a.program (of_file file x.chunk) a'.program b.program (of_file file y.chunk) b'.program same.program
      (named_same file x.chunk y.chunk (chunk_same line text x.chunk y.chunk x.read y.read)) x.joined y.joined

  next_same : (a b : ModuleSet) → SameSet a b → next_function a ≡ next_function b
  next_same a b same = length_all_zip SameFunction a.program.functions.items b.program.functions.items same.program.functions

  pub modules_keep : ModulesKeepSetsSame
  modules_keep name file text a a' b b' same x y = record {
    program = program_same file 1 text a a' b b' same x.program y.program;
    lists = x.lists ∙ ap₂ (λ (n : ℕ) (lists : Lists). with_chunk name file n lists) (next_same a b same) same.lists ∙ sym y.lists;
  }

  pub blocks_keep : BlocksKeepSetsSame
  blocks_keep file line text a a' b b' same x y = record {
    program = program_same file line text a a' b b' same x.program y.program;
    lists = x.lists ∙ ap₂ (λ (n : ℕ) (lists : Lists). with_block n lists) (next_same a b same) same.lists ∙ sym y.lists;
  }
