-- A chunk has no fault.
use Rattle.std.proofs.Common.{◌≢◌, ℕ, List, refl, subst}
use Rattle.lua_ast.specs.declared.programs.Program.{Program}
use Rattle.lua_grammar.specs.Grammar.{IsProgramOf}
use Rattle.lua_lexer.specs.Laws.{HasOneReading}
use Rattle.lua_modules.specs.Texts.{HasProgram, IsTextFault}
use Rattle.lua_modules.specs.declared.faults.ModuleFault.{ModuleFault}
use Rattle.lua_modules.specs.declared.faults.ModuleFault.TheVariants as chunk

-- a chunk has no fault
module _ (one_reading : (line : ℕ) (text : List ℕ) → HasOneReading line text) where
  pub chunk_apart : (line : ℕ) (text : List ℕ) (program : Program) (fault : ModuleFault) → HasProgram line text program → IsTextFault line text fault → fault ≢ chunk.Memory → ⊥
  chunk_apart line text program (chunk.Lex fault) has wrong known = (one_reading line text).apart has.tokens fault has.lexed wrong
  chunk_apart line text program (chunk.Parse fault) has wrong known =
      let same = (one_reading line text).tokens has.tokens wrong.tokens has.lexed wrong.lexed in
      wrong.none program (subst (λ t. IsProgramOf t program) same has.parsed)
  chunk_apart line text program chunk.Memory has wrong known = known refl
