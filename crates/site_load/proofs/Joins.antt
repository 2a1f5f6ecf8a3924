-- The programs of blocks, joined one after another.
use Rattle.std.proofs.Common.{◌≡◌, ℕ, zero, suc, List, [], ◌∷◌, ◌++◌, length, slice_get, Some, refl, sym, subst, arith}
use Rattle.lua_ast.specs.declared.programs.Program.{Program}
use Rattle.lua_modules.specs.declared.sets.ModuleSet.{ModuleSet}
use Rattle.conf.specs.declared.sites.Block.{Block}
use Rattle.site_check.specs.Sites.{HasProgram, HavePrograms}
use Rattle.site_load.specs.Chunks.{AddsBlocks, JoinsProgram, JoinsPrograms}

-- one more
pub joins_more : (file : List ℕ) (xs : List Program) (p : Program) (a b c : ModuleSet) → JoinsPrograms file xs a b → JoinsProgram file p b c → JoinsPrograms file (xs ++ p ∷ []) a c
joins_more file [] p a b c same join = (c, subst (λ (s : ModuleSet). JoinsProgram file p s c) (sym same) join, refl)
joins_more file (x ∷ xs) p a b c joins join = (joins.0, joins.1, joins_more file xs p joins.0 b c joins.2 join)

-- so the blocks are added that have them
abbrev Parsed : List Block → List Program → Type 0
Parsed blocks programs = (i : ℕ) (block : Block) (program : Program) → slice_get blocks i ≡ Some block → slice_get programs i ≡ Some program → HasProgram block program

blocks_join : (file : List ℕ) (blocks : List Block) (programs : List Program) (a b : ModuleSet) → length programs ≡ length blocks → Parsed blocks programs
    → JoinsPrograms file programs a b → AddsBlocks file blocks a b
blocks_join file [] [] a b count parsed joins = joins
blocks_join file [] (p ∷ ps) a b count parsed joins = absurd (omega (arith, count))
blocks_join file (block ∷ blocks) [] a b count parsed joins = absurd (omega (arith, count))
blocks_join file (block ∷ blocks) (p ∷ ps) a b count parsed joins =
    let has = parsed 0 block p refl refl in
    let joined = joins.1 in (
      joins.0,
      record {
        program = record { chunk = p; read = record { tokens = has.tokens; lexed = has.lexed; parsed = has.parsed }; joined = joined.joined };
        lists = joined.lists;
      },
      blocks_join file blocks ps joins.0 b (omega (arith, count)) (λ i d q here there. parsed (suc i) d q here there) joins.2,
    )

pub blocks_added : (file : List ℕ) (blocks : List Block) (programs : List Program) (a b : ModuleSet) → HavePrograms blocks programs → JoinsPrograms file programs a b → AddsBlocks file blocks a b
blocks_added file blocks programs a b have joins = blocks_join file blocks programs a b have.counted have.parsed joins
