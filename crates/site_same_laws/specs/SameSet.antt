-- Sets of modules and blocks that are the same but for where their parts stand in memory.
use Rattle.std.specs.Prelude.{◌≡◌}
use Rattle.lua_ast.specs.SameProgram.{SameProgram}
use Rattle.lua_modules.specs.Sets.{lists_of}
use Rattle.lua_modules.specs.declared.sets.ModuleSet.{ModuleSet}

pub record SameSet (a b : ModuleSet) : Type 0 where
  pub program : SameProgram a.program b.program
  pub lists : lists_of a ≡ lists_of b
