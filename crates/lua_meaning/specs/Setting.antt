-- What all of a program is evaluated in.
use Rattle.std.specs.Prelude.{ℕ}
use Rattle.lua_ast.specs.declared.programs.Program.{Program}
use Rattle.lua_values.specs.NativeCalls.{Meaning}

-- the program, and the functions of the host: how many there are, and what they mean
pub record Setting : Type 0 where
  pub program : Program
  pub count : ℕ
  pub lib : Meaning
