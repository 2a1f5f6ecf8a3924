-- Programs joined into one.
use Rattle.std.specs.Prelude.{◌≡◌, List, ◌++◌, length}
use Rattle.std.specs.List.{AllZip}
use Rattle.lua_ast.specs.declared.programs.Function.{Function}
use Rattle.lua_ast.specs.declared.programs.Program.{Program}
use Rattle.lua_linking.specs.Raising.{RaisedFunction}

-- the files and the functions of the first, and then those of the second, which are numbered after them
pub record IsJoined (first second joined : Program) : Type 0 where
  pub raised : List Function
  pub files : joined.files ≡ first.files ++ second.files
  pub functions : joined.functions.items ≡ first.functions.items ++ raised
  pub numbers : AllZip (RaisedFunction (length first.functions.items) (length first.files)) second.functions.items raised

-- programs with the same files and functions
pub record HasSameLists (before after : Program) : Type 0 where
  pub files : after.files ≡ before.files
  pub functions : after.functions.items ≡ before.functions.items
