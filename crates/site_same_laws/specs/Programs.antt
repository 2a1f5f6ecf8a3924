-- What programs have in common that are the same but for where their parts stand in memory.
use Rattle.std.specs.Prelude.{◌≡◌, ℕ, List}
use Rattle.lua_ast.specs.SameProgram.{SameProgram}
use Rattle.lua_ast.specs.declared.programs.Program.{Program}
use Rattle.lua_values.specs.declared.values.Value.{Value}
use Rattle.lua_values.specs.NativeCalls.{Meaning}
use Rattle.lua_linking.specs.Joining.{IsJoined}
use Rattle.lua_linking.specs.Names.{names_of}
use Rattle.lua_meaning.specs.Evaluator.{Resume}
use Rattle.lua_meaning.specs.Setting.{Setting}
use Rattle.lua_meaning.specs.Life.{life}

-- a program with functions of the host
abbrev pub in_setting : Program → ℕ → Meaning → Setting
in_setting program count lib = record { program = program; count = count; lib = lib }

-- each thread has the same life in both
abbrev pub LiveAlike : Program → Program → Type 0
LiveAlike p q =
    (count : ℕ) (lib : Meaning) (f : Value) (args : List Value) (resumes : List Resume)
    → life (in_setting p count lib) f args resumes ≡ life (in_setting q count lib) f args resumes

abbrev pub SameProgramsLiveAlike : Type 0
SameProgramsLiveAlike = (p q : Program) → SameProgram p q → LiveAlike p q

-- what is joined of the same is the same
abbrev pub JoinedProgramsAreSame : Type 0
JoinedProgramsAreSame =
    (first second joined first' second' joined' : Program) → SameProgram first first' → SameProgram second second'
    → IsJoined first second joined → IsJoined first' second' joined' → SameProgram joined joined'

-- each function requires the same names in both
abbrev pub HaveSameNames : Program → Program → Type 0
HaveSameNames p q = (n : ℕ) → names_of p.functions.items n ≡ names_of q.functions.items n

abbrev pub SameProgramsHaveSameNames : Type 0
SameProgramsHaveSameNames = (p q : Program) → SameProgram p q → HaveSameNames p q
