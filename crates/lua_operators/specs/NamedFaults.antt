-- The texts of faults that name what was called, asked for or reached.
use Rattle.std.specs.Prelude.{ℕ, List, ◌++◌, codes, decimal}

-- an argument, numbered from 1, of a function of the library
abbrev pub argument_text : ℕ → List ℕ → List ℕ → List ℕ → List ℕ
argument_text number name expected found =
    codes "bad argument #" ++ decimal number ++ codes " to '" ++ name ++ codes "' (" ++ expected ++ codes " expected, got " ++ found ++ codes ")"

abbrev pub module_text : List ℕ → List ℕ
module_text name = codes "module '" ++ name ++ codes "' not found"

abbrev pub phase_text : List ℕ → List ℕ
phase_text phase = codes "API disabled in the context of " ++ phase
