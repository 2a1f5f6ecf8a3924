-- The position of a fault: the file and the line of the Lua function that was running.
use Rattle.std.specs.Prelude.{ℕ, List, [], ◌∷◌, ◌++◌, codes, decimal}

-- what stands before the text of a fault; nothing where the file has no name
abbrev pub position : List ℕ → ℕ → List ℕ
position [] line = []
position (c ∷ cs) line = (c ∷ cs) ++ codes ":" ++ decimal line ++ codes ": "
