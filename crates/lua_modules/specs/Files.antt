-- The file of a module.
use Rattle.std.specs.Prelude.{ℕ, ◌==◌, List, [], ◌∷◌, map, flat_map, if◌then◌else◌}
use Rattle.resty_base.specs.Ascii.{dot, slash, question_mark}

-- the name with `/` in place of each `.`
abbrev pub path_of : List ℕ → List ℕ
path_of name = map (λ b. if b == dot then slash else b) name

-- what a byte of a pattern stands for
abbrev pub piece_of : List ℕ → ℕ → List ℕ
piece_of name b = if b == question_mark then path_of name else b ∷ []

-- each `?` of the pattern stands for the name's path (Lua 5.1 Reference Manual, `package.path` of 5.3)
abbrev pub file_of : List ℕ → List ℕ → List ℕ
file_of pattern name = flat_map (piece_of name) pattern
