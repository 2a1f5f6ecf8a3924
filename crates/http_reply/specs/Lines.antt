-- Lines of a head (RFC 9112, 2.2 and 5).
use Rattle.std.specs.Prelude.{ℕ, List, [], ◌∷◌, ◌++◌, codes, flat_map}
use Rattle.resty_base.specs.Ascii.{carriage_return, line_feed}
use Rattle.resty_base.specs.declared.names.Pair2.{Pair2}

-- CR LF
abbrev pub line_end : List ℕ
line_end = carriage_return ∷ line_feed ∷ []

-- `NAME: VALUE`
abbrev pub field_line : List ℕ → List ℕ → List ℕ
field_line name value = name ++ codes ": " ++ value ++ line_end

-- a line for each field
abbrev pub field_lines : List Pair2 → List ℕ
field_lines fields = flat_map (λ field. field_line field.name field.value) fields
