-- The values of header fields, by name (RFC 9110, 5.2 and 5.3).
use Rattle.std.specs.Prelude.{ℕ, ◌-◌, ◌==◌, List, [], ◌∷◌, length, slice_get, Option, None, Some, if◌then◌else◌}
use Rattle.resty_base.specs.declared.names.Pair2.{Pair2}
use Rattle.http_base.specs.FieldLists.{values_of}

-- the first value, None where there is none
abbrev pub first_of : List (List ℕ) → Option (List ℕ)
first_of [] = None
first_of (value ∷ values) = Some value

-- the last value
abbrev pub last_of : List (List ℕ) → Option (List ℕ)
last_of values = slice_get values (length values - 1)

-- the value of the first field of this name
abbrev pub first_value : List Pair2 → List ℕ → Option (List ℕ)
first_value fields name = first_of (values_of fields name)

-- the value of the last field of this name
abbrev pub last_value : List Pair2 → List ℕ → Option (List ℕ)
last_value fields name = last_of (values_of fields name)

-- the text, or none where it is empty
abbrev pub unless_empty : List ℕ → Option (List ℕ)
unless_empty text = if length text == 0 then None else Some text
