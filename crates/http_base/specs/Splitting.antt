-- Texts split at a byte.
use Rattle.std.specs.Prelude.{ℕ, ◌==◌, List, [], ◌∷◌, if◌then◌else◌, Option, None, Some}

-- the bytes before the first separator, or all where it isn't there
abbrev pub before : ℕ → List ℕ → List ℕ
before separator [] = []
before separator (b ∷ bytes) = if b == separator then [] else b ∷ before separator bytes

-- the bytes after the first separator, None where it isn't there
abbrev pub after : ℕ → List ℕ → Option (List ℕ)
after separator [] = None
after separator (b ∷ bytes) = if b == separator then Some bytes else after separator bytes

-- the byte begins the first piece
abbrev pub onto_first : ℕ → List (List ℕ) → List (List ℕ)
onto_first b [] = (b ∷ []) ∷ []
onto_first b (piece ∷ pieces) = (b ∷ piece) ∷ pieces

-- the pieces between the separators, one more than there are separators
abbrev pub split : ℕ → List ℕ → List (List ℕ)
split separator [] = [] ∷ []
split separator (b ∷ bytes) = if b == separator then [] ∷ split separator bytes else onto_first b (split separator bytes)

-- the pieces of what stands after a separator, none where it isn't there
abbrev pub later_pieces : ℕ → Option (List ℕ) → List (List ℕ)
later_pieces separator None = []
later_pieces separator (Some rest) = split separator rest
