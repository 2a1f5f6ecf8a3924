-- Values that are lists: elements between commas, with optional white space (RFC 9110, 5.6.1 and 5.6.3).
use Rattle.std.specs.Prelude.{ℕ, Bool, ◌||◌, ◌==◌, List, [], ◌∷◌, map, reverse, if◌then◌else◌}
use Rattle.resty_base.specs.Ascii.{space, comma}
use Rattle.http_base.specs.Splitting.{split}

-- a tab
abbrev pub tab : ℕ
tab = 9

-- optional white space is made of spaces and tabs
abbrev pub is_blank : ℕ → Bool
is_blank b = b == space || b == tab

-- the text without the blanks at its beginning
abbrev pub after_blanks : List ℕ → List ℕ
after_blanks [] = []
after_blanks (b ∷ text) = if is_blank b then after_blanks text else b ∷ text

-- the text without the blanks at its end
abbrev pub before_blanks : List ℕ → List ℕ
before_blanks text = reverse (after_blanks (reverse text))

-- the text without the blanks at both ends
abbrev pub trimmed : List ℕ → List ℕ
trimmed text = before_blanks (after_blanks text)

-- the elements of the list, empty ones too
abbrev pub elements : List ℕ → List (List ℕ)
elements value = map trimmed (split comma value)
