-- Names of header fields, which are compared without regard to case (RFC 9110, 5.1).
use Rattle.std.specs.Prelude.{ℕ, Bool, List, map}
use Rattle.std.specs.Char.{to_ascii_lowercase}
use Rattle.std.specs.Str.{bytes_eq}

-- the text with its ASCII letters in lower case
abbrev pub lower : List ℕ → List ℕ
lower text = map to_ascii_lowercase text

-- the names are equal in lower case
abbrev pub same_name : List ℕ → List ℕ → Bool
same_name name other = bytes_eq (lower name) (lower other)
