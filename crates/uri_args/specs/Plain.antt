-- Paths that stay as they are where dot segments are taken out (RFC 3986, 5.2.4).
use Rattle.std.specs.Prelude.{ℕ, Bool, true, false, ◌==◌, ◌||◌, ◌&&◌, not, List, [], ◌∷◌, length, if◌then◌else◌}
use Rattle.resty_base.specs.Ascii.{slash}
use Rattle.http_base.specs.Splitting.{split}
use Rattle.uri_args.specs.Paths.{is_passed}

-- a last segment is kept as it is, also where it is empty
abbrev pub is_kept_last : List ℕ → Bool
is_kept_last segment = not (is_passed segment) || length segment == 0

-- each segment is kept as it is
abbrev pub keeps_all : List (List ℕ) → Bool
keeps_all [] = true
keeps_all (segment ∷ []) = is_kept_last segment
keeps_all (segment ∷ next ∷ later) = not (is_passed segment) && keeps_all (next ∷ later)

-- the path begins with `/` and keeps all its segments
abbrev pub is_plain : List ℕ → Bool
is_plain [] = false
is_plain (b ∷ rest) = if b == slash then keeps_all (split slash rest) else false
