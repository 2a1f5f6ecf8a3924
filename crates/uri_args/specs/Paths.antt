-- Paths without escapes and dot segments (RFC 3986, 2.1, 3.3 and 5.2.4).
use Rattle.std.specs.Prelude.{ℕ, Bool, true, false, ◌==◌, ◌||◌, ◌&&◌, not, List, [], ◌∷◌, ◌++◌, length, take, Option, None, Some, if◌then◌else◌}
use Rattle.std.specs.List.{flat_map, list_any}
use Rattle.std.specs.Option.{option_map, option_and_then}
use Rattle.std.specs.Char.{is_ascii_hexdigit}
use Rattle.std.specs.Str.{bytes_eq}
use Rattle.percent_encoding.specs.Percent.{percent_decode}
use Rattle.resty_base.specs.Ascii.{percent, slash, dot}
use Rattle.http_base.specs.Splitting.{after, later_pieces}

-- the text begins with two hex digits
abbrev pub begins_with_digits : List ℕ → Bool
begins_with_digits [] = false
begins_with_digits (high ∷ []) = false
begins_with_digits (high ∷ low ∷ rest) = is_ascii_hexdigit high && is_ascii_hexdigit low

-- each `%` has two hex digits after it (2.1)
abbrev pub is_well_escaped : List ℕ → Bool
is_well_escaped [] = true
is_well_escaped (b ∷ text) = if b == percent && not (begins_with_digits text) then false else is_well_escaped text

-- the segments of a path, each of which follows a `/` (3.3)
abbrev pub segments : List ℕ → List (List ℕ)
segments path = later_pieces slash (after slash path)

-- the segment is `..`
abbrev pub is_double_dot : List ℕ → Bool
is_double_dot segment = bytes_eq segment (dot ∷ dot ∷ [])

-- the segment isn't kept itself: it is empty, since `//` is `/`, or a dot segment
abbrev pub is_passed : List ℕ → Bool
is_passed segment = length segment == 0 || bytes_eq segment (dot ∷ []) || is_double_dot segment

-- all but the last segment, None where there is none
abbrev pub without_last : List (List ℕ) → Option (List (List ℕ))
without_last [] = None
without_last (first ∷ kept) = Some (take (length kept) (first ∷ kept))

-- the segments that are kept after one more: a `..` takes out the last one
abbrev pub kept_after : List (List ℕ) → List ℕ → Option (List (List ℕ))
kept_after kept segment =
    if is_double_dot segment then without_last kept else Some (if is_passed segment then kept else kept ++ segment ∷ [])

-- where the last segment isn't kept itself, an empty one is
abbrev pub ending : List ℕ → List (List ℕ) → List (List ℕ)
ending segment [] = if is_passed segment then [] ∷ [] else []
ending segment (next ∷ later) = []

-- the segments without dot segments, after those kept so far; None where a `..` has none before it (5.2.4)
abbrev pub resolved : List (List ℕ) → List (List ℕ) → Option (List (List ℕ))
resolved kept [] = Some kept
resolved kept (segment ∷ later) = option_and_then (λ more. resolved (more ++ ending segment later) later) (kept_after kept segment)

-- the path with these segments
abbrev pub joined : List (List ℕ) → List ℕ
joined kept = flat_map (λ segment. slash ∷ segment) kept

-- the path without dot segments, None where it has a zero byte or goes above the root
abbrev pub resolved_path : List ℕ → Option (List ℕ)
resolved_path path = if list_any (λ b. b == 0) path then None else option_map joined (resolved [] (segments path))

-- the path for which the escaped one stands, None where an escape is bad
abbrev pub path_of : List ℕ → Option (List ℕ)
path_of escaped = if is_well_escaped escaped then resolved_path (percent_decode escaped) else None
