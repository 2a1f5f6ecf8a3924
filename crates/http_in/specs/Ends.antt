-- Where the head of a request ends (RFC 9112, sections 2.1 and 2.2).
use Rattle.std.specs.Prelude.{ℕ, ◌+◌, suc, Bool, false, ◌==◌, ◌||◌, ◌&&◌, List, [], ◌∷◌, Option, Some, None, option_map, if◌then◌else◌}
use Rattle.resty_base.specs.Ascii.{line_feed, carriage_return}

-- the bytes begin with LF
abbrev pub begins_feed : List ℕ → Bool
begins_feed [] = false
begins_feed (b ∷ bs) = b == line_feed

-- the bytes begin with an empty line: its end is LF or CR LF
abbrev pub begins_empty_line : List ℕ → Bool
begins_empty_line [] = false
begins_empty_line (b ∷ bs) = (b == line_feed) || ((b == carriage_return) && begins_feed bs)

-- how many bytes the empty line has that they begin with
abbrev pub empty_line_size : List ℕ → ℕ
empty_line_size [] = 0
empty_line_size (b ∷ bs) = if b == line_feed then 1 else 2

-- within a line: how many bytes there are up to the end of the first empty line
abbrev pub end_within : List ℕ → Option ℕ
end_within [] = None
end_within (b ∷ bs) = if (b == line_feed) && begins_empty_line bs then Some (1 + empty_line_size bs) else option_map suc (end_within bs)

-- how many bytes there are up to the end of the first empty line that follows a line which isn't empty
abbrev pub head_end : List ℕ → Option ℕ
head_end [] = None
head_end (b ∷ bs) = if (b == line_feed) || ((b == carriage_return) && begins_feed bs) then option_map suc (head_end bs) else end_within (b ∷ bs)
