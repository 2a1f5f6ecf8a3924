-- The classes of bytes in Lua text (Lua 5.1 manual, 2.1). Letters are those of ASCII; blanks are those of numbers as text.
use Rattle.std.specs.Prelude.{ℕ, zero, suc, ◌+◌, ◌-◌, Bool, not, ◌&&◌, ◌||◌, ◌==◌, List, [], ◌∷◌, slice_index, if◌then◌else◌}
use Rattle.std.specs.Char.{is_ascii_alphabetic, is_ascii_digit}
use Rattle.resty_base.specs.Ascii.{line_feed, carriage_return, underscore}

-- a line feed or a carriage return
abbrev pub is_line_byte : ℕ → Bool
is_line_byte c = c == line_feed || c == carriage_return

-- a letter or an underscore
abbrev pub is_word_start : ℕ → Bool
is_word_start c = is_ascii_alphabetic c || c == underscore

-- a letter, an underscore or a digit
abbrev pub is_word_byte : ℕ → Bool
is_word_byte c = is_word_start c || is_ascii_digit c

-- how many bytes the line end at the front has: LF and CR are one line end each, and so are CR LF and LF CR
unfoldable pub line_end : List ℕ → ℕ
line_end text =
    let first = slice_index text 0 in
    let second = slice_index text 1 in
    if is_line_byte first then (if is_line_byte second && not (first == second) then 2 else 1) else 0

-- how many line ends there are after the first so many bytes
unfoldable pub line_ends_after : ℕ → List ℕ → ℕ
line_ends_after skipped [] = 0
line_ends_after (suc skipped) (c ∷ cs) = line_ends_after skipped cs
line_ends_after zero (c ∷ cs) = (if is_line_byte c then 1 else 0) + line_ends_after (line_end (c ∷ cs) - 1) cs

-- how many line ends there are
abbrev pub line_ends : List ℕ → ℕ
line_ends text = line_ends_after 0 text

-- the bytes after the first so many, with one LF for each line end
unfoldable pub unified_after : ℕ → List ℕ → List ℕ
unified_after skipped [] = []
unified_after (suc skipped) (c ∷ cs) = unified_after skipped cs
unified_after zero (c ∷ cs) = (if is_line_byte c then line_feed else c) ∷ unified_after (line_end (c ∷ cs) - 1) cs

-- the bytes, with one LF for each line end
abbrev pub unified : List ℕ → List ℕ
unified text = unified_after 0 text
