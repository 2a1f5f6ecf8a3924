-- Blanks and comments, and the ends of lines (nginx beginner's guide, "Configuration File's Structure").
use Rattle.std.specs.Prelude.{ℕ, ◌+◌, Bool, false, not, ◌&&◌, ◌||◌, ◌==◌, List, [], ◌∷◌, length, filter, if◌then◌else◌}
use Rattle.resty_base.specs.Ascii.{space, line_feed, carriage_return, hash}

-- a tab
abbrev pub tab : ℕ
tab = 9

-- spaces, tabs and the ends of lines stand between words
abbrev pub is_blank : ℕ → Bool
is_blank b = b == space || b == tab || b == carriage_return || b == line_feed

-- a byte of the layout: one of a comment, a blank, or the `#` that begins a comment
abbrev pub is_layout : Bool → ℕ → Bool
is_layout commented b = commented || is_blank b || b == hash

-- a comment runs to the end of its line
abbrev pub is_commented_after : Bool → ℕ → Bool
is_commented_after commented b = (commented || b == hash) && not (b == line_feed)

-- how many bytes of layout stand at the front of a text that may begin in a comment
abbrev pub layout_from : Bool → List ℕ → ℕ
layout_from commented [] = 0
layout_from commented (b ∷ text) = if is_layout commented b then layout_from (is_commented_after commented b) text + 1 else 0

-- how many bytes of blanks and comments stand at the front
abbrev pub layout_size : List ℕ → ℕ
layout_size text = layout_from false text

-- how many lines end in the text
abbrev pub line_ends : List ℕ → ℕ
line_ends text = length (filter (λ b. b == line_feed) text)

-- the line after a text that begins on a line
abbrev pub line_after : ℕ → List ℕ → ℕ
line_after line text = line + line_ends text
