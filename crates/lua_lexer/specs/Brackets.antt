-- Long brackets (Lua 5.1 manual, 2.1): `[`, as many `=` as the level says, `[`; and so with `]`.
use Rattle.std.specs.Prelude.{ℕ, ◌+◌, ◌*◌, Bool, ◌&&◌, ◌==◌, List, [], ◌∷◌, drop, slice_index, Option, Some, None, option_map, if◌then◌else◌}
use Rattle.std.specs.List.{prefix_len}
use Rattle.resty_base.specs.Ascii.{equals, open_bracket, close_bracket}

-- how many `=` stand after the first byte
unfoldable pub level_of : List ℕ → ℕ
level_of text = prefix_len (λ c. c == equals) (drop 1 text)

-- a long bracket of this byte, which is `[` or `]`, stands at the front
unfoldable pub is_bracket : ℕ → List ℕ → Bool
is_bracket bracket text = slice_index text 0 == bracket && slice_index text (level_of text + 1) == bracket

-- a long bracket opens at the front
abbrev pub opens : List ℕ → Bool
opens text = is_bracket open_bracket text

-- a long bracket of this level closes at the front
unfoldable pub closes : ℕ → List ℕ → Bool
closes level text = is_bracket close_bracket text && (level_of text == level)

-- how many bytes stand before the first closing bracket of the level
unfoldable pub before_closing : ℕ → List ℕ → Option ℕ
before_closing level [] = None
before_closing level (c ∷ cs) = if closes level (c ∷ cs) then Some 0 else option_map (λ n. n + 1) (before_closing level cs)

-- what stands after the opening bracket at the front
abbrev pub after_opening : List ℕ → List ℕ
after_opening text = drop (level_of text + 2) text

-- how many bytes stand between the brackets of which the first opens at the front
unfoldable pub inside_len : List ℕ → Option ℕ
inside_len text = before_closing (level_of text) (after_opening text)

-- how many bytes the brackets and what is inside have together
abbrev pub long_size : List ℕ → ℕ → ℕ
long_size text inside = inside + 2 * (level_of text + 2)
