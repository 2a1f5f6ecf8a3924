-- Where a block of Lua in braces ends.
use Rattle.std.specs.Prelude.{ℕ, zero, suc, ◌+◌, ◌-◌, ◌&&◌, ◌==◌, List, [], ◌∷◌, drop, slice_index, Option, Some, None, option_map, option_and_then}
use Rattle.std.specs.Prelude.{if◌then◌else◌}
use Rattle.lua_lexer.specs.Brackets.{opens, inside_len, long_size}
use Rattle.lua_lexer.specs.Comments.{is_comment, comment_size}
use Rattle.lua_lexer.specs.Strings.{is_quote, body_len}
use Rattle.resty_base.specs.Ascii.{open_brace, close_brace}

-- how many bytes the short string at the front has, where it is closed
unfoldable pub short_string_size : List ℕ → Option ℕ
short_string_size text =
    let quote = slice_index text 0 in
    let len = body_len quote (drop 1 text) in
    if slice_index (drop 1 text) len == quote then Some (len + 2) else None

-- how many bytes the string or the comment at the front has, where it is closed, and 1 at any other byte
unfoldable pub stretch : List ℕ → Option ℕ
stretch text =
    if is_quote (slice_index text 0) then short_string_size text
    else if is_comment text then comment_size text
    else if opens text then option_map (λ inside. long_size text inside) (inside_len text)
    else Some 1

-- how many braces are open after a byte
abbrev pub depth_after : ℕ → ℕ → ℕ
depth_after depth c = if c == open_brace then depth + 1 else if c == close_brace then depth - 1 else depth

-- the index of the brace that closes a block with so many more open braces, after the first so many bytes of what
-- stands at an index
unfoldable pub closing_after : ℕ → ℕ → ℕ → List ℕ → Option ℕ
closing_after skipped depth index [] = None
closing_after (suc skipped) depth index (c ∷ cs) = closing_after skipped depth (index + 1) cs
closing_after zero depth index (c ∷ cs) =
    if c == close_brace && depth == 0 then Some index
    else option_and_then (λ size. closing_after (size - 1) (depth_after depth c) (index + 1) cs) (stretch (c ∷ cs))

-- the index of the brace that closes the block whose inside begins at an index
unfoldable pub block_end_of : List ℕ → ℕ → Option ℕ
block_end_of text from = closing_after 0 0 from (drop from text)
