-- Comments (Lua 5.1 manual, 2.1): after `--` a long bracket up to its end, or anything up to the end of the line.
use Rattle.std.specs.Prelude.{ℕ, ◌+◌, Bool, not, ◌&&◌, ◌==◌, List, drop, slice_index, Option, Some, option_map, if◌then◌else◌}
use Rattle.std.specs.List.{prefix_len}
use Rattle.lua_lexer.specs.Characters.{is_line_byte}
use Rattle.lua_lexer.specs.Brackets.{opens, inside_len, long_size}
use Rattle.resty_base.specs.Ascii.{dash}

-- a comment begins at the front
unfoldable pub is_comment : List ℕ → Bool
is_comment text = slice_index text 0 == dash && slice_index text 1 == dash

-- how many bytes the comment at the front has, where it is closed
unfoldable pub comment_size : List ℕ → Option ℕ
comment_size text =
    let after = drop 2 text in
    if opens after then option_map (λ inside. long_size after inside + 2) (inside_len after)
    else Some (prefix_len (λ c. not (is_line_byte c)) after + 2)
