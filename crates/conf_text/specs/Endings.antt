-- What ends an item: a sign, a block of Lua, or the text's end (nginx beginner's guide, "Configuration File's Structure"; lua-nginx-module manual,
-- `content_by_lua_block`).
use Rattle.std.specs.Prelude.{ℕ, ◌+◌, Bool, true, false, ◌&&◌, List, take, drop, Option, Some, None, if◌then◌else◌}
use Rattle.lua_lexer.specs.Blocks.{block_end_of}
use Rattle.conf_text.specs.Layout.{line_after}
use Rattle.conf_text.specs.Tokens.{token_at}
use Rattle.conf_text.specs.declared.fronts.Front.{Front}
use Rattle.conf_text.specs.declared.fronts.Front.TheVariants as front
use Rattle.conf_text.specs.declared.tokens.Token.{Token}
use Rattle.conf_text.specs.declared.endings.Ending.{Ending}
use Rattle.conf_text.specs.declared.endings.Ending.TheVariants.{Semicolon, Open, Close, Lua, Unclosed, End, Broken}
use Rattle.conf_text.specs.declared.endings.Ended.{Ended}

-- the ending that a token is by itself; a word ends nothing
abbrev pub sign_of : Front → Ending
sign_of front.Semicolon = Semicolon
sign_of front.Open = Open
sign_of front.Close = Close
sign_of front.End = End
sign_of (front.Word size) = Broken
sign_of (front.Quoted size) = Broken
sign_of (front.Broken size) = Broken

-- the line of an ending: at the text's end that of the last token
abbrev pub line_by : Front → ℕ → ℕ → ℕ
line_by front.End last here = last
line_by other last here = here

abbrev pub ending_line : Token → ℕ → ℕ
ending_line token line = line_by token.front line token.last_line

-- the ending that a token is by itself, after what ends on a line
abbrev pub plain : Token → ℕ → Ended
plain token line =
    record { ending = sign_of token.front; line = ending_line token line; size = token.size; last_line = token.last_line }

-- the block of Lua that a `{` opens before a text, which has an end there or not
abbrev pub lua_to : Token → List ℕ → Option ℕ → Ended
lua_to token text None = record { ending = Unclosed; line = token.last_line; size = token.size; last_line = token.last_line }
lua_to token text (Some end) = record {
  ending = Lua (take end text);
  line = token.last_line;
  size = token.size + (end + 1);
  last_line = line_after token.last_line (take (end + 1) text);
}

-- the block of Lua that the token opens before this text
abbrev pub lua : Token → List ℕ → Ended
lua token text = lua_to token text (block_end_of text 0)

-- the token is a `{`
abbrev pub is_open : Front → Bool
is_open front.Open = true
is_open other = false

-- what ends an item at the front of a text that begins on a line, and whether a `{` there opens a block of Lua
abbrev pub ended_at : Bool → List ℕ → ℕ → Ended
ended_at is_lua text line =
    let token = token_at text line in
    if is_open token.front && is_lua then lua token (drop token.size text) else plain token line
