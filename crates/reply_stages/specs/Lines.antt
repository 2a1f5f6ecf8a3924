-- Lines of the log (lua-nginx-module manual, `ngx.log`): the moment, the level and a text whose control bytes are escaped.
use Rattle.std.specs.Prelude.{ℕ, ◌/◌, ◌%◌, ◌==◌, ◌||◌, nat_lt, nat_le, true, List, [], ◌∷◌, ◌++◌, codes, decimal, flat_map, Option, Some, None, if◌then◌else◌}
use Rattle.std.specs.Fmt.{digit_glyph}
use Rattle.lua_values.specs.declared.values.Value.{Value}
use Rattle.lua_values.specs.declared.values.Value.TheVariants.{Text}
use Rattle.run_threads.specs.declared.handlers.End.{End}
use Rattle.run_threads.specs.declared.handlers.End.TheVariants.{Ended, Failed, Spent}

-- a control byte is written as `\x` and two upper-case hex digits
abbrev pub escaped_byte : ℕ → List ℕ
escaped_byte b = if nat_lt b 32 || b == 127 then codes "\\x" ++ digit_glyph true (b / 16) ∷ digit_glyph true (b % 16) ∷ [] else b ∷ []

-- the line of a text at a moment, of the level `error`
abbrev pub error_line : ℕ → List ℕ → List ℕ
error_line now text = decimal now ++ codes " [error] " ++ flat_map escaped_byte text

-- the number of that level; lines of a greater one than the configuration's aren't written
abbrev pub error_level : ℕ
error_level = 4

-- what is said of a fault: its text, where it is one
abbrev pub message_of : Value → List ℕ
message_of (Text text) = text
message_of v = codes "unknown reason"

-- what is logged of how a handler ended
abbrev pub aborted : End → Option (List ℕ)
aborted Ended = None
aborted (Failed v) = Some (codes "lua entry thread aborted: runtime error: " ++ message_of v)
aborted Spent = Some (codes "lua run aborted: step budget of 1000000 spent")

abbrev pub line_if : (level now : ℕ) → Option (List ℕ) → Option (List ℕ)
line_if level now None = None
line_if level now (Some text) = if nat_le error_level level then Some (error_line now text) else None

-- the line of it, where that is written
abbrev pub line_of : (level now : ℕ) → End → Option (List ℕ)
line_of level now end = line_if level now (aborted end)
