-- Pattern items (Lua 5.1 manual, 5.4.1), read off the bytes of a pattern. Indices count from the pattern's first byte.
use Rattle.std.specs.Prelude.{ℕ, zero, suc, ◌+◌, ◌-◌, ◌&&◌, ◌==◌, nat_lt, List, [], ◌∷◌, drop, length, slice_index, Option, Some, None, option_map}
use Rattle.std.specs.Prelude.{if◌then◌else◌}
use Rattle.std.specs.Char.{is_ascii_digit}
use Rattle.lua_patterns.specs.declared.classes.Class.TheVariants.{Any, Byte, Letter, Set}
use Rattle.lua_patterns.specs.declared.items.Repeat.{Repeat}
use Rattle.lua_patterns.specs.declared.items.Repeat.TheVariants.{Once, Optional, Longest, LongestOfSome, Shortest}
use Rattle.lua_patterns.specs.declared.items.Item.{Item}
use Rattle.lua_patterns.specs.declared.items.Item.TheVariants.{Repeated, Open, Close, Position, Balanced, Reference, End, Wrong}
use Rattle.lua_patterns.specs.declared.items.SizedClass.{SizedClass}
use Rattle.lua_patterns.specs.declared.items.SizedItem.{SizedItem}
use Rattle.resty_base.specs.Ascii.{dollar, percent, open_parenthesis, close_parenthesis, star, plus, dash, dot, question_mark, open_bracket, close_bracket}
use Rattle.resty_base.specs.Ascii.{caret, letter_b, letter_f}

-- how many bytes stand before the ']' that closes a set, of which the first so many don't close it; nor does the byte after a '%'
unfoldable pub inside_after : ℕ → List ℕ → Option ℕ
inside_after kept [] = None
inside_after (suc kept) (c ∷ cs) = option_map (λ n. n + 1) (inside_after kept cs)
inside_after zero (c ∷ cs) =
    if c == close_bracket then Some 0 else option_map (λ n. n + 1) (inside_after (if c == percent then 1 else 0) cs)

-- how many bytes a set's inside has, which the text begins with; its first byte never closes it
abbrev pub inside_len : List ℕ → Option ℕ
inside_len text = inside_after (if slice_index text 0 == percent then 2 else 1) text

-- how many bytes open a set: '[' or '[^'
abbrev pub opening_size : List ℕ → ℕ
opening_size text = if slice_index text 1 == caret then 2 else 1

-- the set at the front of a text that begins at an index
unfoldable pub set_at : ℕ → List ℕ → Option SizedClass
set_at at text =
    let opening = opening_size text in
    option_map
    (λ n. record { class = Set (slice_index text 1 == caret) (at + opening) (at + opening + n); size = opening + n + 1 })
    (inside_len (drop opening text))

-- the character class at the front; there is none where a '%' is last or a set isn't closed
unfoldable pub class_at : ℕ → List ℕ → Option SizedClass
class_at at text =
    let first = slice_index text 0 in
    if first == percent then (if nat_lt 1 (length text) then Some (record { class = Letter (slice_index text 1); size = 2 }) else None)
    else if first == open_bracket then set_at at text
    else if first == dot then Some (record { class = Any; size = 1 })
    else Some (record { class = Byte first; size = 1 })

-- how often a class is taken, by the byte after it, and how many bytes say so
abbrev pub repeat_of : ℕ → Repeat
repeat_of c =
    if c == question_mark then Optional else if c == star then Longest else if c == plus then LongestOfSome
    else if c == dash then Shortest else Once

abbrev pub repeat_size : Repeat → ℕ
repeat_size Once = 0
repeat_size Optional = 1
repeat_size Longest = 1
repeat_size LongestOfSome = 1
repeat_size Shortest = 1

-- a wrong item; what stands after it is never met
abbrev pub wrong_at : ℕ → SizedItem
wrong_at at = record { item = Wrong at; size = 1 }

-- a class with what says how often it is taken
abbrev pub repeated_at : ℕ → List ℕ → Option SizedClass → SizedItem
repeated_at at text None = wrong_at at
repeated_at at text (Some found) =
    let repeat = repeat_of (slice_index text found.size) in record { item = Repeated found.class repeat; size = found.size + repeat_size repeat }

-- the item at the front that begins with a '%'
unfoldable pub escaped_at : ℕ → List ℕ → SizedItem
escaped_at at text =
    let second = slice_index text 1 in
    if second == letter_b then (if nat_lt 3 (length text) then record { item = Balanced (slice_index text 2) (slice_index text 3); size = 4 } else wrong_at at)
    else if second == letter_f then wrong_at at
    else if is_ascii_digit second then record { item = Reference second at; size = 2 }
    else repeated_at at text (class_at at text)

-- the item at the front of what stands at an index
unfoldable pub item_at : ℕ → List ℕ → SizedItem
item_at at text =
    let first = slice_index text 0 in
    if first == open_parenthesis then
    (if slice_index text 1 == close_parenthesis then record { item = Position; size = 2 } else record { item = Open at; size = 1 })
    else if first == close_parenthesis then record { item = Close at; size = 1 }
    else if first == percent then escaped_at at text
    else if first == dollar && (length text == 1) then record { item = End; size = 1 }
    else repeated_at at text (class_at at text)

-- the items after the first so many bytes of what stands at an index
unfoldable pub items_after : ℕ → ℕ → List ℕ → List Item
items_after skipped at [] = []
items_after (suc skipped) at (c ∷ cs) = items_after skipped (at + 1) cs
items_after zero at (c ∷ cs) =
    let found = item_at at (c ∷ cs) in found.item ∷ items_after (found.size - 1) (at + 1) cs

-- the items of a pattern from an index on
abbrev pub items_from : List ℕ → ℕ → List Item
items_from pattern at = items_after 0 at (drop at pattern)
