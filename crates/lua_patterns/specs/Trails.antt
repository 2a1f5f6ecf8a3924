-- The trail at an index of the subject: what is met there, in order of preference (Lua 5.1 manual, 5.4.1).
use Rattle.std.specs.Prelude.{ℕ, zero, suc, ◌+◌, Bool, false, ◌==◌, nat_lt, List, [], ◌∷◌, ◌++◌, drop, length, nat_eq, slice_range, Option, Some, None}
use Rattle.std.specs.Prelude.{option_map, if◌then◌else◌}
use Rattle.std.specs.List.{starts_with}
use Rattle.lua_patterns.specs.declared.items.Repeat.{Repeat}
use Rattle.lua_patterns.specs.declared.items.Repeat.TheVariants.{Once, Optional, Longest, LongestOfSome, Shortest}
use Rattle.lua_patterns.specs.declared.items.Item.{Item}
use Rattle.lua_patterns.specs.declared.items.Item.TheVariants as item
use Rattle.lua_patterns.specs.declared.captures.Cap.{Cap}
use Rattle.lua_patterns.specs.declared.captures.Cap.TheVariants as cap
use Rattle.lua_patterns.specs.declared.captures.Capture.{Capture}
use Rattle.lua_patterns.specs.declared.captures.Capture.TheVariants as capture
use Rattle.lua_patterns.specs.declared.captures.OpenCapture.{OpenCapture}
use Rattle.lua_patterns.specs.Classes.{accepts}
use Rattle.lua_patterns.specs.Captures.{first_open, last_open, closed_at, closed_ones, referenced}

-- a match of the whole pattern: the indices of its first byte and after its last, and its captures
pub record Match : Type 0 where
  pub start : ℕ
  pub end : ℕ
  pub captures : List Cap

-- what is met: a test, a match, a wrong item that begins at an index of the pattern, or one capture too many
pub data Event : Type 0 where
  Test : Event
  Whole : Match → Event
  Wrong : ℕ → Event
  TooMany : Event

-- the class accepts the first byte, where there is one
abbrev pub accepts_first : (ℕ → Bool) → List ℕ → Bool
accepts_first accepted [] = false
accepts_first accepted (c ∷ cs) = accepted c

-- as many bytes as there are, then fewer and fewer: '*'. What follows is given for each index
unfoldable pub longest : (ℕ → Bool) → (ℕ → List Event) → ℕ → List ℕ → List Event
longest accepted next index [] = Test ∷ next index
longest accepted next index (c ∷ cs) =
    Test ∷ (if accepted c then longest accepted next (index + 1) cs ++ next index else next index)

-- no byte, then more and more: '-'
unfoldable pub shortest : (ℕ → Bool) → (ℕ → List Event) → ℕ → List ℕ → List Event
shortest accepted next index [] = next index ++ Test ∷ []
shortest accepted next index (c ∷ cs) =
    next index ++ Test ∷ (if accepted c then shortest accepted next (index + 1) cs else [])

-- a class that is taken once, or as often as the byte after it says
unfoldable pub repeated : (ℕ → Bool) → (ℕ → List Event) → ℕ → List ℕ → Repeat → List Event
repeated accepted next index text Once = Test ∷ (if accepts_first accepted text then next (index + 1) else [])
repeated accepted next index text Optional =
    Test ∷ (if accepts_first accepted text then next (index + 1) ++ next index else next index)
repeated accepted next index text Longest = longest accepted next index text
repeated accepted next index text LongestOfSome =
    Test ∷ (if accepts_first accepted text then longest accepted next (index + 1) (drop 1 text) else [])
repeated accepted next index text Shortest = shortest accepted next index text

-- one byte more
abbrev pub one_more : Option ℕ → Option ℕ
one_more n = option_map (λ k. k + 1) n

-- how many bytes stand up to the closing byte, and with it, that closes the opening one before them and as many others
-- that are open. A byte that opens and closes closes
unfoldable pub closing_len : ℕ → ℕ → ℕ → List ℕ → Option ℕ
closing_len opening closing others [] = None
closing_len opening closing zero (c ∷ cs) =
    if c == closing then Some 1 else one_more (closing_len opening closing (if c == opening then 1 else 0) cs)
closing_len opening closing (suc others) (c ∷ cs) =
    one_more (closing_len opening closing (if c == closing then others else if c == opening then suc (suc others) else suc others) cs)

-- how many bytes '%b' takes at the front: from its opening byte to its closing one
abbrev pub balanced_len : ℕ → ℕ → List ℕ → Option ℕ
balanced_len opening closing [] = None
balanced_len opening closing (c ∷ cs) = if c == opening then one_more (closing_len opening closing 0 cs) else None

-- how many bytes a back reference takes at the front, where the captured bytes stand there; an index that was captured takes none
abbrev pub repeated_len : List ℕ → List ℕ → Cap → Option ℕ
repeated_len subject text (cap.Position p) = None
repeated_len subject text (cap.Span start end) =
    let bytes = slice_range subject start end in if starts_with nat_eq text bytes then Some (length bytes) else None

-- what follows after so many bytes, or nothing
abbrev pub advanced : ℕ → Option ℕ → (ℕ → List Event) → List Event
advanced index None next = []
advanced index (Some n) next = next (index + n)

-- the pattern's end is reached: an open parenthesis is wrong then
abbrev pub whole_unless : ℕ → ℕ → List Capture → Option ℕ → List Event
whole_unless start index captures (Some at) = Wrong at ∷ []
whole_unless start index captures None = Test ∷ Whole (record { start = start; end = index; captures = closed_ones captures }) ∷ []

abbrev pub whole : ℕ → ℕ → List Capture → List Event
whole start index captures = whole_unless start index captures (first_open captures)

-- one capture more, of at most 32
abbrev pub captured : Capture → List Capture → (List Capture → List Event) → List Event
captured one captures next = if nat_lt (length captures) 32 then Test ∷ next (captures ++ one ∷ []) else TooMany ∷ []

-- the last open capture is closed
abbrev pub closed : ℕ → ℕ → List Capture → Option OpenCapture → (List Capture → List Event) → List Event
closed at index captures None next = Wrong at ∷ []
closed at index captures (Some found) next = Test ∷ next (closed_at index found captures)

-- a back reference, where the capture is closed
abbrev pub referred : List ℕ → ℕ → ℕ → Option Cap → (ℕ → List Event) → List Event
referred subject at index None next = Wrong at ∷ []
referred subject at index (Some c) next = Test ∷ advanced index (repeated_len subject (drop index subject) c) next

-- an item at an index of the subject; what follows is given for each index and captures
unfoldable pub item_trail : List ℕ → List ℕ → Item → (ℕ → List Capture → List Event) → ℕ → List Capture → List Event
item_trail subject pattern (item.Repeated class repeat) next index captures =
    repeated (accepts pattern class) (λ p. next p captures) index (drop index subject) repeat
item_trail subject pattern (item.Open at) next index captures = captured (capture.Open index at) captures (next index)
item_trail subject pattern item.Position next index captures = captured (capture.Closed (cap.Position index)) captures (next index)
item_trail subject pattern (item.Close at) next index captures = closed at index captures (last_open captures) (next index)
item_trail subject pattern (item.Balanced opening closing) next index captures =
    Test ∷ advanced index (balanced_len opening closing (drop index subject)) (λ p. next p captures)
item_trail subject pattern (item.Reference digit at) next index captures =
    referred subject at index (referenced digit captures) (λ p. next p captures)
item_trail subject pattern item.End next index captures = if index == length subject then next index captures else Test ∷ []
item_trail subject pattern (item.Wrong at) next index captures = Wrong at ∷ []

-- the trail of items at an index, of a match that begins at start
unfoldable pub trail : List ℕ → List ℕ → ℕ → List Item → ℕ → List Capture → List Event
trail subject pattern start [] index captures = whole start index captures
trail subject pattern start (item ∷ items) index captures =
    item_trail subject pattern item (trail subject pattern start items) index captures
