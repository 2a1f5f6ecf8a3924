-- Captures (Lua 5.1 manual, 5.4.1), in the order of their opening parentheses.
use Rattle.std.specs.Prelude.{ℕ, ◌+◌, ◌-◌, ◌==◌, List, [], ◌∷◌, slice_get, slice_set, Option, Some, None, if◌then◌else◌}
use Rattle.lua_patterns.specs.declared.captures.Cap.{Cap}
use Rattle.lua_patterns.specs.declared.captures.Cap.TheVariants.{Span}
use Rattle.lua_patterns.specs.declared.captures.Capture.{Capture}
use Rattle.lua_patterns.specs.declared.captures.Capture.TheVariants.{Open, Closed}
use Rattle.lua_patterns.specs.declared.captures.OpenCapture.{OpenCapture}
use Rattle.resty_base.specs.Ascii.{digit_zero}

-- the index in the pattern of the first parenthesis that is still open
abbrev pub first_open : List Capture → Option ℕ
first_open [] = None
first_open (Open start at ∷ captures) = Some at
first_open (Closed c ∷ captures) = first_open captures

-- the last open one of a capture and those after it, of which that one is known
abbrev pub last_open_from : Capture → Option OpenCapture → Option OpenCapture
last_open_from capture (Some found) = Some (record { index = found.index + 1; start = found.start; at = found.at })
last_open_from (Open start at) None = Some (record { index = 0; start = start; at = at })
last_open_from (Closed c) None = None

-- the last capture that is still open
unfoldable pub last_open : List Capture → Option OpenCapture
last_open [] = None
last_open (capture ∷ captures) = last_open_from capture (last_open captures)

-- a capture is closed at an index, or opened again
abbrev pub closed_at : ℕ → OpenCapture → List Capture → List Capture
closed_at index found captures = slice_set captures found.index (Closed (Span found.start index))

abbrev pub opened_again : OpenCapture → List Capture → List Capture
opened_again found captures = slice_set captures found.index (Open found.start found.at)

-- what was captured, by those that are closed
abbrev pub closed_ones : List Capture → List Cap
closed_ones [] = []
closed_ones (Open start at ∷ captures) = closed_ones captures
closed_ones (Closed c ∷ captures) = c ∷ closed_ones captures

-- what was captured, if the capture is there and closed
abbrev pub if_closed : Option Capture → Option Cap
if_closed None = None
if_closed (Some (Open start at)) = None
if_closed (Some (Closed c)) = Some c

-- what the capture of a digit holds; they count from '1'
abbrev pub referenced : ℕ → List Capture → Option Cap
referenced digit captures = if digit == digit_zero then None else if_closed (slice_get captures (digit - (digit_zero + 1)))
