-- The scanner that finds the end of a head: what it knows of the bytes that it was given.
use Rattle.std.specs.Prelude.{ℕ, Bool, true, false, ◌==◌, List, [], ◌∷◌, if◌then◌else◌}
use Rattle.resty_base.specs.Ascii.{line_feed, carriage_return}
use Rattle.http_in.specs.declared.scan.HeadScan.{HeadScan}
use Rattle.http_in.specs.declared.scan.HeadScan.TheVariants.{Empty, EmptyReturn, Line, LineEnd, LineEndReturn, Whole}

-- after one more byte
abbrev pub after_byte : HeadScan → ℕ → HeadScan
after_byte Empty b = if b == line_feed then Empty else (if b == carriage_return then EmptyReturn else Line)
after_byte EmptyReturn b = if b == line_feed then Empty else Line
after_byte Line b = if b == line_feed then LineEnd else Line
after_byte LineEnd b = if b == line_feed then Whole else (if b == carriage_return then LineEndReturn else Line)
after_byte LineEndReturn b = if b == line_feed then Whole else Line
after_byte Whole b = Whole

-- after more bytes
abbrev pub after_bytes : HeadScan → List ℕ → HeadScan
after_bytes scan [] = scan
after_bytes scan (b ∷ bs) = after_bytes (after_byte scan b) bs

-- the scanner that was given these bytes
abbrev pub scan_of : List ℕ → HeadScan
scan_of bytes = after_bytes Empty bytes

-- the end of the head is among the bytes that it was given
abbrev pub has_ended : HeadScan → Bool
has_ended Empty = false
has_ended EmptyReturn = false
has_ended Line = false
has_ended LineEnd = false
has_ended LineEndReturn = false
has_ended Whole = true
