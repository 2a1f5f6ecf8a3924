-- Values of words: numbers, sizes and times (nginx's documentation, "Configuration file measurement units").
use Rattle.std.specs.Prelude.{ℕ, ◌+◌, ◌-◌, ◌*◌, nat_le, ◌&&◌, ◌||◌, ◌==◌, codes, bytes_eq, List, [], ◌∷◌, take, drop, length, Option, Some, None, if◌then◌else◌}
use Rattle.std.specs.List.{prefix_len}
use Rattle.std.specs.Option.{option_and_then}
use Rattle.std.specs.Char.{is_ascii_digit}

-- the greatest number of 64 bits
abbrev pub most_number : ℕ
most_number = 18_446_744_073_709_551_615

-- the greatest time in milliseconds
abbrev pub most_time : ℕ
most_time = 99_999_999_999

-- how many digits stand at the front
abbrev pub digits : List ℕ → ℕ
digits text = prefix_len is_ascii_digit text

-- the number after one more digit
abbrev pub with_digit : ℕ → ℕ → Option ℕ
with_digit number b = if is_ascii_digit b && nat_le (number * 10 + (b - 48)) most_number then Some (number * 10 + (b - 48)) else None

-- the number after more digits
abbrev pub with_digits : ℕ → List ℕ → Option ℕ
with_digits number [] = Some number
with_digits number (b ∷ text) = option_and_then (λ more. with_digits more text) (with_digit number b)

-- the number that the text writes in one or more digits
abbrev pub number_of : List ℕ → Option ℕ
number_of text = if length text == 0 then None else with_digits 0 text

-- the number so many times, where it isn't above the greatest one
abbrev pub scaled : ℕ → ℕ → ℕ → Option ℕ
scaled number factor most = if nat_le (number * factor) most then Some (number * factor) else None

-- how many bytes the unit of a size has
abbrev pub size_unit : List ℕ → Option ℕ
size_unit unit =
    if length unit == 0 then Some 1
    else if bytes_eq unit (codes "k") then Some 1024
    else if bytes_eq unit (codes "m") then Some 1_048_576
    else None

-- how many milliseconds the unit of a time has
abbrev pub time_unit : List ℕ → Option ℕ
time_unit unit =
    if length unit == 0 || bytes_eq unit (codes "s") then Some 1000
    else if bytes_eq unit (codes "ms") then Some 1
    else if bytes_eq unit (codes "m") then Some 60_000
    else if bytes_eq unit (codes "h") then Some 3_600_000
    else None

-- digits before a unit, as so many of its parts, at most the greatest number of them
abbrev pub measured : (List ℕ → Option ℕ) → ℕ → List ℕ → Option ℕ
measured unit most text =
    let count = digits text in
    option_and_then (λ factor. option_and_then (λ number. scaled number factor most) (number_of (take count text))) (unit (drop count text))

-- a size in bytes: digits, and `k` or `m` after them or nothing
abbrev pub size_of : List ℕ → Option ℕ
size_of text = measured size_unit most_number text

-- a time in milliseconds: digits, and `ms`, `s`, `m` or `h` after them; seconds where nothing is there
abbrev pub time_of : List ℕ → Option ℕ
time_of text = measured time_unit most_time text
