-- How far the body of a request has come, byte by byte (RFC 9112, sections 6.3 and 7.1).
use Rattle.std.specs.Prelude.{ℕ, ◌+◌, ◌-◌, ◌*◌, ◌^◌, Bool, true, false, ◌==◌, ◌&&◌, nat_lt, if◌then◌else◌}
use Rattle.std.specs.Char.{digit_value}
use Rattle.resty_base.specs.Ascii.{line_feed, carriage_return}
use Rattle.httparse.specs.Ascii.{semicolon}
use Rattle.httparse.specs.Grammar.{is_ows}
use Rattle.http_bodies.specs.declared.states.DataOf.{DataOf}
use Rattle.http_bodies.specs.declared.states.DataOf.TheVariants as part
use Rattle.http_bodies.specs.declared.states.BodyState.{BodyState}
use Rattle.http_bodies.specs.declared.states.BodyState.TheVariants.{Data, Digits, Blanks, Extension, Return, DataEnd}
use Rattle.http_bodies.specs.declared.states.BodyState.TheVariants.{DataReturn, Trailers, TrailersReturn, TrailersLine, Whole, Refused}

-- the most bytes that a chunk line may have, and all trailers together, their ends counted
abbrev pub line_limit : ℕ
line_limit = 16384

-- the next state by how many bytes the line then has, 400 where they are too many
abbrev pub within : ℕ → (ℕ → BodyState) → BodyState
within used next = if nat_lt used line_limit then next (used + 1) else Refused 400

-- the next state, where the byte is the one that is due
abbrev pub expect : ℕ → ℕ → BodyState → BodyState
expect b wanted next = if b == wanted then next else Refused 400

-- behind the last byte of data its end
abbrev pub data_end : DataOf → BodyState
data_end part.Body = Whole
data_end part.Chunk = DataEnd

-- after a byte of data
abbrev pub after_data : ℕ → DataOf → BodyState
after_data more of = if nat_lt 0 more then Data (more - 1) of else data_end of

-- after the digits of a size: blanks, an extension, or the end of the line
abbrev pub after_blanks : ℕ → ℕ → ℕ → BodyState
after_blanks size used b =
    within used
    (λ n. if is_ows b then Blanks size n
    else (if b == semicolon then Extension size n else (if b == carriage_return then Return size n else Refused 400)))

-- a further digit: at most 16 of them
abbrev pub after_digit : ℕ → ℕ → ℕ → BodyState
after_digit size used b = if nat_lt used 16 && nat_lt size (2 ^ 60) then Digits (size * 16 + digit_value b) (used + 1) else Refused 400

-- within the digits of a size, of which there is at least one
abbrev pub after_digits : ℕ → ℕ → ℕ → BodyState
after_digits size used b =
    if nat_lt (digit_value b) 16 then after_digit size used b else (if used == 0 then Refused 400 else after_blanks size used b)

-- an extension holds any byte but CR and LF
abbrev pub after_extension : ℕ → ℕ → ℕ → BodyState
after_extension size used b =
    within used (λ n. if b == carriage_return then Return size n else (if b == line_feed then Refused 400 else Extension size n))

-- after a chunk line: trailers after a size of 0, else data, 413 where the size is above the room
abbrev pub after_size : ℕ → ℕ → BodyState
after_size room size = if size == 0 then Trailers 0 else (if nat_lt room size then Refused 413 else Data (size - 1) part.Chunk)

-- a chunk line ends with CR LF
abbrev pub after_return : ℕ → ℕ → ℕ → ℕ → BodyState
after_return room size used b = within used (λ n. expect b line_feed (after_size room size))

-- at the beginning of a line of trailers, which an empty one ends
abbrev pub after_trailers : ℕ → ℕ → BodyState
after_trailers used b = within used (λ n. if b == line_feed then Whole else (if b == carriage_return then TrailersReturn n else TrailersLine n))

-- after a CR there
abbrev pub after_trailers_return : ℕ → ℕ → BodyState
after_trailers_return used b = within used (λ n. if b == line_feed then Whole else TrailersLine n)

-- within a line of trailers, which stays unread
abbrev pub after_trailers_line : ℕ → ℕ → BodyState
after_trailers_line used b = within used (λ n. if b == line_feed then Trailers n else TrailersLine n)

-- after one more byte, where sizes may come to so many bytes more
abbrev pub after_byte : ℕ → BodyState → ℕ → BodyState
after_byte room (Data more of) b = after_data more of
after_byte room (Digits size used) b = after_digits size used b
after_byte room (Blanks size used) b = after_blanks size used b
after_byte room (Extension size used) b = after_extension size used b
after_byte room (Return size used) b = after_return room size used b
after_byte room DataEnd b = expect b carriage_return DataReturn
after_byte room DataReturn b = expect b line_feed (Digits 0 0)
after_byte room (Trailers used) b = after_trailers used b
after_byte room (TrailersReturn used) b = after_trailers_return used b
after_byte room (TrailersLine used) b = after_trailers_line used b
after_byte room Whole b = Whole
after_byte room (Refused code) b = Refused code

-- the next byte is one of the content
abbrev pub takes_data : BodyState → Bool
takes_data (Data more of) = true
takes_data (Digits size used) = false
takes_data (Blanks size used) = false
takes_data (Extension size used) = false
takes_data (Return size used) = false
takes_data DataEnd = false
takes_data DataReturn = false
takes_data (Trailers used) = false
takes_data (TrailersReturn used) = false
takes_data (TrailersLine used) = false
takes_data Whole = false
takes_data (Refused code) = false

-- the body is whole or refused
abbrev pub is_settled : BodyState → Bool
is_settled (Data more of) = false
is_settled (Digits size used) = false
is_settled (Blanks size used) = false
is_settled (Extension size used) = false
is_settled (Return size used) = false
is_settled DataEnd = false
is_settled DataReturn = false
is_settled (Trailers used) = false
is_settled (TrailersReturn used) = false
is_settled (TrailersLine used) = false
is_settled Whole = true
is_settled (Refused code) = true
