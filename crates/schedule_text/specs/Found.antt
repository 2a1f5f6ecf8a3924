-- What is found in a text where a line has its values. In a text that is no line it may be anything, so a line is read only
-- where what was found is within its ranges and has that very text.
use Rattle.std.specs.Prelude.{ℕ, ◌+◌, ◌-◌, ◌*◌, ◌^◌, ℤ, pos, negsuc, zero, suc, Bool, false, ◌==◌, ◌&&◌, nat_le, nat_lt, nat_eq, if◌then◌else◌}
use Rattle.std.specs.Prelude.{List, [], ◌∷◌, drop, Option, Some, None, decimal}
use Rattle.std.specs.Cmp.Lexicographic.{pointwise}
use Rattle.std.specs.Str.Parse.{digits_value}
use Rattle.resty_base.specs.Ascii.{backslash, carriage_return, dash, double_quote, line_feed, space}
use Rattle.resty_base.specs.Ascii.{digit_zero, letter_a, letter_f, letter_n, letter_r, letter_s, letter_t, letter_x}
use Rattle.resty_base.specs.declared.names.Id.{Id}
use Rattle.resty_base.specs.declared.names.Id.TheVariants as id
use Rattle.resty_base.specs.declared.names.StrandId.{StrandId}
use Rattle.resty_base.specs.declared.names.StrandId.TheVariants as strand
use Rattle.schedule_text.specs.Ranges.{last_number}

-- the text before the first of a byte
abbrev pub before : ℕ → List ℕ → List ℕ
before d [] = []
before d (b ∷ text) = if b == d then [] else b ∷ before d text

-- the text after the first of a byte
abbrev pub after : ℕ → List ℕ → List ℕ
after d [] = []
after d (b ∷ text) = if b == d then text else after d text

-- the first word, which ends before a space
abbrev pub word_of : List ℕ → List ℕ
word_of text = before space text

-- what stands after the first word and its space
abbrev pub rest_of : List ℕ → List ℕ
rest_of text = after space text

-- the words are the same
abbrev pub is : List ℕ → List ℕ → Bool
is word name = pointwise nat_eq word name

-- the text begins with the byte
abbrev pub begins : ℕ → List ℕ → Bool
begins d [] = false
begins d (b ∷ text) = b == d

-- the number whose text this is, 0 where it is none
unfoldable pub number_in : List ℕ → ℕ
number_in text =
    if nat_lt (digits_value 10 text) (2 ^ 64) && pointwise nat_eq (decimal (digits_value 10 text)) text then digits_value 10 text else 0

-- the number after one letter
abbrev pub numbered : List ℕ → ℕ
numbered text = number_in (drop 1 text)

-- a number that isn't above another, else 0
abbrev pub limited : ℕ → ℕ → ℕ
limited most n = if nat_le n most then n else 0

-- a number of at most 32 bits
abbrev pub small_in : List ℕ → ℕ
small_in text = limited 4_294_967_295 (number_in text)

-- a port
abbrev pub port_in : List ℕ → ℕ
port_in text = limited 65_535 (number_in text)

-- a number below 256
abbrev pub octet_in : List ℕ → ℕ
octet_in text = limited 255 (number_in text)

-- the negation of a number
abbrev pub negated : ℕ → ℤ
negated zero = pos 0
negated (suc n) = negsuc n

-- a number that may be below 0
abbrev pub integer_in : List ℕ → ℤ
integer_in text =
    if begins dash text then negated (limited last_number (numbered text)) else pos (limited last_number (number_in text))

-- the connection or the socket
abbrev pub id_in : List ℕ → Id
id_in text = if begins letter_s text then id.Sock (numbered text) else id.Conn (numbered text)

-- the strand
abbrev pub strand_in : List ℕ → StrandId
strand_in text = if begins letter_t text then strand.Job (numbered text) else strand.Conn (numbered text)

-- the socket, where one is named
abbrev pub socket_in : List ℕ → Option ℕ
socket_in text = if begins letter_s text then Some (numbered text) else None

-- the value of a hexadecimal digit, 0 for what is none
abbrev pub hex_value : ℕ → ℕ
hex_value d =
    if nat_le digit_zero d && nat_le d (digit_zero + 9) then d - digit_zero
    else if nat_le letter_a d && nat_le d letter_f then d - letter_a + 10
    else 0

-- the byte that is spelled after `\x`; anything where no two digits follow
abbrev pub hex_pair : List ℕ → ℕ
hex_pair [] = letter_x
hex_pair (high ∷ []) = letter_x
hex_pair (high ∷ low ∷ rest) = hex_value high * 16 + hex_value low

-- the byte that is spelled after `\`; anything where nothing follows
abbrev pub escaped : List ℕ → ℕ
escaped [] = backslash
escaped (b ∷ rest) =
    if b == letter_n then line_feed else if b == letter_r then carriage_return else if b == letter_x then hex_pair rest else b

-- the byte whose spelling begins a text
abbrev pub byte_in : List ℕ → ℕ
byte_in [] = 0
byte_in (b ∷ rest) = if b == backslash then escaped rest else b

-- the length of the spelling that begins a text
abbrev pub spelling_length : List ℕ → ℕ
spelling_length [] = 1
spelling_length (b ∷ rest) = if b == backslash then (if begins letter_x rest then 4 else 2) else 1

-- the bytes that are spelled after so many bytes of a text, up to the next quote
abbrev pub spelled_after : ℕ → List ℕ → List ℕ
spelled_after skipped [] = []
spelled_after (suc skipped) (b ∷ rest) = spelled_after skipped rest
spelled_after zero (b ∷ rest) =
    if b == double_quote then [] else byte_in (b ∷ rest) ∷ spelled_after (spelling_length (b ∷ rest) - 1) rest

-- what stands after that quote
abbrev pub rest_after : ℕ → List ℕ → List ℕ
rest_after skipped [] = []
rest_after (suc skipped) (b ∷ rest) = rest_after skipped rest
rest_after zero (b ∷ rest) = if b == double_quote then rest else rest_after (spelling_length (b ∷ rest) - 1) rest

-- the bytes between the quote that begins a text and the next
unfoldable pub unquoted : List ℕ → List ℕ
unquoted text = spelled_after 1 text

-- what stands after that second quote
unfoldable pub after_quotes : List ℕ → List ℕ
after_quotes text = rest_after 1 text

-- what stands after that second quote and a space
abbrev pub after_quoted : List ℕ → List ℕ
after_quoted text = drop 1 (after_quotes text)
