-- The words of the texts: numbers, names, quoted bytes.
use Rattle.std.specs.Prelude.{ℕ, ◌+◌, ◌-◌, ◌/◌, ◌%◌, ◌==◌, ◌&&◌, nat_lt, nat_le, List, [], ◌∷◌, ◌++◌, codes, decimal, if◌then◌else◌}
use Rattle.std.specs.List.{flat_map}
use Rattle.resty_base.specs.Ascii.{backslash, carriage_return, digit_zero, double_quote, letter_a, line_feed, space, tilde}
use Rattle.resty_base.specs.declared.names.Id.{Id}
use Rattle.resty_base.specs.declared.names.Id.TheVariants as id
use Rattle.resty_base.specs.declared.names.StrandId.{StrandId}
use Rattle.resty_base.specs.declared.names.StrandId.TheVariants as strand

-- a connection or a socket
abbrev pub id_text : Id → List ℕ
id_text (id.Conn c) = codes "c" ++ decimal c
id_text (id.Sock n) = codes "s" ++ decimal n

-- a strand
abbrev pub strand_text : StrandId → List ℕ
strand_text (strand.Conn c) = codes "c" ++ decimal c
strand_text (strand.Job n) = codes "t" ++ decimal n

-- a lower-case hexadecimal digit
abbrev pub hex_digit : ℕ → ℕ
hex_digit d = if nat_lt d 10 then digit_zero + d else letter_a - 10 + d

-- a byte within quotes: those from the space to `~` stand for themselves, but `"` and `\` don't
abbrev pub quoted_byte : ℕ → List ℕ
quoted_byte b =
    if b == double_quote then codes "\\\""
    else if b == backslash then codes "\\\\"
    else if b == line_feed then codes "\\n"
    else if b == carriage_return then codes "\\r"
    else if nat_le space b && nat_le b tilde then b ∷ []
    else codes "\\x" ++ hex_digit (b / 16) ∷ hex_digit (b % 16) ∷ []

-- bytes between quotes
abbrev pub quoted : List ℕ → List ℕ
quoted bytes = codes "\"" ++ flat_map quoted_byte bytes ++ codes "\""
