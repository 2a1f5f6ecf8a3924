-- Escapes of bytes (RFC 3986, 2.1 and 2.3; a `+` for a space: URL Standard, 5.1).
use Rattle.std.specs.Prelude.{ℕ, Bool, ◌||◌, ◌==◌, List, [], ◌∷◌, map, if◌then◌else◌}
use Rattle.std.specs.List.{flat_map}
use Rattle.std.specs.Char.{is_ascii_alphanumeric}
use Rattle.percent_encoding.specs.Percent.{percent_encode_byte, percent_decode}
use Rattle.resty_base.specs.Ascii.{dash, dot, underscore, tilde, plus, space}

-- a letter, a digit, or one of `-._~`
abbrev pub is_unreserved : ℕ → Bool
is_unreserved b = is_ascii_alphanumeric b || b == dash || b == dot || b == underscore || b == tilde

-- an unreserved byte as it is, any other as `%` and its two upper-case hex digits
abbrev pub escape_byte : ℕ → List ℕ
escape_byte b = if is_unreserved b then b ∷ [] else percent_encode_byte b

-- the text with each byte escaped that isn't unreserved
abbrev pub escape : List ℕ → List ℕ
escape text = flat_map escape_byte text

-- a `+` stands for a space
abbrev pub plus_to_space : ℕ → ℕ
plus_to_space b = if b == plus then space else b

-- the bytes for which the text stands; a `%` without two hex digits stands for itself
abbrev pub unescape : List ℕ → List ℕ
unescape text = percent_decode (map plus_to_space text)
