-- What a Host field may say: a host and, behind a colon, its port (RFC 9112, section 3.2; RFC 3986, sections 3.2.2 and 3.2.3).
use Rattle.std.specs.Prelude.{ℕ, Bool, true, false, ◌==◌, ◌&&◌, ◌||◌, List, [], ◌∷◌, if◌then◌else◌, Option, None, Some, codes}
use Rattle.std.specs.Char.{is_ascii_alphanumeric}
use Rattle.std.specs.List.{list_all, list_any}
use Rattle.std.specs.Str.{all_ascii_digits}
use Rattle.resty_base.specs.Ascii.{colon, open_bracket, close_bracket}
use Rattle.http_base.specs.Splitting.{before, after}

-- a byte of a name. The standard has a comma among them; here it is none, since two fields that a proxy joined have one.
abbrev pub is_name_byte : ℕ → Bool
is_name_byte b = is_ascii_alphanumeric b || list_any (λ c. b == c) (codes "-._~%!$&'()*+;=")

-- a byte of an address in brackets
abbrev pub is_address_byte : ℕ → Bool
is_address_byte b = is_name_byte b || (b == colon)

-- nothing, or a colon and the digits of a port
abbrev pub is_port : List ℕ → Bool
is_port [] = true
is_port (b ∷ digits) = (b == colon) && all_ascii_digits digits

-- a name, which may be empty, and its port
abbrev pub is_named : List ℕ → Option (List ℕ) → Bool
is_named name None = list_all is_name_byte name
is_named name (Some port) = list_all is_name_byte name && all_ascii_digits port

-- an address that a bracket ends, and its port
abbrev pub is_bracketed : List ℕ → Option (List ℕ) → Bool
is_bracketed address None = false
is_bracketed address (Some port) = list_all is_address_byte address && is_port port

-- a host and its port
abbrev pub is_host : List ℕ → Bool
is_host [] = true
is_host (b ∷ rest) =
    if b == open_bracket then is_bracketed (before close_bracket rest) (after close_bracket rest)
    else is_named (before colon (b ∷ rest)) (after colon (b ∷ rest))
