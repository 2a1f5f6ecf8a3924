-- Names and values that a header field may have (RFC 9110, 5.1, 5.5 and 5.6.2), and names as programs write them.
use Rattle.std.specs.Prelude.{ℕ, Bool, ◌&&◌, ◌==◌, List, map, length, nat_lt, nat_le, if◌then◌else◌}
use Rattle.std.specs.List.{list_all}
use Rattle.http_header.specs.Token.{is_token_byte, is_value_byte}
use Rattle.resty_base.specs.Ascii.{dash, underscore}

-- a name is a token of at most 65,535 bytes
abbrev pub is_name : List ℕ → Bool
is_name name = nat_lt 0 (length name) && nat_le (length name) 65_535 && list_all is_token_byte name

-- a value has no control bytes but tabs
abbrev pub is_value : List ℕ → Bool
is_value value = list_all is_value_byte value

-- the name with each `_` made `-`: programs write `content_type` for `content-type`
abbrev pub dashed : List ℕ → List ℕ
dashed name = map (λ b. if b == underscore then dash else b) name
