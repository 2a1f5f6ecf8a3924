-- The host of an authority, without its port (RFC 9110, 7.2; RFC 3986, 3.2.2).
use Rattle.std.specs.Prelude.{ℕ, ◌+◌, ◌==◌, List, [], ◌∷◌, length, take, if◌then◌else◌}
use Rattle.resty_base.specs.Ascii.{colon, open_bracket, close_bracket}
use Rattle.http_base.specs.Names.{lower}
use Rattle.http_base.specs.Splitting.{before}

-- an address in brackets up to its `]`, any other host up to the first `:`
abbrev pub without_port : List ℕ → List ℕ
without_port [] = []
without_port (b ∷ rest) =
    if b == open_bracket then take (length (before close_bracket (b ∷ rest)) + 1) (b ∷ rest) else before colon (b ∷ rest)

-- the host in lower case
abbrev pub plain_host : List ℕ → List ℕ
plain_host text = lower (without_port text)
