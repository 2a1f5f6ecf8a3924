-- Bodies, by the way in which their end is told (RFC 9112, 6).
use Rattle.std.specs.Prelude.{ℕ, Bool, false, ◌||◌, ◌==◌, nat_lt, List, [], ◌++◌, codes, take, flat_map, Option, None, Some, if◌then◌else◌}
use Rattle.std.specs.List.{concat}
use Rattle.std.specs.Str.{bytes_eq}
use Rattle.http_reply.specs.Chunks.{chunk, last_chunk}
use Rattle.http_reply.specs.declared.ends.Framing.{Framing}
use Rattle.http_reply.specs.declared.ends.Framing.TheVariants.{Bodiless, Counted, Chunked, UntilClose}

-- a reply to HEAD, and one of status 204 or 304, has no body (RFC 9110, 6.4.1)
abbrev pub is_bodiless : List ℕ → ℕ → Bool
is_bodiless method status = bytes_eq method (codes "HEAD") || status == 204 || status == 304

-- a body of known length is counted; any other comes in chunks, but to HTTP/1.0, which knows none (RFC 9112, 6.1 and 6.3)
abbrev pub framing_of_body : ℕ → Option ℕ → Framing
framing_of_body minor None = if minor == 0 then UntilClose else Chunked
framing_of_body minor (Some count) = Counted count

-- the framing of the reply to a request of this method and minor version
abbrev pub framing : List ℕ → ℕ → ℕ → Option ℕ → Framing
framing method status minor length = if is_bodiless method status then Bodiless else framing_of_body minor length

-- each piece as a chunk, and the end
abbrev pub chunks : List (List ℕ) → List ℕ
chunks pieces = flat_map chunk pieces ++ last_chunk

-- what is sent of a body that is made piece by piece
abbrev pub body_bytes : Framing → List (List ℕ) → List ℕ
body_bytes Bodiless pieces = []
body_bytes (Counted count) pieces = take count (concat pieces)
body_bytes Chunked pieces = chunks pieces
body_bytes UntilClose pieces = concat pieces

-- so many bytes are fewer than the head says (RFC 9112, 6.3 and 8)
abbrev pub falls_short : Framing → ℕ → Bool
falls_short (Counted count) made = nat_lt made count
falls_short framing made = false
