-- Chunks: the size of a piece in hex, and the piece (RFC 9112, 7.1).
use Rattle.std.specs.Prelude.{ℕ, false, List, [], ◌∷◌, ◌++◌, codes, length}
use Rattle.std.specs.Fmt.{digits}
use Rattle.http_reply.specs.Lines.{line_end}

-- a size in lower-case hex, without leading zeros
abbrev pub size_digits : ℕ → List ℕ
size_digits size = digits 16 false size

-- the line before so many bytes
abbrev pub chunk_start : ℕ → List ℕ
chunk_start size = size_digits size ++ line_end

-- the piece as a chunk; a piece of no bytes is none, since a size of 0 ends the body
abbrev pub chunk : List ℕ → List ℕ
chunk [] = []
chunk (b ∷ piece) = chunk_start (length (b ∷ piece)) ++ (b ∷ piece) ++ line_end

-- what comes after all chunks: the size 0, and no trailers
abbrev pub last_chunk : List ℕ
last_chunk = codes "0" ++ line_end ++ line_end
