-- Chunked bodies by their grammar (RFC 9112, section 7.1): trees, the bytes of each, and which of them are well formed.
use Rattle.std.specs.Prelude.{◌≡◌, ℕ, ◌+◌, ◌<◌, ◌≤◌, Bool, true, not, ◌&&◌, ◌==◌, List, [], ◌∷◌, ◌++◌, length, flat_map}
use Rattle.std.specs.List.{list_all, AllByRecursion}
use Rattle.resty_base.specs.Ascii.{line_feed}
use Rattle.httparse.specs.Grammar.{LineEnd, crlf, print_end, ChunkLine, print_chunk_line, IsChunkLine, chunk_size}
use Rattle.http_in.specs.Lines.{is_empty_line}
use Rattle.http_bodies.specs.States.{line_limit}

-- a chunk line and the bytes that it counts
pub record Chunk : Type 0 where
  pub line : ChunkLine
  pub bytes : List ℕ

-- chunk = chunk-size [ chunk-ext ] CRLF chunk-data CRLF
abbrev pub print_chunk : Chunk → List ℕ
print_chunk chunk = print_chunk_line chunk.line ++ (chunk.bytes ++ print_end crlf)

-- the size is above 0, and there are so many bytes
pub record IsChunk (chunk : Chunk) : Type 0 where
  pub line : IsChunkLine chunk.line
  pub some : 0 < length chunk.bytes
  pub size : chunk_size chunk.line ≡ length chunk.bytes

-- the lines after the last chunk, without their LF, and the empty line that ends them; they aren't read as fields
pub record Trailers : Type 0 where
  pub lines : List (List ℕ)
  pub end : LineEnd

-- a line of trailers holds no LF, and isn't empty
abbrev pub is_trailer : List ℕ → Bool
is_trailer line = list_all (λ b. not (b == line_feed)) line && not (is_empty_line line)

-- trailer-section CRLF
abbrev pub print_trailers : Trailers → List ℕ
print_trailers trailers = flat_map (λ line. line ++ line_feed ∷ []) trailers.lines ++ print_end trailers.end

pub record ChunkedBody : Type 0 where
  pub chunks : List Chunk
  pub last : ChunkLine
  pub trailers : Trailers

-- chunked-body = *chunk last-chunk trailer-section CRLF
abbrev pub print_chunked : ChunkedBody → List ℕ
print_chunked body = flat_map print_chunk body.chunks ++ (print_chunk_line body.last ++ print_trailers body.trailers)

-- what the chunks hold
abbrev pub content_of : List Chunk → List ℕ
content_of chunks = flat_map (λ chunk. chunk.bytes) chunks

-- each part is of its form, and the last chunk has the size 0
pub record IsChunkedBody (body : ChunkedBody) : Type 0 where
  pub chunks : AllByRecursion IsChunk body.chunks
  pub last : IsChunkLine body.last
  pub ends : chunk_size body.last ≡ 0
  pub trailers : list_all is_trailer body.trailers.lines ≡ true

-- a line of so many bytes at most
abbrev pub IsShort : ℕ → ChunkLine → Type 0
IsShort limit line = length (print_chunk_line line) ≤ limit

-- no chunk line has more bytes than that, nor have all trailers together
pub record IsWithin (limit : ℕ) (body : ChunkedBody) : Type 0 where
  pub chunks : AllByRecursion (λ chunk. IsShort limit chunk.line) body.chunks
  pub last : IsShort limit body.last
  pub trailers : length (print_trailers body.trailers) ≤ limit

-- the bytes are that body, whose lines aren't too long, and then the rest
pub record ReadsChunked (bytes : List ℕ) (body : ChunkedBody) (rest : List ℕ) : Type 0 where
  pub form : IsChunkedBody body
  pub within : IsWithin line_limit body
  pub here : bytes ≡ print_chunked body ++ rest

-- the bytes are chunks, then the line of one that brings their sizes above max
pub record IsTooLarge (max : ℕ) (bytes : List ℕ) : Type 0 where
  pub chunks : List Chunk
  pub line : ChunkLine
  pub rest : List ℕ
  pub forms : AllByRecursion IsChunk chunks
  pub form : IsChunkLine line
  pub short_lines : AllByRecursion (λ chunk. IsShort line_limit chunk.line) chunks
  pub short : IsShort line_limit line
  pub here : bytes ≡ flat_map print_chunk chunks ++ (print_chunk_line line ++ rest)
  pub below : length (content_of chunks) ≤ max
  pub above : max < length (content_of chunks) + chunk_size line
