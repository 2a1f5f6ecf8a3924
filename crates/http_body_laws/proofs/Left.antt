-- What is left of the grammar in each state, where the bytes end in this one.
use Rattle.std.proofs.Common.{◌≡◌, ℕ, ◌+◌, ◌<◌, ◌≤◌, ◌⊎◌, Bool, true, not, ◌==◌, List, [], ◌∷◌, ◌++◌, length, Option, Some, None, ap, arith, append_assoc, length-append}
use Rattle.std.specs.Prelude.{flat_map, ⊤}
use Rattle.std.specs.List.{list_all, AllByRecursion}
use Rattle.std.specs.Str.Parse.{digits_value_after, AllDigits}
use Rattle.resty_base.specs.Ascii.{line_feed}
use Rattle.httparse.specs.Ascii.{crlf_bytes}
use Rattle.httparse.specs.Grammar.{is_ows, is_extension_byte, print_extension, ChunkLine, print_chunk_line, chunk_size, IsChunkLine}
use Rattle.http_bodies.specs.declared.states.DataOf.TheVariants as part
use Rattle.http_bodies.specs.declared.states.BodyState.{BodyState}
use Rattle.http_bodies.specs.declared.states.BodyState.TheVariants.{Data, Digits, Blanks, Extension, Return, DataEnd, DataReturn, Trailers, TrailersReturn, TrailersLine, Whole, Refused}
use Rattle.http_body_laws.specs.ChunkedBodies.{Chunk, print_chunk, IsChunk, is_trailer, print_trailers, content_of, IsShort}
use Rattle.http_body_laws.specs.ChunkedBodies.{Trailers as TrailerLines}

-- no LF is among the bytes
abbrev pub is_in_line : List ℕ → Bool
is_in_line bytes = list_all (λ b. not (b == line_feed)) bytes

-- the bytes after `;`
abbrev pub extension_text : Option (List ℕ) → List ℕ
extension_text None = []
extension_text (Some text) = text

-- the parts of a chunk line, and how many bytes it has
pub line-parts : (l : ChunkLine) → print_chunk_line l ≡ l.digits ++ (l.pad ++ (print_extension l.extension ++ crlf_bytes))
unfolding print_chunk_line
line-parts l = grouped l.digits l.pad (print_extension l.extension)
  where
    grouped : (xs ys zs : List ℕ) → ((xs ++ ys) ++ zs) ++ crlf_bytes ≡ xs ++ (ys ++ (zs ++ crlf_bytes))
    grouped xs ys zs = simp append_assoc

pub line-length : (l : ChunkLine) → length (print_chunk_line l) ≡ length l.digits + (length l.pad + (length (print_extension l.extension) + 2))
line-length l =
    let whole = ap length (line-parts l) in
    let first = length-append l.digits (l.pad ++ (print_extension l.extension ++ crlf_bytes)) in
    let second = length-append l.pad (print_extension l.extension ++ crlf_bytes) in
    let third = length-append (print_extension l.extension) crlf_bytes in
    omega (arith, whole, first, second, third)

-- bytes end in the state `end`; lines may have `limit` bytes, and content `max`
module _ (end : BodyState) (limit max : ℕ) where
  -- trailers that so many bytes of them came before
  pub record TrailersThen (bound came : ℕ) (input rest : List ℕ) : Type 0 where
    pub trailers : TrailerLines
    pub form : list_all is_trailer trailers.lines ≡ true
    pub short : came + length (print_trailers trailers) ≤ bound
    pub here : input ≡ print_trailers trailers ++ rest

  -- the rest of a line of trailers, and trailers
  pub record LineThen (came : ℕ) (input rest : List ℕ) : Type 0 where
    pub line : List ℕ
    pub trailers : TrailerLines
    pub in_line : is_in_line line ≡ true
    pub form : list_all is_trailer trailers.lines ≡ true
    pub short : came + length line + 1 + length (print_trailers trailers) ≤ limit
    pub here : input ≡ line ++ (line_feed ∷ (print_trailers trailers ++ rest))

  -- after the line of the last chunk that is read: trailers, or the end for its size
  abbrev pub LastThen : ℕ → ℕ → List ℕ → List ℕ → Type 0
  LastThen count size input rest = ((end ≡ Whole) × (size ≡ 0) × TrailersThen limit 0 input rest) ⊎ ((end ≡ Refused 413) × (max < count + size))

  -- chunks, after so many bytes of content
  pub record ChunksThen (count : ℕ) (input body rest : List ℕ) : Type 0 where
    pub chunks : List Chunk
    pub last : ChunkLine
    pub after : List ℕ
    pub forms : AllByRecursion IsChunk chunks
    pub short_lines : AllByRecursion (λ chunk. IsShort limit chunk.line) chunks
    pub form : IsChunkLine last
    pub short : IsShort limit last
    pub here : input ≡ flat_map print_chunk chunks ++ (print_chunk_line last ++ after)
    pub body_is : body ≡ content_of chunks
    pub below : count ≤ max → count + length (content_of chunks) ≤ max
    pub then : LastThen (count + length (content_of chunks)) (chunk_size last) after rest

  -- so many bytes of data, CR LF and more chunks
  pub record DataThen (count size : ℕ) (input body rest : List ℕ) : Type 0 where
    pub bytes : List ℕ
    pub after : List ℕ
    pub more : List ℕ
    pub size_is : length bytes ≡ size
    pub here : input ≡ bytes ++ (crlf_bytes ++ after)
    pub body_is : body ≡ bytes ++ more
    pub then : ChunksThen (count + size) after more rest

  -- after a chunk line
  abbrev pub AfterLine : ℕ → ℕ → List ℕ → List ℕ → List ℕ → Type 0
  AfterLine count size input body rest =
      (LastThen count size input rest × (body ≡ [])) ⊎ ((0 < size) × (count + size ≤ max) × DataThen count size input body rest)

  -- the rest of an extension
  pub record TextThen (count size came : ℕ) (input body rest : List ℕ) : Type 0 where
    pub text : List ℕ
    pub after : List ℕ
    pub is_text : list_all is_extension_byte text ≡ true
    pub short : came + length text + 2 ≤ limit
    pub here : input ≡ text ++ (crlf_bytes ++ after)
    pub then : AfterLine count size after body rest

  -- after the digits of a size
  pub record BlanksThen (count size came : ℕ) (input body rest : List ℕ) : Type 0 where
    pub blanks : List ℕ
    pub extension : Option (List ℕ)
    pub after : List ℕ
    pub are_blank : list_all is_ows blanks ≡ true
    pub is_text : list_all is_extension_byte (extension_text extension) ≡ true
    pub short : came + length blanks + length (print_extension extension) + 2 ≤ limit
    pub here : input ≡ blanks ++ (print_extension extension ++ (crlf_bytes ++ after))
    pub then : AfterLine count size after body rest

  -- more digits of a size
  pub record DigitsThen (count size came : ℕ) (input body rest : List ℕ) : Type 0 where
    pub digits : List ℕ
    pub after : List ℕ
    pub are_digits : AllDigits 16 digits
    pub some : came ≡ 0 → 0 < length digits
    pub few : came ≤ 16 → came + length digits ≤ 16
    pub here : input ≡ digits ++ after
    pub then : BlanksThen count (digits_value_after 16 size digits) (came + length digits) after body rest

  -- by the state, after so many bytes of content
  abbrev pub Left : BodyState → ℕ → List ℕ → List ℕ → List ℕ → Type 0
  Left (Data more part.Chunk) count input body rest = DataThen count (more + 1) input body rest
  Left (Data more part.Body) count input body rest = ⊤
  Left (Digits size came) count input body rest = DigitsThen count size came input body rest
  Left (Blanks size came) count input body rest = BlanksThen count size came input body rest
  Left (Extension size came) count input body rest = TextThen count size came input body rest
  Left (Return size came) count input body rest = (after : List ℕ) × (input ≡ line_feed ∷ after) × (came + 1 ≤ limit) × AfterLine count size after body rest
  Left DataEnd count input body rest = (after : List ℕ) × (input ≡ crlf_bytes ++ after) × ChunksThen count after body rest
  Left DataReturn count input body rest = (after : List ℕ) × (input ≡ line_feed ∷ after) × ChunksThen count after body rest
  Left (Trailers came) count input body rest = (end ≡ Whole) × (body ≡ []) × TrailersThen limit came input rest
  Left (TrailersReturn came) count input body rest = (end ≡ Whole) × (body ≡ []) × TrailersThen (limit + 1) came (13 ∷ input) rest
  Left (TrailersLine came) count input body rest = (end ≡ Whole) × (body ≡ []) × LineThen came input rest
  Left Whole count input body rest = (end ≡ Whole) × (input ≡ rest) × (body ≡ [])
  Left (Refused code) count input body rest = (end ≡ Refused code) × (input ≡ rest) × (body ≡ [])
