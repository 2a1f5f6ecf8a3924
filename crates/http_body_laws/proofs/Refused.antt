-- Bytes that are refused with 400 begin no chunked body.
use Rattle.std.proofs.Common.{◌≡◌, ℕ, ◌+◌, ◌<◌, ◌≤◌, List, [], ◌∷◌, ◌++◌, length, sym, refl, ap, ◌∙◌, inl, inr, arith, append_assoc, length-append}
use Rattle.std.specs.Prelude.{flat_map}
use Rattle.std.specs.List.{AllByRecursion}
use Rattle.std.proofs.lemmas.Bool.{cases_lt}
use Rattle.httparse.specs.Ascii.{crlf_bytes}
use Rattle.httparse.specs.Grammar.{ChunkLine, print_chunk_line, chunk_size, IsChunkLine}
use Rattle.http_bodies.specs.declared.states.BodyState.TheVariants.{Digits, Whole, Refused}
use Rattle.http_bodies.specs.Records.{Body}
use Rattle.http_bodies.specs.States.{line_limit}
use Rattle.http_bodies.specs.Bodies.{body_at, after_bytes}
use Rattle.http_bodies.proofs.Pieces.{after_bytes-append, settled-stays}
use Rattle.http_body_laws.specs.ChunkedBodies.{Chunk, print_chunk, IsChunk, content_of, IsShort, ChunkedBody, print_trailers, ReadsChunked, IsTooLarge}
use Rattle.http_body_laws.proofs.Complete.{read_whole, refused}

-- chunks after so many bytes of content, up to the line that brings it above the limit
record Above (max count : ℕ) (chunks : List Chunk) (after : List ℕ) : Type 0 where
  front : List Chunk
  line : ChunkLine
  rest : List ℕ
  forms : AllByRecursion IsChunk front
  form : IsChunkLine line
  short_lines : AllByRecursion (λ (c : Chunk). IsShort line_limit c.line) front
  short : IsShort line_limit line
  here : flat_map print_chunk chunks ++ after ≡ flat_map print_chunk front ++ (print_chunk_line line ++ rest)
  below : count + length (content_of front) ≤ max
  above : max < count + length (content_of front) + chunk_size line

abbrev AllForms : List Chunk → Type 0
AllForms chunks = AllByRecursion IsChunk chunks

abbrev AllShort : List Chunk → Type 0
AllShort chunks = AllByRecursion (λ (c : Chunk). IsShort line_limit c.line) chunks

find : (max : ℕ) (chunks : List Chunk) (count : ℕ) (after : List ℕ) → AllForms chunks → AllShort chunks → count ≤ max → max < count + length (content_of chunks) → Above max count chunks after
find max [] count after forms short low high = absurd (omega arith)
find max (c ∷ cs) count after forms short low high =
    let all : length (content_of (c ∷ cs)) ≡ length c.bytes + length (content_of cs) = length-append c.bytes (content_of cs) in
    elim (cases_lt max (count + length c.bytes)) [
      | inl over ↦ record {
        front = [];
        line = c.line;
        rest = c.bytes ++ (crlf_bytes ++ (flat_map print_chunk cs ++ after));
        forms = tt;
        form = forms.0.line;
        short_lines = tt;
        short = short.0;
        here = regrouped (print_chunk_line c.line) c.bytes (flat_map print_chunk cs);
        below = omega (arith, low);
        above = omega (arith, over, forms.0.size);
      }
      | inr under ↦
          let r = find max cs (count + length c.bytes) after forms.1 short.1 under (omega (arith, all, high)) in
          let more : length (content_of (c ∷ r.front)) ≡ length c.bytes + length (content_of r.front) = length-append c.bytes (content_of r.front) in
          record {
            front = c ∷ r.front;
            line = r.line;
            rest = r.rest;
            forms = (forms.0, r.forms);
            form = r.form;
            short_lines = (short.0, r.short_lines);
            short = r.short;
            here = append_assoc (print_chunk c) (flat_map print_chunk cs) after ∙ ap (λ x. print_chunk c ++ x) r.here ∙ sym (append_assoc (print_chunk c) (flat_map print_chunk r.front) (print_chunk_line r.line ++ r.rest));
            below = omega (arith, more, r.below);
            above = omega (arith, more, r.above);
          }
    ]
  where
    regrouped : (xs ys zs : List ℕ) → ((xs ++ (ys ++ crlf_bytes)) ++ zs) ++ after ≡ xs ++ (ys ++ (crlf_bytes ++ (zs ++ after)))
    regrouped xs ys zs = simp append_assoc

too_large : (max : ℕ) (bytes : List ℕ) (b : ChunkedBody) (rest : List ℕ) → ReadsChunked bytes b rest → max < length (content_of b.chunks) → IsTooLarge max bytes
too_large max bytes b rest reads high =
    let after = (print_chunk_line b.last ++ print_trailers b.trailers) ++ rest in
    let r = find max b.chunks 0 after reads.form.chunks reads.within.chunks (omega arith) (omega (arith, high)) in
    record {
      chunks = r.front;
      line = r.line;
      rest = r.rest;
      forms = r.forms;
      form = r.form;
      short_lines = r.short_lines;
      short = r.short;
      here = reads.here ∙ append_assoc (flat_map print_chunk b.chunks) (print_chunk_line b.last ++ print_trailers b.trailers) rest ∙ r.here;
      below = omega (arith, r.below);
      above = omega (arith, r.above);
    }

abbrev from : ℕ → Body
from max = body_at max (Digits 0 0) []

pub none : (max : ℕ) (bytes : List ℕ) → (after_bytes (from max) bytes).state ≡ Refused 400
    → (more : List ℕ) (b : ChunkedBody) (rest : List ℕ) → ¬ (ReadsChunked (bytes ++ more) b rest)
none max bytes e more b rest reads =
    elim (cases_lt max (length (content_of b.chunks))) [
      | inl over ↦ let f : Refused 400 ≡ Refused 413 = sym stays ∙ refused max (bytes ++ more) (too_large max (bytes ++ more) b rest reads over) in
          let n : ◌≡◌ {A = ℕ} 400 413 = cc in omega arith
      | inr under ↦ let f : Refused 400 ≡ Whole = sym stays ∙ ap (λ (r : Body). r.state) (read_whole max (bytes ++ more) b rest reads under).0 in cc
    ]
  where
    here : Body
    here = after_bytes (from max) bytes

    again : (r : Body) → r.state ≡ Refused 400 → (after_bytes r more).state ≡ Refused 400
    again r is = ap (λ s. (after_bytes (body_at r.max s r.content) more).state) is ∙ ap (λ (t : Body). t.state) (settled-stays r.max (Refused 400) r.content more refl)

    stays : (after_bytes (from max) (bytes ++ more)).state ≡ Refused 400
    stays = ap (λ (r : Body). r.state) (sym (after_bytes-append (from max) bytes more)) ∙ again (after_bytes (from max) bytes) e
