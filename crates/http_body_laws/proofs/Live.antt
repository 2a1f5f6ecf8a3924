-- Where a chunked body is neither whole nor refused, some bytes can follow that make it one by the grammar.
use Rattle.std.proofs.Common.{◌≡◌, ℕ, zero, suc, ◌+◌, ◌*◌, ◌≤◌, true, false, List, [], ◌∷◌, ◌++◌, length, replicate, None, refl, ap, ◌∙◌, subst, inl, inr, arith, append-nil}
use Rattle.std.proofs.lemmas.List.{length-replicate}
use Rattle.std.specs.Prelude.{flat_map}
use Rattle.std.specs.Char.{digit_value}
use Rattle.httparse.specs.Ascii.{crlf_bytes}
use Rattle.httparse.specs.Grammar.{crlf, print_chunk_line}
use Rattle.http_bodies.specs.declared.states.DataOf.TheVariants as part
use Rattle.http_bodies.specs.declared.states.BodyState.{BodyState}
use Rattle.http_bodies.specs.declared.states.BodyState.TheVariants.{Data, Digits, Blanks, Extension, Return, DataEnd, DataReturn, Trailers, TrailersReturn, TrailersLine, Whole, Refused}
use Rattle.http_bodies.specs.States.{line_limit, is_settled}
use Rattle.http_bodies.specs.Bodies.{body_at, after_bytes}
use Rattle.http_body_laws.specs.ChunkedBodies.{print_chunk, print_trailers, ChunkedBody, print_chunked, IsChunkedBody}
use Rattle.http_body_laws.proofs.Left as left
use Rattle.http_body_laws.proofs.Sound as sound

-- how many bytes of a line came, and how many bytes of data may be due
abbrev came_of : BodyState → ℕ
came_of (Blanks size came) = came
came_of (Extension size came) = came
came_of (Return size came) = came
came_of (Digits size came) = came
came_of (Trailers came) = came
came_of (TrailersReturn came) = came
came_of (TrailersLine came) = came
came_of s = 0

abbrev due_of : BodyState → ℕ
due_of (Data more of) = more + 1
due_of (Digits size came) = size * 16
due_of (Blanks size came) = size
due_of (Extension size came) = size
due_of (Return size came) = size
due_of s = 0

module _ (limit max most : ℕ) (wide : line_limit ≤ limit) (large : max ≤ most) where
  abbrev Left : BodyState → ℕ → List ℕ → List ℕ → Type 0
  Left s count input body = left.Left Whole limit most s count input body []

  no_trailers : (bound came : ℕ) → came + 2 ≤ bound → left.TrailersThen Whole limit most bound came (13 ∷ 10 ∷ []) []
  no_trailers bound came short = record { trailers = record { lines = []; end = crlf }; form = refl; short = omega (arith, short); here = refl }

  abbrev last_bytes : List ℕ
  last_bytes = 48 ∷ 13 ∷ 10 ∷ 13 ∷ 10 ∷ []

  no_chunks : (count : ℕ) → left.ChunksThen Whole limit most count last_bytes [] []
  no_chunks count = sound.begins Whole limit max most (inl refl) wide large count last_bytes [] [] (record {
    digits = 48 ∷ [];
    after = 13 ∷ 10 ∷ 13 ∷ 10 ∷ [];
    are_digits = (omega arith, tt);
    some = λ e. omega arith;
    few = λ l. omega arith;
    here = refl;
    then = record {
      blanks = [];
      extension = None;
      after = 13 ∷ 10 ∷ [];
      are_blank = refl;
      is_text = refl;
      short = omega (arith, wide);
      here = refl;
      then = inl (inl (refl, refl, no_trailers limit 0 (omega (arith, wide))), refl);
    };
  })

  abbrev data_bytes : ℕ → List ℕ
  data_bytes size = replicate size 0 ++ (crlf_bytes ++ last_bytes)

  data_then : (count size : ℕ) → left.DataThen Whole limit most count size (data_bytes size) (replicate size 0 ++ []) []
  data_then count size = record {
    bytes = replicate size 0;
    after = last_bytes;
    more = [];
    size_is = length-replicate size 0;
    here = refl;
    body_is = refl;
    then = no_chunks (count + size);
  }

  line_then : (count size : ℕ) → count + size ≤ most → (w body : List ℕ) × left.AfterLine Whole limit most count size w body []
  line_then count zero fits = (13 ∷ 10 ∷ [], [], inl (inl (refl, refl, no_trailers limit 0 (omega (arith, wide))), refl))
  line_then count (suc n) fits = (data_bytes (suc n), replicate (suc n) 0 ++ [], inr (omega arith, fits, data_then count (suc n)))

  blanks_then : (count size came : ℕ) → came + 2 ≤ limit → count + size ≤ most → (w body : List ℕ) × left.BlanksThen Whole limit most count size came w body []
  blanks_then count size came short fits =
      let t = line_then count size fits in
      (13 ∷ 10 ∷ t.0, t.1, record { blanks = []; extension = None; after = t.0; are_blank = refl; is_text = refl; short = omega (arith, short); here = refl; then = t.2 })

  digits_then : (count size came : ℕ) → came + 3 ≤ limit → count + size * 16 ≤ most → (w body : List ℕ) × left.DigitsThen Whole limit most count size came w body []
  digits_then count size zero short fits =
      let t = blanks_then count (size * 16 + digit_value 48) 1 (omega (arith, short)) (omega (arith, fits)) in
      (48 ∷ t.0, t.1, record { digits = 48 ∷ []; after = t.0; are_digits = (omega arith, tt); some = λ e. omega arith; few = λ l. omega arith; here = refl; then = t.2 })
  digits_then count size (suc came) short fits =
      let same : suc came ≡ suc came + 0 = omega arith in
      let t = blanks_then count size (suc came) (omega (arith, short)) (omega (arith, fits)) in
      (t.0, t.1, record { digits = []; after = t.0; are_digits = tt; some = λ e. absurd (omega (arith, e)); few = λ l. omega (arith, l); here = refl; then = subst (λ n. left.BlanksThen Whole limit most count size n t.0 t.1 []) same t.2 })

  finish : (s : BodyState) (count : ℕ) → is_settled s ≡ false → came_of s + 3 ≤ limit → count + due_of s ≤ most → (w body : List ℕ) × Left s count w body
  finish (Data more part.Chunk) count k short fits = (data_bytes (more + 1), replicate (more + 1) 0 ++ [], data_then count (more + 1))
  finish (Data more part.Body) count k short fits = ([], [], tt)
  finish (Digits size came) count k short fits = digits_then count size came short fits
  finish (Blanks size came) count k short fits = blanks_then count size came (omega (arith, short)) fits
  finish (Extension size came) count k short fits =
      let t = line_then count size fits in
      (13 ∷ 10 ∷ t.0, t.1, record { text = []; after = t.0; is_text = refl; short = omega (arith, short); here = refl; then = t.2 })
  finish (Return size came) count k short fits =
      let t = line_then count size fits in
      (10 ∷ t.0, t.1, (t.0, refl, omega (arith, short), t.2))
  finish DataEnd count k short fits = (13 ∷ 10 ∷ last_bytes, [], (last_bytes, refl, no_chunks count))
  finish DataReturn count k short fits = (10 ∷ last_bytes, [], (last_bytes, refl, no_chunks count))
  finish (Trailers came) count k short fits = (13 ∷ 10 ∷ [], [], (refl, refl, no_trailers limit came (omega (arith, short))))
  finish (TrailersReturn came) count k short fits = (10 ∷ [], [], (refl, refl, no_trailers (limit + 1) came (omega (arith, short))))
  finish (TrailersLine came) count k short fits =
      (10 ∷ 13 ∷ 10 ∷ [], [], (refl, refl, record { line = []; trailers = record { lines = []; end = crlf }; in_line = refl; form = refl; short = omega (arith, short); here = refl }))
  finish Whole count k short fits = absurd (let f : true ≡ false = k in cc)
  finish (Refused code) count k short fits = absurd (let f : true ≡ false = k in cc)

  tree : (body bytes : List ℕ) → left.ChunksThen Whole limit most 0 bytes body [] → (b : ChunkedBody) × IsChunkedBody b × (bytes ≡ print_chunked b)
  tree body bytes t = elim t.then [
    | inl w ↦ (
      record { chunks = t.chunks; last = t.last; trailers = w.2.trailers },
      record { chunks = t.forms; last = t.form; ends = w.1; trailers = w.2.form },
      t.here ∙ ap (λ x. flat_map print_chunk t.chunks ++ (print_chunk_line t.last ++ x)) (w.2.here ∙ append-nil (print_trailers w.2.trailers)),
    )
    | inr w ↦ absurd (let f : Whole ≡ Refused 413 = w.0 in cc)
  ]

pub goes_on : (max : ℕ) (bytes : List ℕ) → is_settled (after_bytes (body_at max (Digits 0 0) []) bytes).state ≡ false
    → (more : List ℕ) × (b : ChunkedBody) × IsChunkedBody b × (bytes ++ more ≡ print_chunked b)
goes_on max bytes k =
    let read = after_bytes (body_at max (Digits 0 0) []) bytes in
    let limit = line_limit + came_of read.state + 3 in
    let most = max + length read.content + due_of read.state in
    let wide : line_limit ≤ limit = omega arith in
    let large : max ≤ most = omega arith in
    let f = finish limit max most wide large read.state (length read.content) k (omega arith) (omega arith) in
    let b = sound.before Whole limit max most (inl refl) wide large (Digits 0 0) [] bytes f.0 f.1 [] k f.2 in
    let t = tree limit max most wide large b.0 (bytes ++ f.0) (sound.begins Whole limit max most (inl refl) wide large 0 (bytes ++ f.0) b.0 [] b.1) in
    (f.0, t.0, t.1, t.2)
