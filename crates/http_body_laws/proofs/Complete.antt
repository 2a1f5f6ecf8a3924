-- Bytes that begin with a chunked body are read as it; where its sizes are above the limit, they are refused.
use Rattle.std.proofs.Common.{◌≡◌, ℕ, suc, ◌+◌, ◌-◌, ◌<◌, ◌≤◌, Bool, true, false, ◌&&◌, ◌==◌, List, [], ◌∷◌, ◌++◌, length, sym, refl, ap, ◌∙◌, subst, arith, append-nil, append_assoc, length-append}
use Rattle.std.specs.Prelude.{flat_map}
use Rattle.std.specs.List.{list_all, AllByRecursion}
use Rattle.std.proofs.lemmas.Bool.{and_parts, lt-ltb, le-ltb, ne_eqb, not-true}
use Rattle.resty_base.specs.Ascii.{line_feed}
use Rattle.httparse.specs.Ascii.{crlf_bytes}
use Rattle.httparse.specs.Grammar.{LineEnd, crlf, lf, print_end, print_chunk_line, chunk_size}
use Rattle.http_in.specs.Lines.{is_empty, is_empty_line}
use Rattle.http_bodies.specs.declared.states.DataOf.TheVariants as part
use Rattle.http_bodies.specs.declared.states.BodyState.{BodyState}
use Rattle.http_bodies.specs.declared.states.BodyState.TheVariants.{Data, Digits, DataEnd, Trailers, TrailersReturn, TrailersLine, Whole, Refused}
use Rattle.http_bodies.specs.Records.{Body}
use Rattle.http_bodies.specs.States.{line_limit, after_size}
use Rattle.http_bodies.specs.Bodies.{body_at, after_one, after_bytes, used}
use Rattle.http_bodies.proofs.Pieces.{settled-stays, settled-uses}
use Rattle.http_body_laws.specs.ChunkedBodies.{Chunk, print_chunk, IsChunk, is_trailer, print_trailers, content_of, IsShort, ChunkedBody, print_chunked, ReadsChunked, IsTooLarge}
use Rattle.http_body_laws.proofs.Left.{is_in_line}
use Rattle.http_body_laws.proofs.Runs.{Goes, stands, byte, both, to_same, run_line}

module _ (max : ℕ) where
  abbrev at : BodyState → List ℕ → Body
  at s content = body_at max s content

  -- ---- data

  step_data : (content : List ℕ) (more x : ℕ) → 0 < more → after_one (at (Data more part.Chunk) content) x ≡ at (Data (more - 1) part.Chunk) (content ++ x ∷ [])
  step_data content more x some = rw (lt-ltb 0 more some) refl

  run_data : (xs content : List ℕ) (more : ℕ) → length xs ≡ more + 1 → Goes (at (Data more part.Chunk) content) xs (at DataEnd (content ++ xs))
  run_data [] content more is = absurd (omega (arith, is))
  run_data (x ∷ []) content more is =
      let none : more ≡ 0 = omega (arith, is) in
      subst (λ m. Goes (at (Data m part.Chunk) content) (x ∷ []) (at DataEnd (content ++ x ∷ []))) (sym none)
      (byte _ _ _ x [] refl refl (stands (at DataEnd (content ++ x ∷ []))))
  run_data (x ∷ y ∷ xs) content more is =
      byte _ _ _ x (y ∷ xs) refl (step_data content more x (omega (arith, is)))
      (to_same _ _ _ (y ∷ xs) (ap (at DataEnd) (append_assoc content (x ∷ []) (y ∷ xs)))
      (run_data (y ∷ xs) (content ++ x ∷ []) (more - 1) (omega (arith, is))))

  run_crlf : (content : List ℕ) → Goes (at DataEnd content) crlf_bytes (at (Digits 0 0) content)
  run_crlf content = byte _ _ _ 13 (10 ∷ []) refl refl (byte _ _ _ 10 [] refl refl (stands (at (Digits 0 0) content)))

  -- after the line of a chunk
  data_follows : (room size : ℕ) → 0 < size → size ≤ room → after_size room size ≡ Data (size - 1) part.Chunk
  data_follows room size some fits = rw (ne_eqb size 0 (omega (arith, some)), le-ltb room size fits) refl

  too_large : (room size : ℕ) → room < size → after_size room size ≡ Refused 413
  too_large room size above = rw (ne_eqb size 0 (omega (arith, above)), lt-ltb room size above) refl

  run_chunk : (c : Chunk) (content : List ℕ) → IsChunk c → IsShort line_limit c.line → length content + length c.bytes ≤ max
      → Goes (at (Digits 0 0) content) (print_chunk c) (at (Digits 0 0) (content ++ c.bytes))
  run_chunk c content form short fits =
      let size = chunk_size c.line in
      let next : after_size (max - length content) size ≡ Data (size - 1) part.Chunk = data_follows (max - length content) size (omega (arith, form.size, form.some)) (omega (arith, form.size, fits)) in
      both _ _ _ (print_chunk_line c.line) (c.bytes ++ crlf_bytes)
      (to_same _ _ _ (print_chunk_line c.line) (ap (λ s. at s content) next) (run_line max content c.line form.line short))
      (both _ _ _ c.bytes crlf_bytes (run_data c.bytes content (size - 1) (omega (arith, form.size, form.some))) (run_crlf (content ++ c.bytes)))

  run_chunks : (cs : List Chunk) (content : List ℕ) → AllByRecursion IsChunk cs → AllByRecursion (λ (c : Chunk). IsShort line_limit c.line) cs
      → length content + length (content_of cs) ≤ max → Goes (at (Digits 0 0) content) (flat_map print_chunk cs) (at (Digits 0 0) (content ++ content_of cs))
  run_chunks [] content forms short fits =
      to_same _ _ _ [] (ap (at (Digits 0 0)) (sym (append-nil content))) (stands (at (Digits 0 0) content))
  run_chunks (c ∷ cs) content forms short fits =
      let all : length (c.bytes ++ content_of cs) ≡ length c.bytes + length (content_of cs) = length-append c.bytes (content_of cs) in
      let grown : length (content ++ c.bytes) ≡ length content + length c.bytes = length-append content c.bytes in
      both _ _ _ (print_chunk c) (flat_map print_chunk cs) (run_chunk c content forms.0 short.0 (omega (arith, fits, all)))
      (to_same _ _ _ (flat_map print_chunk cs) (ap (at (Digits 0 0)) (append_assoc content c.bytes (content_of cs)))
      (run_chunks cs (content ++ c.bytes) forms.1 short.1 (omega (arith, fits, all, grown))))

  -- ---- trailers

  module _ (content : List ℕ) where
    abbrev in_state : BodyState → Body
    in_state s = at s content

    step_in_line : (came b : ℕ) → came < line_limit → (b == line_feed) ≡ false → after_one (in_state (TrailersLine came)) b ≡ in_state (TrailersLine (came + 1))
    step_in_line came b fits other = ap in_state (rw (lt-ltb came line_limit fits, other) refl)

    step_after_return : (came b : ℕ) → came < line_limit → (b == line_feed) ≡ false → after_one (in_state (TrailersReturn came)) b ≡ in_state (TrailersLine (came + 1))
    step_after_return came b fits other = ap in_state (rw (lt-ltb came line_limit fits, other) refl)

    step_begins : (came b : ℕ) → came < line_limit → (b == line_feed) ≡ false → (b == 13) ≡ false → after_one (in_state (Trailers came)) b ≡ in_state (TrailersLine (came + 1))
    step_begins came b fits other full = ap in_state (rw (lt-ltb came line_limit fits, other, full) refl)

    step_return : (came b : ℕ) → came < line_limit → (b == line_feed) ≡ false → (b == 13) ≡ true → after_one (in_state (Trailers came)) b ≡ in_state (TrailersReturn (came + 1))
    step_return came b fits other is = ap in_state (rw (lt-ltb came line_limit fits, other, is) refl)

    step_line_ends : (came : ℕ) → came < line_limit → after_one (in_state (TrailersLine came)) 10 ≡ in_state (Trailers (came + 1))
    step_line_ends came fits = ap in_state (rw (lt-ltb came line_limit fits) refl)

    step_ends : (came : ℕ) → came < line_limit → after_one (in_state (Trailers came)) 10 ≡ in_state Whole
    step_ends came fits = ap in_state (rw (lt-ltb came line_limit fits) refl)

    step_returns : (came : ℕ) → came < line_limit → after_one (in_state (Trailers came)) 13 ≡ in_state (TrailersReturn (came + 1))
    step_returns came fits = ap in_state (rw (lt-ltb came line_limit fits) refl)

    step_return_ends : (came : ℕ) → came < line_limit → after_one (in_state (TrailersReturn came)) 10 ≡ in_state Whole
    step_return_ends came fits = ap in_state (rw (lt-ltb came line_limit fits) refl)

    run_in_line : (x : List ℕ) (came : ℕ) → is_in_line x ≡ true → came + length x + 1 ≤ line_limit → Goes (in_state (TrailersLine came)) (x ++ line_feed ∷ []) (in_state (Trailers (came + length x + 1)))
    run_in_line [] came plain short =
        let same : came + 1 ≡ came + 0 + 1 = omega arith in
        to_same _ _ _ (10 ∷ []) (ap (λ n. in_state (Trailers n)) same) (byte _ _ _ 10 [] refl (step_line_ends came (omega (arith, short))) (stands (in_state (Trailers (came + 1)))))
    run_in_line (b ∷ x) came plain short =
        let parts = and_parts _ _ plain in
        let same : came + 1 + length x + 1 ≡ came + suc (length x) + 1 = omega arith in
        byte _ _ _ b (x ++ line_feed ∷ []) refl (step_in_line came b (omega (arith, short)) (not-true _ parts.0))
        (to_same _ _ _ (x ++ line_feed ∷ []) (ap (λ n. in_state (Trailers n)) same) (run_in_line x (came + 1) parts.1 (omega (arith, short))))

    -- a line that begins with CR has another byte
    run_returned : (x : List ℕ) (came : ℕ) → is_in_line x ≡ true → is_empty x ≡ false → came + length x + 1 ≤ line_limit
        → Goes (in_state (TrailersReturn came)) (x ++ line_feed ∷ []) (in_state (Trailers (came + length x + 1)))
    run_returned [] came plain full short = absurd (let w : true ≡ false = full in cc)
    run_returned (b ∷ x) came plain full short =
        let parts = and_parts _ _ plain in
        let same : came + 1 + length x + 1 ≡ came + suc (length x) + 1 = omega arith in
        byte _ _ _ b (x ++ line_feed ∷ []) refl (step_after_return came b (omega (arith, short)) (not-true _ parts.0))
        (to_same _ _ _ (x ++ line_feed ∷ []) (ap (λ n. in_state (Trailers n)) same) (run_in_line x (came + 1) parts.1 (omega (arith, short))))

    run_trailer : (line : List ℕ) (came : ℕ) → is_trailer line ≡ true → came + length line + 1 ≤ line_limit → Goes (in_state (Trailers came)) (line ++ line_feed ∷ []) (in_state (Trailers (came + length line + 1)))
    run_trailer [] came form short = absurd (let w : false ≡ true = form in cc)
    run_trailer (b ∷ x) came form short = test (b == 13) refl
      where
        plain : is_in_line (b ∷ x) ≡ true
        plain = (and_parts _ _ form).0

        full : is_empty_line (b ∷ x) ≡ false
        full = not-true _ (and_parts (is_in_line (b ∷ x)) _ form).1

        other : (b == line_feed) ≡ false
        other = not-true _ (and_parts _ _ plain).0

        same : came + 1 + length x + 1 ≡ came + suc (length x) + 1
        same = omega arith

        test : (t : Bool) → (b == 13) ≡ t → Goes (in_state (Trailers came)) (b ∷ (x ++ line_feed ∷ [])) (in_state (Trailers (came + length (b ∷ x) + 1)))
        test true is =
            byte _ _ _ b (x ++ line_feed ∷ []) refl (step_return came b (omega (arith, short)) other is)
            (to_same _ _ _ (x ++ line_feed ∷ []) (ap (λ n. in_state (Trailers n)) same)
            (run_returned x (came + 1) (and_parts _ _ plain).1 (ap (λ c. c && is_empty x) (sym is) ∙ full) (omega (arith, short))))
        test false is =
            byte _ _ _ b (x ++ line_feed ∷ []) refl (step_begins came b (omega (arith, short)) other is)
            (to_same _ _ _ (x ++ line_feed ∷ []) (ap (λ n. in_state (Trailers n)) same) (run_in_line x (came + 1) (and_parts _ _ plain).1 (omega (arith, short))))

    run_last : (e : LineEnd) (came : ℕ) → came + length (print_end e) ≤ line_limit → Goes (in_state (Trailers came)) (print_end e) (in_state Whole)
    run_last crlf came short =
        byte _ _ _ 13 (10 ∷ []) refl (step_returns came (omega (arith, short))) (byte _ _ _ 10 [] refl (step_return_ends (came + 1) (omega (arith, short))) (stands (in_state Whole)))
    run_last lf came short = byte _ _ _ 10 [] refl (step_ends came (omega (arith, short))) (stands (in_state Whole))

    run_lines : (lines : List (List ℕ)) (e : LineEnd) (came : ℕ) → list_all is_trailer lines ≡ true → came + length (print_trailers (record { lines = lines; end = e })) ≤ line_limit
        → Goes (in_state (Trailers came)) (print_trailers (record { lines = lines; end = e })) (in_state Whole)
    run_lines [] e came form short = run_last e came short
    run_lines (l ∷ lines) e came form short =
        let parts = and_parts _ _ form in
        let more = print_trailers (record { lines = lines; end = e }) in
        let group : print_trailers (record { lines = l ∷ lines; end = e }) ≡ (l ++ line_feed ∷ []) ++ more = append_assoc (l ++ line_feed ∷ []) _ _ in
        let long : length (print_trailers (record { lines = l ∷ lines; end = e })) ≡ length l + 1 + length more = ap length group ∙ length-append (l ++ line_feed ∷ []) more ∙ ap (λ n. n + length more) (length-append l (line_feed ∷ [])) in
        subst (λ xs. Goes (in_state (Trailers came)) xs (in_state Whole)) (sym group)
        (both _ _ _ (l ++ line_feed ∷ []) more (run_trailer l came parts.0 (omega (arith, long, short))) (run_lines lines e (came + length l + 1) parts.1 (omega (arith, long, short))))

  -- ---- whole bodies

  run_body : (b : ChunkedBody) (bytes rest : List ℕ) → ReadsChunked bytes b rest → length (content_of b.chunks) ≤ max → Goes (at (Digits 0 0) []) (print_chunked b) (at Whole (content_of b.chunks))
  run_body b bytes rest reads fits =
      let content = content_of b.chunks in
      both _ _ _ (flat_map print_chunk b.chunks) (print_chunk_line b.last ++ print_trailers b.trailers) (run_chunks b.chunks [] reads.form.chunks reads.within.chunks (omega (arith, fits)))
      (both _ _ _ (print_chunk_line b.last) (print_trailers b.trailers)
      (to_same _ _ _ (print_chunk_line b.last) (ap (λ n. at (after_size (max - length content) n) content) reads.form.ends) (run_line max content b.last reads.form.last reads.within.last))
      (run_lines content b.trailers.lines b.trailers.end 0 reads.form.trailers (omega (arith, reads.within.trailers))))

  pub read_whole : (bytes : List ℕ) (b : ChunkedBody) (rest : List ℕ) → ReadsChunked bytes b rest → length (content_of b.chunks) ≤ max
      → (after_bytes (at (Digits 0 0) []) bytes ≡ at Whole (content_of b.chunks)) × (used (at (Digits 0 0) []) bytes ≡ length (print_chunked b))
  read_whole bytes b rest reads fits =
      let content = content_of b.chunks in
      let r = (run_body b bytes rest reads fits).on rest in (
        ap (after_bytes (at (Digits 0 0) [])) reads.here ∙ r.0 ∙ settled-stays max Whole content rest refl,
        ap (used (at (Digits 0 0) [])) reads.here ∙ r.1 ∙ ap (λ n. length (print_chunked b) + n) (settled-uses max Whole content rest refl) ∙ omega arith,
      )

  -- ---- sizes above the limit

  pub refused : (bytes : List ℕ) → IsTooLarge max bytes → (after_bytes (at (Digits 0 0) []) bytes).state ≡ Refused 413
  refused bytes large =
      let content = content_of large.chunks in
      let size = chunk_size large.line in
      let next : after_size (max - length content) size ≡ Refused 413 = too_large (max - length content) size (omega (arith, large.below, large.above)) in
      let first = (run_chunks large.chunks [] large.forms large.short_lines (omega (arith, large.below))).on (print_chunk_line large.line ++ large.rest) in
      let second = (run_line max content large.line large.form large.short).on large.rest in
      ap (λ (r : Body). r.state)
      (ap (after_bytes (at (Digits 0 0) [])) large.here ∙ first.0 ∙ second.0 ∙ ap (λ s. after_bytes (at s content) large.rest) next ∙ settled-stays max (Refused 413) content large.rest refl)
