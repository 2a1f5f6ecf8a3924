-- What is read has the form that its state stands for: from the last byte back, in each state.
use Rattle.std.proofs.Common.{◌≡◌, ℕ, suc, ◌+◌, ◌-◌, ◌*◌, ◌^◌, ◌<◌, ◌≤◌, ◌⊎◌, Bool, true, false, cond, not, ◌&&◌, ◌||◌, ◌==◌, List, [], ◌∷◌, ◌++◌, length, drop, Option, Some, None, sym, refl, ap, ◌∙◌, subst, inl, inr, ⊎_elim, arith, append-nil, append_assoc, length-append}
use Rattle.std.specs.Prelude.{flat_map, nat_lt, if◌then◌else◌}
use Rattle.std.specs.List.{list_all}
use Rattle.std.specs.Char.{digit_value, is_ascii_hexdigit}
use Rattle.std.specs.Str.Parse.{digits_value_after, AllDigits}
use Rattle.std.proofs.lemmas.Bool.{and_from, and_parts, eqb-true, eqb-false, ltb-true, ltb-false}
use Rattle.std.proofs.lemmas.Bool.Decides.{nat_tests}
use Rattle.std.proofs.lemmas.List.Sums.{AllPass-from_list_all}
use Rattle.resty_base.specs.Ascii.{line_feed, carriage_return}
use Rattle.httparse.specs.Ascii.{crlf_bytes, semicolon}
use Rattle.httparse.specs.Grammar.{LineEnd, crlf, lf, print_end, is_ows, is_extension_byte, print_extension, IsExtension, ChunkLine, print_chunk_line, chunk_size, IsChunkLine}
use Rattle.http_in.specs.Lines.{is_empty, is_empty_line}
use Rattle.http_bodies.specs.declared.states.DataOf.TheVariants as part
use Rattle.http_bodies.specs.declared.states.BodyState.{BodyState}
use Rattle.http_bodies.specs.declared.states.BodyState.TheVariants.{Data, Digits, Blanks, Extension, Return, DataEnd, DataReturn, Trailers, TrailersReturn, TrailersLine, Whole, Refused}
use Rattle.http_bodies.specs.States.{line_limit, within, expect, after_data, after_digit, after_digits, after_blanks, after_extension, after_size, after_return, after_trailers, after_trailers_return, after_trailers_line, is_settled, takes_data}
use Rattle.http_bodies.specs.Records.{Body}
use Rattle.http_bodies.specs.Bodies.{body_at, content_after, after_one, after_bytes, used}
use Rattle.http_bodies.proofs.Pieces.{settled-stays}
use Rattle.http_body_laws.specs.ChunkedBodies.{Chunk, print_chunk, print_trailers, content_of, IsShort}
use Rattle.http_body_laws.specs.ChunkedBodies.{Trailers as TrailerLines}
use Rattle.http_body_laws.proofs.Left as left
use Rattle.http_body_laws.proofs.Left.{is_in_line, extension_text, line-parts, line-length}

-- the two cases of a test that chose a value
chosen : {X : Type 0} (P : X → Type 0) (t : Bool) (x y : X) → P (cond t x y) → ((t ≡ true) × P x) ⊎ ((t ≡ false) × P y)
chosen P true x y h = inl (refl, h)
chosen P false x y h = inr (refl, h)

-- digits of the standard and of the grammar
hex : (b : ℕ) → digit_value b < 16 → is_ascii_hexdigit b ≡ true
hex b h = grind (arith, nat_tests, h)

pub all_hex : (ds : List ℕ) → AllDigits 16 ds → list_all is_ascii_hexdigit ds ≡ true
all_hex [] h = refl
all_hex (d ∷ ds) h = and_from _ _ (hex d h.0) (all_hex ds h.1)

pub is_extension : (e : Option (List ℕ)) → list_all is_extension_byte (extension_text e) ≡ true → IsExtension e
is_extension None h = tt
is_extension (Some text) h = AllPass-from_list_all is_extension_byte text h

module _ (end : BodyState) (limit max most : ℕ) (ends : (end ≡ Whole) ⊎ ((end ≡ Refused 413) × (most ≤ max))) (wide : line_limit ≤ limit) (large : max ≤ most) where
  abbrev pub Left : BodyState → ℕ → List ℕ → List ℕ → List ℕ → Type 0
  Left s count input body rest = left.Left end limit most s count input body rest

  -- it isn't refused with 400
  good : {C : Type 0} → end ≡ Refused 400 → C
  good e = elim ends [
    | inl w ↦ absurd (let f : Whole ≡ Refused 400 = sym w ∙ e in cc)
    | inr w ↦ absurd (let f : Refused 413 ≡ Refused 400 = sym w.0 ∙ e in let n : ◌≡◌ {A = ℕ} 413 400 = cc in omega arith)
  ]

  -- where it is refused with 413, the limit is the one that it is read by
  exact : end ≡ Refused 413 → most ≤ max
  exact e = elim ends [
    | inl w ↦ absurd (let f : Whole ≡ Refused 413 = sym w ∙ e in cc)
    | inr w ↦ w.1
  ]

  abbrev Chunks : ℕ → List ℕ → List ℕ → List ℕ → Type 0
  Chunks count input body rest = left.ChunksThen end limit most count input body rest

  module _ (count b : ℕ) (bs body rest : List ℕ) where
    abbrev Next : BodyState → Type 0
    Next s = Left s count bs body rest

    -- the next state, where a line has room for one byte more
    room : (came : ℕ) (next : ℕ → BodyState) → Next (within came next) → (came + 1 ≤ line_limit) × Next (next (came + 1))
    room came next h = ⊎_elim (λ w. (omega (arith, ltb-true came line_limit w.0), w.1)) (λ w. good w.1.0) (chosen Next _ (next (came + 1)) _ h)

    expected : (wanted : ℕ) (next : BodyState) → Next (expect b wanted next) → (b ≡ wanted) × Next next
    expected wanted next h = ⊎_elim (λ w. (eqb-true b wanted w.0, w.1)) (λ w. good w.1.0) (chosen Next _ next _ h)

    -- ---- chunk lines

    back_size : (size : ℕ) → Next (after_size (max - count) size) → left.AfterLine end limit most count size bs body rest
    back_size size h =
        ⊎_elim
        (λ w. inl (inl (w.1.0, eqb-true size 0 w.0, w.1.2), w.1.1))
        (λ w. ⊎_elim
        (λ v. inl (inr (v.1.0, omega (arith, ltb-true _ _ v.0, exact v.1.0)), v.1.2))
        (λ v. let some : 0 < size = omega (arith, eqb-false size 0 w.0) in
        let same : size - 1 + 1 ≡ size = omega (arith, some) in
        inr (some, omega (arith, some, ltb-false _ _ v.0, large), subst (λ k. left.DataThen end limit most count k bs body rest) same v.1))
        (chosen Next _ (Refused 413) (Data (size - 1) part.Chunk) w.1))
        (chosen Next _ (Trailers 0) _ h)

    back_return : (size came : ℕ) → Next (after_return (max - count) size came b) → Left (Return size came) count (b ∷ bs) body rest
    back_return size came h =
        let r = room came (λ n. expect b line_feed (after_size (max - count) size)) h in
        let t = expected 10 (after_size (max - count) size) r.1 in
        (bs, ap (λ x. x ∷ bs) t.0, omega (arith, r.0, wide), back_size size t.1)

    abbrev Text : ℕ → ℕ → List ℕ → Type 0
    Text size came input = left.TextThen end limit most count size came input body rest

    abbrev Line : ℕ → ℕ → List ℕ → Type 0
    Line size came input = left.BlanksThen end limit most count size came input body rest

    text_ends : (size came : ℕ) → b ≡ 13 → Next (Return size (came + 1)) → Text size came (b ∷ bs)
    text_ends size came is t = record {
      text = [];
      after = t.0;
      is_text = refl;
      short = omega (arith, t.2);
      here = λ i. is i ∷ t.1 i;
      then = t.3;
    }

    text_goes_on : (size came : ℕ) → is_extension_byte b ≡ true → Text size (came + 1) bs → Text size came (b ∷ bs)
    text_goes_on size came text t = record {
      text = b ∷ t.text;
      after = t.after;
      is_text = and_from _ _ text t.is_text;
      short = omega (arith, t.short);
      here = ap (λ l. b ∷ l) t.here;
      then = t.then;
    }

    neither : (r f : Bool) → r ≡ false → f ≡ false → not (r || f) ≡ true
    neither true f p q = absurd (let e : true ≡ false = p in cc)
    neither false true p q = absurd (let e : true ≡ false = q in cc)
    neither false false p q = refl

    back_extension : (size came : ℕ) → Next (after_extension size came b) → Text size came (b ∷ bs)
    back_extension size came h =
        let r = room came (λ n. if b == carriage_return then Return size n else (if b == line_feed then Refused 400 else Extension size n)) h in
        ⊎_elim
        (λ w. text_ends size came (eqb-true b 13 w.0) w.1)
        (λ w. ⊎_elim (λ v. good v.1.0) (λ v. text_goes_on size came (neither _ _ w.0 v.0) v.1) (chosen Next _ (Refused 400) (Extension size (came + 1)) w.1))
        (chosen Next _ (Return size (came + 1)) _ r.1)

    blank_goes_on : (size came : ℕ) → is_ows b ≡ true → Line size (came + 1) bs → Line size came (b ∷ bs)
    blank_goes_on size came blank t = record {
      blanks = b ∷ t.blanks;
      extension = t.extension;
      after = t.after;
      are_blank = and_from _ _ blank t.are_blank;
      is_text = t.is_text;
      short = omega (arith, t.short);
      here = ap (λ l. b ∷ l) t.here;
      then = t.then;
    }

    extension_begins : (size came : ℕ) → b ≡ 59 → Text size (came + 1) bs → Line size came (b ∷ bs)
    extension_begins size came is t = record {
      blanks = [];
      extension = Some t.text;
      after = t.after;
      are_blank = refl;
      is_text = t.is_text;
      short = omega (arith, t.short);
      here = λ i. is i ∷ t.here i;
      then = t.then;
    }

    line_ends : (size came : ℕ) → b ≡ 13 → Next (Return size (came + 1)) → Line size came (b ∷ bs)
    line_ends size came is t = record {
      blanks = [];
      extension = None;
      after = t.0;
      are_blank = refl;
      is_text = refl;
      short = omega (arith, t.2);
      here = λ i. is i ∷ t.1 i;
      then = t.3;
    }

    back_blanks : (size came : ℕ) → Next (after_blanks size came b) → Line size came (b ∷ bs)
    back_blanks size came h =
        let r = room came (λ n. if is_ows b then Blanks size n else (if b == semicolon then Extension size n else (if b == carriage_return then Return size n else Refused 400))) h in
        ⊎_elim
        (λ w. blank_goes_on size came w.0 w.1)
        (λ w. ⊎_elim (λ v. extension_begins size came (eqb-true b 59 v.0) v.1)
        (λ v. ⊎_elim (λ u. line_ends size came (eqb-true b 13 u.0) u.1) (λ u. good u.1.0) (chosen Next _ (Return size (came + 1)) _ v.1))
        (chosen Next _ (Extension size (came + 1)) _ w.1))
        (chosen Next _ (Blanks size (came + 1)) _ r.1)

    abbrev Size : ℕ → ℕ → List ℕ → Type 0
    Size size came input = left.DigitsThen end limit most count size came input body rest

    digit_goes_on : (size came : ℕ) → digit_value b < 16 → came < 16 → Size (size * 16 + digit_value b) (came + 1) bs → Size size came (b ∷ bs)
    digit_goes_on size came digit few t =
        let same : came + 1 + length t.digits ≡ came + suc (length t.digits) = omega arith in
        record {
          digits = b ∷ t.digits;
          after = t.after;
          are_digits = (digit, t.are_digits);
          some = λ e. omega arith;
          few = λ l. omega (arith, t.few (omega (arith, few)));
          here = ap (λ l. b ∷ l) t.here;
          then = subst (λ n. Line (digits_value_after 16 (size * 16 + digit_value b) t.digits) n t.after) same t.then;
        }

    digits_end : (size came : ℕ) → ¬ (came ≡ 0) → Line size came (b ∷ bs) → Size size came (b ∷ bs)
    digits_end size came some t =
        let same : came ≡ came + 0 = omega arith in
        record {
          digits = [];
          after = b ∷ bs;
          are_digits = tt;
          some = λ e. absurd (some e);
          few = λ l. omega (arith, l);
          here = refl;
          then = subst (λ n. Line size n (b ∷ bs)) same t;
        }

    few-digits : (size came : ℕ) → (nat_lt came 16 && nat_lt size (2 ^ 60)) ≡ true → came < 16
    few-digits size came both = ltb-true came 16 (and_parts (nat_lt came 16) (nat_lt size (2 ^ 60)) both).0

    back_digits : (size came : ℕ) → Next (after_digits size came b) → Size size came (b ∷ bs)
    back_digits size came h =
        ⊎_elim
        (λ w. ⊎_elim
        (λ v. digit_goes_on size came (ltb-true _ 16 w.0) (few-digits size came v.0) v.1)
        (λ v. good v.1.0)
        (chosen Next _ (Digits (size * 16 + digit_value b) (came + 1)) _ w.1))
        (λ w. ⊎_elim
        (λ v. good v.1.0)
        (λ v. digits_end size came (eqb-false came 0 v.0) (back_blanks size came v.1))
        (chosen Next _ (Refused 400) (after_blanks size came b) w.1))
        (chosen Next _ (after_digit size came b) _ h)

    -- ---- trailers

    not_feed : (b == line_feed) ≡ false → not (b == line_feed) ≡ true
    not_feed e = ap not e

    abbrev Lines : ℕ → ℕ → List ℕ → Type 0
    Lines bound came input = left.TrailersThen end limit most bound came input rest

    abbrev InLine : ℕ → List ℕ → Type 0
    InLine came input = left.LineThen end limit most came input rest

    no_lines : (bound came : ℕ) (e : LineEnd) (input : List ℕ) → came + length (print_end e) ≤ bound → input ≡ print_end e ++ rest → Lines bound came input
    no_lines bound came e input short here = record { trailers = record { lines = []; end = e }; form = refl; short = short; here = here }

    -- a line that began with these bytes, and more lines
    one_line : (bound came at : ℕ) (front input : List ℕ) (t : InLine at bs) → is_in_line (front ++ t.line) ≡ true → is_empty_line (front ++ t.line) ≡ false
        → at + bound ≡ came + length front + limit → input ≡ front ++ bs → Lines bound came input
    one_line bound came at front input t plain full counts is =
        let more = print_trailers t.trailers in
        let lines : TrailerLines = record { lines = (front ++ t.line) ∷ t.trailers.lines; end = t.trailers.end } in
        let grouped : front ++ (t.line ++ (line_feed ∷ more)) ≡ print_trailers lines = simp append_assoc in
        let long : length front + (length t.line + suc (length more)) ≡ length (print_trailers lines) =
        ap (λ n. length front + n) (sym (length-append t.line (line_feed ∷ more))) ∙ sym (length-append front (t.line ++ (line_feed ∷ more))) ∙ ap length grouped in
        record {
          trailers = lines;
          form = and_from _ _ (and_from _ _ plain (ap not full)) t.form;
          short = omega (arith, long, t.short, counts);
          here = is ∙ ap (λ x. front ++ x) t.here ∙ regrouped front t.line more ∙ ap (λ x. x ++ rest) grouped;
        }
      where
        regrouped : (xs ys zs : List ℕ) → xs ++ (ys ++ (line_feed ∷ (zs ++ rest))) ≡ (xs ++ (ys ++ (line_feed ∷ zs))) ++ rest
        regrouped xs ys zs = simp append_assoc

    returned : (came : ℕ) → b ≡ 13 → left.TrailersThen end limit most (limit + 1) (came + 1) (13 ∷ bs) rest → Lines limit came (b ∷ bs)
    returned came is t = record { trailers = t.trailers; form = t.form; short = omega (arith, t.short); here = ap (λ x. x ∷ bs) is ∙ t.here }

    back_trailers : (came : ℕ) → Next (after_trailers came b) → Left (Trailers came) count (b ∷ bs) body rest
    back_trailers came h =
        let r = room came (λ n. if b == line_feed then Whole else (if b == carriage_return then TrailersReturn n else TrailersLine n)) h in
        ⊎_elim
        (λ w. (w.1.0, w.1.2, no_lines limit came lf (b ∷ bs) (omega (arith, r.0, wide)) (λ i. eqb-true b 10 w.0 i ∷ w.1.1 i)))
        (λ w. ⊎_elim
        (λ v. (v.1.0, v.1.1, returned came (eqb-true b 13 v.0) v.1.2))
        (λ v. (v.1.0, v.1.1, one_line limit came (came + 1) (b ∷ []) (b ∷ bs) v.1.2 (and_from _ _ (not_feed w.0) v.1.2.in_line) (ap (λ c. c && is_empty v.1.2.line) v.0) (omega arith) refl))
        (chosen Next _ (TrailersReturn (came + 1)) (TrailersLine (came + 1)) w.1))
        (chosen Next _ Whole _ r.1)

    back_trailers_return : (came : ℕ) → Next (after_trailers_return came b) → Left (TrailersReturn came) count (b ∷ bs) body rest
    back_trailers_return came h =
        let r = room came (λ n. if b == line_feed then Whole else TrailersLine n) h in
        ⊎_elim
        (λ w. (w.1.0, w.1.2, no_lines (limit + 1) came crlf (13 ∷ b ∷ bs) (omega (arith, r.0, wide)) (λ i. 13 ∷ eqb-true b 10 w.0 i ∷ w.1.1 i)))
        (λ w. (w.1.0, w.1.1, one_line (limit + 1) came (came + 1) (13 ∷ b ∷ []) (13 ∷ b ∷ bs) w.1.2 (and_from _ _ (not_feed w.0) w.1.2.in_line) refl (omega arith) refl))
        (chosen Next _ Whole (TrailersLine (came + 1)) r.1)

    back_trailers_line : (came : ℕ) → Next (after_trailers_line came b) → Left (TrailersLine came) count (b ∷ bs) body rest
    back_trailers_line came h =
        let r = room came (λ n. if b == line_feed then Trailers n else TrailersLine n) h in
        ⊎_elim
        (λ w. let t = w.1.2 in
        (w.1.0, w.1.1, record { line = []; trailers = t.trailers; in_line = refl; form = t.form; short = omega (arith, t.short); here = λ i. eqb-true b 10 w.0 i ∷ t.here i }))
        (λ w. let t = w.1.2 in
        (w.1.0, w.1.1, record { line = b ∷ t.line; trailers = t.trailers; in_line = and_from _ _ (not_feed w.0) t.in_line; form = t.form; short = omega (arith, t.short); here = ap (λ x. b ∷ x) t.here }))
        (chosen Next _ (Trailers (came + 1)) (TrailersLine (came + 1)) r.1)

    -- ---- data

    back_data : (more : ℕ) → Left (after_data more part.Chunk) (count + 1) bs body rest → left.DataThen end limit most count (more + 1) (b ∷ bs) (b ∷ body) rest
    back_data more h =
        ⊎_elim
        (λ w. let some = ltb-true 0 more w.0 in
        let same : count + 1 + (more - 1 + 1) ≡ count + (more + 1) = omega (arith, some) in
        record { bytes = b ∷ w.1.bytes; after = w.1.after; more = w.1.more; size_is = omega (arith, some, w.1.size_is); here = ap (λ l. b ∷ l) w.1.here; body_is = ap (λ l. b ∷ l) w.1.body_is; then = subst (λ n. Chunks n w.1.after w.1.more rest) same w.1.then })
        (λ w. let none = ltb-false 0 more w.0 in
        let same : count + 1 ≡ count + (more + 1) = omega (arith, none) in
        record { bytes = b ∷ []; after = w.1.0; more = body; size_is = omega (arith, none); here = ap (λ l. b ∷ l) w.1.1; body_is = refl; then = subst (λ n. Chunks n w.1.0 body rest) same w.1.2 })
        (chosen (λ s. Left s (count + 1) bs body rest) _ (Data (more - 1) part.Chunk) DataEnd h)

  -- ---- chunk lines and what follows them are chunks

  module _ (count : ℕ) (input body rest : List ℕ) (l : ChunkLine) (after : List ℕ) (form : IsChunkLine l) (short : IsShort limit l) (here : input ≡ print_chunk_line l ++ after) where
    last_line : left.LastThen end limit most count (chunk_size l) after rest → body ≡ [] → Chunks count input body rest
    last_line t none =
        let same : count ≡ count + 0 = omega arith in
        record {
          chunks = [];
          last = l;
          after = after;
          forms = tt;
          short_lines = tt;
          form = form;
          short = short;
          here = here;
          body_is = none;
          below = λ le. omega (arith, le);
          then = subst (λ n. left.LastThen end limit most n (chunk_size l) after rest) same t;
        }

    one_more : 0 < chunk_size l → count + chunk_size l ≤ most → left.DataThen end limit most count (chunk_size l) after body rest → Chunks count input body rest
    one_more some fits d =
        let c : Chunk = record { line = l; bytes = d.bytes } in
        let r = d.then in
        let all : length (content_of (c ∷ r.chunks)) ≡ length d.bytes + length (content_of r.chunks) = length-append d.bytes (content_of r.chunks) in
        let same : count + chunk_size l + length (content_of r.chunks) ≡ count + length (content_of (c ∷ r.chunks)) = omega (arith, all, d.size_is) in
        record {
          chunks = c ∷ r.chunks;
          last = r.last;
          after = r.after;
          forms = (record { line = form; some = omega (arith, some, d.size_is); size = sym d.size_is }, r.forms);
          short_lines = (short, r.short_lines);
          form = r.form;
          short = r.short;
          here = here ∙ ap (λ x. print_chunk_line l ++ x) (d.here ∙ ap (λ x. d.bytes ++ (crlf_bytes ++ x)) r.here) ∙ regrouped (print_chunk_line l) d.bytes (flat_map print_chunk r.chunks) (print_chunk_line r.last ++ r.after);
          body_is = d.body_is ∙ ap (λ x. d.bytes ++ x) r.body_is;
          below = λ le. omega (arith, all, d.size_is, r.below fits);
          then = subst (λ n. left.LastThen end limit most n (chunk_size r.last) r.after rest) same r.then;
        }
      where
        regrouped : (xs ys zs ws : List ℕ) → xs ++ (ys ++ (crlf_bytes ++ (zs ++ ws))) ≡ ((xs ++ (ys ++ crlf_bytes)) ++ zs) ++ ws
        regrouped xs ys zs ws = simp append_assoc

  pub begins : (count : ℕ) (input body rest : List ℕ) → left.DigitsThen end limit most count 0 0 input body rest → Chunks count input body rest
  begins count input body rest t =
      let u = t.then in
      let l : ChunkLine = record { digits = t.digits; pad = u.blanks; extension = u.extension } in
      let form : IsChunkLine l = record {
        digits = (t.some refl, omega (arith, t.few (omega arith)), AllPass-from_list_all is_ascii_hexdigit t.digits (all_hex t.digits t.are_digits));
        pad = AllPass-from_list_all is_ows u.blanks u.are_blank;
        extension = is_extension u.extension u.is_text;
      } in
      let here : input ≡ print_chunk_line l ++ u.after = t.here ∙ ap (λ x. t.digits ++ x) u.here ∙ regrouped t.digits u.blanks (print_extension u.extension) u.after ∙ ap (λ x. x ++ u.after) (sym (line-parts l)) in
      let long = line-length l in
      let short : IsShort limit l = omega (arith, long, u.short) in
      ⊎_elim
      (λ w. last_line count input body rest l u.after form short here w.0 w.1)
      (λ w. one_more count input body rest l u.after form short here w.0 w.1 w.2)
      u.then
    where
      regrouped : (xs ys zs ws : List ℕ) → xs ++ (ys ++ (zs ++ (crlf_bytes ++ ws))) ≡ (xs ++ (ys ++ (zs ++ crlf_bytes))) ++ ws
      regrouped xs ys zs ws = simp append_assoc

  -- ---- one byte back, in each state

  abbrev grown : BodyState → ℕ → List ℕ → List ℕ
  grown s b body = if takes_data s then b ∷ body else body

  shut : {C : Type 0} → true ≡ false → C
  shut e = absurd (let f : true ≡ false = e in cc)

  pub back : (s : BodyState) (content : List ℕ) (b : ℕ) (bs body rest : List ℕ) → is_settled s ≡ false
      → Left (after_one (body_at max s content) b).state (length (after_one (body_at max s content) b).content) bs body rest
      → Left s (length content) (b ∷ bs) (grown s b body) rest
  back (Data more part.Chunk) content b bs body rest k h =
      let one : length (content ++ b ∷ []) ≡ length content + 1 = length-append content (b ∷ []) in
      back_data (length content) b bs body rest more (subst (λ n. Left (after_data more part.Chunk) n bs body rest) one h)
  back (Data more part.Body) content b bs body rest k h = tt
  back (Digits size came) content b bs body rest k h = back_digits (length content) b bs body rest size came h
  back (Blanks size came) content b bs body rest k h = back_blanks (length content) b bs body rest size came h
  back (Extension size came) content b bs body rest k h = back_extension (length content) b bs body rest size came h
  back (Return size came) content b bs body rest k h = back_return (length content) b bs body rest size came h
  back DataEnd content b bs body rest k h =
      let t = expected (length content) b bs body rest 13 DataReturn h in
      (t.1.0, (λ i. t.0 i ∷ t.1.1 i), t.1.2)
  back DataReturn content b bs body rest k h =
      let t = expected (length content) b bs body rest 10 (Digits 0 0) h in
      (bs, ap (λ x. x ∷ bs) t.0, begins (length content) bs body rest t.1)
  back (Trailers came) content b bs body rest k h = back_trailers (length content) b bs body rest came h
  back (TrailersReturn came) content b bs body rest k h = back_trailers_return (length content) b bs body rest came h
  back (TrailersLine came) content b bs body rest k h = back_trailers_line (length content) b bs body rest came h
  back Whole content b bs body rest k h = shut k
  back (Refused code) content b bs body rest k h = shut k

  grows : (s : BodyState) (content body : List ℕ) (b : ℕ) → content_after s content b ++ body ≡ content ++ grown s b body
  grows s content body b = test (takes_data s)
    where
      test : (t : Bool) → (if t then content ++ b ∷ [] else content) ++ body ≡ content ++ (if t then b ∷ body else body)
      test true = append_assoc content (b ∷ []) body
      test false = refl

  -- what bytes that end there are, from a state on
  abbrev pub Accepts : BodyState → List ℕ → List ℕ → Type 0
  Accepts s content bs =
      let read = after_bytes (body_at max s content) bs in
      read.state ≡ end → (body : List ℕ) × (read.content ≡ content ++ body) × Left s (length content) bs body (drop (used (body_at max s content) bs) bs)

  base : (s : BodyState) (count : ℕ) (input : List ℕ) → s ≡ end → Left s count input [] input
  base s count input e = elim ends [
    | inl w ↦ subst (λ x. Left x count input [] input) (sym (e ∙ w)) (w, refl, refl)
    | inr w ↦ subst (λ x. Left x count input [] input) (sym (e ∙ w.0)) (w.0, refl, refl)
  ]

  pub accepts : (s : BodyState) (content bs : List ℕ) → Accepts s content bs
  accepts s content [] e = ([], sym (append-nil content), base s (length content) [] e)
  accepts s content (b ∷ bs) e = test (is_settled s) refl (accepts (after_one (body_at max s content) b).state (after_one (body_at max s content) b).content bs) e
    where
      test : (t : Bool) → is_settled s ≡ t → Accepts (after_one (body_at max s content) b).state (after_one (body_at max s content) b).content bs
          → (after_bytes (body_at max s content) (b ∷ bs)).state ≡ end
          → (body : List ℕ) × ((after_bytes (body_at max s content) (b ∷ bs)).content ≡ content ++ body)
          × Left s (length content) (b ∷ bs) body (drop (if t then 0 else suc (used (after_one (body_at max s content) b) bs)) (b ∷ bs))
      test true is later e =
          let stays = settled-stays max s content (b ∷ bs) is in
          ([], ap (λ (r : Body). r.content) stays ∙ sym (append-nil content), base s (length content) (b ∷ bs) (sym (ap (λ (r : Body). r.state) stays) ∙ e))
      test false is later e =
          let h = later e in
          (grown s b h.0, h.1 ∙ grows s content h.0 b, back s content b bs h.0 _ is h.2)

  -- a form that is left after some bytes is left before them
  pub before : (s : BodyState) (content bs more body rest : List ℕ) → is_settled (after_bytes (body_at max s content) bs).state ≡ false
      → Left (after_bytes (body_at max s content) bs).state (length (after_bytes (body_at max s content) bs).content) more body rest
      → (whole : List ℕ) × Left s (length content) (bs ++ more) whole rest
  before s content [] more body rest k h = (body, h)
  before s content (b ∷ bs) more body rest k h =
      test (is_settled s) refl (before (after_one (body_at max s content) b).state (after_one (body_at max s content) b).content bs more body rest k h)
    where
      test : (t : Bool) → is_settled s ≡ t
          → (whole : List ℕ) × Left (after_one (body_at max s content) b).state (length (after_one (body_at max s content) b).content) (bs ++ more) whole rest
          → (whole : List ℕ) × Left s (length content) (b ∷ (bs ++ more)) whole rest
      test true is t = shut (sym is ∙ ap (λ (r : Body). is_settled r.state) (sym (settled-stays max s content (b ∷ bs) is)) ∙ k)
      test false is t = (grown s b t.0, back s content b (bs ++ more) t.0 rest is t.1)

  -- bytes that end there from the first on are chunks, and what comes after them
  pub chunks : (bs : List ℕ) → (after_bytes (body_at max (Digits 0 0) []) bs).state ≡ end
      → Chunks 0 bs (after_bytes (body_at max (Digits 0 0) []) bs).content (drop (used (body_at max (Digits 0 0) []) bs) bs)
  chunks bs e =
      let h = accepts (Digits 0 0) [] bs e in
      subst (λ body. Chunks 0 bs body (drop (used (body_at max (Digits 0 0) []) bs) bs)) (sym h.1) (begins 0 bs h.0 _ h.2)
