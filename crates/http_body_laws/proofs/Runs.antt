-- Bytes of each part of a chunked body, and how far a body is after them.
use Rattle.std.proofs.Common.{◌≡◌, ℕ, zero, suc, ◌+◌, ◌-◌, ◌*◌, ◌/◌, ◌^◌, ◌<◌, ◌≤◌, Bool, true, false, not, ◌||◌, ◌==◌, List, [], ◌∷◌, ◌++◌, length, Option, Some, None, sym, refl, ap, ◌∙◌, subst, arith, append_assoc, length-append}
use Rattle.std.specs.Prelude.{if◌then◌else◌}
use Rattle.std.specs.List.{list_all}
use Rattle.std.specs.Char.{digit_value, is_ascii_hexdigit}
use Rattle.std.specs.Str.Parse.{digits_value_after, AllDigits}
use Rattle.std.proofs.lemmas.Bool.{and_parts, lt-ltb, le-ltb, ne_eqb}
use Rattle.std.proofs.lemmas.Bool.Decides.{nat_tests}
use Rattle.std.proofs.lemmas.List.Sums.{list_all-from_AllPass}
use Rattle.httparse.specs.Ascii.{crlf_bytes}
use Rattle.httparse.specs.Grammar.{is_ows, is_extension_byte, print_extension, IsExtension, ChunkLine, print_chunk_line, chunk_size, IsChunkLine}
use Rattle.http_bodies.specs.declared.states.BodyState.{BodyState}
use Rattle.http_bodies.specs.declared.states.BodyState.TheVariants.{Digits, Blanks, Extension, Return, Refused}
use Rattle.http_bodies.specs.Records.{Body}
use Rattle.http_bodies.specs.States.{line_limit, after_byte, after_blanks, after_size, is_settled, takes_data}
use Rattle.http_bodies.specs.Bodies.{body_at, after_one, after_bytes, used}
use Rattle.http_body_laws.specs.ChunkedBodies.{IsShort}
use Rattle.http_body_laws.proofs.Left.{extension_text, line-parts, line-length}

-- from one body to another, all the bytes being its own
pub record Goes (from : Body) (xs : List ℕ) (to : Body) : Type 0 where
  pub on : (ys : List ℕ) → (after_bytes from (xs ++ ys) ≡ after_bytes to ys) × (used from (xs ++ ys) ≡ length xs + used to ys)

pub stands : (body : Body) → Goes body [] body
stands body = record { on = λ ys. (refl, omega arith) }

pub byte : (from mid to : Body) (x : ℕ) (xs : List ℕ) → is_settled from.state ≡ false → after_one from x ≡ mid → Goes mid xs to → Goes from (x ∷ xs) to
byte from mid to x xs k is goes = record {
  on = λ ys.
      let r = goes.on ys in
      let one : used from (x ∷ (xs ++ ys)) ≡ suc (used mid (xs ++ ys)) = ap (λ t. if t then 0 else suc (used (after_one from x) (xs ++ ys))) k ∙ ap (λ b. suc (used b (xs ++ ys))) is in
      (ap (λ b. after_bytes b (xs ++ ys)) is ∙ r.0, omega (arith, one, r.1));
}

pub both : (a b c : Body) (xs ys : List ℕ) → Goes a xs b → Goes b ys c → Goes a (xs ++ ys) c
both a b c xs ys f g = record {
  on = λ zs.
      let group = append_assoc xs ys zs in
      let first = f.on (ys ++ zs) in
      let second = g.on zs in
      let count : used a ((xs ++ ys) ++ zs) ≡ length xs + (length ys + used c zs) = ap (used a) group ∙ first.1 ∙ ap (λ n. length xs + n) second.1 in
      (ap (after_bytes a) group ∙ first.0 ∙ second.0, omega (arith, count, length-append xs ys));
}

pub to_same : (a b c : Body) (xs : List ℕ) → b ≡ c → Goes a xs b → Goes a xs c
to_same a b c xs e f = subst (λ d. Goes a xs d) e f

-- ---- a chunk line

-- below these a size may be, where so many more digits come
abbrev fits : ℕ → ℕ
fits zero = 2 ^ 64
fits (suc m) = fits m / 16

fits-below : (m : ℕ) → fits (suc m) ≤ 2 ^ 60
fits-below zero = omega arith
fits-below (suc m) = let less = fits-below m in omega (arith, less)

module _ (max : ℕ) (content : List ℕ) where
  abbrev pub at : BodyState → Body
  at s = body_at max s content

  run_digits : (ds : List ℕ) (size came m : ℕ) → AllDigits 16 ds → length ds ≤ m → came + m ≤ 16 → size < fits m
      → Goes (at (Digits size came)) ds (at (Digits (digits_value_after 16 size ds) (came + length ds)))
  run_digits [] size came m hex few sum small =
      let same : came ≡ came + 0 = omega arith in
      to_same _ _ _ [] (ap (λ n. at (Digits size n)) same) (stands (at (Digits size came)))
  run_digits (d ∷ ds) size came zero hex few sum small = absurd (omega arith)
  run_digits (d ∷ ds) size came (suc m) hex few sum small =
      let below = fits-below m in
      let step : after_one (at (Digits size came)) d ≡ at (Digits (size * 16 + digit_value d) (came + 1)) =
      ap at (rw (lt-ltb (digit_value d) 16 hex.0, lt-ltb came 16 (omega (arith, sum)), lt-ltb size (2 ^ 60) (omega (arith, small, below))) refl) in
      let same : came + 1 + length ds ≡ came + suc (length ds) = omega arith in
      byte _ _ _ d ds refl step
      (to_same _ _ _ ds (ap (λ n. at (Digits (digits_value_after 16 (size * 16 + digit_value d) ds) n)) same)
      (run_digits ds (size * 16 + digit_value d) (came + 1) m hex.1 (omega (arith, few)) (omega (arith, sum)) (omega (arith, small, hex.0))))

  -- a state that takes what follows the digits
  record IsAfterDigits (s : BodyState) (size came : ℕ) : Type 0 where
    open_ : is_settled s ≡ false
    quiet : takes_data s ≡ false
    like : (room b : ℕ) → 16 ≤ digit_value b → after_byte room s b ≡ after_blanks size came b

  step_like : (s : BodyState) (size came b : ℕ) (next : BodyState) → IsAfterDigits s size came → 16 ≤ digit_value b → after_blanks size came b ≡ next → after_one (at s) b ≡ at next
  step_like s size came b next a other e =
      (λ i. body_at max (a.like (max - length content) b other i) (if a.quiet i then content ++ b ∷ [] else content)) ∙ ap at e

  digits_after : (size came : ℕ) → 0 < came → IsAfterDigits (Digits size came) size came
  digits_after size came some = record {
    open_ = refl;
    quiet = refl;
    like = λ room b other. rw (le-ltb (digit_value b) 16 other, ne_eqb came 0 (omega (arith, some))) refl;
  }

  blanks_after : (size came : ℕ) → IsAfterDigits (Blanks size came) size came
  blanks_after size came = record { open_ = refl; quiet = refl; like = λ room b other. refl }

  ows_other : (b : ℕ) → is_ows b ≡ true → 16 ≤ digit_value b
  ows_other b h = grind (arith, nat_tests, h)

  step_blank : (size came b : ℕ) → is_ows b ≡ true → came < line_limit → after_blanks size came b ≡ Blanks size (came + 1)
  step_blank size came b blank less = rw (lt-ltb came line_limit less, blank) refl

  run_blanks : (bs : List ℕ) (size came : ℕ) → list_all is_ows bs ≡ true → came + length bs ≤ line_limit → Goes (at (Blanks size came)) bs (at (Blanks size (came + length bs)))
  run_blanks [] size came all short =
      let same : came ≡ came + 0 = omega arith in
      to_same _ _ _ [] (ap (λ n. at (Blanks size n)) same) (stands (at (Blanks size came)))
  run_blanks (b ∷ bs) size came all short =
      let parts = and_parts _ _ all in
      let same : came + 1 + length bs ≡ came + suc (length bs) = omega arith in
      byte _ _ _ b bs refl (ap at (step_blank size came b parts.0 (omega (arith, short))))
      (to_same _ _ _ bs (ap (λ n. at (Blanks size n)) same) (run_blanks bs size (came + 1) parts.1 (omega (arith, short))))

  step_text : (size came b : ℕ) → is_extension_byte b ≡ true → came < line_limit → after_byte (max - length content) (Extension size came) b ≡ Extension size (came + 1)
  step_text size came b text less = rw (lt-ltb came line_limit less) (test (b == 13) (b == 10) text)
    where
      test : (r f : Bool) → not (r || f) ≡ true → (if r then Return size (came + 1) else (if f then Refused 400 else Extension size (came + 1))) ≡ Extension size (came + 1)
      test true f e = absurd (let w : false ≡ true = e in cc)
      test false true e = absurd (let w : false ≡ true = e in cc)
      test false false e = refl

  run_text : (bs : List ℕ) (size came : ℕ) → list_all is_extension_byte bs ≡ true → came + length bs ≤ line_limit → Goes (at (Extension size came)) bs (at (Extension size (came + length bs)))
  run_text [] size came all short =
      let same : came ≡ came + 0 = omega arith in
      to_same _ _ _ [] (ap (λ n. at (Extension size n)) same) (stands (at (Extension size came)))
  run_text (b ∷ bs) size came all short =
      let parts = and_parts _ _ all in
      let same : came + 1 + length bs ≡ came + suc (length bs) = omega arith in
      byte _ _ _ b bs refl (ap at (step_text size came b parts.0 (omega (arith, short))))
      (to_same _ _ _ bs (ap (λ n. at (Extension size n)) same) (run_text bs size (came + 1) parts.1 (omega (arith, short))))

  -- after CR LF
  abbrev sized : ℕ → Body
  sized size = at (after_size (max - length content) size)

  step_feed : (size came : ℕ) → came < line_limit → after_one (at (Return size came)) 10 ≡ sized size
  step_feed size came less = ap at (rw (lt-ltb came line_limit less) refl)

  feed : (size came : ℕ) → came < line_limit → Goes (at (Return size came)) (10 ∷ []) (sized size)
  feed size came less = byte _ _ _ 10 [] refl (step_feed size came less) (stands (sized size))

  step_return : (size came : ℕ) → came < line_limit → after_blanks size came 13 ≡ Return size (came + 1)
  step_return size came less = rw (lt-ltb came line_limit less) refl

  step_semicolon : (size came : ℕ) → came < line_limit → after_blanks size came 59 ≡ Extension size (came + 1)
  step_semicolon size came less = rw (lt-ltb came line_limit less) refl

  step_text_end : (size came : ℕ) → came < line_limit → after_one (at (Extension size came)) 13 ≡ at (Return size (came + 1))
  step_text_end size came less = ap at (rw (lt-ltb came line_limit less) refl)

  run_end : (s : BodyState) (e : Option (List ℕ)) (size came : ℕ) → IsAfterDigits s size came → list_all is_extension_byte (extension_text e) ≡ true
      → came + length (print_extension e) + 2 ≤ line_limit → Goes (at s) (print_extension e ++ crlf_bytes) (sized size)
  run_end s None size came a text short =
      byte _ _ _ 13 (10 ∷ []) a.open_ (step_like s size came 13 _ a (omega arith) (step_return size came (omega (arith, short)))) (feed size (came + 1) (omega (arith, short)))
  run_end s (Some bs) size came a text short =
      byte _ _ _ 59 (bs ++ crlf_bytes) a.open_ (step_like s size came 59 _ a (omega arith) (step_semicolon size came (omega (arith, short))))
      (both _ _ _ bs crlf_bytes (run_text bs size (came + 1) text (omega (arith, short)))
      (byte _ _ _ 13 (10 ∷ []) refl (step_text_end size (came + 1 + length bs) (omega (arith, short))) (feed size (came + 1 + length bs + 1) (omega (arith, short)))))

  run_rest : (blanks : List ℕ) (e : Option (List ℕ)) (size came : ℕ) → 0 < came → list_all is_ows blanks ≡ true → list_all is_extension_byte (extension_text e) ≡ true
      → came + length blanks + length (print_extension e) + 2 ≤ line_limit → Goes (at (Digits size came)) (blanks ++ (print_extension e ++ crlf_bytes)) (sized size)
  run_rest [] e size came some blank text short = run_end (Digits size came) e size came (digits_after size came some) text (omega (arith, short))
  run_rest (b ∷ bs) e size came some blank text short =
      let parts = and_parts _ _ blank in
      byte _ _ _ b (bs ++ (print_extension e ++ crlf_bytes)) refl (step_like (Digits size came) size came b _ (digits_after size came some) (ows_other b parts.0) (step_blank size came b parts.0 (omega (arith, short))))
      (both _ _ _ bs (print_extension e ++ crlf_bytes) (run_blanks bs size (came + 1) parts.1 (omega (arith, short)))
      (run_end (Blanks size (came + 1 + length bs)) e size (came + 1 + length bs) (blanks_after size (came + 1 + length bs)) text (omega (arith, short))))

  no_hex : (b : ℕ) → is_ascii_hexdigit b ≡ true → digit_value b < 16
  no_hex b h = grind (arith, nat_tests, h)

  all_digits : (ds : List ℕ) → list_all is_ascii_hexdigit ds ≡ true → AllDigits 16 ds
  all_digits [] h = tt
  all_digits (d ∷ ds) h = let parts = and_parts _ _ h in (no_hex d parts.0, all_digits ds parts.1)

  extension_is : (e : Option (List ℕ)) → IsExtension e → list_all is_extension_byte (extension_text e) ≡ true
  extension_is None h = refl
  extension_is (Some text) h = list_all-from_AllPass is_extension_byte text h

  pub run_line : (l : ChunkLine) → IsChunkLine l → IsShort line_limit l → Goes (at (Digits 0 0)) (print_chunk_line l) (sized (chunk_size l))
  run_line l form short =
      let long = line-length l in
      subst (λ xs. Goes (at (Digits 0 0)) xs (sized (chunk_size l))) (sym (line-parts l))
      (both _ _ _ l.digits _ (run_digits l.digits 0 0 16 (all_digits l.digits (list_all-from_AllPass is_ascii_hexdigit l.digits form.digits.2)) form.digits.1 (omega arith) (omega arith))
      (run_rest l.pad l.extension (chunk_size l) (0 + length l.digits) (omega (arith, form.digits.0)) (list_all-from_AllPass is_ows l.pad form.pad) (extension_is l.extension form.extension) (omega (arith, long, short))))
