-- How far the reading of a schedule has come.
use Rattle.std.proofs.Common.{◌≡◌, ◌≢◌, ℕ, zero, suc, ◌+◌, ◌<◌, ◌≤◌, true, false, cond, Result, Ok, Err, MatchResult, List, [], ◌∷◌, ◌++◌, length, take, All, Some, None, slice_get, refl, sym, ap, subst, ◌∙◌, append_assoc, append-nil, arith}
use Rattle.std.specs.Prelude.{codes}
use Rattle.std.proofs.lemmas.Grind.{flat_map-append}
use Rattle.std.proofs.lemmas.List.{take-append-le}
use Rattle.std.proofs.lemmas.List.Sums.{sum_by-append}
use Rattle.std.proofs.Math.Seq.{take-append_seam}
use Rattle.resty_world.specs.declared.event.Event.TheVariants as event
use Rattle.resty_world.specs.declared.schedule_line.SchedLine.{SchedLine}
use Rattle.resty_world.specs.declared.schedule_line.SchedLine.TheVariants as line
use Rattle.schedule_text.specs.Accepted.{IsRead, IsRefusedAt, IsScheduleFault}
use Rattle.schedule_text.specs.declared.fault.SchedFault.{SchedFault}
use Rattle.schedule_text.specs.declared.fault.SchedFault.TheVariants as fault
use Rattle.schedule_text.specs.Fitting.{Fits, AllFit}
use Rattle.schedule_text.specs.LineTexts.{line_text, whole_line, schedule_text}
use Rattle.schedule_text.specs.Lines.{stops_in, is_stop}
use Rattle.schedule_text.specs.Reading.{ReadsNext}
use Rattle.schedule_text.proofs.Finding.{lacks-tells}
use Rattle.schedule_text.proofs.ByTest.{by_order}
use Rattle.schedule_text.proofs.LinesFound.{line-unbroken}
use Rattle.schedule_text.proofs.Splitting.{split-unique, split-absent}

pub record Reached (text : List ℕ) (lines : List SchedLine) (rest : List ℕ) : Type 0 where
  pub whole : text ≡ schedule_text lines ++ rest
  pub fit : AllFit lines
  pub unended : stops_in lines ≡ 0

-- the text of lines with one more
schedule_text-push : (lines : List SchedLine) (l : SchedLine) → schedule_text (lines ++ l ∷ []) ≡ schedule_text lines ++ whole_line l
schedule_text-push lines l = flat_map-append whole_line lines (l ∷ []) ∙ ap (λ s. schedule_text lines ++ s) (append-nil (whole_line l))

-- an index within lines with one more is one of those before, or the last
slice_get-push : {A : Type 0} (xs : List A) (x y : A) (i : ℕ) → slice_get (xs ++ x ∷ []) i ≡ Some y → (i < length xs → slice_get xs i ≡ Some y) × (length xs ≤ i → (i ≡ length xs) × (x ≡ y))
slice_get-push [] x y zero here = ((λ lt. absurd (omega arith)), (λ le. (refl, (let e : x ≡ y = cc in e))))
slice_get-push [] x y (suc i) here = absurd (let e : None ≡ Some y = here in cc)
slice_get-push (z ∷ zs) x y zero here = ((λ lt. here), (λ le. absurd (omega arith)))
slice_get-push (z ∷ zs) x y (suc i) here =
    let rest = slice_get-push zs x y i here in (
      (λ lt. rest.0 (omega arith)),
      (λ le. let last = rest.1 (omega arith) in (let e = last.0 in omega arith, last.1)),
    )

-- lines that fit, with one more that fits them
fit-push : (lines : List SchedLine) (l : SchedLine) → AllFit lines → Fits lines l → AllFit (lines ++ l ∷ [])
fit-push lines l fit next i y here =
    let ways = slice_get-push lines l y i here in
    by_order i (length lines)
    (λ lt. rw (let le : i ≤ length lines = omega arith in take-append-le i lines (l ∷ []) le) (fit i y (ways.0 lt)))
    (λ le.
    let last = ways.1 le in
    subst (λ z. Fits (take i (lines ++ l ∷ [])) z) last.1
    (subst (λ ls. Fits ls l) (sym (take-append_seam lines (l ∷ [])) ∙ ap (λ n. take n (lines ++ l ∷ [])) (sym last.0)) next))

stops_in-push : (lines : List SchedLine) (l : SchedLine) → stops_in (lines ++ l ∷ []) ≡ stops_in lines + cond (is_stop l) 1 0
stops_in-push lines l = sum_by-append (λ x. cond (is_stop x) 1 0) lines (l ∷ []) ∙ omega arith

clash : {C : Type 0} → false ≡ true → C
clash h = absurd (let e : false ≡ true = h in cc)

stop-is : (l : SchedLine) → is_stop l ≡ true → l ≡ line.Given event.Stop
stop-is (line.Given (event.Arrive k)) is = clash is
stop-is (line.Given (event.Bytes i b)) is = clash is
stop-is (line.Given (event.Ended i)) is = clash is
stop-is (line.Given (event.Broken i)) is = clash is
stop-is (line.Given (event.Ready i)) is = clash is
stop-is (line.Given (event.Dialled n)) is = clash is
stop-is (line.Given (event.Refused n)) is = clash is
stop-is (line.Given (event.Moment t)) is = clash is
stop-is (line.Given event.Stop) is = refl
stop-is (line.Given event.Fault) is = clash is
stop-is (line.Given (event.BadLine n)) is = clash is
stop-is (line.Given event.Memory) is = clash is
stop-is (line.Room i n) is = clash is
stop-is line.FailNext is = clash is
stop-is line.FailDial is = clash is
stop-is line.FailLog is = clash is
stop-is line.FailListen is = clash is
stop-is (line.FailPut i) is = clash is

pub reached-start : (text : List ℕ) → Reached text [] text
reached-start text = record { whole = refl; fit = λ i next here. absurd (let e : None ≡ Some next = here in cc); unended = refl }

-- a text with one line more
text-push : (text rest line after : List ℕ) (lines : List SchedLine) (l : SchedLine) → text ≡ schedule_text lines ++ rest → rest ≡ line ++ codes "\n" ++ after → line ≡ line_text l
    → text ≡ schedule_text (lines ++ l ∷ []) ++ after
text-push text rest line after lines l whole split is =
    whole ∙ ap (λ r. schedule_text lines ++ r) (split ∙ ap (λ s. s ++ codes "\n" ++ after) is)
    ∙ sym (append_assoc (schedule_text lines) (whole_line l) after)
    ∙ ap (λ s. s ++ after) (sym (schedule_text-push lines l))

pub reached-more : (text rest line after : List ℕ) (lines more : List SchedLine) (l : SchedLine) → Reached text lines rest → rest ≡ line ++ codes "\n" ++ after
    → ReadsNext lines line (Some l) → is_stop l ≡ false → more ≡ lines ++ l ∷ [] → Reached text more after
reached-more text rest line after lines more l before split reads goes pushed = record {
  whole = rw pushed (text-push text rest line after lines l before.whole split reads.2);
  fit = rw pushed (fit-push lines l before.fit record { goes_on = before.unended; ranged = reads.0; follows = reads.1 });
  unended = rw (pushed, stops_in-push lines l, goes) (omega (arith, before.unended));
}

-- the last line ends the schedule, and the text
pub reached-end : (text rest line after : List ℕ) (lines more : List SchedLine) (l : SchedLine) → Reached text lines rest → rest ≡ line ++ codes "\n" ++ after
    → ReadsNext lines line (Some l) → is_stop l ≡ true → more ≡ lines ++ l ∷ [] → after ≡ [] → IsRead text more
reached-end text rest line after lines more l before split reads stops pushed none = record {
  whole = rw pushed (text-push text rest line after lines l before.whole split reads.2 ∙ ap (λ s. schedule_text (lines ++ l ∷ []) ++ s) none ∙ append-nil (schedule_text (lines ++ l ∷ [])));
  made = record {
    fit = rw pushed (fit-push lines l before.fit record { goes_on = before.unended; ranged = reads.0; follows = reads.1 });
    before = lines;
    ends = pushed ∙ ap (λ z. lines ++ z ∷ []) (stop-is l stops);
  };
}

-- something follows the line that ends the schedule
pub reached-over : (text rest line after : List ℕ) (lines more : List SchedLine) (l : SchedLine) (n : ℕ) → Reached text lines rest → rest ≡ line ++ codes "\n" ++ after
    → ReadsNext lines line (Some l) → is_stop l ≡ true → more ≡ lines ++ l ∷ [] → after ≢ [] → n ≡ length more + 1 → IsRefusedAt text n
reached-over text rest line after lines more l n before split reads stops pushed some numbered = record {
  lines = more;
  rest = after;
  numbered = numbered;
  fit = rw pushed (fit-push lines l before.fit record { goes_on = before.unended; ranged = reads.0; follows = reads.1 });
  whole = rw pushed (text-push text rest line after lines l before.whole split reads.2);
  unread = λ next tail fits is.
      let ended : stops_in more ≡ 1 = rw (pushed, stops_in-push lines l, stops) (omega (arith, before.unended)) in
      let none = fits.goes_on in absurd (omega arith);
  unended = λ none. absurd (some none);
}

-- the next line isn't read
pub reached-unread : (text rest line after : List ℕ) (lines : List SchedLine) (n : ℕ) → Reached text lines rest → rest ≡ line ++ codes "\n" ++ after → All (λ b. b ≢ 10) line
    → ReadsNext lines line None → n ≡ length lines + 1 → IsRefusedAt text n
reached-unread text rest line after lines n before split out none numbered = record {
  lines = lines;
  rest = rest;
  numbered = numbered;
  fit = before.fit;
  whole = before.whole;
  unread = λ next tail fits is.
      let ways = split-unique 10 line (line_text next) after tail out (lacks-tells 10 (line_text next) (line-unbroken next fits.ranged))
      (sym (append_assoc line (codes "\n") after) ∙ sym split ∙ is ∙ append_assoc (line_text next) (codes "\n") tail) in
      none next fits.ranged fits.follows ways.0;
  unended = λ empty. before.unended;
}

-- no line ends
pub reached-unended : (text rest : List ℕ) (lines : List SchedLine) (n : ℕ) → Reached text lines rest → All (λ b. b ≢ 10) rest → n ≡ length lines + 1 → IsRefusedAt text n
reached-unended text rest lines n before out numbered = record {
  lines = lines;
  rest = rest;
  numbered = numbered;
  fit = before.fit;
  whole = before.whole;
  unread = λ next tail fits is. split-absent 10 (line_text next) tail rest out (is ∙ append_assoc (line_text next) (codes "\n") tail);
  unended = λ empty. before.unended;
}

-- what the end of the reading returns
pub finished : {A : Type 0} (text after : List ℕ) (more : List SchedLine) (r : Result A SchedFault)
    → MatchResult r (λ done. (after ≡ []) × Unit {0}) (λ f. (after ≢ []) × (f ≡ fault.BadLine (length more + 1)))
    → (after ≡ [] → IsRead text more) → (after ≢ [] → IsRefusedAt text (length more + 1)) → MatchResult r (λ done. IsRead text more) (IsScheduleFault text)
finished text after more (Ok done) known read refused = read known.0
finished text after more (Err f) known read refused = subst (IsScheduleFault text) (sym known.1) (refused known.0)
