-- A text is that of one schedule, and no text of a schedule is refused.
use Rattle.std.proofs.Common.{◌≡◌, ℕ, suc, ◌<◌, cond, Result, Ok, Err, MatchResult, List, [], ◌∷◌, ◌++◌, take, Some, slice_get, refl, sym, ap, subst, ◌∙◌, append_assoc, append-nil, arith}
use Rattle.std.specs.Prelude.{codes}
use Rattle.std.proofs.lemmas.List.Sums.{sum_by-append}
use Rattle.resty_world.specs.declared.event.Event.TheVariants as event
use Rattle.resty_world.specs.declared.schedule_line.SchedLine.{SchedLine}
use Rattle.resty_world.specs.declared.schedule_line.SchedLine.TheVariants as line
use Rattle.schedule_text.specs.Accepted.{IsRead, IsRefusedAt, IsScheduleFault}
use Rattle.schedule_text.specs.declared.fault.SchedFault.{SchedFault}
use Rattle.schedule_text.specs.declared.fault.SchedFault.TheVariants as fault
use Rattle.schedule_text.specs.Fitting.{Fits, IsSchedule}
use Rattle.schedule_text.specs.Ranges.{IsLine}
use Rattle.schedule_text.specs.LineTexts.{line_text, whole_line, schedule_text}
use Rattle.schedule_text.specs.Lines.{stops_in, is_stop}
use Rattle.schedule_text.proofs.Splitting.{split-unique}
use Rattle.schedule_text.proofs.Finding.{lacks-tells}
use Rattle.schedule_text.proofs.LinesFound.{line-unbroken}
use Rattle.schedule_text.proofs.ByTest.{Lacks}
use Rattle.schedule_text.proofs.Spelled.{line-alone}

unbroken : (l : SchedLine) → IsLine l → Lacks 10 (line_text l)
unbroken l fits = lacks-tells 10 (line_text l) (line-unbroken l fits)

-- a line, and what stands after it, is known by the text
next-alone : (l m : SchedLine) (t u : List ℕ) → IsLine l → IsLine m
    → whole_line l ++ t ≡ whole_line m ++ u → (l ≡ m) × (t ≡ u)
next-alone l m t u fits_l fits_m is =
    let ways = split-unique 10 (line_text l) (line_text m) t u (unbroken l fits_l) (unbroken m fits_m)
    (sym (append_assoc (line_text l) (codes "\n") t) ∙ is ∙ append_assoc (line_text m) (codes "\n") u) in
    (line-alone l m fits_l fits_m ways.0, ways.1)

-- each line fits what stands before it, from an index on
abbrev pub FitsFrom : List SchedLine → List SchedLine → Type 0
FitsFrom before lines = (i : ℕ) (next : SchedLine) → slice_get lines i ≡ Some next → Fits (before ++ take i lines) next

pub first-fits : (before lines : List SchedLine) (l : SchedLine) → FitsFrom before (l ∷ lines) → Fits before l
first-fits before lines l fit = subst (λ ls. Fits ls l) (append-nil before) (fit 0 l refl)

pub rest-fits : (before lines : List SchedLine) (l : SchedLine) → FitsFrom before (l ∷ lines) → FitsFrom (before ++ l ∷ []) lines
rest-fits before lines l fit i next here = subst (λ ls. Fits ls next) (sym (append_assoc before (l ∷ []) (take i lines))) (fit (suc i) next here)

-- a line isn't empty
filled : (line rest : List ℕ) → line ++ codes "\n" ++ rest ≡ [] → ⊥
filled [] rest is = let e : 10 ∷ rest ≡ [] = is in cc
filled (x ∷ line) rest is = let e : x ∷ (line ++ codes "\n" ++ rest) ≡ [] = is in cc

-- a text has lines in one way
lines-alone : (before ls ms : List SchedLine) → FitsFrom before ls → FitsFrom before ms → schedule_text ls ≡ schedule_text ms → ls ≡ ms
lines-alone before [] [] fit_l fit_m is = refl
lines-alone before [] (m ∷ ms) fit_l fit_m is = absurd (filled (line_text m) (schedule_text ms) (sym is))
lines-alone before (l ∷ ls) [] fit_l fit_m is = absurd (filled (line_text l) (schedule_text ls) is)
lines-alone before (l ∷ ls) (m ∷ ms) fit_l fit_m is =
    let fits_l = first-fits before ls l fit_l in
    let fits_m = first-fits before ms m fit_m in
    let next = next-alone l m (schedule_text ls) (schedule_text ms) fits_l.ranged fits_m.ranged is in
    let rest = lines-alone (before ++ l ∷ []) ls ms (rest-fits before ls l fit_l)
    (subst (λ z. FitsFrom (before ++ z ∷ []) ms) (sym next.0) (rest-fits before ms m fit_m)) next.1 in
    ap (λ z. z ∷ ls) next.0 ∙ ap (λ zs. m ∷ zs) rest

-- a schedule isn't refused
unrefused : (before ls ms : List SchedLine) (rest : List ℕ) → FitsFrom before ls → FitsFrom before ms → schedule_text ls ++ rest ≡ schedule_text ms
    → ((next : SchedLine) (after : List ℕ) → Fits (before ++ ls) next → rest ≡ whole_line next ++ after → ⊥) → (rest ≡ [] → stops_in (before ++ ls) ≡ 0) → 0 < stops_in (before ++ ms) → ⊥
unrefused before [] [] rest fit_l fit_m is unread unended stops = let none = unended is in omega arith
unrefused before [] (m ∷ ms) rest fit_l fit_m is unread unended stops =
    unread m (schedule_text ms) (subst (λ ls. Fits ls m) (sym (append-nil before)) (first-fits before ms m fit_m)) is
unrefused before (l ∷ ls) [] rest fit_l fit_m is unread unended stops = filled (line_text l) (schedule_text ls ++ rest) (sym (append_assoc (whole_line l) (schedule_text ls) rest) ∙ is)
unrefused before (l ∷ ls) (m ∷ ms) rest fit_l fit_m is unread unended stops =
    let fits_l = first-fits before ls l fit_l in
    let fits_m = first-fits before ms m fit_m in
    let next = next-alone l m (schedule_text ls ++ rest) (schedule_text ms) fits_l.ranged fits_m.ranged (sym (append_assoc (whole_line l) (schedule_text ls) rest) ∙ is) in
    let same : before ++ l ∷ ls ≡ (before ++ l ∷ []) ++ ls = sym (append_assoc before (l ∷ []) ls) in
    let other : before ++ m ∷ ms ≡ (before ++ l ∷ []) ++ ms = sym (append_assoc before (m ∷ []) ms) ∙ ap (λ z. (before ++ z ∷ []) ++ ms) (sym next.0) in
    unrefused (before ++ l ∷ []) ls ms rest (rest-fits before ls l fit_l)
    (subst (λ z. FitsFrom (before ++ z ∷ []) ms) (sym next.0) (rest-fits before ms m fit_m)) next.1
    (λ n after fits at. unread n after (subst (λ zs. Fits zs n) (sym same) fits) at)
    (λ none. ap stops_in (sym same) ∙ unended none)
    (subst (λ zs. 0 < stops_in zs) other stops)

-- a schedule has a stop
has-stop : (lines : List SchedLine) → IsSchedule lines → 0 < stops_in lines
has-stop lines made =
    let split = ap stops_in made.ends ∙ sum_by-append (λ l. cond (is_stop l) 1 0) made.before (line.Given event.Stop ∷ []) in
    omega (arith, split)

-- a text that is read isn't refused
pub never-refused : (text : List ℕ) (lines : List SchedLine) (n : ℕ) → IsRead text lines → ¬ (IsRefusedAt text n)
never-refused text lines n known refused =
    unrefused [] refused.lines lines refused.rest refused.fit known.made.fit (sym refused.whole ∙ known.whole) refused.unread refused.unended (has-stop lines known.made)

-- where a text is that of a schedule, that schedule is returned, unless out of memory
pub accepted : (text : List ℕ) (r : Result (List SchedLine) SchedFault) → MatchResult r (IsRead text) (IsScheduleFault text) → (lines : List SchedLine) → IsRead text lines
    → MatchResult r (λ s. s ≡ lines) (λ f. f ≡ fault.Memory)
accepted text (Ok s) read lines known = lines-alone [] s lines read.made.fit known.made.fit (sym read.whole ∙ known.whole)
accepted text (Err (fault.BadLine n)) refused lines known = absurd (never-refused text lines n known refused)
accepted text (Err fault.Memory) refused lines known = refl

pub schedule-alone : (lines others : List SchedLine) → IsSchedule lines → IsSchedule others → schedule_text lines ≡ schedule_text others → lines ≡ others
schedule-alone lines others made made_others is = lines-alone [] lines others made.fit made_others.fit is
