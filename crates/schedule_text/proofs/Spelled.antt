-- A text is that of the line, or of the entry, that is found in it, or of none.
use Rattle.std.proofs.Common.{◌≡◌, ℕ, Bool, true, false, List, Option, Some, None, refl, sym, ap, subst, ◌∙◌}
use Rattle.std.specs.Bool.{then_some}
use Rattle.std.specs.Prelude.{◌↔◌, IsTrue}
use Rattle.resty_world.specs.declared.entry.Entry.{Entry}
use Rattle.resty_world.specs.declared.schedule_line.SchedLine.{SchedLine}
use Rattle.schedule_text.specs.EntryTexts.{entry_text}
use Rattle.schedule_text.specs.Fitting.{Follows}
use Rattle.schedule_text.specs.FoundEntries.{entry_in}
use Rattle.schedule_text.specs.FoundLines.{line_in}
use Rattle.schedule_text.specs.LineTexts.{line_text}
use Rattle.schedule_text.specs.Ranges.{IsEntry, IsLine}
use Rattle.schedule_text.specs.Reading.{IsNextOf, ReadsEntry, ReadsLine, ReadsNext}
use Rattle.schedule_text.proofs.EntriesFound.{entry-found}
use Rattle.schedule_text.proofs.LinesFound.{line-found}

-- a line is known by its text
pub line-alone : (l m : SchedLine) → IsLine l → IsLine m → line_text l ≡ line_text m → l ≡ m
line-alone l m ranged_l ranged_m same = sym (line-found l ranged_l) ∙ ap line_in same ∙ line-found m ranged_m

pub entry-alone : (e g : Entry) → IsEntry e → IsEntry g → entry_text e ≡ entry_text g → e ≡ g
entry-alone e g ranged_e ranged_g same = sym (entry-found e ranged_e) ∙ ap entry_in same ∙ entry-found g ranged_g

clash : {C : Type 0} → false ≡ true → C
clash h = absurd (let e : false ≡ true = h in cc)

pub line-read : (text : List ℕ) (found : SchedLine) (yes : Bool) → found ≡ line_in text → (IsTrue yes ↔ (IsLine found × (text ≡ line_text found)))
    → ReadsLine text (then_some yes found)
line-read text found true is tells = tells.0 refl
line-read text found false is tells = λ next ranged same.
    let e : found ≡ next = is ∙ ap line_in same ∙ line-found next ranged in
    clash (tells.1 (subst IsLine (sym e) ranged, same ∙ ap line_text (sym e)))

pub entry-read : (text : List ℕ) (found : Entry) (yes : Bool) → found ≡ entry_in text → (IsTrue yes ↔ (IsEntry found × (text ≡ entry_text found)))
    → ReadsEntry text (then_some yes found)
entry-read text found true is tells = tells.0 refl
entry-read text found false is tells = λ next ranged same.
    let e : found ≡ next = is ∙ ap entry_in same ∙ entry-found next ranged in
    clash (tells.1 (subst IsEntry (sym e) ranged, same ∙ ap entry_text (sym e)))

-- what a line that was read is, where it may follow others
pub next-read : (before : List SchedLine) (text : List ℕ) (read next : Option SchedLine) → ReadsLine text read → IsNextOf before read next → ReadsNext before text next
next-read before text None None none known = λ l ranged follows is. none l ranged is
next-read before text None (Some n) none known = absurd (let e : None ≡ Some n = known.0 in cc)
next-read before text (Some l) None reads known = λ n ranged follows is.
    let same = line-alone n l ranged reads.0 (sym is ∙ reads.1) in known l refl (subst (Follows before) same follows)
next-read before text (Some l) (Some n) reads known =
    let same : n ≡ l = (let e : Some l ≡ Some n = known.0 in cc) in
    (subst IsLine (sym same) reads.0, known.1, reads.1 ∙ ap line_text (sym same))
