-- How far the reading of a history has come, and that a text is that of one history.
use Rattle.std.proofs.Common.{◌≡◌, ◌≢◌, ℕ, suc, ◌+◌, ◌-◌, ◌<◌, ◌≤◌, Result, Ok, Err, MatchResult, Some, None, List, [], ◌∷◌, ◌++◌, All, length, reverse, refl, sym, ap, subst, ◌∙◌, append_assoc, append-nil, length-append, arith}
use Rattle.std.specs.List.{flat_map}
use Rattle.std.specs.Prelude.{codes}
use Rattle.std.proofs.lemmas.List.{get_or-reverse, length-reverse, reverse-reverse}
use Rattle.std.proofs.lemmas.List.Elements.{All-cons, All-nil}
use Rattle.resty_world.specs.declared.entry.Entry.{Entry}
use Rattle.schedule_text.specs.Accepted.{IsHistory, IsHistoryFault, IsHistoryOf, IsNoHistoryAt}
use Rattle.schedule_text.specs.EntryTexts.{entry_text, entry_line, history_text}
use Rattle.schedule_text.specs.Ranges.{IsEntry}
use Rattle.schedule_text.specs.Reading.{ReadsEntry}
use Rattle.schedule_text.specs.declared.fault.SchedFault.{SchedFault}
use Rattle.schedule_text.specs.declared.fault.SchedFault.TheVariants as fault
use Rattle.schedule_text.proofs.EntryEnds.{entry-unbroken}
use Rattle.schedule_text.proofs.Finding.{lacks-tells}
use Rattle.schedule_text.proofs.HistoryLines.{history_lines}
use Rattle.schedule_text.proofs.Spelled.{entry-alone}
use Rattle.schedule_text.proofs.Splitting.{split-unique, split-absent}
use Rattle.schedule_text.proofs.ByTest.{Lacks}

unbroken : (e : Entry) → IsEntry e → Lacks 10 (entry_text e)
unbroken e fits = lacks-tells 10 (entry_text e) (entry-unbroken e fits)

-- these entries were read, the newest first, and this is left; the next line has this number
pub record Came (text : List ℕ) (entries : List Entry) (rest : List ℕ) (number : ℕ) : Type 0 where
  pub whole : text ≡ history_text entries ++ rest
  pub made : IsHistory entries
  pub numbered : number ≡ length entries + 1

pub came-start : (text : List ℕ) (entries : List Entry) → entries ≡ [] → Came text entries text 1
came-start text entries none = rw none record { whole = refl; made = All-nil IsEntry; numbered = refl }

pub came-more : (text rest line after : List ℕ) (entries more : List Entry) (e : Entry) (n m : ℕ) → Came text entries rest n → rest ≡ line ++ codes "\n" ++ after
    → ReadsEntry line (Some e) → more ≡ e ∷ entries → m ≡ n + 1 → Came text more after m
came-more text rest line after entries more e n m before split reads pushed next = rw pushed record {
  whole = before.whole ∙ ap (λ r. history_text entries ++ r) (split ∙ ap (λ s. s ++ codes "\n" ++ after) reads.1)
      ∙ sym (append_assoc (history_text entries) (entry_line e) after);
  made = All-cons IsEntry e entries reads.0 before.made;
  numbered = let k = before.numbered in omega (arith, next);
}

-- the text has as many bytes as lines were read, and more
lines-long : (entries : List Entry) → length entries ≤ length (history_text entries)
lines-long [] = omega arith
lines-long (e ∷ entries) = omega (arith, lines-long entries, length-append (history_text entries) (entry_line e), length-append (entry_text e) (codes "\n"))

pub few-lines : (text rest : List ℕ) (entries : List Entry) (n : ℕ) → Came text entries rest n → n + length rest ≤ length text + 1
few-lines text rest entries n came = omega (arith, came.numbered, lines-long entries, ap length came.whole, length-append (history_text entries) rest)

pub came-end : (text rest : List ℕ) (entries : List Entry) (n : ℕ) → Came text entries rest n → rest ≡ [] → IsHistoryOf text entries
came-end text rest entries n came none = record { whole = came.whole ∙ ap (λ r. history_text entries ++ r) none ∙ append-nil (history_text entries); made = came.made }

-- the next line is no entry
pub came-unread : (text rest line after : List ℕ) (entries : List Entry) (n : ℕ) → Came text entries rest n → rest ≡ line ++ codes "\n" ++ after → Lacks 10 line
    → ReadsEntry line None → IsNoHistoryAt text n
came-unread text rest line after entries n came split out none = record {
  entries = entries;
  rest = rest;
  numbered = came.numbered;
  made = came.made;
  whole = came.whole;
  unread = λ next tail fits is.
      let ways = split-unique 10 line (entry_text next) after tail out (unbroken next fits)
      (sym (append_assoc line (codes "\n") after) ∙ sym split ∙ is ∙ append_assoc (entry_text next) (codes "\n") tail) in
      none next fits ways.0;
  some = λ empty. let e : [] ≡ line ++ codes "\n" ++ after = sym empty ∙ split in filled line after (sym e);
}
  where
    filled : (line after : List ℕ) → line ++ codes "\n" ++ after ≡ [] → ⊥
    filled [] after is = let e : 10 ∷ after ≡ [] = is in cc
    filled (x ∷ line) after is = let e : x ∷ (line ++ codes "\n" ++ after) ≡ [] = is in cc

-- no line ends
pub came-unended : (text rest : List ℕ) (entries : List Entry) (n : ℕ) → Came text entries rest n → Lacks 10 rest → rest ≢ [] → IsNoHistoryAt text n
came-unended text rest entries n came out some = record {
  entries = entries;
  rest = rest;
  numbered = came.numbered;
  made = came.made;
  whole = came.whole;
  unread = λ next tail fits is. split-absent 10 (entry_text next) tail rest out (is ∙ append_assoc (entry_text next) (codes "\n") tail);
  some = some;
}

-- what the end of the reading returns
pub came-finished : {H : Type 0} (entries_of : H → List Entry) (text rest : List ℕ) (entries : List Entry) (n : ℕ) (r : Result H SchedFault) → Came text entries rest n → Lacks 10 rest
    → MatchResult r (λ h. (rest ≡ []) × (entries_of h ≡ entries)) (λ f. (rest ≢ []) × (f ≡ fault.BadLine n)) → MatchResult r (λ h. IsHistoryOf text (entries_of h)) (IsHistoryFault text)
came-finished entries_of text rest entries n (Ok h) came out known = subst (IsHistoryOf text) (sym known.1) (came-end text rest entries n came known.0)
came-finished entries_of text rest entries n (Err f) came out known = subst (IsHistoryFault text) (sym known.1) (came-unended text rest entries n came out known.0)

-- ---- one history

filled : (line rest : List ℕ) → line ++ codes "\n" ++ rest ≡ [] → ⊥
filled [] rest is = let e : 10 ∷ rest ≡ [] = is in cc
filled (x ∷ line) rest is = let e : x ∷ (line ++ codes "\n" ++ rest) ≡ [] = is in cc

-- an entry, and what stands after it, is known by the text
next-alone : (e g : Entry) (t u : List ℕ) → IsEntry e → IsEntry g → entry_line e ++ t ≡ entry_line g ++ u → (e ≡ g) × (t ≡ u)
next-alone e g t u fits fits_g is =
    let ways = split-unique 10 (entry_text e) (entry_text g) t u (unbroken e fits) (unbroken g fits_g)
    (sym (append_assoc (entry_text e) (codes "\n") t) ∙ is ∙ append_assoc (entry_text g) (codes "\n") u) in
    (entry-alone e g fits fits_g ways.0, ways.1)

lines-alone : (es gs : List Entry) → All IsEntry es → All IsEntry gs → flat_map entry_line es ≡ flat_map entry_line gs → es ≡ gs
lines-alone [] [] fit fit_g is = refl
lines-alone [] (g ∷ gs) fit fit_g is = absurd (filled (entry_text g) (flat_map entry_line gs) (sym is))
lines-alone (e ∷ es) [] fit fit_g is = absurd (filled (entry_text e) (flat_map entry_line es) is)
lines-alone (e ∷ es) (g ∷ gs) fit fit_g is =
    let ways = next-alone e g (flat_map entry_line es) (flat_map entry_line gs) (fit 0 e (omega arith)) (fit_g 0 g (omega arith)) is in
    let rest = lines-alone es gs (λ k d within. fit (suc k) d (omega arith)) (λ k d within. fit_g (suc k) d (omega arith)) ways.1 in
    ap (λ z. z ∷ es) ways.0 ∙ ap (λ zs. g ∷ zs) rest

-- entries that go on with something that no entry is, and others that don't
unrefused : (es gs : List Entry) (rest : List ℕ) → All IsEntry es → All IsEntry gs → flat_map entry_line es ++ rest ≡ flat_map entry_line gs
    → ((next : Entry) (after : List ℕ) → IsEntry next → rest ≡ entry_line next ++ after → ⊥) → rest ≢ [] → ⊥
unrefused [] [] rest fit fit_g is unread some = some is
unrefused [] (g ∷ gs) rest fit fit_g is unread some = unread g (flat_map entry_line gs) (fit_g 0 g (omega arith)) is
unrefused (e ∷ es) [] rest fit fit_g is unread some = filled (entry_text e) (flat_map entry_line es ++ rest) (sym (append_assoc (entry_line e) (flat_map entry_line es) rest) ∙ is)
unrefused (e ∷ es) (g ∷ gs) rest fit fit_g is unread some =
    let ways = next-alone e g (flat_map entry_line es ++ rest) (flat_map entry_line gs) (fit 0 e (omega arith)) (fit_g 0 g (omega arith))
    (sym (append_assoc (entry_line e) (flat_map entry_line es) rest) ∙ is) in
    unrefused es gs rest (λ k d within. fit (suc k) d (omega arith)) (λ k d within. fit_g (suc k) d (omega arith)) ways.1 unread some

all-reverse : (h : List Entry) → All IsEntry h → All IsEntry (reverse h)
all-reverse h all k d within =
    let short : k < length h = omega (arith, within, length-reverse h) in
    subst IsEntry (sym (get_or-reverse h k d short)) (all (length h - 1 - k) d (omega arith))

pub history-alone : (h g : List Entry) → All IsEntry h → All IsEntry g → history_text h ≡ history_text g → h ≡ g
history-alone h g all_h all_g is =
    let lines = sym (history_lines h) ∙ is ∙ history_lines g in
    let same = lines-alone (reverse h) (reverse g) (all-reverse h all_h) (all-reverse g all_g) lines in
    sym (reverse-reverse h) ∙ ap reverse same ∙ reverse-reverse g

-- where a text is that of a history, that history is returned, unless out of memory
pub accepted : {H : Type 0} (entries_of : H → List Entry) (text : List ℕ) (r : Result H SchedFault) → MatchResult r (λ h. IsHistoryOf text (entries_of h)) (IsHistoryFault text) → (entries : List Entry)
    → IsHistoryOf text entries → MatchResult r (λ h. entries_of h ≡ entries) (λ f. f ≡ fault.Memory)
accepted entries_of text (Ok h) read entries known = history-alone (entries_of h) entries read.made known.made (sym read.whole ∙ known.whole)
accepted entries_of text (Err (fault.BadLine n)) refused entries known =
    let whole = ap (λ t. t ++ refused.rest) (sym (history_lines refused.entries)) ∙ sym refused.whole ∙ known.whole ∙ history_lines entries in
    absurd (unrefused (reverse refused.entries) (reverse entries) refused.rest (all-reverse refused.entries refused.made) (all-reverse entries known.made) whole refused.unread refused.some)
accepted entries_of text (Err fault.Memory) refused entries known = refl
