-- Which texts are schedules and histories, and where a text is refused.
use Rattle.std.specs.Prelude.{◌≡◌, ◌≢◌, ℕ, ◌+◌, List, [], ◌++◌, length, All, Result, MatchResult}
use Rattle.resty_world.specs.KeptHistory.{Kept}
use Rattle.resty_world.specs.declared.entry.Entry.{Entry}
use Rattle.resty_world.specs.declared.schedule_line.SchedLine.{SchedLine}
use Rattle.schedule_text.specs.declared.fault.SchedFault.{SchedFault}
use Rattle.schedule_text.specs.declared.fault.SchedFault.TheVariants as fault
use Rattle.schedule_text.specs.EntryTexts.{entry_line, history_text}
use Rattle.schedule_text.specs.Fitting.{Fits, AllFit, IsSchedule}
use Rattle.schedule_text.specs.LineTexts.{whole_line, schedule_text}
use Rattle.schedule_text.specs.Lines.{stops_in}
use Rattle.schedule_text.specs.Ranges.{IsEntry}

-- the text is that of these lines, and they make a schedule
pub record IsRead (text : List ℕ) (lines : List SchedLine) : Type 0 where
  pub whole : text ≡ schedule_text lines
  pub made : IsSchedule lines

-- the lines before line n are read, no line that fits them comes next, and they aren't already a schedule
pub record IsRefusedAt (text : List ℕ) (n : ℕ) : Type 0 where
  pub lines : List SchedLine
  pub rest : List ℕ
  pub numbered : n ≡ length lines + 1
  pub fit : AllFit lines
  pub whole : text ≡ schedule_text lines ++ rest
  pub unread : (next : SchedLine) (after : List ℕ) → Fits lines next → rest ≡ whole_line next ++ after → ⊥
  pub unended : rest ≡ [] → stops_in lines ≡ 0

-- why a text isn't read as a schedule; out of memory says nothing of the text
abbrev pub IsScheduleFault : List ℕ → SchedFault → Type 0
IsScheduleFault text (fault.BadLine n) = IsRefusedAt text n
IsScheduleFault text fault.Memory = Unit {0}

-- a text of a schedule is read as that schedule, unless out of memory
abbrev pub AcceptsSchedule : List ℕ → Result (List SchedLine) SchedFault → Type 0
AcceptsSchedule text result =
    (lines : List SchedLine) → IsRead text lines → MatchResult result (λ schedule. schedule ≡ lines) (λ why. why ≡ fault.Memory)

-- the entries, the newest first, are in their ranges
abbrev pub IsHistory : List Entry → Type 0
IsHistory entries = All IsEntry entries

-- the text is that of these entries
pub record IsHistoryOf (text : List ℕ) (entries : List Entry) : Type 0 where
  pub whole : text ≡ history_text entries
  pub made : IsHistory entries

-- the entries before line n are read, and the text goes on with no entry
pub record IsNoHistoryAt (text : List ℕ) (n : ℕ) : Type 0 where
  pub entries : List Entry
  pub rest : List ℕ
  pub numbered : n ≡ length entries + 1
  pub made : IsHistory entries
  pub whole : text ≡ history_text entries ++ rest
  pub unread : (next : Entry) (after : List ℕ) → IsEntry next → rest ≡ entry_line next ++ after → ⊥
  pub some : rest ≢ []

-- why a text isn't read as a history
abbrev pub IsHistoryFault : List ℕ → SchedFault → Type 0
IsHistoryFault text (fault.BadLine n) = IsNoHistoryAt text n
IsHistoryFault text fault.Memory = Unit {0}

-- a text of a history is read as that history, unless out of memory
abbrev pub AcceptsHistory : List ℕ → Result Kept SchedFault → Type 0
AcceptsHistory text result =
    (entries : List Entry) → IsHistoryOf text entries → MatchResult result (λ history. history.entries ≡ entries) (λ why. why ≡ fault.Memory)
