-- Reading a text line by line.
use Rattle.std.specs.Prelude.{◌≡◌, ◌≢◌, ℕ, List, [], Option, Some, None, Result, MatchResult}
use Rattle.resty_world.specs.declared.entry.Entry.{Entry}
use Rattle.resty_world.specs.declared.event.Event.TheVariants as event
use Rattle.resty_world.specs.declared.schedule_line.SchedLine.{SchedLine}
use Rattle.resty_world.specs.declared.schedule_line.SchedLine.TheVariants as line
use Rattle.schedule_text.specs.declared.fault.SchedFault.{SchedFault}
use Rattle.schedule_text.specs.declared.fault.SchedFault.TheVariants as fault
use Rattle.schedule_text.specs.EntryTexts.{entry_text}
use Rattle.schedule_text.specs.Fitting.{Follows}
use Rattle.schedule_text.specs.LineTexts.{line_text}
use Rattle.schedule_text.specs.Ranges.{IsEntry, IsLine}

-- the line within its ranges whose text this is, none where there is no such line
abbrev pub ReadsLine : List ℕ → Option SchedLine → Type 0
ReadsLine text None = (next : SchedLine) → IsLine next → text ≢ line_text next
ReadsLine text (Some next) = IsLine next × (text ≡ line_text next)

-- the line that was read, where it may follow others, else none
abbrev pub IsNextOf : List SchedLine → Option SchedLine → Option SchedLine → Type 0
IsNextOf before read None = (next : SchedLine) → read ≡ Some next → Follows before next → ⊥
IsNextOf before read (Some next) = (read ≡ Some next) × Follows before next

-- the line whose text this is and that may follow others, none where there is no such line
abbrev pub ReadsNext : List SchedLine → List ℕ → Option SchedLine → Type 0
ReadsNext before text None = (next : SchedLine) → IsLine next → Follows before next → text ≢ line_text next
ReadsNext before text (Some next) = IsLine next × Follows before next × (text ≡ line_text next)

-- the entry within its ranges whose text this is, none where there is no such entry
abbrev pub ReadsEntry : List ℕ → Option Entry → Type 0
ReadsEntry text None = (next : Entry) → IsEntry next → text ≢ entry_text next
ReadsEntry text (Some next) = IsEntry next × (text ≡ entry_text next)

-- the reading ends well where nothing is left of the text, else the line of this number is refused
abbrev pub ReadsToEnd : {A : Type 0} → List ℕ → ℕ → (A → Type 0) → Result A SchedFault → Type 0
ReadsToEnd rest number IsRight result =
    MatchResult result (λ read. (rest ≡ []) × IsRight read) (λ why. (rest ≢ []) × (why ≡ fault.BadLine number))

-- how many connections arrived, after a line that follows others
abbrev pub arrived_after : SchedLine → ℕ → ℕ
arrived_after (line.Given (event.Arrive k)) n = k
arrived_after l n = n

-- the latest moment, after a line that follows others
abbrev pub latest_after : SchedLine → ℕ → ℕ
latest_after (line.Given (event.Moment t)) n = t.0
latest_after l n = n
