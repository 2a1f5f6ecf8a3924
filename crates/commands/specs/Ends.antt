-- How the program ends.
use Rattle.std.specs.Prelude.{◌≡◌, ◌⊎◌, ℕ, List, IfSome}
use Rattle.resty_base.specs.Accounts.{Account}
use Rattle.resty_base.specs.Counting.{Rose}
use Rattle.resty_base.specs.FileMap.{FileMap, FileAccount}
use Rattle.resty_base.specs.Taking.{Takes}
use Rattle.commands.specs.declared.endings.Ending.{Ending}
use Rattle.commands.specs.declared.endings.Ending.TheVariants as ending
use Rattle.commands.specs.declared.endings.Status.{Status}
use Rattle.commands.specs.declared.endings.Status.TheVariants as status
use Rattle.commands.specs.Due.{CutsShort, IsDue}
use Rattle.commands.specs.Ending.{status_of}
use Rattle.commands.specs.Messages.{line_of, usage_line}
use Rattle.commands.specs.Outside.{Outside}
use Rattle.commands.specs.Reading.{FailedAt}
use Rattle.commands.specs.Verdict.{Verdict, IsVerdict, ending_of}
use Rattle.commands.specs.Words.{Command, Says, IsForm}

-- the words are no command; or they are one, and the work on it ended as is due. The error output took the line that says so.
pub data Ends (words : List (List ℕ)) (old new : Outside) (err err' : Account) (s : Status) : Type 0 where
  no_command : ¬ (IsForm words) → s ≡ status.Usage → Takes usage_line err err' → Ends words old new err err' s
  worked : (c : Command) (e : Ending) → Says words c → s ≡ status_of e → IsDue c old new e → Takes (line_of c.schedule e) err err'
      → Ends words old new err err' s

-- all verdicts of the same words and files are of one status; and where something is checked, run or served there is only one
abbrev pub IsOneVerdict : Verdict → Verdict → Type 0
IsOneVerdict v w = (status_of (ending_of v) ≡ status_of (ending_of w)) × (ending_of v ≡ ending.Done → v ≡ w)

abbrev pub AreOfOneStatus : Type 0
AreOfOneStatus = (words : List (List ℕ)) (files : FileMap) (v w : Verdict) → IsVerdict words files v → IsVerdict words files w → IsOneVerdict v w

-- reading one of the files of a command failed: a text of the site, or the schedule
abbrev pub FailedToRead : FileAccount → FileAccount → Type 0
FailedToRead files files' = (name : List ℕ) × FailedAt name files files'

-- what the verdict of the words asks for is cut short
abbrev pub EndsEarly : List (List ℕ) → Outside → Outside → Verdict → Ending → Type 0
EndsEarly words old new v e = (c : Command) × Says words c × CutsShort c.mode v c.events old.live new.live e

-- a line that names an id that was never there is reached
abbrev pub ReachesUnknown : List (List ℕ) → Outside → Outside → Verdict → Type 0
ReachesUnknown words old new v = (n : ℕ) × EndsEarly words old new v (ending.NoSuchId n)

-- The status that a verdict brings: its own. But memory may run out, and reading may fail; where something runs or is served the
-- writing may fail, and it may be cut short.
abbrev pub IsStatusBy : List (List ℕ) → Outside → Outside → Verdict → Status → Type 0
IsStatusBy words old new v status.Memory = Unit {0}
IsStatusBy words old new v status.ReadFault = (status_of (ending_of v) ≡ status.ReadFault) ⊎ FailedToRead old.files new.files
IsStatusBy words old new v status.Schedule = (status_of (ending_of v) ≡ status.Schedule) ⊎ ReachesUnknown words old new v
IsStatusBy words old new v status.WriteFault = (status_of (ending_of v) ≡ status.Done) × Rose old.out.faults new.out.faults
IsStatusBy words old new v status.WorldFault = EndsEarly words old new v ending.WorldFault
IsStatusBy words old new v status.EventsSpent = EndsEarly words old new v ending.EventsSpent
IsStatusBy words old new v s = status_of (ending_of v) ≡ s

-- where the files report what they hold, the status is one that their verdict brings
abbrev pub IsJudged : List (List ℕ) → Outside → Outside → Status → Type 0
IsJudged words old new s = IfSome old.files.told (λ held. (v : Verdict) → IsVerdict words held v → IsStatusBy words old new v s)

-- the work was done, the events were spent, or memory ran out
abbrev pub IsDoneOr : Status → Type 0
IsDoneOr s = (s ≡ status.Done) ⊎ (s ≡ status.EventsSpent) ⊎ (s ≡ status.Memory)

-- where the files hold what the words ask for, nothing fails, and each id that a line names was there, the work was done, the events
-- were spent, or memory ran out
abbrev pub IsComplete : List (List ℕ) → Outside → Outside → Status → Type 0
IsComplete words old new s =
    IfSome old.files.told (λ held. (v : Verdict) → IsVerdict words held v → ending_of v ≡ ending.Done → ¬ (FailedToRead old.files new.files)
    → ¬ (Rose old.out.faults new.out.faults) → ¬ (EndsEarly words old new v ending.WorldFault) → ¬ (ReachesUnknown words old new v) → IsDoneOr s)
