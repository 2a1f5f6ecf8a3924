-- Reading the files that the words name.
use Rattle.std.specs.Prelude.{◌≡◌, ℕ, List, None, IfSome}
use Rattle.resty_base.specs.Counting.{Rose}
use Rattle.resty_base.specs.FileMap.{FileAccount}
use Rattle.lua_modules.specs.TextsOfFiles.{IsTooLong}
use Rattle.commands.specs.declared.endings.Ending.{Ending}
use Rattle.commands.specs.declared.endings.Ending.TheVariants as ending
use Rattle.commands.specs.Verdict.{IsBadAt, most_bytes}

-- reading the file of this name failed
abbrev pub FailedAt : List ℕ → FileAccount → FileAccount → Type 0
FailedAt name old new = Rose (old.faults name) (new.faults name)

-- why the work ended at the schedule of this name: it is missing or too long, or a line of it is none, or it can't be read, or memory ran out
abbrev pub EndsAtSchedule : List ℕ → FileAccount → FileAccount → Ending → Type 0
EndsAtSchedule name old new ending.Missing = IfSome old.told (λ files. files name ≡ None)
EndsAtSchedule name old new ending.TooLong = IfSome old.told (λ files. IsTooLong files name most_bytes)
EndsAtSchedule name old new (ending.BadLine n) = IfSome old.told (λ files. IsBadAt files name n)
EndsAtSchedule name old new ending.Unreadable = FailedAt name old new
EndsAtSchedule name old new ending.Memory = Unit {0}
EndsAtSchedule name old new e = ⊥
