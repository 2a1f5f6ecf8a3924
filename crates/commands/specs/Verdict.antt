-- What the words and the files decide.
use Rattle.std.specs.Prelude.{◌≡◌, ℕ, List, None}
use Rattle.resty_base.specs.FileMap.{FileMap}
use Rattle.resty_world.specs.declared.schedule_line.SchedLine.{SchedLine}
use Rattle.schedule_text.specs.Accepted.{IsRead, IsRefusedAt}
use Rattle.lua_run.specs.Answers.{Site}
use Rattle.lua_modules.specs.TextsOfFiles.{Holds, IsTooLong}
use Rattle.site_load.specs.Loading.{HasSite, IsFault}
use Rattle.site_load.specs.declared.faults.SiteFault.{SiteFault}
use Rattle.commands.specs.declared.endings.Ending.{Ending}
use Rattle.commands.specs.declared.endings.Ending.TheVariants as ending
use Rattle.commands.specs.declared.command_line.Mode.TheVariants as mode
use Rattle.commands.specs.Words.{Command, Says, IsForm}

-- how many bytes a schedule may have
abbrev pub most_bytes : ℕ
most_bytes = 67_108_864

-- the file is a schedule of these lines
pub record HasSchedule (files : FileMap) (name : List ℕ) (lines : List SchedLine) : Type 0 where
  pub text : List ℕ
  pub holds : Holds files name most_bytes text
  pub accepted : IsRead text lines

-- the file is no schedule: the line of this number is none that may stand there
pub record IsBadAt (files : FileMap) (name : List ℕ) (n : ℕ) : Type 0 where
  pub text : List ℕ
  pub holds : Holds files name most_bytes text
  pub refused : IsRefusedAt text n

-- the words aren't a command; or the files hold no site; or they hold one, but the schedule is missing, or too long, or its line of that
-- number is no line of a schedule; or a site is checked; or a site and a schedule run; or a site is served
pub data Verdict : Type 0 where
  Usage : Verdict
  NoSite : SiteFault → Verdict
  Missing : Verdict
  TooLong : Verdict
  BadLine : ℕ → Verdict
  Checks : Verdict
  Runs : Site → List SchedLine → Verdict
  Serves : Site → Verdict

-- the files hold a site
abbrev pub IsChecked : FileMap → List ℕ → Type 0
IsChecked files name = (site : Site) × HasSite files name site

-- what is found of a schedule, which only `replay` reads, and only where the files hold a site
abbrev pub AfterSite : Command → FileMap → Type 0 → Type 0
AfterSite c files found = (c.mode ≡ mode.Replay) × IsChecked files c.conf × found

-- the verdict of a command on files: the first refusal, where the site comes first
abbrev pub IsOf : Command → FileMap → Verdict → Type 0
IsOf c files Usage = ⊥
IsOf c files (NoSite fault) = IsFault files c.conf fault
IsOf c files Missing = AfterSite c files (files c.schedule ≡ None)
IsOf c files TooLong = AfterSite c files (IsTooLong files c.schedule most_bytes)
IsOf c files (BadLine n) = AfterSite c files (IsBadAt files c.schedule n)
IsOf c files Checks = (c.mode ≡ mode.Check) × IsChecked files c.conf
IsOf c files (Runs site lines) = (c.mode ≡ mode.Replay) × HasSite files c.conf site × HasSchedule files c.schedule lines
IsOf c files (Serves site) = (c.mode ≡ mode.Serve) × HasSite files c.conf site

-- the verdict of words on files
abbrev pub IsVerdict : List (List ℕ) → FileMap → Verdict → Type 0
IsVerdict words files Usage = ¬ (IsForm words)
IsVerdict words files v = (c : Command) × Says words c × IsOf c files v

-- how the work ends by a verdict, unless something fails, memory runs out or a run ends before its Stop
abbrev pub ending_of : Verdict → Ending
ending_of Usage = ending.Usage
ending_of (NoSite fault) = ending.NoSite fault
ending_of Missing = ending.Missing
ending_of TooLong = ending.TooLong
ending_of (BadLine n) = ending.BadLine n
ending_of Checks = ending.Done
ending_of (Runs site lines) = ending.Done
ending_of (Serves site) = ending.Done
