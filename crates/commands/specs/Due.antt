-- Why the work on a command ends as it does.
use Rattle.std.specs.Prelude.{◌≡◌, ℕ, List, IfSome}
use Rattle.resty_base.specs.Counting.{Rose}
use Rattle.resty_world.specs.Book.{Book}
use Rattle.resty_world.specs.Given.{IsBadLine}
use Rattle.resty_world.specs.declared.entry.Entry.{Entry}
use Rattle.resty_world.specs.declared.schedule_line.SchedLine.{SchedLine}
use Rattle.engine.specs.declared.server.Ended.{Ended}
use Rattle.engine.specs.declared.server.Ended.TheVariants as ended
use Rattle.commands.specs.declared.command_line.Mode.{Mode}
use Rattle.commands.specs.declared.command_line.Mode.TheVariants as mode
use Rattle.commands.specs.declared.endings.Ending.{Ending}
use Rattle.commands.specs.declared.endings.Ending.TheVariants as ending
use Rattle.commands.specs.Outside.{Outside}
use Rattle.commands.specs.Run.{RunsTo}
use Rattle.lua_run.specs.Answers.{Site}
use Rattle.site_load.specs.Loading.{NotLoaded}
use Rattle.commands.specs.Reading.{FailedAt}
use Rattle.commands.specs.Sites.{site_behavior}
use Rattle.commands.specs.Verdict.{Verdict, Runs, Serves, IsChecked, IsOf, ending_of}
use Rattle.commands.specs.Words.{Command}

-- a mode that writes on the output
abbrev pub WritesOut : Mode → Type 0
WritesOut mode.Serve = ⊥
WritesOut other = Unit {0}

-- a run of the site and these lines ends so
abbrev pub HasRun : Site → ℕ → List SchedLine → Ended → Type 0
HasRun site events lines e = (h : List Entry) × RunsTo (site_behavior site) events lines e h

-- What may end a run before Stop, and the serving of a live world: a run of the lines ends so; or so many events were given, the faults
-- of the live world rose, or a line of it names an id that was never there.
abbrev pub CutsShort : Mode → Verdict → ℕ → Book → Book → Ending → Type 0
CutsShort mode.Replay (Runs site lines) events old new ending.EventsSpent = HasRun site events lines (ended.Spent events)
CutsShort mode.Replay (Runs site lines) events old new ending.WorldFault = HasRun site events lines ended.WorldFault
CutsShort mode.Replay (Runs site lines) events old new (ending.NoSuchId n) = HasRun site events lines (ended.BadLine n)
CutsShort mode.Serve (Serves site) events old new ending.EventsSpent = Unit {0}
CutsShort mode.Serve (Serves site) events old new ending.WorldFault = Rose old.faults new.faults
CutsShort mode.Serve (Serves site) events old new (ending.NoSuchId n) = IsBadLine new n
CutsShort m v events old new e = ⊥

-- it does so by a verdict, which is that of the files where they report what they hold
abbrev pub IsCutShort : Command → Outside → Outside → Ending → Type 0
IsCutShort c old new e = (v : Verdict) × IfSome old.files.told (λ held. IsOf c held v) × CutsShort c.mode v c.events old.live new.live e

-- Why the work ended so; what is said of the files is said where they report what they hold. A file can't be read only where
-- reading that file failed, of a schedule only where the files hold a site; the output of a run or of a check can't be written only
-- where writing failed; memory may run out at any time; else it is the verdict.
abbrev pub IsDue : Command → Outside → Outside → Ending → Type 0
IsDue c old new (ending.NoSite fault) = NotLoaded c.conf old.files new.files fault
IsDue c old new ending.Unreadable =
    (c.mode ≡ mode.Replay) × FailedAt c.schedule old.files new.files × IfSome old.files.told (λ held. IsChecked held c.conf)
IsDue c old new ending.NotWritten =
    WritesOut c.mode × Rose old.out.faults new.out.faults × IfSome old.files.told (λ held. (v : Verdict) × IsOf c held v × (ending_of v ≡ ending.Done))
IsDue c old new ending.WorldFault = IsCutShort c old new ending.WorldFault
IsDue c old new (ending.NoSuchId n) = IsCutShort c old new (ending.NoSuchId n)
IsDue c old new ending.EventsSpent = IsCutShort c old new ending.EventsSpent
IsDue c old new ending.Memory = Unit {0}
IsDue c old new e = IfSome old.files.told (λ held. (v : Verdict) × IsOf c held v × (e ≡ ending_of v))
