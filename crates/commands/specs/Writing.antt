-- What is written on the output.
use Rattle.std.specs.Prelude.{◌≡◌, ◌⊎◌, ℕ, Bool, true, false, List, Option, IfSome, if◌then◌else◌}
use Rattle.resty_base.specs.Accounts.{Account}
use Rattle.resty_base.specs.FileMap.{FileMap}
use Rattle.resty_base.specs.Taking.{TakesAll, TakesPart, TakesNothing}
use Rattle.resty_world.specs.declared.entry.Entry.{Entry}
use Rattle.resty_world.specs.declared.schedule_line.SchedLine.{SchedLine}
use Rattle.schedule_text.specs.EntryTexts.{history_text}
use Rattle.engine.specs.declared.server.Ended.{Ended}
use Rattle.engine.specs.declared.server.Ended.TheVariants as ended
use Rattle.commands.specs.declared.command_line.Mode.{Mode}
use Rattle.commands.specs.declared.command_line.Mode.TheVariants as mode
use Rattle.commands.specs.declared.endings.Status.{Status}
use Rattle.commands.specs.declared.endings.Status.TheVariants as status
use Rattle.commands.specs.declared.endings.Ending.{Ending}
use Rattle.commands.specs.declared.endings.Ending.TheVariants as ending
use Rattle.commands.specs.Ending.{ending_by}
use Rattle.commands.specs.Messages.{site_ok}
use Rattle.commands.specs.Run.{RunsTo, has_dropped}
use Rattle.lua_run.specs.Answers.{Site}
use Rattle.commands.specs.Sites.{site_behavior}
use Rattle.commands.specs.Verdict.{BadLine, Runs, IsOf}
use Rattle.commands.specs.Words.{Command}

-- the history of a run that a command asks for, which ended so; where the files report what they hold, these are what they hold
pub record IsRunOf (c : Command) (told : Option FileMap) (e : Ended) (h : List Entry) : Type 0 where
  pub site : Site
  pub lines : List SchedLine
  pub files : IfSome told (λ files. IsOf c files (Runs site lines))
  pub run : RunsTo (site_behavior site) c.events lines e h

-- the output took the whole text of the history of a run that ended so
abbrev pub WritesWhole : Command → Option FileMap → Ended → Account → Account → Type 0
WritesWhole c told e out out' = (h : List Entry) × IsRunOf c told e h × TakesAll (history_text h) out out'

-- the schedule is none
abbrev pub HasBadSchedule : Command → Option FileMap → Type 0
HasBadSchedule c told = IfSome told (λ files. (n : ℕ) × IsOf c files (BadLine n))

-- What the output took of a run. With `Done` it is the whole text of the history of a run to Stop in which no strand was given up,
-- with `Memory` nothing, or that of one in which a strand was given up. With `Schedule` it is nothing where the schedule is none.
-- Else, and with `WorldFault` and `EventsSpent`, it is that of the history so far; with `WriteFault` a proper first part of one of
-- these; with other statuses nothing.
abbrev pub WritesRun : Command → Option FileMap → Status → Account → Account → Type 0
WritesRun c told status.Done out out' =
    (h : List Entry) × IsRunOf c told ended.Stopped h × (has_dropped h ≡ false) × TakesAll (history_text h) out out'
WritesRun c told status.Schedule out out' =
    (HasBadSchedule c told × TakesNothing out out') ⊎ ((n : ℕ) × WritesWhole c told (ended.BadLine n) out out')
WritesRun c told status.WorldFault out out' = WritesWhole c told ended.WorldFault out out'
WritesRun c told status.EventsSpent out out' = WritesWhole c told (ended.Spent c.events) out out'
WritesRun c told status.WriteFault out out' = (e : Ended) × (h : List Entry) × IsRunOf c told e h × TakesPart (history_text h) out out'
WritesRun c told status.Memory out out' =
    TakesNothing out out'
    ⊎ ((h : List Entry) × IsRunOf c told ended.Stopped h × (has_dropped h ≡ true) × TakesAll (history_text h) out out')
WritesRun c told s out out' = TakesNothing out out'

-- What the output took of a check: with `Done` that the site is one, with `WriteFault` a proper first part of that, else nothing.
abbrev pub WritesCheck : Status → Account → Account → Type 0
WritesCheck status.Done out out' = TakesAll site_ok out out'
WritesCheck status.WriteFault out out' = TakesPart site_ok out out'
WritesCheck s out out' = TakesNothing out out'

-- the writing of that
abbrev pub WritesOk : Ending → Account → Account → Type 0
WritesOk ending.Done out out' = TakesAll site_ok out out'
WritesOk ending.NotWritten out out' = TakesPart site_ok out out'
WritesOk e out out' = ⊥

-- a replay writes its run, and a check that the site is one; `serve` writes nothing
abbrev pub WritesBy : Mode → Command → Option FileMap → Status → Account → Account → Type 0
WritesBy mode.Check c told s out out' = WritesCheck s out out'
WritesBy mode.Replay c told s out out' = WritesRun c told s out out'
WritesBy m c told s out out' = TakesNothing out out'

abbrev pub Writes : Command → Option FileMap → Status → Account → Account → Type 0
Writes c told s out out' = WritesBy c.mode c told s out out'

-- how the work ends where a run ended so and its history is written: where a strand was given up before Stop, as out of memory
abbrev pub ending_with : Ended → (drops : Bool) → Ending
ending_with ended.Stopped drops = if drops then ending.Memory else ending.Done
ending_with e drops = ending_by e

-- the writing of the history of a run that ended so: it was written whole, or in part, or memory ran out before
pub data WritesHistory (e : Ended) (h : List Entry) (to : Ending) (out out' : Account) : Type 0 where
  whole : to ≡ ending_with e (has_dropped h) → TakesAll (history_text h) out out' → WritesHistory e h to out out'
  cut : to ≡ ending.NotWritten → TakesPart (history_text h) out out' → WritesHistory e h to out out'
  none : to ≡ ending.Memory → TakesNothing out out' → WritesHistory e h to out out'

-- the writing of the run of a site and a schedule, or of none as memory ran out
abbrev pub WritesHistoryOf : Site → ℕ → List SchedLine → Ending → Account → Account → Type 0
WritesHistoryOf site events lines to out out' =
    ((e : Ended) × (h : List Entry) × RunsTo (site_behavior site) events lines e h × WritesHistory e h to out out')
    ⊎ ((to ≡ ending.Memory) × TakesNothing out out')
