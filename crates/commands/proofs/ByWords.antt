-- From what is said of a command to what is said of the words.
use Rattle.std.proofs.Common.{◌≡◌, ℕ, inl, inr, List, Result, Ok, Err, OnOk, OnErr, Option, Some, None, IfSome, refl, ap, sym, subst, ◌∙◌}
use Rattle.resty_base.specs.Accounts.{Account}
use Rattle.resty_base.specs.Counting.{Rose}
use Rattle.resty_base.specs.FileMap.{FileMap}
use Rattle.resty_base.specs.Taking.{TakesAll, TakesPart, Takes}
use Rattle.resty_world.specs.Book.{Book}
use Rattle.commands.specs.declared.command_line.Mode.{Mode}
use Rattle.commands.specs.declared.command_line.Mode.TheVariants as mode
use Rattle.commands.specs.declared.endings.Ending.{Ending}
use Rattle.commands.specs.declared.endings.Ending.TheVariants as ending
use Rattle.commands.specs.declared.endings.Status.{Status}
use Rattle.commands.specs.declared.endings.Status.TheVariants as status
use Rattle.commands.specs.Due.{CutsShort, IsCutShort, IsDue}
use Rattle.commands.specs.Ending.{site_status, status_of}
use Rattle.commands.specs.Ends.{AreOfOneStatus, IsStatusBy, IsJudged, IsComplete, IsDoneOr, EndsEarly, FailedToRead, ReachesUnknown}
use Rattle.commands.specs.Outside.{Outside}
use Rattle.site_load.specs.Loading.{NotLoaded}
use Rattle.site_load.specs.declared.faults.SiteFault.{SiteFault}
use Rattle.site_load.specs.declared.faults.SiteFault.TheVariants as fault
use Rattle.commands.specs.Verdict.{Verdict, Usage, NoSite, Missing, TooLong, BadLine, Checks, Runs, Serves, IsOf, IsVerdict, ending_of}
use Rattle.commands.specs.Words.{Command, Says, IsForm}
use Rattle.commands.proofs.Names.{weaker_some}

-- a verdict of a command is one of the words that say it
pub verdict_of : (words : List (List ℕ)) (c : Command) → Says words c → (held : FileMap) (v : Verdict) → IsOf c held v → IsVerdict words held v
verdict_of words c says held Usage of = absurd of
verdict_of words c says held (NoSite why) of = (c, says, of)
verdict_of words c says held Missing of = (c, says, of)
verdict_of words c says held TooLong of = (c, says, of)
verdict_of words c says held (BadLine n) of = (c, says, of)
verdict_of words c says held Checks of = (c, says, of)
verdict_of words c says held (Runs site lines) of = (c, says, of)
verdict_of words c says held (Serves site) of = (c, says, of)

-- a line was put, or a first part of it
pub takes : {T E : Type 0} (r : Result T E) (bytes : List ℕ) (old new : Account) → OnOk r (TakesAll bytes old new) → OnErr r (TakesPart bytes old new)
    → Takes bytes old new
takes (Ok x) bytes old new all part = inl all
takes (Err e) bytes old new all part = inr part

-- the status is that of each verdict
own_status : AreOfOneStatus → (words : List (List ℕ)) (held : FileMap) (v w : Verdict) (e : Ending) → IsVerdict words held v → IsVerdict words held w → e ≡ ending_of w
    → status_of (ending_of v) ≡ status_of e
own_status one words held v w e is it at = (one words held v w is it).0 ∙ ap status_of (sym at)

-- what is cut short would have been done
cut_done : (m : Mode) (v : Verdict) (events : ℕ) (old new : Book) (e : Ending) → CutsShort m v events old new e → ending_of v ≡ ending.Done
cut_done m Checks events old new e short = refl
cut_done m (Runs site lines) events old new e short = refl
cut_done m (Serves site) events old new e short = refl
cut_done mode.Check Usage events old new e short = absurd short
cut_done mode.Check (NoSite why) events old new e short = absurd short
cut_done mode.Check Missing events old new e short = absurd short
cut_done mode.Check TooLong events old new e short = absurd short
cut_done mode.Check (BadLine n) events old new e short = absurd short
cut_done mode.Replay Usage events old new e short = absurd short
cut_done mode.Replay (NoSite why) events old new e short = absurd short
cut_done mode.Replay Missing events old new e short = absurd short
cut_done mode.Replay TooLong events old new e short = absurd short
cut_done mode.Replay (BadLine n) events old new e short = absurd short
cut_done mode.Serve Usage events old new e short = absurd short
cut_done mode.Serve (NoSite why) events old new e short = absurd short
cut_done mode.Serve Missing events old new e short = absurd short
cut_done mode.Serve TooLong events old new e short = absurd short
cut_done mode.Serve (BadLine n) events old new e short = absurd short

-- where files hold no site, nothing is done
pub no_fault_done : {C : Type 0} (why : SiteFault) → site_status why ≡ status.Done → C
no_fault_done (fault.Missing file) e = absurd (let no : status.ReadFault ≡ status.Done = e in cc)
no_fault_done (fault.TooLong file) e = absurd (let no : status.ReadFault ≡ status.Done = e in cc)
no_fault_done (fault.Unreadable file) e = absurd (let no : status.ReadFault ≡ status.Done = e in cc)
no_fault_done (fault.Refused file wrong) e = absurd (let no : status.Conf ≡ status.Done = e in cc)
no_fault_done (fault.NotBuilt file line) e = absurd (let no : status.Conf ≡ status.Done = e in cc)
no_fault_done fault.TooManyModules e = absurd (let no : status.Conf ≡ status.Done = e in cc)
no_fault_done (fault.Init message) e = absurd (let no : status.Conf ≡ status.Done = e in cc)
no_fault_done fault.Memory e = absurd (let no : status.Memory ≡ status.Done = e in cc)

-- what is due where the files report what they hold
module _ (one : AreOfOneStatus) (words : List (List ℕ)) (c : Command) (says : Says words c) (held : FileMap) (faults : List ℕ → ℕ) (live : Book) (out : Account) (new : Outside) where
  abbrev before : Outside
  before = record { files = record { told = Some held; faults = faults }; live = live; out = out }

  by : (w : Verdict) (e : Ending) → IsOf c held w → e ≡ ending_of w → (v : Verdict) → IsVerdict words held v → status_of (ending_of v) ≡ status_of e
  by w e of at v is = own_status one words held v w e is (verdict_of words c says held w of) at

  -- what is cut short is what the one verdict asks for
  early : (e : Ending) → IsCutShort c before new e → (v : Verdict) → IsVerdict words held v → EndsEarly words before new v e
  early e d v is =
      let same = (one words held d.0 v (verdict_of words c says held d.0 d.1) is).1 (cut_done c.mode d.0 c.events live new.live e d.2) in
      (c, says, subst (λ (w : Verdict). CutsShort c.mode w c.events live new.live e) same d.2)

  -- why files hold no site
  judged_site : (why : SiteFault) → NotLoaded c.conf before.files new.files why → (v : Verdict) → IsVerdict words held v → IsStatusBy words before new v (site_status why)
  judged_site (fault.Missing file) d v is = inl (by (NoSite (fault.Missing file)) (ending.NoSite (fault.Missing file)) d refl v is)
  judged_site (fault.TooLong file) d v is = inl (by (NoSite (fault.TooLong file)) (ending.NoSite (fault.TooLong file)) d refl v is)
  judged_site (fault.Unreadable file) d v is = inr (file, d)
  judged_site (fault.Refused file wrong) d v is = by (NoSite (fault.Refused file wrong)) (ending.NoSite (fault.Refused file wrong)) d refl v is
  judged_site (fault.NotBuilt file line) d v is = by (NoSite (fault.NotBuilt file line)) (ending.NoSite (fault.NotBuilt file line)) d refl v is
  judged_site fault.TooManyModules d v is = by (NoSite fault.TooManyModules) (ending.NoSite fault.TooManyModules) d refl v is
  judged_site (fault.Init message) d v is = by (NoSite (fault.Init message)) (ending.NoSite (fault.Init message)) d refl v is
  judged_site fault.Memory d v is = tt

  judged_by : (e : Ending) → IsDue c before new e → (v : Verdict) → IsVerdict words held v → IsStatusBy words before new v (status_of e)
  judged_by ending.Done d v is = by d.0 ending.Done d.1 d.2 v is
  judged_by ending.Usage d v is = by d.0 ending.Usage d.1 d.2 v is
  judged_by (ending.NoSite why) d v is = judged_site why d v is
  judged_by ending.Missing d v is = inl (by d.0 ending.Missing d.1 d.2 v is)
  judged_by ending.TooLong d v is = inl (by d.0 ending.TooLong d.1 d.2 v is)
  judged_by ending.Unreadable d v is = inr (c.schedule, d.1)
  judged_by (ending.BadLine n) d v is = inl (by d.0 (ending.BadLine n) d.1 d.2 v is)
  judged_by (ending.NoSuchId n) d v is = inr (n, early (ending.NoSuchId n) d v is)
  judged_by ending.WorldFault d v is = early ending.WorldFault d v is
  judged_by ending.EventsSpent d v is = early ending.EventsSpent d v is
  judged_by ending.NotWritten d v is = (by d.2.0 ending.Done d.2.1 (sym d.2.2) v is, d.1)
  judged_by ending.Memory d v is = tt

judged_told : AreOfOneStatus → (words : List (List ℕ)) (c : Command) → Says words c → (told : Option FileMap) (faults : List ℕ → ℕ) (live : Book) (out : Account) (new : Outside) (e : Ending)
    → IsDue c (record { files = record { told = told; faults = faults }; live = live; out = out }) new e
    → IsJudged words (record { files = record { told = told; faults = faults }; live = live; out = out }) new (status_of e)
judged_told one words c says None faults live out new e due = tt
judged_told one words c says (Some held) faults live out new e due = λ v is. judged_by one words c says held faults live out new e due v is

pub judged : AreOfOneStatus → (words : List (List ℕ)) (c : Command) → Says words c → (old new : Outside) (e : Ending) (s : Status) → s ≡ status_of e → IsDue c old new e → IsJudged words old new s
judged one words c says old new e s same due = rw same (judged_told one words c says old.files.told old.files.faults old.live old.out new e due)

-- words that are no form are of one verdict
pub judged_usage : AreOfOneStatus → (words : List (List ℕ)) (old new : Outside) → ¬ (IsForm words) → IsJudged words old new status.Usage
judged_usage one words old new none = weaker_some old.files.told (λ held. Unit {0}) _ (λ held t v is. (one words held v Usage is none).0) (every old.files.told)
  where
    every : (told : Option FileMap) → IfSome told (λ held. Unit {0})
    every None = tt
    every (Some held) = tt

-- what was asked for is done, the events were spent, or memory ran out, where nothing fails and each id that a line names was there
module _ (words : List (List ℕ)) (old new : Outside) (v : Verdict) (well : ending_of v ≡ ending.Done) (read : ¬ (FailedToRead old.files new.files))
    (written : ¬ (Rose old.out.faults new.out.faults)) (lasts : ¬ (EndsEarly words old new v ending.WorldFault)) (known : ¬ (ReachesUnknown words old new v)) where
  done : status_of (ending_of v) ≡ status.Done
  done = ap status_of well

  runs_well : (s : Status) → IsStatusBy words old new v s → IsDoneOr s
  runs_well status.Done by = inl refl
  runs_well status.EventsSpent by = inr (inl refl)
  runs_well status.Memory by = inr (inr refl)
  runs_well status.ReadFault by = elim by [
    | inl same ↦ absurd (let no : status.Done ≡ status.ReadFault = sym done ∙ same in cc)
    | inr failed ↦ absurd (read failed)
  ]
  runs_well status.Schedule by = elim by [
    | inl same ↦ absurd (let no : status.Done ≡ status.Schedule = sym done ∙ same in cc)
    | inr unknown ↦ absurd (known unknown)
  ]
  runs_well status.WriteFault by = absurd (written by.1)
  runs_well status.WorldFault by = absurd (lasts by)
  runs_well status.Conf by = absurd (let no : status.Done ≡ status.Conf = sym done ∙ by in cc)
  runs_well status.Usage by = absurd (let no : status.Done ≡ status.Usage = sym done ∙ by in cc)

pub complete : (words : List (List ℕ)) (old new : Outside) (s : Status) → IsJudged words old new s → IsComplete words old new s
complete words old new s by =
    weaker_some old.files.told _ _ (λ held each v is well read written lasts known. runs_well words old new v well read written lasts known s (each v is)) by
