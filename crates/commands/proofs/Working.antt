-- From what each step says to what is said of the work.
use Rattle.std.proofs.Common.{◌≡◌, ◌≢◌, inl, inr, List, Option, IfSome, refl, sym, ap, subst, ◌∙◌}
use Rattle.resty_base.specs.Accounts.{Account}
use Rattle.resty_base.specs.Counting.{Rose}
use Rattle.resty_base.specs.FileMap.{FileMap, FileAccount}
use Rattle.resty_base.specs.Taking.{TakesAll, TakesNothing}
use Rattle.resty_base.specs.BoolLaws.{by_test}
use Rattle.resty_world.specs.Book.{Book}
use Rattle.resty_world.specs.declared.entry.Entry.{Entry}
use Rattle.resty_world.specs.declared.schedule_line.SchedLine.{SchedLine}
use Rattle.schedule_text.specs.EntryTexts.{history_text}
use Rattle.engine.specs.declared.server.Ended.{Ended}
use Rattle.engine.specs.declared.server.Ended.TheVariants as ended
use Rattle.commands.specs.declared.command_line.Mode.{Mode}
use Rattle.commands.specs.declared.command_line.Mode.TheVariants as mode
use Rattle.commands.specs.declared.endings.Ending.{Ending}
use Rattle.commands.specs.declared.endings.Ending.TheVariants as ending
use Rattle.commands.specs.declared.endings.Status.{Status}
use Rattle.commands.specs.declared.endings.Status.TheVariants as status
use Rattle.commands.specs.Due.{CutsShort, IsCutShort, IsDue, WritesOut}
use Rattle.commands.specs.Ending.{ending_by, site_status, status_of}
use Rattle.commands.specs.Live.{IsServed, ServesTo, deaf, unheard, served, IsServedFor, LeavesServed, LeavesBy}
use Rattle.commands.specs.Outside.{Outside}
use Rattle.commands.specs.Reading.{EndsAtSchedule}
use Rattle.commands.specs.Run.{RunsTo, has_dropped}
use Rattle.lua_run.specs.Answers.{Site}
use Rattle.lua_modules.specs.TextsOfFiles.{ReadsWell}
use Rattle.site_load.specs.Loading.{HasSite, NotLoaded}
use Rattle.site_load.specs.declared.faults.SiteFault.{SiteFault}
use Rattle.site_load.specs.declared.faults.SiteFault.TheVariants as fault
use Rattle.commands.specs.Sites.{site_behavior}
use Rattle.commands.specs.Verdict.{Verdict, Missing, TooLong, BadLine, Checks, Runs, Serves, IsChecked, HasSchedule, IsOf, ending_of}
use Rattle.commands.specs.Words.{Command}
use Rattle.commands.specs.Works.{Works}
use Rattle.commands.specs.Writing.{Writes, WritesBy, WritesRun, WritesCheck, WritesHistory, whole, cut, none, WritesHistoryOf, WritesOk, IsRunOf, ending_with}
use Rattle.commands.proofs.Names.{weaker_some, both_some}

nothing : (out : Account) → TakesNothing out out
nothing out = record { told = refl; faults = refl }

-- a first part of the work, in which nothing is written
module _ (c : Command) where
  -- where files hold no site, nothing is written
  fault_writes : (told : Option FileMap) (m : Mode) (why : SiteFault) (out : Account) → WritesBy m c told (site_status why) out out
  fault_writes told mode.Serve why out = nothing out
  fault_writes told mode.Check (fault.Missing file) out = nothing out
  fault_writes told mode.Check (fault.TooLong file) out = nothing out
  fault_writes told mode.Check (fault.Unreadable file) out = nothing out
  fault_writes told mode.Check (fault.Refused file wrong) out = nothing out
  fault_writes told mode.Check (fault.NotBuilt file line) out = nothing out
  fault_writes told mode.Check fault.TooManyModules out = nothing out
  fault_writes told mode.Check (fault.Init message) out = nothing out
  fault_writes told mode.Check fault.Memory out = nothing out
  fault_writes told mode.Replay (fault.Missing file) out = nothing out
  fault_writes told mode.Replay (fault.TooLong file) out = nothing out
  fault_writes told mode.Replay (fault.Unreadable file) out = nothing out
  fault_writes told mode.Replay (fault.Refused file wrong) out = nothing out
  fault_writes told mode.Replay (fault.NotBuilt file line) out = nothing out
  fault_writes told mode.Replay fault.TooManyModules out = nothing out
  fault_writes told mode.Replay (fault.Init message) out = nothing out
  fault_writes told mode.Replay fault.Memory out = inl (nothing out)

  pub site_works : (old new : Outside) (why : SiteFault) → new.out ≡ old.out → NotLoaded c.conf old.files new.files why → Works c old new (ending.NoSite why)
  site_works old new why same unloaded = record {
    due = unloaded;
    writes = rw same (fault_writes old.files.told c.mode why old.out);
    form = λ is. let no : ending.NoSite why ≡ ending.Usage = is in cc;
  }

  -- what ends at the schedule is due, where the files hold a site
  schedule_due : c.mode ≡ mode.Replay → (old new : Outside) (e : Ending) → IfSome old.files.told (λ held. IsChecked held c.conf)
      → EndsAtSchedule c.schedule old.files new.files e → IsDue c old new e
  schedule_due on old new ending.Missing there ends = both_some old.files.told _ _ _ (λ held has none. (Missing, (on, has, none), refl)) there ends
  schedule_due on old new ending.TooLong there ends = both_some old.files.told _ _ _ (λ held has long. (TooLong, (on, has, long), refl)) there ends
  schedule_due on old new (ending.BadLine n) there ends = both_some old.files.told _ _ _ (λ held has bad. (BadLine n, (on, has, bad), refl)) there ends
  schedule_due on old new ending.Unreadable there ends = (on, ends, there)
  schedule_due on old new ending.Memory there ends = tt
  schedule_due on old new ending.Done there ends = absurd ends
  schedule_due on old new ending.Usage there ends = absurd ends
  schedule_due on old new (ending.NoSite why) there ends = absurd ends
  schedule_due on old new (ending.NoSuchId n) there ends = absurd ends
  schedule_due on old new ending.WorldFault there ends = absurd ends
  schedule_due on old new ending.EventsSpent there ends = absurd ends
  schedule_due on old new ending.NotWritten there ends = absurd ends

  -- and nothing is written
  schedule_writes : c.mode ≡ mode.Replay → (old new : FileAccount) (e : Ending) (out : Account) → IfSome old.told (λ held. IsChecked held c.conf)
      → EndsAtSchedule c.schedule old new e → WritesRun c old.told (status_of e) out out
  schedule_writes on old new ending.Missing out there ends = nothing out
  schedule_writes on old new ending.TooLong out there ends = nothing out
  schedule_writes on old new (ending.BadLine n) out there ends = inl (both_some old.told _ _ _ (λ held has bad. (n, (on, has, bad))) there ends, nothing out)
  schedule_writes on old new ending.Unreadable out there ends = nothing out
  schedule_writes on old new ending.Memory out there ends = inl (nothing out)
  schedule_writes on old new ending.Done out there ends = absurd ends
  schedule_writes on old new ending.Usage out there ends = absurd ends
  schedule_writes on old new (ending.NoSite why) out there ends = absurd ends
  schedule_writes on old new (ending.NoSuchId n) out there ends = absurd ends
  schedule_writes on old new ending.WorldFault out there ends = absurd ends
  schedule_writes on old new ending.EventsSpent out there ends = absurd ends
  schedule_writes on old new ending.NotWritten out there ends = absurd ends

  not_usage : (old new : FileAccount) (e : Ending) → EndsAtSchedule c.schedule old new e → e ≢ ending.Usage
  not_usage old new e ends same = rw same at ends

  pub schedule_works : c.mode ≡ mode.Replay → (site : Site) (old new : Outside) (e : Ending) → new.out ≡ old.out → IfSome old.files.told (λ held. HasSite held c.conf site)
      → EndsAtSchedule c.schedule old.files new.files e → Works c old new e
  schedule_works on site old new e same has ends =
      let there = weaker_some old.files.told _ _ (λ held h. (site, h)) has in
      record {
        due = schedule_due on old new e there ends;
        writes = subst (λ m. WritesBy m c old.files.told (status_of e) old.out new.out) (sym on) (rw same (schedule_writes on old.files new.files e old.out there ends));
        form = not_usage old.files new.files e ends;
      }

  -- what is due since the files were read well was due before
  site_before : (old mid new : FileAccount) (why : SiteFault) → ReadsWell old mid → NotLoaded c.conf mid new why → NotLoaded c.conf old new why
  site_before old mid new (fault.Missing file) well unloaded = rw (← well.told) unloaded
  site_before old mid new (fault.TooLong file) well unloaded = rw (← well.told) unloaded
  site_before old mid new (fault.Unreadable file) well unloaded = rw (← well.faults file) unloaded
  site_before old mid new (fault.Refused file wrong) well unloaded = rw (← well.told) unloaded
  site_before old mid new (fault.NotBuilt file line) well unloaded = rw (← well.told) unloaded
  site_before old mid new fault.TooManyModules well unloaded = rw (← well.told) unloaded
  site_before old mid new (fault.Init message) well unloaded = rw (← well.told) unloaded
  site_before old mid new fault.Memory well unloaded = tt

  due_before : (old : Outside) (mid : FileAccount) (new : Outside) (e : Ending) → ReadsWell old.files mid → IsDue c (record old { files = mid }) new e → IsDue c old new e
  due_before old mid new (ending.NoSite why) well due = site_before old.files mid new.files why well due
  due_before old mid new ending.Unreadable well due = (due.0, rw (← well.faults c.schedule) due.1, rw (← well.told) due.2)
  due_before old mid new ending.NotWritten well due = (due.0, due.1, rw (← well.told) due.2)
  due_before old mid new ending.WorldFault well due = (due.0, rw (← well.told) due.1, due.2)
  due_before old mid new (ending.NoSuchId n) well due = (due.0, rw (← well.told) due.1, due.2)
  due_before old mid new ending.EventsSpent well due = (due.0, rw (← well.told) due.1, due.2)
  due_before old mid new ending.Memory well due = tt
  due_before old mid new ending.Done well due = rw (← well.told) due
  due_before old mid new ending.Usage well due = rw (← well.told) due
  due_before old mid new ending.Missing well due = rw (← well.told) due
  due_before old mid new ending.TooLong well due = rw (← well.told) due
  due_before old mid new (ending.BadLine n) well due = rw (← well.told) due

  pub works_before : (old : Outside) (mid : FileAccount) (new : Outside) (e : Ending) → ReadsWell old.files mid → Works c (record old { files = mid }) new e → Works c old new e
  works_before old mid new e well works = record {
    due = due_before old mid new e well works.due;
    writes = rw (← well.told) works.writes;
    form = works.form;
  }

  -- what is said of a run that is served and written
  module _ (on : c.mode ≡ mode.Replay) (site : Site) (lines : List SchedLine) (old new : Outside) (runs : IfSome old.files.told (λ held. IsOf c held (Runs site lines))) where
    by_replay : (s : Status) → WritesRun c old.files.told s old.out new.out → Writes c old.files.told s old.out new.out
    by_replay s writes = subst (λ m. WritesBy m c old.files.told s old.out new.out) (sym on) writes

    of_run : (e : Ended) (h : List Entry) → RunsTo (site_behavior site) c.events lines e h → IsRunOf c old.files.told e h
    of_run e h run = record { site = site; lines = lines; files = runs; run = run }

    cut_short : (e : Ending) → CutsShort mode.Replay (Runs site lines) c.events old.live new.live e → IsCutShort c old new e
    cut_short e short = (Runs site lines, runs, subst (λ m. CutsShort m (Runs site lines) c.events old.live new.live e) (sym on) short)

    is_done : IfSome old.files.told (λ held. (v : Verdict) × IsOf c held v × (ending.Done ≡ ending_of v))
    is_done = weaker_some old.files.told _ _ (λ held v. (Runs site lines, v, refl)) runs

    at_stop : (h : List Entry) (to : Ending) → RunsTo (site_behavior site) c.events lines ended.Stopped h → to ≡ ending_with ended.Stopped (has_dropped h) → TakesAll (history_text h) old.out new.out → Works c old new to
    at_stop h to run is all = by_test (has_dropped h)
        (λ dropped. let same : to ≡ ending.Memory = is ∙ ap (ending_with ended.Stopped) dropped in rw same (record {
          due = tt;
          writes = by_replay status.Memory (inr (h, of_run ended.Stopped h run, dropped, all));
          form = λ no. absurd (let wrong : ending.Memory ≡ ending.Usage = no in cc);
        }))
        (λ kept. let same : to ≡ ending.Done = is ∙ ap (ending_with ended.Stopped) kept in rw same (record {
          due = is_done;
          writes = by_replay status.Done (h, of_run ended.Stopped h run, kept, all);
          form = λ no. absurd (let wrong : ending.Done ≡ ending.Usage = no in cc);
        }))

    written : (e : Ended) (h : List Entry) (to : Ending) → RunsTo (site_behavior site) c.events lines e h → to ≡ ending_with e (has_dropped h) → TakesAll (history_text h) old.out new.out → Works c old new to
    written ended.Stopped h to run is all = at_stop h to run is all
    written (ended.Spent n) h to run is all = let same : to ≡ ending.EventsSpent = is in rw same (record {
      due = cut_short ending.EventsSpent (h, subst (λ k. RunsTo (site_behavior site) c.events lines (ended.Spent k) h) run.3.0 run);
      writes = by_replay status.EventsSpent (h, subst (λ k. IsRunOf c old.files.told (ended.Spent k) h) run.3.0 (of_run (ended.Spent n) h run), all);
      form = λ no. absurd (let wrong : ending.EventsSpent ≡ ending.Usage = no in cc);
    })
    written ended.WorldFault h to run is all = let same : to ≡ ending.WorldFault = is in rw same (record {
      due = cut_short ending.WorldFault (h, run);
      writes = by_replay status.WorldFault (h, of_run ended.WorldFault h run, all);
      form = λ no. absurd (let wrong : ending.WorldFault ≡ ending.Usage = no in cc);
    })
    written (ended.BadLine n) h to run is all = let same : to ≡ ending.NoSuchId n = is in rw same (record {
      due = cut_short (ending.NoSuchId n) (h, run);
      writes = by_replay status.Schedule (inr (n, (h, of_run (ended.BadLine n) h run, all)));
      form = λ no. absurd (let wrong : ending.NoSuchId n ≡ ending.Usage = no in cc);
    })
    written ended.Memory h to run is all = absurd run.3

    history_works : (e : Ended) (h : List Entry) (to : Ending) → RunsTo (site_behavior site) c.events lines e h → WritesHistory e h to old.out new.out → Works c old new to
    history_works e h to run (whole is all) = written e h to run is all
    history_works e h to run (cut is part) = rw is (record {
      due = (subst WritesOut (sym on) tt, part.faults, weaker_some old.files.told _ _ (λ held v. (Runs site lines, v, refl)) runs);
      writes = by_replay status.WriteFault (e, h, of_run e h run, part);
      form = λ no. absurd (let wrong : ending.NotWritten ≡ ending.Usage = no in cc);
    })
    history_works e h to run (none is nought) = rw is (silent_memory nought)
      where
        silent_memory : TakesNothing old.out new.out → Works c old new ending.Memory
        silent_memory nought = record {
          due = tt;
          writes = by_replay status.Memory (inl nought);
          form = λ no. absurd (let wrong : ending.Memory ≡ ending.Usage = no in cc);
        }

    pub run_works : (to : Ending) → WritesHistoryOf site c.events lines to old.out new.out → Works c old new to
    run_works to writes =
        elim writes [
          | inl ran ↦ history_works ran.0 ran.1 to ran.2 ran.3
          | inr nought ↦ rw nought.0 (record {
            due = tt;
            writes = by_replay status.Memory (inl nought.1);
            form = λ same. absurd (let no : ending.Memory ≡ ending.Usage = same in cc);
          })
        ]

  -- what is said of a live world that is served
  module _ (on : c.mode ≡ mode.Serve) (site : Site) (old new : Outside) (serves : IfSome old.files.told (λ held. IsOf c held (Serves site))) (same : new.out ≡ old.out) where
    silent : (s : Status) → Writes c old.files.told s old.out new.out
    silent s = subst (λ m. WritesBy m c old.files.told s old.out new.out) (sym on) (rw same (nothing old.out))

    cut_off : (e : Ending) → CutsShort mode.Serve (Serves site) c.events old.live new.live e → IsCutShort c old new e
    cut_off e short = (Serves site, serves, subst (λ m. CutsShort m (Serves site) c.events old.live new.live e) (sym on) short)

    memory_works : Works c old new ending.Memory
    memory_works = record { due = tt; writes = silent status.Memory; form = λ no. absurd (let wrong : ending.Memory ≡ ending.Usage = no in cc) }

    fault_works : Rose old.live.faults new.live.faults → Works c old new ending.WorldFault
    fault_works rose = record {
      due = cut_off ending.WorldFault rose;
      writes = silent status.WorldFault;
      form = λ no. absurd (let wrong : ending.WorldFault ≡ ending.Usage = no in cc);
    }

    ended_works : (e : Ended) → IsServed site c.events e old.live new.live → Works c old new (ending_by e)
    ended_works ended.Stopped s = record {
      due = weaker_some old.files.told _ _ (λ held v. (Serves site, v, refl)) serves;
      writes = silent status.Done;
      form = λ no. absurd (let wrong : ending.Done ≡ ending.Usage = no in cc);
    }
    ended_works (ended.Spent n) s = record {
      due = cut_off ending.EventsSpent tt;
      writes = silent status.EventsSpent;
      form = λ no. absurd (let wrong : ending.EventsSpent ≡ ending.Usage = no in cc);
    }
    ended_works ended.WorldFault s = fault_works s.ends.0
    ended_works (ended.BadLine n) s = record {
      due = cut_off (ending.NoSuchId n) s.ends.0;
      writes = silent status.Schedule;
      form = λ no. absurd (let wrong : ending.NoSuchId n ≡ ending.Usage = no in cc);
    }
    ended_works ended.Memory s = memory_works

    pub serve_works : (to : Ending) → ServesTo site c.events to old.live new.live → Works c old new to
    serve_works to (deaf is listens) = rw is (fault_works listens.faults)
    serve_works to (unheard is listens) = rw is memory_works
    serve_works to (served e is s) = rw is (ended_works e s)

    ended_leaves : (e : Ended) → IsServedFor c old.files.told (ending_by e) old.live new.live → LeavesServed c old.files.told (status_of (ending_by e)) old.live new.live
    ended_leaves ended.Stopped s = s
    ended_leaves (ended.Spent n) s = s
    ended_leaves ended.WorldFault s = s
    ended_leaves (ended.BadLine n) s = (n, s)
    ended_leaves ended.Memory s = inr s

    pub serve_leaves : (to : Ending) → ServesTo site c.events to old.live new.live → LeavesServed c old.files.told (status_of to) old.live new.live
    serve_leaves to (deaf is listens) = rw is (site, serves, deaf refl listens)
    serve_leaves to (unheard is listens) = rw is (inr (site, serves, unheard refl listens))
    serve_leaves to (served e is s) = rw is (ended_leaves e (site, serves, served e refl s))

  -- where files hold no site, the world is as it was
  fault_leaves : (told : Option FileMap) (why : SiteFault) (world : Book) → LeavesServed c told (site_status why) world world
  fault_leaves told (fault.Missing file) world = refl
  fault_leaves told (fault.TooLong file) world = refl
  fault_leaves told (fault.Unreadable file) world = refl
  fault_leaves told (fault.Refused file wrong) world = refl
  fault_leaves told (fault.NotBuilt file line) world = refl
  fault_leaves told fault.TooManyModules world = refl
  fault_leaves told (fault.Init message) world = refl
  fault_leaves told fault.Memory world = inl refl

  pub site_leaves : {V : Type 0} (told : Option FileMap) (same : V → V → Type 0) (book : V → Book) (live : V) → same live live → (m : Mode) (why : SiteFault)
      → LeavesBy m same book c told (site_status why) live live
  site_leaves told same book live is mode.Check why = refl
  site_leaves told same book live is mode.Replay why = refl
  site_leaves told same book live is mode.Serve why = (is, fault_leaves told why (book live))

  -- what is said of a site that is checked
  module _ (on : c.mode ≡ mode.Check) (old new : Outside) (checks : IfSome old.files.told (λ held. IsOf c held Checks)) where
    by_check : (s : Status) → WritesCheck s old.out new.out → Writes c old.files.told s old.out new.out
    by_check s writes = subst (λ m. WritesBy m c old.files.told s old.out new.out) (sym on) writes

    pub check_works : (e : Ending) → WritesOk e old.out new.out → Works c old new e
    check_works ending.Done writes = record {
      due = weaker_some old.files.told _ _ (λ held v. (Checks, v, refl)) checks;
      writes = by_check status.Done writes;
      form = λ no. absurd (let wrong : ending.Done ≡ ending.Usage = no in cc);
    }
    check_works ending.NotWritten writes = record {
      due = (subst WritesOut (sym on) tt, writes.faults, weaker_some old.files.told _ _ (λ held v. (Checks, v, refl)) checks);
      writes = by_check status.WriteFault writes;
      form = λ no. absurd (let wrong : ending.NotWritten ≡ ending.Usage = no in cc);
    }
    check_works ending.Memory writes = absurd writes
    check_works ending.Usage writes = absurd writes
    check_works ending.WorldFault writes = absurd writes
    check_works ending.EventsSpent writes = absurd writes
    check_works (ending.NoSuchId n) writes = absurd writes
    check_works (ending.NoSite why) writes = absurd writes
    check_works ending.Missing writes = absurd writes
    check_works ending.TooLong writes = absurd writes
    check_works ending.Unreadable writes = absurd writes
    check_works (ending.BadLine n) writes = absurd writes

-- the files hold what runs, or what is served
pub runs_held : (c : Command) → c.mode ≡ mode.Replay → (site : Site) (lines : List SchedLine) (told : Option FileMap) → IfSome told (λ held. HasSite held c.conf site)
    → IfSome told (λ held. HasSchedule held c.schedule lines) → IfSome told (λ held. IsOf c held (Runs site lines))
runs_held c on site lines told has schedule = both_some told _ _ _ (λ held s h. (on, s, h)) has schedule

pub serves_held : (c : Command) → c.mode ≡ mode.Serve → (site : Site) (told : Option FileMap) → IfSome told (λ held. HasSite held c.conf site)
    → IfSome told (λ held. IsOf c held (Serves site))
serves_held c on site told has = weaker_some told _ _ (λ held s. (on, s)) has

pub checks_held : (c : Command) → c.mode ≡ mode.Check → (site : Site) (told : Option FileMap) → IfSome told (λ held. HasSite held c.conf site) → IfSome told (λ held. IsOf c held Checks)
checks_held c on site told has = weaker_some told _ _ (λ held s. (on, (site, s))) has
