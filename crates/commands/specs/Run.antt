-- The run of a schedule.
use Rattle.std.specs.Prelude.{◌≡◌, ◌⊎◌, ℕ, ◌+◌, Bool, true, false, List, take, slice_get, Some}
use Rattle.std.specs.List.{list_any}
use Rattle.resty_world.specs.Given.{named_id, names_absent, EndsByFailing}
use Rattle.resty_world.specs.declared.entry.Entry.{Entry}
use Rattle.resty_world.specs.declared.entry.Entry.TheVariants as entry
use Rattle.resty_world.specs.declared.schedule_line.SchedLine.{SchedLine}
use Rattle.schedule_text.specs.Accepted.{IsHistory, IsHistoryOf}
use Rattle.schedule_text.specs.EntryTexts.{history_text}
use Rattle.schedule.specs.Counts.{arrived_in, dials_in}
use Rattle.schedule.specs.Steps.{is_fail_next}
use Rattle.schedule.specs.Told.{IsTold}
use Rattle.executions.specs.Executions.{GlobalAction}
use Rattle.strand_contract.specs.Behaviors.{Behavior}
use Rattle.executions.specs.Histories.{external, offered_lengths}
use Rattle.executions.specs.Lawful.{IsLawful, IsKept}
use Rattle.executions.specs.Plain.{IsPlain}
use Rattle.executions.specs.Ordered.{IsOrdered}
use Rattle.engine.specs.Endings.{events_of, HasAtMost, HasNoStop, HasNoFailedLog, IsStopped, IsSpent, LogFailed}
use Rattle.engine.specs.declared.server.Ended.{Ended}
use Rattle.engine.specs.declared.server.Ended.TheVariants as ended

-- The history of a run of these lines: it is that of one execution, which is lawful, kept, plain and ordered, and it tells the
-- lines. Its entries are within the ranges of the text.
pub record IsRun {J : Type 0} (b : Behavior J) (lines : List SchedLine) (h : List Entry) : Type 0 where
  pub execution : List (GlobalAction J)
  pub history : h ≡ external b execution
  pub told : IsTold lines h (offered_lengths b execution)
  pub lawful : IsLawful b execution
  pub kept : IsKept b execution
  pub plain : IsPlain b execution
  pub ordered : IsOrdered b execution
  pub ranged : IsHistory h

-- nothing failed in the run of these lines: none of them is `fail next`, and each log line was written
pub record NothingFailedIn (lines : List SchedLine) (h : List Entry) : Type 0 where
  pub next : list_any is_fail_next lines ≡ false
  pub logs : HasNoFailedLog h

-- the world failed at a line `fail next`, where Stop was still to be given, and each log line was written
pub record FailedNext (passed : List SchedLine) (h : List Entry) : Type 0 where
  pub line : EndsByFailing passed
  pub no_stop : HasNoStop (events_of h)
  pub logs : HasNoFailedLog h

-- the line after so many names a connection that didn't arrive before, or a socket that wasn't dialled
pub record IsUnknownAt (lines : List SchedLine) (passed : ℕ) (h : List Entry) : Type 0 where
  pub bad : SchedLine
  pub here : slice_get lines passed ≡ Some bad
  pub unknown : names_absent (arrived_in h) (dials_in h) (named_id bad) ≡ true

-- How a run ends after so many lines: by Stop, where these are all the lines; once so many events were given; as the last of them made the
-- world fail, or a log line wasn't written; or where the line after them names an id that was never there.
abbrev pub EndsRun : ℕ → List SchedLine → ℕ → List Entry → Ended → Type 0
EndsRun events lines passed h ended.Stopped = (take passed lines ≡ lines) × IsStopped h × NothingFailedIn (take passed lines) h
EndsRun events lines passed h (ended.Spent n) = (n ≡ events) × IsSpent events h × NothingFailedIn (take passed lines) h
EndsRun events lines passed h ended.WorldFault = FailedNext (take passed lines) h ⊎ LogFailed h
EndsRun events lines passed h (ended.BadLine n) = (n ≡ passed + 1) × IsUnknownAt lines passed h × NothingFailedIn (take passed lines) h
EndsRun events lines passed h ended.Memory = ⊥

-- the run of the first of these lines, in which no more than so many events were given, and which ended so
abbrev pub RunsTo : {J : Type 0} → Behavior J → ℕ → List SchedLine → Ended → List Entry → Type 0
RunsTo b events lines e h = (passed : ℕ) × IsRun b (take passed lines) h × HasAtMost events h × EndsRun events lines passed h e

-- no other history has the text of this one
abbrev pub IsKnownByItsText : List Entry → Type 0
IsKnownByItsText h = (other : List Entry) → IsHistoryOf (history_text h) other → other ≡ h

-- a strand was given up
abbrev pub is_dropped : Entry → Bool
is_dropped (entry.Dropped s) = true
is_dropped e = false

abbrev pub has_dropped : List Entry → Bool
has_dropped h = list_any is_dropped h
