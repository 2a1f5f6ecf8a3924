-- How serving a schedule ends.
use Rattle.std.proofs.Common.{◌≡◌, ◌⊎◌, inl, inr, ℕ, false, List, take, drop, refl, sym, subst, ◌∙◌, arith}
use Rattle.std.specs.List.{list_any}
use Rattle.std.proofs.lemmas.List.{take-append-drop}
use Rattle.resty_world.specs.declared.entry.Entry.{Entry}
use Rattle.resty_world.specs.declared.schedule_line.SchedLine.{SchedLine}
use Rattle.resty_world.specs.Given.{IsBadLine, EndsByFailing}
use Rattle.schedule_text.specs.Fitting.{IsSchedule}
use Rattle.schedule.specs.declared.replay.Replay.{Replay}
use Rattle.schedule.specs.Counts.{counted}
use Rattle.schedule.specs.ReplayBook.{book_of, Stands, IsFresh, IsLater}
use Rattle.schedule.specs.Steps.{is_fail_next, faults_in}
use Rattle.schedule.specs.Told.{IsTold, StopEndsSchedules}
use Rattle.executions.specs.Histories.{offered_lengths}
use Rattle.strand_contract.specs.Behaviors.{Behavior}
use Rattle.engine_base.specs.Right.{IsRight}
use Rattle.engine.specs.declared.server.Ended.{Ended}
use Rattle.engine.specs.declared.server.Ended.TheVariants as ended
use Rattle.engine.specs.Endings.{EndsBy, HasAtMost, NothingFailed, WorldFailed, LogFailed}
use Rattle.commands.specs.Run.{IsRun, RunsTo, EndsRun, IsUnknownAt, NothingFailedIn, FailedNext}
use Rattle.commands.proofs.Ranged.{history-ranged}
use Rattle.commands.proofs.Story.{AreRanged, schedule-ranged, first-ranged, no-fail-next, stop-given, stopped-newest}

-- the world still goes by these lines, and tells those that were passed
pub record Tells (lines : List SchedLine) (world : Replay) : Type 0 where
  pub course : world.course ≡ lines
  pub stands : Stands world

pub tells : (lines : List SchedLine) (old world : Replay) → IsFresh lines (book_of old) → Stands old → IsLater old world → Tells lines world
tells lines old world fresh stands later = record {
  course = later.schedule ∙ (let same = fresh.schedule in cc);
  stands = later.stands stands;
}

none-counted : (n : ℕ) → counted n ≡ 0 → n ≡ 0
none-counted n none = omega (arith, none)

module _ {J : Type 0} (b : Behavior J) (lines : List SchedLine) (old world : Replay) (fresh : IsFresh lines (book_of old)) (told : Tells lines world) where
  abbrev history : List Entry
  history = world.history.entries

  -- where nothing failed in the world, nothing failed in the run
  well : NothingFailed (book_of old) (book_of world) → NothingFailedIn (take world.passed lines) history
  well none =
      let s = told.stands in
      let counts : counted (faults_in s.steps) ≡ 0 = sym s.faults ∙ none.faults ∙ fresh.faults in
      record {
        next = subst (λ (ls : List SchedLine). list_any is_fail_next ls ≡ false) (rw told.course at s.passed) (no-fail-next s.steps (none-counted (faults_in s.steps) counts));
        logs = none.logs;
      }

  -- the world failed at a line `fail next`, or a log line wasn't written
  faulted : IsSchedule lines → WorldFailed (book_of world) history ⊎ LogFailed history → FailedNext (take world.passed lines) history ⊎ LogFailed history
  faulted made failed = elim failed [
    | inl failed ↦ inl (record { line = at-line failed; no_stop = failed.no_stop; logs = failed.logs })
    | inr log ↦ inr log
  ]
    where
      at-line : WorldFailed (book_of world) history → EndsByFailing (take world.passed lines)
      at-line failed =
          let s = told.stands in
          elim failed.fault [
            | inl line ↦ subst (λ (ls : List SchedLine). EndsByFailing (take world.passed ls)) told.course line
            | inr all ↦ absurd (stop-given world.course s.steps s.right made.before (s.passed ∙ all ∙ told.course ∙ made.ends) (rw s.history failed.no_stop))
          ]

  -- a bad line names an id that was never there
  unknown-at : (n : ℕ) → IsBadLine (book_of world) n → IsUnknownAt lines world.passed history
  unknown-at n bad =
      let same : bad.lines ≡ lines = let schedule = bad.schedule in let course = told.course in cc in
      let known = world.known in
      record {
        bad = bad.bad;
        here = rw same at bad.here;
        unknown = rw (← known.arrived, ← known.dialled) bad.absent;
      }

  -- the history is that of a run of the lines that were passed
  pub passed_run : IsSchedule lines → IsRight b (book_of world) → IsRun b (take world.passed lines) history
  passed_run made right =
      let s = told.stands in
      let is_told : IsTold (take world.passed lines) history (offered_lengths b right.execution) = record {
        steps = s.steps;
        after = drop world.passed lines;
        steps_right = rw (take-append-drop world.passed lines, ← told.course) s.right;
        steps_lines = rw told.course at s.passed;
        steps_history = s.history;
        steps_offers = s.offered ∙ right.offered;
      } in
      let ranged : AreRanged (take world.passed lines) =
      first-ranged (take world.passed lines) (drop world.passed lines) (subst AreRanged (sym (take-append-drop world.passed lines)) (schedule-ranged lines made)) in
      record {
        execution = right.execution;
        history = right.history;
        told = is_told;
        lawful = right.lawful;
        kept = right.kept;
        plain = right.plain;
        ordered = right.ordered;
        ranged = history-ranged b (take world.passed lines) history (offered_lengths b right.execution) right.execution ranged is_told right.history right.lawful.alone right.lawful.begins right.ordered right.served;
      }

  -- how a run ends
  ends_run : StopEndsSchedules → IsSchedule lines → IsRun b (take world.passed lines) history → (events : ℕ) (e : Ended) → EndsBy events (book_of old) (book_of world) e
      → ¬ (e ≡ ended.Memory) → EndsRun events lines world.passed history e
  ends_run stop made run events ended.Stopped ends some =
      (stop lines world.passed history _ made run.told (stopped-newest history ends.0), ends.0, well ends.1)
  ends_run stop made run events (ended.Spent n) ends some = (ends.0, ends.1, well ends.2)
  ends_run stop made run events ended.WorldFault ends some = faulted made ends.1
  ends_run stop made run events (ended.BadLine n) ends some = (ends.0.next, unknown-at n ends.0, well ends.1)
  ends_run stop made run events ended.Memory ends some = absurd (some refl)

  pub runs_to : StopEndsSchedules → IsSchedule lines → IsRight b (book_of world) → (events : ℕ) (e : Ended) → HasAtMost events history → EndsBy events (book_of old) (book_of world) e
      → ¬ (e ≡ ended.Memory) → RunsTo b events lines e history
  runs_to stop made right events e few ends some =
      let run = passed_run made right in
      (world.passed, run, few, ends_run stop made run events e ends some)
