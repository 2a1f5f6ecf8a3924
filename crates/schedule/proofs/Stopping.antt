-- After `stop` there is no line.
use Rattle.std.proofs.Common.{◌≡◌, ℕ, zero, suc, ◌+◌, ◌<◌, Bool, true, false, cond, inl, inr, List, [], ◌∷◌, ◌++◌, length, take, Some, None, slice_get, refl, sym, ap, subst, ◌∙◌, arith}
use Rattle.std.proofs.lemmas.Bool.{cases_lt}
use Rattle.std.proofs.lemmas.List.{take_all}
use Rattle.std.proofs.lemmas.List.Sums.{sum_by-append}
use Rattle.resty_world.specs.declared.event.Event.TheVariants as event
use Rattle.resty_world.specs.declared.entry.Entry.{Entry}
use Rattle.resty_world.specs.declared.entry.Entry.TheVariants as entry
use Rattle.resty_world.specs.declared.schedule_line.SchedLine.{SchedLine}
use Rattle.resty_world.specs.declared.schedule_line.SchedLine.TheVariants as line
use Rattle.schedule_text.specs.Fitting.{IsSchedule}
use Rattle.schedule_text.specs.Lines.{stops_in, is_stop}
use Rattle.schedule.specs.Steps.{Step, Passed, Answered, Listened, AskedAtBadLine, AskedAtEnd, AreSteps, given_by, history_of, lines_of, is_skipped, newest_given}
use Rattle.schedule.specs.Told.{IsTold}
use Rattle.schedule.proofs.Standing.{newest-answered}

stops-append : (xs ys : List SchedLine) → stops_in (xs ++ ys) ≡ stops_in xs + stops_in ys
stops-append xs ys = sum_by-append (λ l. cond (is_stop l) 1 0) xs ys

-- the lines with one more have a `stop` where they had one before, or where that one gives Stop
more-stops : (lines : List SchedLine) (history : List Entry) (l : SchedLine) → (newest_given history ≡ Some event.Stop → 0 < stops_in lines)
    → newest_given (given_by history l ++ history) ≡ Some event.Stop → 0 < stops_in (lines ++ l ∷ [])
more-stops lines history (line.Given e) before newest = given-stops (is_skipped history (line.Given e)) newest where
  given-stops : (b : Bool) → newest_given ((cond b [] (entry.Given e ∷ [])) ++ history) ≡ Some event.Stop → 0 < stops_in (lines ++ line.Given e ∷ [])
  given-stops true here = let some = before here in let sum = stops-append lines (line.Given e ∷ []) in omega (arith, some, sum)
  given-stops false here =
      let is : e ≡ event.Stop = let same : Some e ≡ Some event.Stop = here in cc in
      let sum = stops-append lines (line.Given event.Stop ∷ []) in
      subst (λ x. 0 < stops_in (lines ++ line.Given x ∷ [])) (sym is) (omega (arith, sum))
more-stops lines history (line.Room i n) before newest = let some = before newest in let sum = stops-append lines (line.Room i n ∷ []) in omega (arith, some, sum)
more-stops lines history line.FailNext before newest = let some = before newest in let sum = stops-append lines (line.FailNext ∷ []) in omega (arith, some, sum)
more-stops lines history line.FailDial before newest = let some = before newest in let sum = stops-append lines (line.FailDial ∷ []) in omega (arith, some, sum)
more-stops lines history line.FailLog before newest = let some = before newest in let sum = stops-append lines (line.FailLog ∷ []) in omega (arith, some, sum)
more-stops lines history line.FailListen before newest = let some = before newest in let sum = stops-append lines (line.FailListen ∷ []) in omega (arith, some, sum)
more-stops lines history (line.FailPut i) before newest = let some = before newest in let sum = stops-append lines (line.FailPut i ∷ []) in omega (arith, some, sum)

-- where Stop was given, a `stop` was passed
pub stop-passed : (schedule : List SchedLine) (steps : List Step) → AreSteps schedule steps → newest_given (history_of steps) ≡ Some event.Stop → 0 < stops_in (lines_of steps)
stop-passed schedule [] right newest = absurd (let wrong : None ≡ Some event.Stop = newest in cc)
stop-passed schedule (Passed l ∷ steps) right newest = more-stops (lines_of steps) (history_of steps) l (stop-passed schedule steps right.0) newest
stop-passed schedule (Answered e n ∷ steps) right newest =
    stop-passed schedule steps right.0 (sym (newest-answered steps e n (history_of steps) right.1.1) ∙ newest)
stop-passed schedule (Listened port failed ∷ steps) right newest = stop-passed schedule steps right.0 newest
stop-passed schedule (AskedAtBadLine ∷ steps) right newest = stop-passed schedule steps right.0 newest
stop-passed schedule (AskedAtEnd ∷ steps) right newest = stop-passed schedule steps right.0 newest

-- there is a line at each index within
pub line-at : (lines : List SchedLine) (at : ℕ) → at < length lines → (l : SchedLine) × (slice_get lines at ≡ Some l)
line-at [] at within = absurd (omega arith)
line-at (l ∷ lines) zero within = (l, refl)
line-at (l ∷ lines) (suc at) within = line-at lines at (omega arith)

pub all-passed : (lines : List SchedLine) (passed : ℕ) (history : List Entry) (offered : List ℕ) → IsSchedule lines → IsTold (take passed lines) history offered
    → newest_given history ≡ Some event.Stop → take passed lines ≡ lines
all-passed lines passed history offered whole told newest = elim (cases_lt passed (length lines)) [
  | inl within ↦
      let next = line-at lines passed within in
      let none = (whole.fit passed next.0 next.1).goes_on in
      let some = stop-passed (take passed lines ++ told.after) told.steps told.steps_right (ap newest_given told.steps_history ∙ newest) in
      absurd (omega (arith, none, some, ap stops_in told.steps_lines))
  | inr end ↦ take_all passed lines end
]
