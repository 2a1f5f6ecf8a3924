-- What the steps of a replay make of the lines that it passes.
use Rattle.std.proofs.Common.{◌≡◌, ℕ, suc, ◌+◌, Bool, true, false, ◌||◌, cond, List, [], ◌∷◌, ◌++◌, length, refl, Option, Some, None, slice_get, ap, subst, ◌∙◌, arith, length-append}
use Rattle.std.proofs.lemmas.List.{same_from_push}
use Rattle.std.specs.List.{list_any}
use Rattle.resty_world.specs.declared.event.Event.{Event}
use Rattle.resty_world.specs.declared.event.Event.TheVariants as event
use Rattle.resty_world.specs.declared.entry.Entry.{Entry}
use Rattle.resty_world.specs.declared.entry.Entry.TheVariants as entry
use Rattle.resty_world.specs.declared.schedule_line.SchedLine.{SchedLine}
use Rattle.resty_world.specs.declared.schedule_line.SchedLine.TheVariants as line
use Rattle.schedule_text.specs.Fitting.{IsSchedule}
use Rattle.schedule_text.specs.Ranges.{IsBytes, IsEvent, IsLine}
use Rattle.schedule.specs.Steps.{Step, Passed, Answered, Listened, AskedAtBadLine, AskedAtEnd, AreSteps, history_of, lines_of, given_by, is_skipped, newest_given, IsAnswer, one_if, is_fail_next, is_failed_log, faults_in}
use Rattle.engine.specs.Endings.{events_of, HasNoStop, IsStopped}

-- each line is within its ranges
abbrev pub AreRanged : List SchedLine → Type 0
AreRanged [] = Unit {0}
AreRanged (l ∷ lines) = IsLine l × AreRanged lines

pub last-ranged : (lines : List SchedLine) (l : SchedLine) → AreRanged (lines ++ l ∷ []) → AreRanged lines × IsLine l
last-ranged [] l all = (tt, all.0)
last-ranged (x ∷ lines) l all = let rest = last-ranged lines l all.1 in ((all.0, rest.0), rest.1)

pub first-ranged : (xs ys : List SchedLine) → AreRanged (xs ++ ys) → AreRanged xs
first-ranged [] ys all = tt
first-ranged (x ∷ xs) ys all = (all.0, first-ranged xs ys all.1)

all-ranged : (lines : List SchedLine) → ((i : ℕ) (l : SchedLine) → slice_get lines i ≡ Some l → IsLine l) → AreRanged lines
all-ranged [] each = tt
all-ranged (l ∷ lines) each = (each 0 l refl, all-ranged lines (λ i m here. each (suc i) m here))

pub schedule-ranged : (lines : List SchedLine) → IsSchedule lines → AreRanged lines
schedule-ranged lines made = all-ranged lines (λ i l here. (made.fit i l here).ranged)

-- what a schedule makes of the entries that tell it: its events are within their ranges, and what is taken and what is logged are bytes
abbrev pub IsToldEntry : Entry → Type 0
IsToldEntry (entry.Given e) = IsEvent e
IsToldEntry (entry.Put i bytes) = IsBytes bytes
IsToldEntry (entry.Log who text written) = IsBytes text
IsToldEntry e = Unit {0}

abbrev pub AreToldEntries : List Entry → Type 0
AreToldEntries [] = Unit {0}
AreToldEntries (e ∷ h) = IsToldEntry e × AreToldEntries h

told-line : (b : Bool) (e : Event) (h : List Entry) → IsEvent e → AreToldEntries h → AreToldEntries ((cond b [] (entry.Given e ∷ [])) ++ h)
told-line true e h ranged told = told
told-line false e h ranged told = (ranged, told)

pub entries-told : (schedule : List SchedLine) (steps : List Step) → AreRanged (lines_of steps) → AreSteps schedule steps → AreToldEntries (history_of steps)
entries-told schedule [] all right = tt
entries-told schedule (Passed (line.Given e) ∷ steps) all right =
    let lines = last-ranged (lines_of steps) (line.Given e) all in
    told-line (is_skipped (history_of steps) (line.Given e)) e (history_of steps) lines.1 (entries-told schedule steps lines.0 right.0)
entries-told schedule (Passed line.FailNext ∷ steps) all right = entries-told schedule steps (last-ranged (lines_of steps) line.FailNext all).0 right.0
entries-told schedule (Passed line.FailDial ∷ steps) all right = entries-told schedule steps (last-ranged (lines_of steps) line.FailDial all).0 right.0
entries-told schedule (Passed line.FailLog ∷ steps) all right = entries-told schedule steps (last-ranged (lines_of steps) line.FailLog all).0 right.0
entries-told schedule (Passed line.FailListen ∷ steps) all right = entries-told schedule steps (last-ranged (lines_of steps) line.FailListen all).0 right.0
entries-told schedule (Passed (line.Room i n) ∷ steps) all right = entries-told schedule steps (last-ranged (lines_of steps) (line.Room i n) all).0 right.0
entries-told schedule (Passed (line.FailPut i) ∷ steps) all right = entries-told schedule steps (last-ranged (lines_of steps) (line.FailPut i) all).0 right.0
entries-told schedule (Answered (entry.Given e) n ∷ steps) all right = absurd right.1.1
entries-told schedule (Answered (entry.Put i bytes) n ∷ steps) all right = (right.1.1.1, entries-told schedule steps all right.0)
entries-told schedule (Answered (entry.Log who text written) n ∷ steps) all right = (right.1.1, entries-told schedule steps all right.0)
entries-told schedule (Answered (entry.Later i) n ∷ steps) all right = (tt, entries-told schedule steps all right.0)
entries-told schedule (Answered (entry.Lost i) n ∷ steps) all right = (tt, entries-told schedule steps all right.0)
entries-told schedule (Answered (entry.Close i) n ∷ steps) all right = (tt, entries-told schedule steps all right.0)
entries-told schedule (Answered (entry.Dial who host port k) n ∷ steps) all right = (tt, entries-told schedule steps all right.0)
entries-told schedule (Answered (entry.Dict who zone call answer) n ∷ steps) all right = (tt, entries-told schedule steps all right.0)
entries-told schedule (Answered (entry.Take who key got) n ∷ steps) all right = (tt, entries-told schedule steps all right.0)
entries-told schedule (Answered (entry.Keep who k key idle size closed) n ∷ steps) all right = (tt, entries-told schedule steps all right.0)
entries-told schedule (Answered (entry.Timer who due answer) n ∷ steps) all right = (tt, entries-told schedule steps all right.0)
entries-told schedule (Answered (entry.Start k) n ∷ steps) all right = (tt, entries-told schedule steps all right.0)
entries-told schedule (Answered (entry.Turned c) n ∷ steps) all right = (tt, entries-told schedule steps all right.0)
entries-told schedule (Answered (entry.Dropped who) n ∷ steps) all right = (tt, entries-told schedule steps all right.0)
entries-told schedule (Listened port failed ∷ steps) all right = entries-told schedule steps all right.0
entries-told schedule (AskedAtBadLine ∷ steps) all right = entries-told schedule steps all right.0
entries-told schedule (AskedAtEnd ∷ steps) all right = entries-told schedule steps all right.0

-- the newest event
abbrev newest : List Event → Option Event
newest [] = None
newest (e ∷ es) = Some e

pub newest-event : (h : List Entry) → newest_given h ≡ newest (events_of h)
newest-event [] = refl
newest-event (entry.Given e ∷ h) = refl
newest-event (entry.Put i bytes ∷ h) = newest-event h
newest-event (entry.Later i ∷ h) = newest-event h
newest-event (entry.Lost i ∷ h) = newest-event h
newest-event (entry.Close i ∷ h) = newest-event h
newest-event (entry.Dial who host port n ∷ h) = newest-event h
newest-event (entry.Log who text written ∷ h) = newest-event h
newest-event (entry.Dict who zone call answer ∷ h) = newest-event h
newest-event (entry.Take who key got ∷ h) = newest-event h
newest-event (entry.Keep who n key idle size closed ∷ h) = newest-event h
newest-event (entry.Timer who due answer ∷ h) = newest-event h
newest-event (entry.Start n ∷ h) = newest-event h
newest-event (entry.Turned c ∷ h) = newest-event h
newest-event (entry.Dropped s ∷ h) = newest-event h

pub stopped-newest : (h : List Entry) → IsStopped h → newest_given h ≡ Some event.Stop
stopped-newest h stopped = newest-event h ∙ ap newest stopped.1

answer-events : (steps : List Step) (e : Entry) (n : ℕ) (h : List Entry) → IsAnswer steps e n → events_of (e ∷ h) ≡ events_of h
answer-events steps (entry.Given e) n h right = absurd right
answer-events steps e n h right = refl

-- whether one of the lines is `fail next`
one-more : (xs : List SchedLine) (l : SchedLine) → list_any is_fail_next (xs ++ l ∷ []) ≡ (list_any is_fail_next xs || is_fail_next l)
one-more [] l = by (is_fail_next l)
  where
    by : (b : Bool) → (b || false) ≡ b
    by true = refl
    by false = refl
one-more (x ∷ xs) l = by (is_fail_next x) (one-more xs l)
  where
    by : (b : Bool) → list_any is_fail_next (xs ++ l ∷ []) ≡ (list_any is_fail_next xs || is_fail_next l)
        → (b || list_any is_fail_next (xs ++ l ∷ [])) ≡ ((b || list_any is_fail_next xs) || is_fail_next l)
    by true same = refl
    by false same = same

none-both : (m n : ℕ) → m + n ≡ 0 → (m ≡ 0) × (n ≡ 0)
none-both m n none = (omega (arith, none), omega (arith, none))

not-one : (b : Bool) → one_if b ≡ 0 → b ≡ false
not-one true none = absurd (let no : 1 ≡ 0 = none in omega (arith, no))
not-one false none = refl

-- without a fault no line is `fail next`
pub no-fail-next : (steps : List Step) → faults_in steps ≡ 0 → list_any is_fail_next (lines_of steps) ≡ false
no-fail-next [] none = refl
no-fail-next (Passed l ∷ steps) none =
    let both = none-both (faults_in steps) (one_if (is_fail_next l)) none in
    one-more (lines_of steps) l ∙ ap (λ b. b || is_fail_next l) (no-fail-next steps both.0) ∙ not-one (is_fail_next l) both.1
no-fail-next (Answered e n ∷ steps) none = no-fail-next steps (none-both (faults_in steps) (one_if (is_failed_log e)) none).0
no-fail-next (Listened port failed ∷ steps) none = no-fail-next steps (none-both (faults_in steps) (one_if failed) none).0
no-fail-next (AskedAtBadLine ∷ steps) none = no-fail-next steps (omega (arith, none))
no-fail-next (AskedAtEnd ∷ steps) none = no-fail-next steps (omega (arith, none))

-- where the last line that was passed is `stop`, Stop was given
pub stop-given : (schedule : List SchedLine) (steps : List Step) → AreSteps schedule steps → (before : List SchedLine) → lines_of steps ≡ before ++ line.Given event.Stop ∷ []
    → HasNoStop (events_of (history_of steps)) → ⊥
stop-given schedule [] right before is none = let wrong = ap length is in let sum = length-append before (line.Given event.Stop ∷ []) in omega (arith, wrong, sum)
stop-given schedule (Passed l ∷ steps) right before is none =
    let same = (same_from_push (lines_of steps) before l (line.Given event.Stop) is).1 in
    subst (λ (x : SchedLine). HasNoStop (events_of (given_by (history_of steps) x ++ history_of steps))) same none
stop-given schedule (Answered e n ∷ steps) right before is none = stop-given schedule steps right.0 before is (subst HasNoStop (answer-events steps e n (history_of steps) right.1.1) none)
stop-given schedule (Listened port failed ∷ steps) right before is none = stop-given schedule steps right.0 before is none
stop-given schedule (AskedAtBadLine ∷ steps) right before is none = stop-given schedule steps right.0 before is none
stop-given schedule (AskedAtEnd ∷ steps) right before is none = stop-given schedule steps right.0 before is none
