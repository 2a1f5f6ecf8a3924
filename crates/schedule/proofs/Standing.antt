-- Where a replay stands after one step more.
use Rattle.std.proofs.Common.{◌≡◌, ℕ, ◌+◌, ◌-◌, ◌<◌, ◌≤◌, Bool, true, false, cond, not, List, [], ◌∷◌, ◌++◌, length, reverse, get_or, Some, slice_get, refl, sym, ap, subst, ◌∙◌, arith, length-append, length-take-le}
use Rattle.std.proofs.lemmas.Bool.{lt-ltb}
use Rattle.std.proofs.lemmas.List.{take_all, same_from_push, reverse-append, get_or_default}
use Rattle.std.specs.Prelude.{◌&&◌, ◌||◌, nat_lt, if◌then◌else◌}
use Rattle.resty_base.specs.declared.names.Id.{Id}
use Rattle.resty_base.specs.BoolLaws.{by_test}
use Rattle.resty_world.specs.declared.event.Event.{Event}
use Rattle.resty_world.specs.declared.event.Event.TheVariants as event
use Rattle.resty_world.specs.declared.entry.Entry.{Entry}
use Rattle.resty_world.specs.declared.entry.Entry.TheVariants as entry
use Rattle.resty_world.specs.declared.schedule_line.SchedLine.{SchedLine}
use Rattle.resty_world.specs.declared.schedule_line.SchedLine.TheVariants as line
use Rattle.resty_world.specs.Given.{named_id, names_absent}
use Rattle.resty_world.specs.Ids.{same_id}
use Rattle.resty_world.specs.IdLaws.{same_id-eq}
use Rattle.schedule_text.specs.Fitting.{IsSchedule}
use Rattle.schedule_text.specs.Ranges.{IsBytes}
use Rattle.schedule.specs.declared.replay.Replay.{Replay}
use Rattle.schedule.specs.Counts.{arrived_in, dials_in, losses_in, loses_by, counted}
use Rattle.schedule.specs.Peers.{peer_at, room_in, put_fails_in}
use Rattle.schedule.specs.ReplayBook.{StandsBy, Stands, StandsAnywhere}
use Rattle.schedule.specs.Steps.{Step, Call, Passed, Answered, Listened, AskedAtBadLine, AskedAtEnd, Dialling, Logging, Writing, AreSteps, FailsRightly, IsAnswer, is_skipped, given_by, history_of}
use Rattle.schedule.specs.Steps.{lines_of, offers_by, is_call, failing_by, answered_by, tells_failure, one_if, unspent, room_by, room_after, is_fail_next, is_failed_log, begins_by_failing, has_listened_in_vain, newest_given, faults_in}
use Rattle.schedule.proofs.Passing.{take-more}

-- counting goes on after the last value
capped : (n k : ℕ) → counted (counted n + k) ≡ counted (n + k)
capped n k = omega arith

pub counted_is : (r n : ℕ) → r ≡ counted (n + 1) → r ≡ counted (n + 1)
counted_is r n is = is

none-more : (n : ℕ) → n ≡ n + 0
none-more n = omega arith

one-few : (b : Bool) → one_if b ≤ 1
one-few true = omega arith
one-few false = omega arith

-- no more `fail` lines are unspent than lines were passed
unspent-few : (c : Call) (steps : List Step) → unspent c steps ≤ length (lines_of steps)
unspent-few c [] = omega arith
unspent-few c (Passed l ∷ steps) = omega (arith, unspent-few c steps, length-append (lines_of steps) (l ∷ []), one-few (is_call (failing_by l) c))
unspent-few c (Answered e n ∷ steps) = omega (arith, unspent-few c steps)
unspent-few c (Listened port failed ∷ steps) = unspent-few c steps
unspent-few c (AskedAtBadLine ∷ steps) = unspent-few c steps
unspent-few c (AskedAtEnd ∷ steps) = unspent-few c steps

pub few-unspent : {kind : List Step → Type 0} (w : Replay) (s : StandsBy kind w) (c : Call) → unspent c s.steps ≤ w.passed
few-unspent w s c = omega (arith, unspent-few c s.steps, ap length s.passed, length-take-le w.passed w.course, w.passed_lines)

-- one more or less at an id
pub one-more : (f : Id → ℕ) (i : Id) (more : ℕ) → more ≡ f i + 1 → (x : Id) → (if same_id x i then more else f x) ≡ f x + one_if (same_id x i)
one-more f i more is x = by_test (same_id x i) (λ on. rw on (is ∙ ap (λ y. f y + 1) (sym (same_id-eq x i on)))) (λ off. rw off (none-more (f x)))

pub one-less : (f : Id → ℕ) (i : Id) (fewer : ℕ) → fewer ≡ f i - 1 → (x : Id) → (if same_id x i then fewer else f x) ≡ f x - one_if (same_id x i)
one-less f i fewer is x = by_test (same_id x i) (λ on. rw on (is ∙ ap (λ y. f y - 1) (sym (same_id-eq x i on)))) (λ off. rw off (omega arith))

-- an answer
pub answers : (old new : Replay) (e : Entry) (n : ℕ) (s : Stands old) → new.course ≡ old.course → new.passed ≡ old.passed
    → new.history.entries ≡ e ∷ old.history.entries → reverse new.offered.items ≡ offers_by e n (reverse old.offered.items)
    → FailsRightly (answered_by e) (tells_failure e) s.steps → IsAnswer s.steps e n
    → new.faults ≡ counted (old.faults + one_if (is_failed_log e)) → new.losses ≡ counted (old.losses + loses_by e)
    → ((x : Id) → room_in (peer_at new.peers x) ≡ room_after e x (room_in (peer_at old.peers x)))
    → ((x : Id) → put_fails_in (peer_at new.peers x) ≡ put_fails_in (peer_at old.peers x) - one_if (tells_failure e && is_call (answered_by e) (Writing x)))
    → new.dial_fails ≡ old.dial_fails - one_if (tells_failure e && is_call (answered_by e) Dialling)
    → new.log_fails ≡ old.log_fails - one_if (tells_failure e && is_call (answered_by e) Logging)
    → new.listen_fails ≡ old.listen_fails → new.port ≡ old.port → Stands new
answers old new e n s course passed entries offered rightly right faults losses rooms put_fails dial_fails log_fails listen_fails port = record {
  steps = Answered e n ∷ s.steps;
  right = subst (λ lines. AreSteps lines (Answered e n ∷ s.steps)) (sym course) (s.right, (rightly, right, s.kept));
  passed = rw (passed, course) s.passed;
  history = ap (λ h. e ∷ h) s.history ∙ sym entries;
  offered = ap (offers_by e n) s.offered ∙ sym offered;
  faults = faults ∙ ap (λ k. counted (k + one_if (is_failed_log e))) s.faults ∙ capped (faults_in s.steps) _;
  losses = losses ∙ ap (λ k. counted (k + loses_by e)) s.losses ∙ rw entries (omega arith);
  rooms = λ x. rooms x ∙ ap (room_after e x) (s.rooms x);
  put_fails = λ x. put_fails x ∙ ap (λ k. k - one_if (tells_failure e && is_call (answered_by e) (Writing x))) (s.put_fails x);
  dial_fails = dial_fails ∙ ap (λ k. k - one_if (tells_failure e && is_call (answered_by e) Dialling)) s.dial_fails;
  log_fails = log_fails ∙ ap (λ k. k - one_if (tells_failure e && is_call (answered_by e) Logging)) s.log_fails;
  listen_fails = listen_fails ∙ rw course s.listen_fails;
  port = port ∙ s.port;
  kept = refl;
}

-- a line that gives no event is passed
pub passes : (kind : List Step → Type 0) (old new : Replay) (l : SchedLine) (s : StandsAnywhere old) → new.course ≡ old.course → new.passed ≡ old.passed + 1
    → slice_get old.course old.passed ≡ Some l → names_absent (arrived_in old.history.entries) (dials_in old.history.entries) (named_id l) ≡ false
    → given_by old.history.entries l ≡ [] → new.history.entries ≡ old.history.entries → new.offered.items ≡ old.offered.items
    → new.faults ≡ counted (old.faults + one_if (is_fail_next l)) → new.losses ≡ old.losses
    → ((x : Id) → room_in (peer_at new.peers x) ≡ room_by l x (room_in (peer_at old.peers x)))
    → ((x : Id) → put_fails_in (peer_at new.peers x) ≡ put_fails_in (peer_at old.peers x) + one_if (is_call (failing_by l) (Writing x)))
    → new.dial_fails ≡ old.dial_fails + one_if (is_call (failing_by l) Dialling)
    → new.log_fails ≡ old.log_fails + one_if (is_call (failing_by l) Logging)
    → new.listen_fails ≡ old.listen_fails → new.port ≡ old.port → kind (Passed l ∷ s.steps) → StandsBy kind new
passes kind old new l s course passed here there none entries offered faults losses rooms put_fails dial_fails log_fails listen_fails port kept = record {
  steps = Passed l ∷ s.steps;
  right = subst (λ lines. AreSteps lines (Passed l ∷ s.steps)) (sym course) (s.right, rw s.history there);
  passed = rw (passed, course) (ap (λ ls. ls ++ l ∷ []) s.passed ∙ sym (take-more old.course old.passed l here));
  history = rw s.history (ap (λ es. es ++ old.history.entries) none ∙ sym entries);
  offered = s.offered ∙ ap reverse (sym offered);
  faults = faults ∙ ap (λ k. counted (k + one_if (is_fail_next l))) s.faults ∙ capped (faults_in s.steps) _;
  losses = losses ∙ s.losses ∙ ap (λ h. counted (losses_in h)) (sym entries);
  rooms = λ x. rooms x ∙ ap (room_by l x) (s.rooms x);
  put_fails = λ x. put_fails x ∙ ap (λ k. k + one_if (is_call (failing_by l) (Writing x))) (s.put_fails x);
  dial_fails = dial_fails ∙ ap (λ k. k + one_if (is_call (failing_by l) Dialling)) s.dial_fails;
  log_fails = log_fails ∙ ap (λ k. k + one_if (is_call (failing_by l) Logging)) s.log_fails;
  listen_fails = listen_fails ∙ rw course s.listen_fails;
  port = port ∙ s.port;
  kept = kept;
}

-- an event is given
pub gives : (old new : Replay) (e : Event) (s : StandsAnywhere old) → new.course ≡ old.course → new.passed ≡ old.passed + 1
    → slice_get old.course old.passed ≡ Some (line.Given e)
    → names_absent (arrived_in old.history.entries) (dials_in old.history.entries) (named_id (line.Given e)) ≡ false
    → is_skipped old.history.entries (line.Given e) ≡ false
    → new.history.entries ≡ entry.Given e ∷ old.history.entries → new.offered.items ≡ old.offered.items
    → new.faults ≡ old.faults → new.losses ≡ counted (old.losses + loses_by (entry.Given e))
    → ((x : Id) → room_in (peer_at new.peers x) ≡ room_in (peer_at old.peers x))
    → ((x : Id) → put_fails_in (peer_at new.peers x) ≡ put_fails_in (peer_at old.peers x))
    → new.dial_fails ≡ old.dial_fails → new.log_fails ≡ old.log_fails → new.listen_fails ≡ old.listen_fails → new.port ≡ old.port → Stands new
gives old new e s course passed here there due entries offered faults losses rooms put_fails dial_fails log_fails listen_fails port = record {
  steps = Passed (line.Given e) ∷ s.steps;
  right = subst (λ lines. AreSteps lines (Passed (line.Given e) ∷ s.steps)) (sym course) (s.right, rw s.history there);
  passed = rw (passed, course) (ap (λ ls. ls ++ line.Given e ∷ []) s.passed ∙ sym (take-more old.course old.passed (line.Given e) here));
  history = subst (λ h. given_by h (line.Given e) ++ h ≡ new.history.entries) (sym s.history) (ap (λ b. (cond b [] (entry.Given e ∷ [])) ++ old.history.entries) due ∙ sym entries);
  offered = s.offered ∙ ap reverse (sym offered);
  faults = faults ∙ s.faults ∙ ap counted (none-more (faults_in s.steps));
  losses = losses ∙ ap (λ k. counted (k + loses_by (entry.Given e))) s.losses ∙ rw entries (omega arith);
  rooms = λ x. rooms x ∙ s.rooms x;
  put_fails = λ x. put_fails x ∙ s.put_fails x ∙ omega arith;
  dial_fails = dial_fails ∙ s.dial_fails ∙ omega arith;
  log_fails = log_fails ∙ s.log_fails ∙ omega arith;
  listen_fails = listen_fails ∙ rw course s.listen_fails;
  port = port ∙ s.port;
  kept = subst (λ h. not (not (is_skipped h (line.Given e))) ≡ false) (sym s.history) (ap (λ b. not (not b)) due);
}

-- an answer is no event
pub newest-answered : (steps : List Step) (e : Entry) (n : ℕ) (h : List Entry) → IsAnswer steps e n → newest_given (e ∷ h) ≡ newest_given h
newest-answered steps (entry.Given e) n h right = absurd right
newest-answered steps (entry.Put i bytes) n h right = refl
newest-answered steps (entry.Later i) n h right = refl
newest-answered steps (entry.Lost i) n h right = refl
newest-answered steps (entry.Close i) n h right = refl
newest-answered steps (entry.Dial who host port k) n h right = refl
newest-answered steps (entry.Log who text written) n h right = refl
newest-answered steps (entry.Dict who zone call answer) n h right = refl
newest-answered steps (entry.Take who key got) n h right = refl
newest-answered steps (entry.Keep who k key idle size closed) n h right = refl
newest-answered steps (entry.Timer who due answer) n h right = refl
newest-answered steps (entry.Start k) n h right = refl
newest-answered steps (entry.Turned c) n h right = refl
newest-answered steps (entry.Dropped who) n h right = refl

-- where the lines that were passed end with `stop`, Stop is the newest event
pub stop-given : (schedule : List SchedLine) (steps : List Step) (before : List SchedLine) → AreSteps schedule steps
    → lines_of steps ≡ before ++ line.Given event.Stop ∷ [] → newest_given (history_of steps) ≡ Some event.Stop
stop-given schedule [] before right ends = absurd (let size = ap length ends ∙ length-append before (line.Given event.Stop ∷ []) in omega (arith, size))
stop-given schedule (Passed l ∷ steps) before right ends =
    let last = (same_from_push (lines_of steps) before l (line.Given event.Stop) ends).1 in
    ap (λ x. newest_given (given_by (history_of steps) x ++ history_of steps)) last
stop-given schedule (Answered e n ∷ steps) before right ends = newest-answered steps e n (history_of steps) right.1.1 ∙ stop-given schedule steps before right.0 ends
stop-given schedule (Listened port failed ∷ steps) before right ends = stop-given schedule steps before right.0 ends
stop-given schedule (AskedAtBadLine ∷ steps) before right ends = stop-given schedule steps before right.0 ends
stop-given schedule (AskedAtEnd ∷ steps) before right ends = stop-given schedule steps before right.0 ends

-- a `fail listen` is spent
spent : (f b v : Bool) → f ≡ (b && not v) → false ≡ (b && not (f || v))
spent true true v is = refl
spent true false v is = refl
spent false b v is = is

-- listening is answered
pub listens : (old new : Replay) (port : ℕ) (s : Stands old) → new.course ≡ old.course → new.passed ≡ old.passed → new.history.entries ≡ old.history.entries
    → new.offered.items ≡ old.offered.items → new.faults ≡ counted (old.faults + one_if old.listen_fails) → new.losses ≡ old.losses
    → new.peers ≡ old.peers → new.dial_fails ≡ old.dial_fails → new.log_fails ≡ old.log_fails → new.listen_fails ≡ false
    → new.port ≡ (if old.listen_fails then old.port else Some port) → Stands new
listens old new port s course passed entries offered faults losses peers dial_fails log_fails listen_fails listens_on = record {
  steps = Listened port old.listen_fails ∷ s.steps;
  right = subst (λ lines. AreSteps lines (Listened port old.listen_fails ∷ s.steps)) (sym course) (s.right, (s.listen_fails, s.kept));
  passed = rw (passed, course) s.passed;
  history = s.history ∙ sym entries;
  offered = s.offered ∙ ap reverse (sym offered);
  faults = faults ∙ ap (λ k. counted (k + one_if old.listen_fails)) s.faults ∙ capped (faults_in s.steps) _;
  losses = losses ∙ s.losses ∙ ap (λ h. counted (losses_in h)) (sym entries);
  rooms = λ x. ap (λ r. room_in (peer_at r x)) peers ∙ s.rooms x;
  put_fails = λ x. ap (λ r. put_fails_in (peer_at r x)) peers ∙ s.put_fails x;
  dial_fails = dial_fails ∙ s.dial_fails;
  log_fails = log_fails ∙ s.log_fails;
  listen_fails = rw (listen_fails, course) (spent old.listen_fails (begins_by_failing old.course) (has_listened_in_vain s.steps) s.listen_fails);
  port = listens_on ∙ ap (λ p. if old.listen_fails then p else Some port) s.port;
  kept = refl;
}

-- asking after the last line
pub fails_at_end : (old new : Replay) (s : StandsAnywhere old) → IsSchedule old.course → old.passed ≡ length old.course → new.course ≡ old.course → new.passed ≡ old.passed
    → new.history.entries ≡ old.history.entries → new.offered.items ≡ old.offered.items → new.faults ≡ counted (old.faults + 1) → new.losses ≡ old.losses
    → new.peers ≡ old.peers → new.dial_fails ≡ old.dial_fails → new.log_fails ≡ old.log_fails → new.listen_fails ≡ old.listen_fails → new.port ≡ old.port → Stands new
fails_at_end old new s whole end course passed entries offered faults losses peers dial_fails log_fails listen_fails port =
    let ends : lines_of s.steps ≡ whole.before ++ line.Given event.Stop ∷ [] = s.passed ∙ take_all old.passed old.course (omega (arith, end)) ∙ whole.ends in
    record {
      steps = AskedAtEnd ∷ s.steps;
      right = subst (λ lines. AreSteps lines (AskedAtEnd ∷ s.steps)) (sym course) (s.right, stop-given old.course s.steps whole.before s.right ends);
      passed = rw (passed, course) s.passed;
      history = s.history ∙ sym entries;
      offered = s.offered ∙ ap reverse (sym offered);
      faults = faults ∙ ap (λ k. counted (k + 1)) s.faults ∙ capped (faults_in s.steps) _;
      losses = losses ∙ s.losses ∙ ap (λ h. counted (losses_in h)) (sym entries);
      rooms = λ x. ap (λ r. room_in (peer_at r x)) peers ∙ s.rooms x;
      put_fails = λ x. ap (λ r. put_fails_in (peer_at r x)) peers ∙ s.put_fails x;
      dial_fails = dial_fails ∙ s.dial_fails;
      log_fails = log_fails ∙ s.log_fails;
      listen_fails = listen_fails ∙ rw course s.listen_fails;
      port = port ∙ s.port;
      kept = refl;
    }

-- asking where the next line is bad
pub asks_at_bad_line : (w : Replay) (s : StandsAnywhere w) (l : SchedLine) → slice_get w.course w.passed ≡ Some l
    → names_absent (arrived_in w.history.entries) (dials_in w.history.entries) (named_id l) ≡ true → Stands w
asks_at_bad_line w s l here absent =
    let count : length (lines_of s.steps) ≡ w.passed = ap length s.passed ∙ length-take-le w.passed w.course w.passed_lines in
    record {
      steps = AskedAtBadLine ∷ s.steps;
      right = (s.right, (l, rw count here, rw s.history absent));
      passed = s.passed;
      history = s.history;
      offered = s.offered;
      faults = s.faults ∙ ap counted (none-more (faults_in s.steps));
      losses = s.losses;
      rooms = s.rooms;
      put_fails = s.put_fails;
      dial_fails = s.dial_fails;
      log_fails = s.log_fails;
      listen_fails = s.listen_fails;
      port = s.port;
      kept = refl;
    }

-- a count that stands where it stood
pub same_faults : {kind : List Step → Type 0} (w : Replay) → StandsBy kind w → w.faults ≡ counted (w.faults + 0)
same_faults w s = omega (arith, s.faults)

pub same_losses : {kind : List Step → Type 0} (w : Replay) → StandsBy kind w → w.losses ≡ counted (w.losses + 0)
same_losses w s = omega (arith, s.losses)

-- a call fails where a `fail` line for it is unspent
pub must_fail : (c : Call) (steps : List Step) (n : ℕ) → n ≡ unspent c steps → 0 < n → FailsRightly (Some c) true steps
must_fail c steps n is some = sym (lt-ltb 0 (unspent c steps) (omega (arith, is)))

pub must_work : (c : Call) (steps : List Step) (n : ℕ) → n ≡ unspent c steps → n ≡ 0 → FailsRightly (Some c) false steps
must_work c steps n is none = sym (ap (nat_lt 0) (sym is ∙ none))

-- a change of a value at an id
pub changed_by : {A : Type 0} (f : Id → A) (g : A → A) (i : Id) (v : A) → v ≡ g (f i) → (x : Id) → (if same_id x i then v else f x) ≡ (if same_id x i then g (f x) else f x)
changed_by f g i v is x = by_test (same_id x i) (λ on. rw on (is ∙ ap (λ y. g (f y)) (sym (same_id-eq x i on)))) (λ off. rw off refl)

-- the elements of a slice of bytes are bytes
pub are_bytes : (xs : List ℕ) → ((i : ℕ) → get_or xs i 0 < 256) → IsBytes xs
are_bytes xs each k d within = omega (arith, each k, get_or_default xs k d 0 within)

-- the lengths of the pieces with one more, the newest first
pub offered-more : (offered longer : List ℕ) (n : ℕ) → longer ≡ offered ++ n ∷ [] → reverse longer ≡ n ∷ reverse offered
offered-more offered longer n is = ap reverse is ∙ reverse-append offered (n ∷ [])
