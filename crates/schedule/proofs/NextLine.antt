-- What the next line is.
use Rattle.std.proofs.Common.{◌≡◌, ◌≤◌, ℕ, zero, suc, Bool, true, false, List, [], ◌∷◌, length, slice_get, Option, Some, None, refl, arith}
use Rattle.std.specs.Bool.{if◌then◌else◌}
use Rattle.resty_world.specs.declared.event.Event.{Event}
use Rattle.resty_world.specs.declared.event.Event.TheVariants as event
use Rattle.resty_world.specs.declared.entry.Entry.{Entry}
use Rattle.resty_world.specs.declared.schedule_line.SchedLine.{SchedLine}
use Rattle.resty_world.specs.declared.schedule_line.SchedLine.TheVariants as line
use Rattle.resty_world.specs.Given.{named_id, names_absent}
use Rattle.schedule_text.specs.Lines.{is_arrival}
use Rattle.schedule.specs.declared.ahead.Ahead.{Ahead}
use Rattle.schedule.specs.declared.ahead.Ahead.TheVariants as ahead
use Rattle.schedule.specs.Ahead.{ahead_by, ahead_of}
use Rattle.schedule.specs.Counts.{arrived_in, dials_in}
use Rattle.schedule.specs.Steps.{given_by, is_skipped, is_fail_next}

-- a choice of what is ahead
chosen : {C : Type 0} (b : Bool) (x y z : Ahead) → (if b then x else y) ≡ z → (b ≡ true → x ≡ z → C) → (b ≡ false → y ≡ z → C) → C
chosen true x y z is on off = on refl is
chosen false x y z is on off = off refl is

-- what is neither absent nor nothing is by its line
there : (history : List Entry) (l : SchedLine) (z : Ahead) → (ahead.Absent ≡ z → ⊥) → ahead_of history (Some l) ≡ z
    → (names_absent (arrived_in history) (dials_in history) (named_id l) ≡ false) × (ahead_by history l ≡ z)
there history l z never is = chosen (names_absent (arrived_in history) (dials_in history) (named_id l)) ahead.Absent (ahead_by history l) z is
    (λ absent same. absurd (never same)) (λ known same. (known, same))

by_event : (history : List Entry) (e : Event) → ahead_by history (line.Given e) ≡ ahead.Fault → ⊥
by_event history e is = chosen (is_skipped history (line.Given e)) ahead.Quiet ahead.Due ahead.Fault is
    (λ on same. let no : ahead.Quiet ≡ ahead.Fault = same in cc) (λ off same. let no : ahead.Due ≡ ahead.Fault = same in cc)

fault_by : (history : List Entry) (l : SchedLine) → ahead_by history l ≡ ahead.Fault → Some l ≡ Some line.FailNext
fault_by history (line.Given e) is = absurd (by_event history e is)
fault_by history (line.Room i n) is = absurd (let no : ahead.Quiet ≡ ahead.Fault = is in cc)
fault_by history line.FailNext is = refl
fault_by history line.FailDial is = absurd (let no : ahead.Quiet ≡ ahead.Fault = is in cc)
fault_by history line.FailLog is = absurd (let no : ahead.Quiet ≡ ahead.Fault = is in cc)
fault_by history line.FailListen is = absurd (let no : ahead.Quiet ≡ ahead.Fault = is in cc)
fault_by history (line.FailPut i) is = absurd (let no : ahead.Quiet ≡ ahead.Fault = is in cc)

-- a fault is due by `fail next` alone
pub fault_ahead : (history : List Entry) (l : Option SchedLine) → ahead_of history l ≡ ahead.Fault → l ≡ Some line.FailNext
fault_ahead history None is = absurd (let no : ahead.Nothing ≡ ahead.Fault = is in cc)
fault_ahead history (Some l) is =
    fault_by history l (there history l ahead.Fault (λ same. let no : ahead.Absent ≡ ahead.Fault = same in cc) is).1

-- what a quiet line is
pub record Quiet (history : List Entry) (l : SchedLine) : Type 0 where
  pub known : names_absent (arrived_in history) (dials_in history) (named_id l) ≡ false
  pub silent : given_by history l ≡ []
  pub no_arrival : is_arrival l ≡ false
  pub no_fault : is_fail_next l ≡ false

quiet_event : (history : List Entry) (e : Event) → is_skipped history (line.Given e) ≡ true → is_arrival (line.Given e) ≡ false
quiet_event history (event.Arrive k) skipped = absurd (let no : false ≡ true = skipped in cc)
quiet_event history (event.Bytes i bytes) skipped = refl
quiet_event history (event.Ended i) skipped = refl
quiet_event history (event.Broken i) skipped = refl
quiet_event history (event.Ready i) skipped = refl
quiet_event history (event.Dialled n) skipped = refl
quiet_event history (event.Refused n) skipped = refl
quiet_event history (event.Moment t) skipped = refl
quiet_event history event.Stop skipped = refl
quiet_event history event.Fault skipped = refl
quiet_event history (event.BadLine n) skipped = refl
quiet_event history event.Memory skipped = refl

quiet_by : (history : List Entry) (l : SchedLine) → names_absent (arrived_in history) (dials_in history) (named_id l) ≡ false
    → ahead_by history l ≡ ahead.Quiet → Quiet history l
quiet_by history (line.Given e) known is = chosen (is_skipped history (line.Given e)) ahead.Quiet ahead.Due ahead.Quiet is
    (λ on same. record {
      known = known;
      silent = rw on refl;
      no_arrival = quiet_event history e on;
      no_fault = refl;
    })
    (λ off same. absurd (let no : ahead.Due ≡ ahead.Quiet = same in cc))
quiet_by history (line.Room i n) known is = record { known = known; silent = refl; no_arrival = refl; no_fault = refl }
quiet_by history line.FailNext known is = absurd (let no : ahead.Fault ≡ ahead.Quiet = is in cc)
quiet_by history line.FailDial known is = record { known = known; silent = refl; no_arrival = refl; no_fault = refl }
quiet_by history line.FailLog known is = record { known = known; silent = refl; no_arrival = refl; no_fault = refl }
quiet_by history line.FailListen known is = record { known = known; silent = refl; no_arrival = refl; no_fault = refl }
quiet_by history (line.FailPut i) known is = record { known = known; silent = refl; no_arrival = refl; no_fault = refl }

pub quiet_ahead : (history : List Entry) (l : SchedLine) → ahead_of history (Some l) ≡ ahead.Quiet → Quiet history l
quiet_ahead history l is =
    let ways = there history l ahead.Quiet (λ same. let no : ahead.Absent ≡ ahead.Quiet = same in cc) is in
    quiet_by history l ways.0 ways.1

-- an event that is due names no absent id, and isn't skipped
pub due_ahead : (history : List Entry) (e : Event) → ahead_of history (Some (line.Given e)) ≡ ahead.Due
    → (names_absent (arrived_in history) (dials_in history) (named_id (line.Given e)) ≡ false) × (is_skipped history (line.Given e) ≡ false)
due_ahead history e is =
    let ways = there history (line.Given e) ahead.Due (λ same. let no : ahead.Absent ≡ ahead.Due = same in cc) is in
    chosen (is_skipped history (line.Given e)) ahead.Quiet ahead.Due ahead.Due ways.1
    (λ on same. absurd (let no : ahead.Quiet ≡ ahead.Due = same in cc)) (λ off same. (ways.0, off))

by_event_some : (history : List Entry) (e : Event) → ahead_by history (line.Given e) ≡ ahead.Nothing → ⊥
by_event_some history e is = chosen (is_skipped history (line.Given e)) ahead.Quiet ahead.Due ahead.Nothing is
    (λ on same. let wrong : ahead.Quiet ≡ ahead.Nothing = same in cc) (λ off same. let wrong : ahead.Due ≡ ahead.Nothing = same in cc)

nothing_by : (history : List Entry) (l : SchedLine) → ahead_by history l ≡ ahead.Nothing → ⊥
nothing_by history (line.Given e) is = by_event_some history e is
nothing_by history (line.Room i n) is = let wrong : ahead.Quiet ≡ ahead.Nothing = is in cc
nothing_by history line.FailNext is = let wrong : ahead.Fault ≡ ahead.Nothing = is in cc
nothing_by history line.FailDial is = let wrong : ahead.Quiet ≡ ahead.Nothing = is in cc
nothing_by history line.FailLog is = let wrong : ahead.Quiet ≡ ahead.Nothing = is in cc
nothing_by history line.FailListen is = let wrong : ahead.Quiet ≡ ahead.Nothing = is in cc
nothing_by history (line.FailPut i) is = let wrong : ahead.Quiet ≡ ahead.Nothing = is in cc

-- nothing is ahead only after the last line
pub nothing_ahead : (history : List Entry) (l : Option SchedLine) → ahead_of history l ≡ ahead.Nothing → l ≡ None
nothing_ahead history None is = refl
nothing_ahead history (Some l) is =
    absurd (nothing_by history l (there history l ahead.Nothing (λ same. let wrong : ahead.Absent ≡ ahead.Nothing = same in cc) is).1)

pub after_last : (lines : List SchedLine) (at : ℕ) → slice_get lines at ≡ None → length lines ≤ at
after_last [] at none = omega arith
after_last (l ∷ lines) zero none = absurd (let wrong : Some l ≡ None = none in cc)
after_last (l ∷ lines) (suc at) none = omega (arith, after_last lines at none)

absent_by_event : (history : List Entry) (e : Event) → ahead_by history (line.Given e) ≡ ahead.Absent → ⊥
absent_by_event history e is = chosen (is_skipped history (line.Given e)) ahead.Quiet ahead.Due ahead.Absent is
    (λ on same. let wrong : ahead.Quiet ≡ ahead.Absent = same in cc) (λ off same. let wrong : ahead.Due ≡ ahead.Absent = same in cc)

absent_by : (history : List Entry) (l : SchedLine) → ahead_by history l ≡ ahead.Absent → ⊥
absent_by history (line.Given e) is = absent_by_event history e is
absent_by history (line.Room i n) is = let wrong : ahead.Quiet ≡ ahead.Absent = is in cc
absent_by history line.FailNext is = let wrong : ahead.Fault ≡ ahead.Absent = is in cc
absent_by history line.FailDial is = let wrong : ahead.Quiet ≡ ahead.Absent = is in cc
absent_by history line.FailLog is = let wrong : ahead.Quiet ≡ ahead.Absent = is in cc
absent_by history line.FailListen is = let wrong : ahead.Quiet ≡ ahead.Absent = is in cc
absent_by history (line.FailPut i) is = let wrong : ahead.Quiet ≡ ahead.Absent = is in cc

-- a line is absent only where it names an absent id
pub record Absent (history : List Entry) (l : Option SchedLine) : Type 0 where
  pub bad : SchedLine
  pub here : l ≡ Some bad
  pub absent : names_absent (arrived_in history) (dials_in history) (named_id bad) ≡ true

pub absent_ahead : (history : List Entry) (l : Option SchedLine) → ahead_of history l ≡ ahead.Absent → Absent history l
absent_ahead history None is = absurd (let wrong : ahead.Nothing ≡ ahead.Absent = is in cc)
absent_ahead history (Some l) is = chosen (names_absent (arrived_in history) (dials_in history) (named_id l)) ahead.Absent (ahead_by history l) ahead.Absent is
    (λ absent same. record { bad = l; here = refl; absent = absent }) (λ known same. absurd (absent_by history l same))
