-- Over a world that takes all, connections take what is sent to them.
use Rattle.std.proofs.Common.{◌≡◌, ℕ, Bool, true, false, ◌||◌, cond, List, [], ◌∷◌, ◌++◌, Option, Some, None, if◌then◌else◌, refl, sym, ap, subst, ◌∙◌}
use Rattle.std.specs.List.{list_any}
use Rattle.resty_base.specs.declared.names.Id.{Id}
use Rattle.resty_base.specs.declared.names.StrandId.{StrandId}
use Rattle.resty_base.specs.declared.names.StrandId.TheVariants as strand
use Rattle.resty_base.specs.BoolLaws.{by_test}
use Rattle.resty_world.specs.Ids.{same_id, same_strand}
use Rattle.resty_world.specs.declared.entry.Entry.{Entry}
use Rattle.resty_world.specs.declared.entry.Entry.TheVariants as entry
use Rattle.resty_world.specs.declared.event.Event.{Event}
use Rattle.resty_world.specs.declared.schedule_line.SchedLine.{SchedLine}
use Rattle.resty_world.specs.declared.schedule_line.SchedLine.TheVariants as line
use Rattle.schedule.specs.Steps.{Step, Passed, Answered, Listened, AskedAtBadLine, AskedAtEnd, AreSteps, history_of, lines_of, is_skipped, room_of, room_after}
use Rattle.strand_contract.specs.declared.turns.Place.{Place}
use Rattle.strand_contract.specs.declared.turns.Place.TheVariants as place
use Rattle.strand_contract.specs.Actions.{Action, same_place, Ready, Put, Later, Lost, LocalAction, Told, Did}
use Rattle.strand_contract.specs.Behaviors.{Behavior}
use Rattle.strand_contract.specs.Alone.{lives, is_open, was_put_off, IsExecution, IsQuiescent}
use Rattle.strand_contract.specs.Laws.{Grows, Keeps}
use Rattle.executions.specs.Executions.{GlobalAction, Of, Everyone, TurnedAway, IdleGave, IdleClosed, projection}
use Rattle.executions.specs.Histories.{entries_at, entries_of, external}
use Rattle.execution_laws.specs.Taken.{took}
use Rattle.commands.specs.Run.{IsRun}
use Rattle.commands.specs.Taken.{TakesAllBytes, TookAll, bounds}
use Rattle.commands.proofs.Ranged.{alone-tail}

-- no write was put off
abbrev NoLater : List Entry → Type 0
NoLater [] = Unit {0}
NoLater (entry.Later i ∷ h) = ⊥
NoLater (e ∷ h) = NoLater h

last-takes : (lines : List SchedLine) (l : SchedLine) → TakesAllBytes (lines ++ l ∷ []) → TakesAllBytes lines
last-takes [] l takes = refl
last-takes (x ∷ lines) l takes = both (bounds x) (list_any bounds (lines ++ l ∷ [])) (list_any bounds lines) takes (λ rest. last-takes lines l rest)
  where
    both : (b c d : Bool) → (b || c) ≡ false → (c ≡ false → d ≡ false) → (b || d) ≡ false
    both true c d is more = is
    both false c d is more = more is

last-is : (lines : List SchedLine) (l : SchedLine) → TakesAllBytes (lines ++ l ∷ []) → bounds l ≡ false
last-is [] l takes = left (bounds l) takes
  where
    left : (b : Bool) → (b || false) ≡ false → b ≡ false
    left true is = is
    left false is = refl
last-is (x ∷ lines) l takes = last-is lines l (right (bounds x) (list_any bounds (lines ++ l ∷ [])) takes)
  where
    right : (b c : Bool) → (b || c) ≡ false → c ≡ false
    right true c is = absurd (let no : true ≡ false = is in cc)
    right false c is = is

both-same : (b : Bool) (r : Option ℕ) → (if b then r else r) ≡ r
both-same true r = refl
both-same false r = refl

none-after : (e : Entry) (x : Id) → room_after e x None ≡ None
none-after (entry.Given e) x = refl
none-after (entry.Put i bytes) x = both-same (same_id x i) None
none-after (entry.Lost i) x = refl
none-after (entry.Close i) x = refl
none-after (entry.Dial who host port k) x = refl
none-after (entry.Log who text written) x = refl
none-after (entry.Dict who zone call answer) x = refl
none-after (entry.Take who key got) x = refl
none-after (entry.Keep who k key idle size closed) x = refl
none-after (entry.Timer who due answer) x = refl
none-after (entry.Start k) x = refl
none-after (entry.Turned c) x = refl
none-after (entry.Dropped who) x = refl
none-after (entry.Later i) x = refl

-- no place has a room of its own
no-room : (x : Id) (steps : List Step) → TakesAllBytes (lines_of steps) → room_of x steps ≡ None
no-room x [] takes = refl
no-room x (Passed (line.Room i (Some n)) ∷ steps) takes = absurd (let no : true ≡ false = last-is (lines_of steps) (line.Room i (Some n)) takes in cc)
no-room x (Passed (line.Room i None) ∷ steps) takes =
    ap (λ r. if same_id x i then None else r) (no-room x steps (last-takes (lines_of steps) (line.Room i None) takes)) ∙ both-same (same_id x i) None
no-room x (Passed (line.Given e) ∷ steps) takes = no-room x steps (last-takes (lines_of steps) (line.Given e) takes)
no-room x (Passed line.FailNext ∷ steps) takes = no-room x steps (last-takes (lines_of steps) line.FailNext takes)
no-room x (Passed line.FailDial ∷ steps) takes = no-room x steps (last-takes (lines_of steps) line.FailDial takes)
no-room x (Passed line.FailLog ∷ steps) takes = no-room x steps (last-takes (lines_of steps) line.FailLog takes)
no-room x (Passed line.FailListen ∷ steps) takes = no-room x steps (last-takes (lines_of steps) line.FailListen takes)
no-room x (Passed (line.FailPut i) ∷ steps) takes = no-room x steps (last-takes (lines_of steps) (line.FailPut i) takes)
no-room x (Answered e n ∷ steps) takes = ap (room_after e x) (no-room x steps takes) ∙ none-after e x
no-room x (Listened port failed ∷ steps) takes = no-room x steps takes
no-room x (AskedAtBadLine ∷ steps) takes = no-room x steps takes
no-room x (AskedAtEnd ∷ steps) takes = no-room x steps takes

given-line : (b : Bool) (e : Event) (h : List Entry) → NoLater h → NoLater ((cond b [] (entry.Given e ∷ [])) ++ h)
given-line true e h none = none
given-line false e h none = none

no-later : (schedule : List SchedLine) (steps : List Step) → AreSteps schedule steps → TakesAllBytes (lines_of steps) → NoLater (history_of steps)
no-later schedule [] right takes = tt
no-later schedule (Passed (line.Given e) ∷ steps) right takes =
    given-line (is_skipped (history_of steps) (line.Given e)) e (history_of steps) (no-later schedule steps right.0 (last-takes (lines_of steps) (line.Given e) takes))
no-later schedule (Passed line.FailNext ∷ steps) right takes = no-later schedule steps right.0 (last-takes (lines_of steps) line.FailNext takes)
no-later schedule (Passed line.FailDial ∷ steps) right takes = no-later schedule steps right.0 (last-takes (lines_of steps) line.FailDial takes)
no-later schedule (Passed line.FailLog ∷ steps) right takes = no-later schedule steps right.0 (last-takes (lines_of steps) line.FailLog takes)
no-later schedule (Passed line.FailListen ∷ steps) right takes = no-later schedule steps right.0 (last-takes (lines_of steps) line.FailListen takes)
no-later schedule (Passed (line.FailPut i) ∷ steps) right takes = no-later schedule steps right.0 (last-takes (lines_of steps) (line.FailPut i) takes)
no-later schedule (Passed (line.Room i n) ∷ steps) right takes = no-later schedule steps right.0 (last-takes (lines_of steps) (line.Room i n) takes)
no-later schedule (Answered (entry.Later i) n ∷ steps) right takes = absurd (let no : None ≡ Some 0 = sym (no-room i steps takes) ∙ right.1.1 in cc)
no-later schedule (Answered (entry.Given e) n ∷ steps) right takes = no-later schedule steps right.0 takes
no-later schedule (Answered (entry.Put i bytes) n ∷ steps) right takes = no-later schedule steps right.0 takes
no-later schedule (Answered (entry.Lost i) n ∷ steps) right takes = no-later schedule steps right.0 takes
no-later schedule (Answered (entry.Close i) n ∷ steps) right takes = no-later schedule steps right.0 takes
no-later schedule (Answered (entry.Dial who host port k) n ∷ steps) right takes = no-later schedule steps right.0 takes
no-later schedule (Answered (entry.Log who text written) n ∷ steps) right takes = no-later schedule steps right.0 takes
no-later schedule (Answered (entry.Dict who zone call answer) n ∷ steps) right takes = no-later schedule steps right.0 takes
no-later schedule (Answered (entry.Take who key got) n ∷ steps) right takes = no-later schedule steps right.0 takes
no-later schedule (Answered (entry.Keep who k key idle size closed) n ∷ steps) right takes = no-later schedule steps right.0 takes
no-later schedule (Answered (entry.Timer who due answer) n ∷ steps) right takes = no-later schedule steps right.0 takes
no-later schedule (Answered (entry.Start k) n ∷ steps) right takes = no-later schedule steps right.0 takes
no-later schedule (Answered (entry.Turned c) n ∷ steps) right takes = no-later schedule steps right.0 takes
no-later schedule (Answered (entry.Dropped who) n ∷ steps) right takes = no-later schedule steps right.0 takes
no-later schedule (Listened port failed ∷ steps) right takes = no-later schedule steps right.0 takes
no-later schedule (AskedAtBadLine ∷ steps) right takes = no-later schedule steps right.0 takes
no-later schedule (AskedAtEnd ∷ steps) right takes = no-later schedule steps right.0 takes

front : (xs ys : List Entry) → NoLater (xs ++ ys) → NoLater xs
front [] ys none = tt
front (entry.Later i ∷ xs) ys none = none
front (entry.Given e ∷ xs) ys none = front xs ys none
front (entry.Put i bytes ∷ xs) ys none = front xs ys none
front (entry.Lost i ∷ xs) ys none = front xs ys none
front (entry.Close i ∷ xs) ys none = front xs ys none
front (entry.Dial who host port k ∷ xs) ys none = front xs ys none
front (entry.Log who text written ∷ xs) ys none = front xs ys none
front (entry.Dict who zone call answer ∷ xs) ys none = front xs ys none
front (entry.Take who key got ∷ xs) ys none = front xs ys none
front (entry.Keep who k key idle size closed ∷ xs) ys none = front xs ys none
front (entry.Timer who due answer ∷ xs) ys none = front xs ys none
front (entry.Start k ∷ xs) ys none = front xs ys none
front (entry.Turned c ∷ xs) ys none = front xs ys none
front (entry.Dropped who ∷ xs) ys none = front xs ys none

rest : (xs ys : List Entry) → NoLater (xs ++ ys) → NoLater ys
rest [] ys none = none
rest (entry.Later i ∷ xs) ys none = absurd none
rest (entry.Given e ∷ xs) ys none = rest xs ys none
rest (entry.Put i bytes ∷ xs) ys none = rest xs ys none
rest (entry.Lost i ∷ xs) ys none = rest xs ys none
rest (entry.Close i ∷ xs) ys none = rest xs ys none
rest (entry.Dial who host port k ∷ xs) ys none = rest xs ys none
rest (entry.Log who text written ∷ xs) ys none = rest xs ys none
rest (entry.Dict who zone call answer ∷ xs) ys none = rest xs ys none
rest (entry.Take who key got ∷ xs) ys none = rest xs ys none
rest (entry.Keep who k key idle size closed ∷ xs) ys none = rest xs ys none
rest (entry.Timer who due answer ∷ xs) ys none = rest xs ys none
rest (entry.Start k ∷ xs) ys none = rest xs ys none
rest (entry.Turned c ∷ xs) ys none = rest xs ys none
rest (entry.Dropped who ∷ xs) ys none = rest xs ys none

kept-off : (b c : Bool) → c ≡ false → (if b then false else c) ≡ false
kept-off true c off = refl
kept-off false c off = off

module _ {J : Type 0} (b : Behavior J) where
  -- no place is put off by such an action
  not-put-off : (s : StrandId) (q : Place) (x : Action J) (n : Option ℕ) (ms : List (GlobalAction J)) (es : List (LocalAction J)) → NoLater (entries_at b s x n ms)
      → was_put_off q es ≡ false → was_put_off q (Did x ∷ es) ≡ false
  not-put-off s q (Put p bytes) n ms es none off = kept-off (same_place q p) _ off
  not-put-off s q (Later p) n ms es none off = absurd none
  not-put-off s q (Lost p) n ms es none off = kept-off (same_place q p) _ off
  not-put-off s q (Ready p) n ms es none off = kept-off (same_place q p) _ off
  not-put-off s q x n ms es none off = off

  never-put-off : (s : StrandId) (q : Place) (ms : List (GlobalAction J)) → NoLater (external b ms) → was_put_off q (projection s ms) ≡ false
  never-put-off s q [] none = refl
  never-put-off s q (Of t x n ∷ ms) none =
      let before = never-put-off s q ms (rest (entries_of b (Of t x n) ms) (external b ms) none) in
      by_test (same_strand s t)
      (λ same. ap (λ c. was_put_off q (if c then Did x ∷ projection s ms else projection s ms)) same
      ∙ not-put-off t q x n ms (projection s ms) (front (entries_of b (Of t x n) ms) (external b ms) none) before)
      (λ other. ap (λ c. was_put_off q (if c then Did x ∷ projection s ms else projection s ms)) other ∙ before)
  never-put-off s q (Everyone w ∷ ms) none =
      let before = never-put-off s q ms (rest (entries_of b (Everyone w) ms) (external b ms) none) in
      by_test (lives (projection s ms))
      (λ alive. ap (λ c. was_put_off q (if c then Told w ∷ projection s ms else projection s ms)) alive ∙ before)
      (λ dead. ap (λ c. was_put_off q (if c then Told w ∷ projection s ms else projection s ms)) dead ∙ before)
  never-put-off s q (TurnedAway c ∷ ms) none = never-put-off s q ms (rest (entries_of b (TurnedAway c) ms) (external b ms) none)
  never-put-off s q (IdleGave e ∷ ms) none = never-put-off s q ms (rest (entries_of b (IdleGave e) ms) (external b ms) none)
  never-put-off s q (IdleClosed n ∷ ms) none = never-put-off s q ms (rest (entries_of b (IdleClosed n) ms) (external b ms) none)

  -- what holds of an execution holds of an earlier part
  earlier-none : (later ms : List (GlobalAction J)) → NoLater (external b (later ++ ms)) → NoLater (external b ms)
  earlier-none [] ms none = none
  earlier-none (m ∷ later) ms none = earlier-none later ms (rest (entries_of b m (later ++ ms)) (external b (later ++ ms)) none)

  earlier-alone : (s : StrandId) (later ms : List (GlobalAction J)) → IsExecution b (projection s (later ++ ms)) → IsExecution b (projection s ms)
  earlier-alone s [] ms alone = alone
  earlier-alone s (m ∷ later) ms alone = earlier-alone s later ms (alone-tail b m (later ++ ms) s alone)

  -- at rest all is taken of an open place that isn't put off
  abbrev TakesAtRest : Type 0
  TakesAtRest = (q : Place) (es : List (LocalAction J)) → Grows b → Keeps b → IsExecution b es → lives es ≡ true → IsQuiescent b es
      → is_open q es ≡ true → was_put_off q es ≡ false → took q es ≡ b.sent q es

  pub took-all : TakesAtRest → Grows b → Keeps b → (lines : List SchedLine) (h : List Entry) (run : IsRun b lines h) → TakesAllBytes lines → TookAll b run.execution
  took-all law grows keeps lines h run takes c later ms same at =
      let s = strand.Conn c in
      let told = run.told in
      let none : NoLater (external b run.execution) =
      subst NoLater (told.steps_history ∙ run.history) (no-later (lines ++ told.after) told.steps told.steps_right (subst TakesAllBytes (sym told.steps_lines) takes)) in
      let before = earlier-none later ms (subst (λ all. NoLater (external b all)) same none) in
      let alone = earlier-alone s later ms (subst (λ all. IsExecution b (projection s all)) same (run.lawful.alone s)) in
      law place.Client (projection s ms) grows keeps alone at.living at.rest at.opened (never-put-off s place.Client ms before)
