-- A client that is turned away though there is room.
use Rattle.std.proofs.Common.{◌≡◌, ◌≤◌, ◌<◌, ◌-◌, ℕ, List, [], ◌∷◌, ◌++◌, Option, Some, None, refl, sym, ap, subst, ◌∙◌, arith, lit<}
use Rattle.resty_base.specs.declared.names.Ms.{Ms}
use Rattle.resty_base.specs.declared.names.Id.TheVariants as id
use Rattle.resty_base.specs.declared.names.StrandId.{StrandId}
use Rattle.resty_world.specs.declared.event.Event.{Event}
use Rattle.resty_world.specs.declared.event.Event.TheVariants as event
use Rattle.resty_world.specs.declared.entry.Entry.{Entry}
use Rattle.resty_world.specs.declared.entry.Entry.TheVariants as entry
use Rattle.strand_contract.specs.declared.turns.Place.TheVariants as place
use Rattle.strand_contract.specs.declared.turns.Start.TheVariants as start
use Rattle.strand_contract.specs.Actions.{Moment, Stop, Action, Began, Close, Keep, is_internal}
use Rattle.executions.specs.Executions.{GlobalAction, Of, Everyone, TurnedAway, IdleGave, IdleClosed}
use Rattle.strand_contract.specs.Behaviors.{Behavior}
use Rattle.executions.specs.Sockets.{socket_at, closed_by}
use Rattle.executions.specs.Histories.{closing, entries_at, entries_of, external}
use Rattle.executions.specs.Counts.{open_connections}
use Rattle.executions.specs.Plain.{IsPlain}
use Rattle.resty_base.specs.BoolLaws.{by_test}
use Rattle.run_contract.specs.declared.stored.NoJob.{NoJob}
use Rattle.site_examples.specs.Site.{hi_behavior}
use Rattle.site_examples.specs.Exchange.{at_second_1, arrives}
use Rattle.site_examples.specs.Spoiled.{turned_away}
use Rattle.site_examples.proofs.Peel.{Peeled, peel, no-entry, an-entry}

-- no connection arrives
abbrev NoArrival : List Entry → Type 0
NoArrival [] = Unit {0}
NoArrival (entry.Given (event.Arrive c) ∷ h) = ⊥
NoArrival (e ∷ h) = NoArrival h

arrival-tail : (e : Entry) (h : List Entry) → NoArrival (e ∷ h) → NoArrival h
arrival-tail (entry.Given (event.Arrive c)) h a = absurd a
arrival-tail e h a = a

arrival-rest : (xs h : List Entry) → NoArrival (xs ++ h) → NoArrival h
arrival-rest [] h a = a
arrival-rest (x ∷ xs) h a = arrival-rest xs h (arrival-tail x (xs ++ h) a)

never-turned : (o : Option ℕ) (g : Event) (l : List Entry) (c : ℕ) (h : List Entry) → (closing o ++ entry.Given g ∷ []) ++ l ≡ entry.Turned c ∷ h → ⊥
never-turned None g l c h e = cc
never-turned (Some n) g l c h e = cc

kept-turned : (o : Option ℕ) (s : StrandId) (m : ℕ) (key : List ℕ) (idle : Ms) (size : ℕ) (out : Option ℕ) (c : ℕ) → closing o ++ entry.Keep s m key idle size out ∷ [] ≡ entry.Turned c ∷ [] → ⊥
kept-turned None s m key idle size out c e = cc
kept-turned (Some n) s m key idle size out c e = cc

never-closes : (o : Option ℕ) (g : Event) (l h : List Entry) → (closing o ++ entry.Given g ∷ []) ++ l ≡ entry.Close (id.Conn 1) ∷ h → ⊥
never-closes None g l h e = cc
never-closes (Some n) g l h e = cc

module _ {J : Type 0} where
  none-open : (b : Behavior J) (ms : List (GlobalAction J)) → NoArrival (external b ms) → open_connections ms ≡ 0
  none-open b [] a = refl
  none-open b (Of s (Began now (start.Client c)) n ∷ ms) a = absurd a
  none-open b (Of s (Close place.Client) n ∷ ms) a = ap (λ k. k - 1) (none-open b ms (arrival-rest (entries_at b s (Close place.Client) n ms) (external b ms) a))
  none-open b (Of s x n ∷ ms) a = none-open b ms (arrival-rest (entries_at b s x n ms) (external b ms) a)
  none-open b (Everyone w ∷ ms) a = none-open b ms (arrival-rest (entries_of b (Everyone w) ms) (external b ms) a)
  none-open b (TurnedAway c ∷ ms) a = absurd a
  none-open b (IdleGave e ∷ ms) a = none-open b ms (arrival-rest (entries_of b (IdleGave e) ms) (external b ms) a)
  none-open b (IdleClosed n ∷ ms) a = none-open b ms (arrival-rest (entries_of b (IdleClosed n) ms) (external b ms) a)

  pub plain-below : (b : Behavior J) (above ms : List (GlobalAction J)) → IsPlain b (above ++ ms) → IsPlain b ms
  plain-below b [] ms p = p
  plain-below b (m ∷ above) ms p = plain-below b above ms p.0

  -- that a connection was turned away is never the newest entry: it is closed at once
  never-newest : (b : Behavior J) (ms : List (GlobalAction J)) (c : ℕ) (h : List Entry) → external b ms ≡ entry.Turned c ∷ h → ⊥
  never-newest b [] c h e = cc
  never-newest b (Of s (Keep k key idle size) None ∷ ms) c h e = cc
  never-newest b (Of s (Keep k key idle size) (Some m) ∷ ms) c h e = cc
  never-newest b (Of s x n ∷ ms) c h e = by_test (is_internal x)
      (λ on. never-newest b ms c h (ap (λ l. l ++ external b ms) (sym (no-entry b s x n ms on)) ∙ e))
      (λ off. let v : (e : Entry) × (entries_at b s x n ms ≡ e ∷ []) = an-entry b s x n ms off refl in
      let lists : v.0 ∷ external b ms ≡ entry.Turned c ∷ h = ap (λ l. l ++ external b ms) (sym v.1) ∙ e in
      let head : v.0 ≡ entry.Turned c = cc in
      of-strand x (v.1 ∙ ap (λ i. i ∷ []) head))
    where
      of-strand : (x : Action J) → entries_at b s x n ms ≡ entry.Turned c ∷ [] → ⊥
      of-strand (Began now (start.Client k)) f = cc
      of-strand (Began now (start.Job k premature job)) f = cc
      of-strand (Keep k key idle size) f = kept-turned n s (socket_at s k ms).sock key idle size n c f
      of-strand x f = cc
  never-newest b (Everyone Stop ∷ ms) c h e = cc
  never-newest b (Everyone (Moment t) ∷ ms) c h e = cc
  never-newest b (TurnedAway k ∷ ms) c h e = cc
  never-newest b (IdleGave g ∷ ms) c h e = never-turned (closed_by g) g (external b ms) c h e
  never-newest b (IdleClosed n ∷ ms) c h e = cc

  -- and no more is left of it where there is room
  room : (b : Behavior J) → 0 < b.connections → (ms : List (GlobalAction J)) → IsPlain b ms
      → external b ms ≡ entry.Close (id.Conn 1) ∷ entry.Turned 1 ∷ entry.Given arrives ∷ entry.Given at_second_1 ∷ [] → ⊥
  room b some [] p e = cc
  room b some (Of s (Keep k key idle size) None ∷ ms) p e = cc
  room b some (Of s (Keep k key idle size) (Some m) ∷ ms) p e = cc
  room b some (Of s x n ∷ ms) p e = by_test (is_internal x)
      (λ on. room b some ms p.0 (ap (λ l. l ++ external b ms) (sym (no-entry b s x n ms on)) ∙ e))
      (λ off. let v : (e : Entry) × (entries_at b s x n ms ≡ e ∷ []) = an-entry b s x n ms off refl in
      let lists : v.0 ∷ external b ms ≡ entry.Close (id.Conn 1) ∷ entry.Turned 1 ∷ entry.Given arrives ∷ entry.Given at_second_1 ∷ [] = ap (λ l. l ++ external b ms) (sym v.1) ∙ e in
      let tail : external b ms ≡ entry.Turned 1 ∷ entry.Given arrives ∷ entry.Given at_second_1 ∷ [] = cc in
      never-newest b ms 1 _ tail)
  room b some (Everyone Stop ∷ ms) p e = cc
  room b some (Everyone (Moment t) ∷ ms) p e = cc
  room b some (TurnedAway c ∷ ms) p e =
      let tail : external b ms ≡ entry.Given at_second_1 ∷ [] = cc in
      let none : open_connections ms ≡ 0 = none-open b ms (subst NoArrival (sym tail) tt) in
      let many : b.connections ≤ open_connections ms = p.1.1 in
      omega arith
  room b some (IdleGave g ∷ ms) p e = never-closes (closed_by g) g (external b ms) _ e
  room b some (IdleClosed n ∷ ms) p e = cc

  never-turned-away : (b : Behavior J) → 0 < b.connections → (ms : List (GlobalAction J)) → IsPlain b ms → external b ms ≡ turned_away → ⊥
  never-turned-away b some ms plain is =
      let p : Peeled b ms (entry.Given event.Stop) (entry.Close (id.Conn 1) ∷ entry.Turned 1 ∷ entry.Given arrives ∷ entry.Given at_second_1 ∷ []) = peel b ms _ _ plain tt is in
      room b some p.older (plain-below b p.above (p.top ∷ p.older) (subst (IsPlain b) p.whole plain)).0 p.rest

pub unplain : (ms : List (GlobalAction NoJob)) → IsPlain hi_behavior ms → external hi_behavior ms ≡ turned_away → ⊥
unplain = never-turned-away hi_behavior (lit< tt)
