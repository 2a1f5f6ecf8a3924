-- What the world gives is one action.
use Rattle.std.specs.Prelude.{◌≡◌, ◌≤◌, ℕ, nat_lt, Bool, true, false, List, [], ◌∷◌, ◌++◌, Option, Some, None, if◌then◌else◌, refl}
use Rattle.std.proofs.Common.{arith, sym, ◌∙◌, ap, subst}
use Rattle.std.proofs.lemmas.Bool.{lt-ltb, ltb-true}
use Rattle.resty_base.specs.declared.names.Id.{Id}
use Rattle.resty_base.specs.declared.names.Id.TheVariants as id
use Rattle.resty_base.specs.declared.names.StrandId.{StrandId}
use Rattle.resty_base.specs.declared.names.StrandId.TheVariants as strand
use Rattle.resty_base.specs.BoolLaws.{by_test}
use Rattle.resty_world.specs.Ids.{same_strand}
use Rattle.resty_world.specs.declared.event.Event.{Event}
use Rattle.resty_world.specs.declared.event.Event.TheVariants as event
use Rattle.resty_world.specs.declared.entry.Entry.{Entry}
use Rattle.resty_world.specs.declared.entry.Entry.TheVariants as entry
use Rattle.resty_world.specs.IdLaws.{same_strand-eq}
use Rattle.strand_contract.specs.declared.turns.Place.{Place}
use Rattle.strand_contract.specs.declared.turns.Place.TheVariants as place
use Rattle.strand_contract.specs.declared.turns.Start.TheVariants as start
use Rattle.strand_contract.specs.Actions.{Moment, Stop, Action, Began, Bytes, Ended, Broken, Ready, Dialled, Refused, Close, Take, Dial, Told, Did, same_place, is_given}
use Rattle.strand_contract.specs.Behaviors.{Behavior}
use Rattle.strand_contract.specs.Alone.{lives, is_open, Enabled}
use Rattle.strand_contract.specs.Laws.{IsQuiet}
use Rattle.executions.specs.Executions.{GlobalAction, Of, Everyone, TurnedAway, IdleGave, IdleClosed, projection, present, has_given, Throughout}
use Rattle.executions.specs.Counts.{open_connections}
use Rattle.executions.specs.Sockets.{of_id, owner, id_at, socket_at, event_socket, closed_by, pool}
use Rattle.executions.specs.Lawful.{BeginsRight}
use Rattle.executions.specs.Plain.{IsPlainAt, IsOfIdle}
use Rattle.executions.specs.Histories.{closing, entries_of}
use Rattle.executions.specs.Beginnings.{IsBeginning}
use Rattle.executions.proofs.Strands.{clash, enabled}
use Rattle.executions.proofs.OneNext.{older}
use Rattle.executions.proofs.Holders.{owner-is, idle-unowned}
use Rattle.execution_laws.specs.Inputs.{Gives, inputs, events}
use Rattle.execution_laws.specs.Givens.{to_owner, to_place, arrives, given}

module _ {J : Type 0} (b : Behavior J) (quiet : IsQuiet b) where
  -- a job has no connection
  no-line-at : (x : Action J) (j : ℕ) (n : Option ℕ) (ms : List (GlobalAction J)) → BeginsRight b (Of (strand.Job j) x n) ms → is_open place.Client (projection (strand.Job j) ms) ≡ false
      → is_open place.Client (Did x ∷ projection (strand.Job j) ms) ≡ false
  no-line-at (Began now (start.Client c)) j n ms g h = absurd g.0
  no-line-at (Began now (start.Job i premature job)) j n ms g h = h
  no-line-at (Close q) j n ms g h = put (same_place place.Client q)
    where
      put : (c : Bool) → (if c then false else is_open place.Client (projection (strand.Job j) ms)) ≡ false
      put true = refl
      put false = h
  no-line-at (Take key None) j n ms g h = h
  no-line-at (Take key (Some uses)) j n ms g h = h
  no-line-at (Dial host port true) j n ms g h = h
  no-line-at (Dial host port false) j n ms g h = h
  no-line-at x j n ms g h = h

  no-line : (j : ℕ) (ms : List (GlobalAction J)) → Throughout (BeginsRight b) ms → is_open place.Client (projection (strand.Job j) ms) ≡ false
  no-line j [] g = refl
  no-line j (Of t x n ∷ ms) g = put (same_strand (strand.Job j) t) refl (no-line j ms g.0)
    where
      put : (c : Bool) → same_strand (strand.Job j) t ≡ c → is_open place.Client (projection (strand.Job j) ms) ≡ false
          → is_open place.Client (if c then Did x ∷ projection (strand.Job j) ms else projection (strand.Job j) ms) ≡ false
      put true e ih = no-line-at x j n ms (subst (λ (r : StrandId). BeginsRight b (Of r x n) ms) (sym (same_strand-eq (strand.Job j) t e)) g.1) ih
      put false e ih = ih
  no-line j (Everyone w ∷ ms) g = put (lives (projection (strand.Job j) ms)) (no-line j ms g.0)
    where
      put : (c : Bool) → is_open place.Client (projection (strand.Job j) ms) ≡ false → is_open place.Client (if c then Told w ∷ projection (strand.Job j) ms else projection (strand.Job j) ms) ≡ false
      put true ih = ih
      put false ih = ih
  no-line j (TurnedAway c ∷ ms) g = no-line j ms g.0
  no-line j (IdleGave e ∷ ms) g = no-line j ms g.0
  no-line j (IdleClosed n ∷ ms) g = no-line j ms g.0

  -- an event at a place that is open is shown to its strand
  at-number : (s : StrandId) (k : ℕ) (e : Event) (x : ℕ → Action J) (ms : List (GlobalAction J)) → IsBeginning b ms → is_open (place.Sock k) (projection s ms) ≡ true
      → to_owner e x (owner (socket_at s k ms).sock ms) ≡ Of s (x k) None
  at-number s k e x ms g h = ap (to_owner e x) (owner-is b ms s k g.alone g.plain h)

  at-place : (s : StrandId) (q : Place) (e : Event) (x : Place → Action J) (ms : List (GlobalAction J)) → IsBeginning b ms → is_open q (projection s ms) ≡ true
      → to_place e (id_at s q ms) x ms ≡ Of s (x q) None
  at-place (strand.Conn c) place.Client e x ms g h = refl
  at-place (strand.Job j) place.Client e x ms g h = clash (is_open place.Client (projection (strand.Job j) ms)) h (no-line j ms g.begins)
  at-place (strand.Conn c) (place.Sock k) e x ms g h = at-number (strand.Conn c) k e (λ k. x (place.Sock k)) ms g h
  at-place (strand.Job j) (place.Sock k) e x ms g h = at-number (strand.Job j) k e (λ k. x (place.Sock k)) ms g h

  begins-as : (s : StrandId) (now c : ℕ) (n : Option ℕ) (ms : List (GlobalAction J)) → BeginsRight b (Of s (Began now (start.Client c)) n) ms
      → IsPlainAt b (Began now (start.Client c)) n ms → Of s (Began now (start.Client c)) n ≡ given b (event.Arrive c) ms
  begins-as (strand.Job j) now c n ms g p = absurd g.0
  begins-as (strand.Conn d) now c n ms g p =
      ap (λ d. Of (strand.Conn d) (Began now (start.Client c)) n) g.0 ∙ ap (λ t. Of (strand.Conn c) (Began t (start.Client c)) n) g.1
      ∙ ap (λ n. Of (strand.Conn c) (Began (present ms) (start.Client c)) n) p.0 ∙ sym (ap (λ x. arrives x c ms) (lt-ltb (open_connections ms) b.connections p.2))

  -- the action is what the event in it brings about
  abbrev pub IsEventOf : GlobalAction J → List (GlobalAction J) → Type 0
  IsEventOf m ms = (e : Event) × (inputs (entries_of b m ms) ≡ Gives e ∷ []) × (events (entries_of b m ms) ≡ e ∷ []) × (m ≡ given b e ms)

  of-strand : (s : StrandId) (x : Action J) (n : Option ℕ) (ms : List (GlobalAction J)) → IsBeginning b ms → Enabled b (projection s ms) (Did x) → BeginsRight b (Of s x n) ms
      → IsPlainAt b x n ms → is_given x ≡ true → IsEventOf (Of s x n) ms
  of-strand s (Began now (start.Client c)) n ms g f r p h = (event.Arrive c, refl, refl, begins-as s now c n ms r p)
  of-strand s (Began now (start.Job j premature job)) n ms g f r p h = clash false h refl
  of-strand s (Bytes q bytes) n ms g f r p h = let e = event.Bytes (id_at s q ms) bytes in
      (e, refl, refl, ap (λ n. Of s (Bytes q bytes) n) p ∙ sym (at-place s q e (λ q. Bytes q bytes) ms g f.0.opened))
  of-strand s (Ended q) n ms g f r p h = let e = event.Ended (id_at s q ms) in (e, refl, refl, ap (λ n. Of s (Ended q) n) p ∙ sym (at-place s q e (λ q. Ended q) ms g f.opened))
  of-strand s (Broken q) n ms g f r p h = let e = event.Broken (id_at s q ms) in (e, refl, refl, ap (λ n. Of s (Broken q) n) p ∙ sym (at-place s q e (λ q. Broken q) ms g f.opened))
  of-strand s (Ready q) n ms g f r p h = let e = event.Ready (id_at s q ms) in (e, refl, refl, ap (λ n. Of s (Ready q) n) p ∙ sym (at-place s q e (λ q. Ready q) ms g f.opened))
  of-strand s (Dialled k) n ms g f r p h = let e = event.Dialled (socket_at s k ms).sock in (e, refl, refl, ap (λ n. Of s (Dialled k) n) p ∙ sym (at-number s k e (λ k. Dialled k) ms g f.opened))
  of-strand s (Refused k) n ms g f r p h = let e = event.Refused (socket_at s k ms).sock in (e, refl, refl, ap (λ n. Of s (Refused k) n) p ∙ sym (at-number s k e (λ k. Refused k) ms g f.opened))
  of-strand s x n ms g f r p h = clash false h refl

  -- where no strand holds the socket, it is idle
  idle-place : (e : Event) (i : Id) (x : Place → Action J) (ms : List (GlobalAction J)) → IsBeginning b ms → IsOfIdle (pool ms) (of_id i) → IdleGave e ≡ to_place e i x ms
  idle-place e (id.Conn c) x ms g h = absurd h
  idle-place e (id.Sock n) x ms g h = sym (ap (to_owner e (λ k. x (place.Sock k))) (idle-unowned b ms n g.alone g.plain h))

  idle-gives : (e : Event) (ms : List (GlobalAction J)) → IsBeginning b ms → IsOfIdle (pool ms) (event_socket e) → IdleGave e ≡ given b e ms
  idle-gives (event.Bytes i bytes) ms g h = idle-place (event.Bytes i bytes) i (λ q. Bytes q bytes) ms g h
  idle-gives (event.Ended i) ms g h = idle-place (event.Ended i) i (λ q. Ended q) ms g h
  idle-gives (event.Broken i) ms g h = idle-place (event.Broken i) i (λ q. Broken q) ms g h
  idle-gives (event.Ready i) ms g h = idle-place (event.Ready i) i (λ q. Ready q) ms g h
  idle-gives (event.Dialled n) ms g h = sym (ap (to_owner (event.Dialled n) (λ k. Dialled k)) (idle-unowned b ms n g.alone g.plain h))
  idle-gives (event.Refused n) ms g h = sym (ap (to_owner (event.Refused n) (λ k. Refused k)) (idle-unowned b ms n g.alone g.plain h))
  idle-gives e ms g h = absurd h

  closing-gives : (n : Option ℕ) (h : List Entry) → inputs (closing n ++ h) ≡ inputs h
  closing-gives None h = refl
  closing-gives (Some n) h = refl

  closing-events : (n : Option ℕ) (h : List Entry) → events (closing n ++ h) ≡ events h
  closing-events None h = refl
  closing-events (Some n) h = refl

  not-lt : (m n : ℕ) → n ≤ m → nat_lt m n ≡ false
  not-lt m n h = by_test (nat_lt m n) (λ on. let w = ltb-true m n on in absurd (omega (arith, w, h))) (λ off. off)

  pub one-event : (m : GlobalAction J) (ms : List (GlobalAction J)) → IsBeginning b (m ∷ ms) → has_given m ≡ true → IsEventOf m ms
  one-event (Of s x n) ms run h = of-strand s x n ms (older b quiet (Of s x n) ms run) (enabled b quiet s x n ms (record { alone = run.alone; given = run.given; turns = run.ordered }))
      run.begins.1 run.plain.1 h
  one-event (Everyone (Moment t)) ms run h = (event.Moment (record { 0 = t }), refl, refl, refl)
  one-event (Everyone Stop) ms run h = (event.Stop, refl, refl, refl)
  one-event (TurnedAway c) ms run h = (event.Arrive c, refl, refl, sym (ap (λ x. arrives x c ms) (not-lt (open_connections ms) b.connections run.plain.1.1)))
  one-event (IdleGave e) ms run h = (e, closing-gives (closed_by e) (entry.Given e ∷ []), closing-events (closed_by e) (entry.Given e ∷ []), idle-gives e ms (older b quiet (IdleGave e) ms run) run.plain.1)
  one-event (IdleClosed n) ms run h = clash false h refl
