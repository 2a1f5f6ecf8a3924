-- What comes is what is next, or the world's answer, or a drop.
use Rattle.std.specs.Prelude.{◌≡◌, ℕ, Bool, true, false, ◌&&◌, List, [], ◌∷◌, Option, Some, None, if◌then◌else◌, refl}
use Rattle.std.proofs.Common.{inl, inr, sym, ◌∙◌, ap, subst}
use Rattle.resty_base.specs.declared.names.StrandId.{StrandId}
use Rattle.resty_base.specs.declared.names.StrandId.TheVariants as strand
use Rattle.resty_base.specs.BoolLaws.{by_test}
use Rattle.strand_contract.specs.declared.turns.Place.{Place}
use Rattle.strand_contract.specs.declared.turns.Act.{Act}
use Rattle.strand_contract.specs.declared.turns.Act.TheVariants as act
use Rattle.shared_rules.specs.Pool.{take_answer, last_idle}
use Rattle.strand_contract.specs.declared.turns.Start.TheVariants as start
use Rattle.strand_contract.specs.Actions.{Action, Began, Bytes, Ended, Broken, Ready, Dialled, Refused, Put, Later, Lost, Close, Log, Dict, Take, Dial, Keep}
use Rattle.strand_contract.specs.Actions.{Timer, Dropped, Run, Offer, Due, Halted, Gone, Did, is_given}
use Rattle.strand_contract.specs.Behaviors.{Behavior}
use Rattle.strand_contract.specs.Alone.{lives, todo, offering, open_places, is_winding_up, IsExecution, Enabled, IsOfferedAt}
use Rattle.strand_contract.specs.Laws.{IsQuiet}
use Rattle.executions.specs.Executions.{GlobalAction, Of, Everyone, TurnedAway, IdleGave, IdleClosed, projection, present, has_stopped}
use Rattle.executions.specs.Phases.{Phase, Waking, Stopping, Running, phase}
use Rattle.executions.specs.Queues.{run_queue, offer_queue}
use Rattle.executions.specs.Sockets.{pool}
use Rattle.executions.specs.Jobs.{Pending, earliest, next_job, job_number}
use Rattle.executions.specs.Strands.{is_under_way, under_way, next_to_wind_up}
use Rattle.executions.specs.Ordered.{offers_last, HasSettledIn, HasSettled, NothingWaits, MayTurnAt, MayCloseIn, MayStartIn}
use Rattle.executions.specs.Lawful.{AllAtRest, IsStartOf, BeginsRight}
use Rattle.executions.specs.Plain.{IsPlainAt, IsPlainBy, taken_number}
use Rattle.executions.specs.NextActions.{Next, Does, Writes, Asks, act_of, acts_on, closes_on, offers_on, starts, starts_as, turns, in_line, winds_up, runs_else}
use Rattle.executions.specs.NextActions.{offers_else, due_else, job_else, closes_else, ends_else, next_in, next_for, next, IsAnswer, is_drop}
use Rattle.executions.specs.Beginnings.{IsBeginning}
use Rattle.executions.proofs.Strands.{clash, none-that, way-acts, way-offer, way-open, GoesOn, Comes, before, enabled, kind, only-one, found}
use Rattle.executions.proofs.Strands.{acts-live, dropped-dead, rest-way}

module _ {J : Type 0} (b : Behavior J) (quiet : IsQuiet b) where
  -- a turn that goes on
  on-acts : (m : GlobalAction J) (s : StrandId) (ms : List (GlobalAction J)) (a : Act J) (acts : List (Act J)) → under_way b ms ≡ Some s → lives (projection s ms) ≡ true
      → todo b (projection s ms) ≡ a ∷ acts → IsAnswer m (act_of b s ms a) → IsAnswer m (next b ms)
  on-acts m s ms a acts u l e h =
      subst (λ o. IsAnswer m (next_for b o ms)) (sym u)
      (subst (λ c. IsAnswer m (if c then acts_on b s ms (todo b (projection s ms)) (offering b (projection s ms)) else closes_on s (open_places (projection s ms)))) (sym l)
      (subst (λ l. IsAnswer m (acts_on b s ms l (offering b (projection s ms)))) (sym e) h))

  on-offer : (m : GlobalAction J) (s : StrandId) (ms : List (GlobalAction J)) (q : Place) → under_way b ms ≡ Some s → IsOfferedAt b (projection s ms) q
      → IsAnswer m (Writes s q) → IsAnswer m (next b ms)
  on-offer m s ms q u o h =
      subst (λ o. IsAnswer m (next_for b o ms)) (sym u)
      (subst (λ c. IsAnswer m (if c then acts_on b s ms (todo b (projection s ms)) (offering b (projection s ms)) else closes_on s (open_places (projection s ms)))) (sym o.living)
      (subst (λ l. IsAnswer m (acts_on b s ms l (offering b (projection s ms)))) (sym o.no_act)
      (subst (λ p. IsAnswer m (offers_on s p)) (sym o.offered) h)))

  on-open : (m : GlobalAction J) (s : StrandId) (ms : List (GlobalAction J)) (q : Place) (qs : List Place) → under_way b ms ≡ Some s → lives (projection s ms) ≡ false
      → q ∷ qs ≡ open_places (projection s ms) → IsAnswer m (Does (Of s (Close q) None)) → IsAnswer m (next b ms)
  on-open m s ms q qs u l e h =
      subst (λ o. IsAnswer m (next_for b o ms)) (sym u)
      (subst (λ c. IsAnswer m (if c then acts_on b s ms (todo b (projection s ms)) (offering b (projection s ms)) else closes_on s (open_places (projection s ms)))) (sym l)
      (subst (λ ps. IsAnswer m (closes_on s ps)) e h))

  -- none is under way
  off-way : (m : GlobalAction J) (ms : List (GlobalAction J)) → under_way b ms ≡ None → IsAnswer m (next_in (phase ms) b ms) → IsAnswer m (next b ms)
  off-way m ms u h = subst (λ o. IsAnswer m (next_for b o ms)) (sym u) h

  settled-in : (m : GlobalAction J) (ms : List (GlobalAction J)) (p : Phase) → HasSettledIn p b ms → IsAnswer m (turns b ms) → IsAnswer m (next_in p b ms)
  settled-in m ms Waking e h = subst (λ o. IsAnswer m (due_else b ms o (turns b ms))) (sym e) h
  settled-in m ms Stopping e h =
      subst (λ o. IsAnswer m (ends_else o (closes_else (last_idle (pool ms)) (job_else b ms (next_job b ms) (turns b ms))))) (sym e.0)
      (subst (λ idle. IsAnswer m (closes_else (last_idle idle) (job_else b ms (next_job b ms) (turns b ms)))) (sym e.1)
      (subst (λ (ps : List (Pending J)). IsAnswer m (job_else b ms (job_number (earliest ps)) (turns b ms))) (sym e.2) h))
  settled-in m ms Running e h = h

  settled : (m : GlobalAction J) (ms : List (GlobalAction J)) → under_way b ms ≡ None → HasSettled b ms → IsAnswer m (turns b ms) → IsAnswer m (next b ms)
  settled m ms u e h = off-way m ms u (settled-in m ms (phase ms) e h)

  start-in : (m : GlobalAction J) (ms : List (GlobalAction J)) (p : Phase) (j : ℕ) → MayStartIn p b j ms → IsAnswer m (starts b j ms) → IsAnswer m (next_in p b ms)
  start-in m ms Waking j e h = subst (λ o. IsAnswer m (due_else b ms o (turns b ms))) (sym e) h
  start-in m ms Stopping j e h =
      subst (λ o. IsAnswer m (ends_else o (closes_else (last_idle (pool ms)) (job_else b ms (next_job b ms) (turns b ms))))) (sym e.0)
      (subst (λ idle. IsAnswer m (closes_else (last_idle idle) (job_else b ms (next_job b ms) (turns b ms)))) (sym e.1)
      (subst (λ o. IsAnswer m (job_else b ms o (turns b ms))) (sym e.2) h))
  start-in m ms Running j e h = absurd e

  close-in : (ms : List (GlobalAction J)) (p : Phase) (n : ℕ) → MayCloseIn p b n ms → IsAnswer (IdleClosed n) (next_in p b ms)
  close-in ms Waking n e = subst (λ o. IsAnswer (IdleClosed n) (due_else b ms o (turns b ms))) (sym e) refl
  close-in ms Stopping n e =
      subst (λ o. IsAnswer (IdleClosed n) (ends_else o (closes_else (last_idle (pool ms)) (job_else b ms (next_job b ms) (turns b ms))))) (sym e.0)
      (subst (λ o. IsAnswer (IdleClosed n) (closes_else o (job_else b ms (next_job b ms) (turns b ms)))) (sym e.1) refl)
  close-in ms Running n e = absurd e

  run-line : (s : StrandId) (k : ℕ) (n : Option ℕ) (rest : List (StrandId × ℕ)) (c : Bool) (threads : List (StrandId × ℕ)) (ps : List (StrandId × Place)) (other : Next J)
      → (c ≡ true → ps ≡ []) → threads ≡ (s, k) ∷ rest → n ≡ None → IsAnswer (Of s (Run k) n) (in_line c threads ps other)
  run-line s k n rest true threads ps other p e h =
      subst (λ ps. IsAnswer (Of s (Run k) n) (offers_else ps (runs_else threads other))) (sym (p refl))
      (subst (λ l. IsAnswer (Of s (Run k) n) (runs_else l other)) (sym e) (ap (λ n. Of s (Run k) n) h))
  run-line s k n rest false threads ps other p e h = subst (λ l. IsAnswer (Of s (Run k) n) (runs_else l (offers_else ps other))) (sym e) (ap (λ n. Of s (Run k) n) h)

  offer-line : (s : StrandId) (q : Place) (n : Option ℕ) (rest : List (StrandId × Place)) (c : Bool) (threads : List (StrandId × ℕ)) (ps : List (StrandId × Place)) (other : Next J)
      → (c ≡ false → threads ≡ []) → ps ≡ (s, q) ∷ rest → n ≡ None → IsAnswer (Of s (Offer q) n) (in_line c threads ps other)
  offer-line s q n rest true threads ps other p e h = subst (λ l. IsAnswer (Of s (Offer q) n) (offers_else l (runs_else threads other))) (sym e) (ap (λ n. Of s (Offer q) n) h)
  offer-line s q n rest false threads ps other p e h =
      subst (λ l. IsAnswer (Of s (Offer q) n) (runs_else l (offers_else ps other))) (sym (p refl))
      (subst (λ l. IsAnswer (Of s (Offer q) n) (offers_else l other)) (sym e) (ap (λ n. Of s (Offer q) n) h))

  empty-line : (c : Bool) (other : Next J) → in_line c [] [] other ≡ other
  empty-line true other = refl
  empty-line false other = refl

  waits-turns : (ms : List (GlobalAction J)) → NothingWaits b ms → turns b ms ≡ winds_up (next_to_wind_up ms)
  waits-turns ms w =
      ap (λ l. in_line (offers_last ms) l (offer_queue b ms) (winds_up (next_to_wind_up ms))) w.no_thread
      ∙ ap (λ l. in_line (offers_last ms) [] l (winds_up (next_to_wind_up ms))) w.no_place ∙ empty-line (offers_last ms) (winds_up (next_to_wind_up ms))

  -- where all are at rest the world is asked
  none-winds : (ms : List (GlobalAction J)) → AllAtRest b ms → next_to_wind_up ms ≡ None
  none-winds ms r = none-that (λ es. lives es && is_winding_up es) ms
      (λ s. by_test (lives (projection s ms)) (λ on. ap (λ c. c && is_winding_up (projection s ms)) on ∙ ((r.each s).idle on).no_end) (λ off. ap (λ c. c && is_winding_up (projection s ms)) off))

  pub asks : (m : GlobalAction J) (ms : List (GlobalAction J)) → AllAtRest b ms → IsAnswer m Asks → IsAnswer m (next b ms)
  asks m ms r h = settled m ms (none-that (is_under_way b) ms (rest-way b quiet ms r)) r.waits.settled
      (subst (λ x. IsAnswer m x) (sym (waits-turns ms r.waits ∙ ap winds_up (none-winds ms r))) h)

  -- a job starts
  start-of : (r : StrandId) (j now : ℕ) (premature : Bool) (job : J) (n : Option ℕ) (ms : List (GlobalAction J)) → IsStartOf b r (start.Job j premature job) ms → now ≡ present ms → n ≡ None
      → IsAnswer (Of r (Began now (start.Job j premature job)) n) (starts b j ms)
  start-of (strand.Job i) j now premature job n ms w t h =
      subst (λ o. IsAnswer (Of (strand.Job i) (Began now (start.Job j premature job)) n) (starts_as j ms o)) (sym w.1)
      (ap (λ i. Of (strand.Job i) (Began now (start.Job j premature job)) n) w.0 ∙ ap (λ t. Of (strand.Job j) (Began t (start.Job j premature job)) n) t
      ∙ ap (λ c. Of (strand.Job j) (Began (present ms) (start.Job j c job)) n) w.2 ∙ ap (λ n. Of (strand.Job j) (Began (present ms) (start.Job j (has_stopped ms) job)) n) h)
  start-of (strand.Conn c) j now premature job n ms w t h = absurd w

  -- an action of a strand
  pub strand-next : (r : StrandId) (x : Action J) (n : Option ℕ) (ms : List (GlobalAction J)) → Comes b quiet (Of r x n ∷ ms) → BeginsRight b (Of r x n) ms → IsPlainAt b x n ms
      → is_drop (Of r x n) ≡ false → IsAnswer (Of r x n) (next b ms)
  strand-next r x n ms g begins plain drop = put x n (enabled b quiet r x n ms g) (kind b quiet r x n ms g) g.given.1 g.turns.1 begins plain drop
    where
      f : IsExecution b (projection r ms)
      f = (before b quiet (Of r x n) ms g).alone r

      own : is_under_way b (projection r ms) ≡ true → under_way b ms ≡ Some r
      own u = found b quiet r ms (only-one b quiet ms (before b quiet (Of r x n) ms g)) u

      act-way : (a : Act J) (acts : List (Act J)) (m : GlobalAction J) → todo b (projection r ms) ≡ a ∷ acts → IsAnswer m (act_of b r ms a) → IsAnswer m (next b ms)
      act-way a acts m e h = on-acts m r ms a acts (own (way-acts b quiet (projection r ms) a acts f e)) (acts-live b quiet (projection r ms) a acts f e) e h

      offer-way : (q : Place) (m : GlobalAction J) → IsOfferedAt b (projection r ms) q → IsAnswer m (Writes r q) → IsAnswer m (next b ms)
      offer-way q m o h = on-offer m r ms q (own (way-offer b quiet (projection r ms) q o)) o h

      put : (x : Action J) (n : Option ℕ) → Enabled b (projection r ms) (Did x) → GoesOn b quiet r ms → (is_given x ≡ true → AllAtRest b ms) → MayTurnAt b r x ms
          → BeginsRight b (Of r x n) ms → IsPlainAt b x n ms → is_drop (Of r x n) ≡ false → IsAnswer (Of r x n) (next b ms)
      put (Began now (start.Client c)) n e k given turn begins plain drop = asks (Of r (Began now (start.Client c)) n) ms (given refl) refl
      put (Began now (start.Job j premature job)) n e k given turn begins plain drop =
          off-way (Of r (Began now (start.Job j premature job)) n) ms turn.0
          (start-in (Of r (Began now (start.Job j premature job)) n) ms (phase ms) j turn.1 (start-of r j now premature job n ms begins.0 begins.1 plain))
      put (Bytes q bytes) n e k given turn begins plain drop = asks (Of r (Bytes q bytes) n) ms (given refl) refl
      put (Ended q) n e k given turn begins plain drop = asks (Of r (Ended q) n) ms (given refl) refl
      put (Broken q) n e k given turn begins plain drop = asks (Of r (Broken q) n) ms (given refl) refl
      put (Ready q) n e k given turn begins plain drop = asks (Of r (Ready q) n) ms (given refl) refl
      put (Dialled i) n e k given turn begins plain drop = asks (Of r (Dialled i) n) ms (given refl) refl
      put (Refused i) n e k given turn begins plain drop = asks (Of r (Refused i) n) ms (given refl) refl
      put (Put q bytes) n e k given turn begins plain drop = offer-way q (Of r (Put q bytes) n) e.0 (refl, refl)
      put (Later q) n e k given turn begins plain drop = offer-way q (Of r (Later q) n) e (refl, refl)
      put (Lost q) n e k given turn begins plain drop = offer-way q (Of r (Lost q) n) e (refl, refl)
      put (Close q) n e k given turn begins plain drop = elim e [
        | inl w ↦ act-way (act.HangUp q) w.0.0 (Of r (Close q) n) w.0.1 (ap (λ n. Of r (Close q) n) plain)
        | inr w ↦ (let off = dropped-dead b quiet (projection r ms) f w.0 in
            on-open (Of r (Close q) n) r ms q w.1.0 (own (way-open b quiet (projection r ms) q w.1.0 off w.1.1)) off w.1.1 (ap (λ n. Of r (Close q) n) plain))
      ]
      put (Log text done) n e k given turn begins plain drop = act-way (act.Log text) e.0 (Of r (Log text done) n) e.1 (refl, refl)
      put (Dict z call answer) n e k given turn begins plain drop = act-way (act.Dict z call) [] (Of r (Dict z call answer) n) e.0 (ap (λ n. Of r (Dict z call answer) n) plain.0 ∙ ap (λ a. Of r (Dict z call a) None) plain.1)
      put (Take key uses) n e k given turn begins plain drop = act-way (act.Take key) [] (Of r (Take key uses) n) e (ap (λ n. Of r (Take key uses) n) plain.0 ∙ ap (λ u. Of r (Take key u) (taken_number (take_answer key (pool ms)))) plain.1)
      put (Dial host port done) n e k given turn begins plain drop = act-way (act.Dial host port) [] (Of r (Dial host port done) n) e (refl, refl, refl)
      put (Keep i key idle size) n e k given turn begins plain drop = act-way (act.Keep i key idle size) [] (Of r (Keep i key idle size) n) e.0 (ap (λ n. Of r (Keep i key idle size) n) plain)
      put (Timer at answer) n e k given turn begins plain drop = act-way (act.Timer at e.0) [] (Of r (Timer at answer) n) e.1 (ap (λ n. Of r (Timer at answer) n) plain.0 ∙ ap (λ a. Of r (Timer at a) None) plain.1)
      put Dropped n e k given turn begins plain drop = clash true refl drop
      put (Run i) n e k given turn begins plain drop = settled (Of r (Run i) n) ms turn.0 turn.1 (run-line r i n turn.3.0 (offers_last ms) (run_queue b ms) (offer_queue b ms) (winds_up (next_to_wind_up ms)) turn.2 turn.3.1 plain)
      put (Offer q) n e k given turn begins plain drop = settled (Of r (Offer q) n) ms turn.0 turn.1 (offer-line r q n turn.3.0 (offers_last ms) (run_queue b ms) (offer_queue b ms) (winds_up (next_to_wind_up ms)) turn.2 turn.3.1 plain)
      put (Due i) n e k given turn begins plain drop =
          off-way (Of r (Due i) n) ms turn.0 (subst (λ p. IsAnswer (Of r (Due i) n) (next_in p b ms)) (sym turn.1) (subst (λ o. IsAnswer (Of r (Due i) n) (due_else b ms o (turns b ms))) (sym turn.2) (ap (λ n. Of r (Due i) n) plain)))
      put Halted n e k given turn begins plain drop = elim turn.1 [
        | inl w ↦ off-way (Of r Halted n) ms turn.0 (subst (λ p. IsAnswer (Of r Halted n) (next_in p b ms)) (sym w.0)
            (subst (λ o. IsAnswer (Of r Halted n) (ends_else o (closes_else (last_idle (pool ms)) (job_else b ms (next_job b ms) (turns b ms))))) (sym w.1) (ap (λ n. Of r Halted n) plain)))
        | inr w ↦ settled (Of r Halted n) ms turn.0 w.0.settled (subst (λ x. IsAnswer (Of r Halted n) x) (sym (waits-turns ms w.0 ∙ ap winds_up w.1)) (ap (λ n. Of r Halted n) plain))
      ]
      put Gone n e k given turn begins plain drop = act-way act.Gone [] (Of r Gone n) e (ap (λ n. Of r Gone n) plain)

  -- any action
  pub one-next : (m : GlobalAction J) (ms : List (GlobalAction J)) → Comes b quiet (m ∷ ms) → BeginsRight b m ms → IsPlainBy b m ms → is_drop m ≡ false → IsAnswer m (next b ms)
  one-next (Of r x n) ms g begins plain drop = strand-next r x n ms g begins plain drop
  one-next (Everyone w) ms g begins plain drop = asks (Everyone w) ms (g.given.1 refl) refl
  one-next (TurnedAway c) ms g begins plain drop = asks (TurnedAway c) ms (g.given.1 refl) refl
  one-next (IdleGave e) ms g begins plain drop = asks (IdleGave e) ms (g.given.1 refl) refl
  one-next (IdleClosed n) ms g begins plain drop =
      off-way (IdleClosed n) ms g.turns.1.0 (close-in ms (phase ms) n g.turns.1.1)

  -- a beginning without its newest action
  pub older : (m : GlobalAction J) (ms : List (GlobalAction J)) → IsBeginning b (m ∷ ms) → IsBeginning b ms
  older m ms r = let g = before b quiet m ms (record { alone = r.alone; given = r.given; turns = r.ordered }) in
      record { alone = g.alone; begins = r.begins.0; given = r.given.0; plain = r.plain.0; ordered = r.ordered.0 }
