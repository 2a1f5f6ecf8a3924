-- What the connection's own moves leave.
use Rattle.std.proofs.Common.{◌≡◌, ℕ, Bool, true, false, List, [], ◌∷◌, ◌++◌, Option, Some, None, if◌then◌else◌, refl, sym, ap, ◌∙◌, subst, append_assoc, append-nil}
use Rattle.strand_contract.specs.declared.turns.Act.{Act}
use Rattle.strand_contract.specs.declared.turns.Act.TheVariants as act
use Rattle.strand_plans.specs.Questions.{Question, asking_if}
use Rattle.strand_plans.specs.Questions as question
use Rattle.strand_plans.specs.Ledgers.{Ledger, has_number, numbers}
use Rattle.strand_plans.specs.Moves.{Move, Performed, with_deadline, without_deadline, asked_of, perform}
use Rattle.strand_plans.specs.Moves as move
use Rattle.strand_plans.proofs.Once.{once-disarmed, once-armed}
use Rattle.run_contract.specs.Alike.{AreAlike}
use Rattle.run_contract.specs.Deeds.{Deed, Asks, Nothing, Outside, ledger_by, made_by, ledger_after, made_after, ledger_asking, acts_made, made_asking}
use Rattle.run_contract.specs.Deeds as deeds
use Rattle.run_contract.specs.Runs.{Waits, waits_did}
use Rattle.run_contract.specs.Conditions.{IsRun}
use Rattle.connection_plan.specs.Clients.{Stage, Client}
use Rattle.connection_plan.specs.Clients as stage
use Rattle.connection_plan.specs.Services.{Both}
use Rattle.connection_plan.specs.Timers.{Timer, number_of, time_of, later}
use Rattle.connection_plan.specs.Timers as timer
use Rattle.connection_plan.specs.Turns.{is_there, begin_timer, end_timer}
use Rattle.connection_plan.specs.Conditions.{AgreesWithin}
use Rattle.connection_plan.proofs.Alike.{blank-alike}
use Rattle.connection_plan.proofs.Lifted.{SameRun, same-run-refl, deed-same, made-same}
use Rattle.connection_plan.proofs.Steps.{own-number, armed-same, cancelled-same}
use Rattle.connection_plan.proofs.Stays.{within-alike}
use Rattle.connection_strand.specs.Views.{View, service}
use Rattle.connection_strand.specs.declared.state.Connection.{Connection}
use Rattle.connection_strand.specs.declared.state.Progress.{Progress}
use Rattle.connection_strand.specs.Kept.{Kept, kept, waits_of, with_armed, is_armed}
use Rattle.connection_strand.specs.Standing.{Moment, HasRun, Serves, Within, Toward, before, at_end, made_of, places}
use Rattle.connection_strand.proofs.Deadlines.{is-armed, arms, disarms}

-- all but the client is as it was
pub record IsSameRun {R : Type 0} (c c' : Connection R) : Type 0 where
  pub run : c'.run ≡ c.run
  pub waits : c'.waits ≡ c.waits
  pub sockets : c'.sockets.items ≡ c.sockets.items
  pub count : c'.count ≡ c.count
  pub keeping : c'.keeping ≡ c.keeping
  pub taking : c'.is_taking ≡ c.is_taking

-- a deadline that isn't armed may be cancelled
pub unarmed-same : (t : Timer) (k : Kept) → is_armed t k ≡ false → with_armed t false k ≡ k
unarmed-same timer.Header k e = ap (λ (x : Bool). record k { waits = x }) (sym e)
unarmed-same timer.Keepalive k e = ap (λ (x : Bool). record k { waits = x }) (sym e)
unarmed-same timer.Body k e = ap (λ (x : Bool). record k { waits = x }) (sym e)
unarmed-same timer.Send k e = ap (λ (x : Bool). record k { sends = x }) (sym e)

-- ---- what is still to be done of the run's turn, in ledgers that are the same to the run

deeds-same : {J : Type 0} (ds : List Deed) (b c : Ledger J) → SameRun b c → SameRun (ledger_after ds b) (ledger_after ds c)
deeds-same [] b c x = x
deeds-same (d ∷ ds) b c x = deeds-same ds (ledger_by d b) (ledger_by d c) (deed-same d b c x)

asked-same : {J : Type 0} (q : Question J) (b c : Ledger J) → SameRun b c → asked_of q b ≡ asked_of q c
asked-same (question.Keep k key idle size) b c x = ap (λ (o : Bool). if o then Some (question.Keep k key idle size) else None) (x.alike.opened k)
asked-same q b c x = refl

asking-same : {J : Type 0} (a : Asks J) (b c : Ledger J) → SameRun b c → AreAlike (ledger_asking a b) (ledger_asking a c)
asking-same Nothing b c x = x.alike
asking-same (deeds.Within q) b c x = x.alike
asking-same (Outside q) b c x = record {
  threads = x.alike.threads;
  armed = x.alike.armed;
  put_off = x.alike.put_off;
  taken = x.alike.taken;
  sent = x.alike.sent;
  opened = x.alike.opened;
  count = x.alike.count;
  asked = asked-same q b c x;
}

at_end-same : {J : Type 0} (e : Moment J) (b c : Ledger J) → SameRun b c → AreAlike (at_end e b) (at_end e c)
at_end-same e b c x = asking-same e.asks (ledger_after e.does b) (ledger_after e.does c) (deeds-same e.does b c x)

made-after-same : {J : Type 0} (ds : List Deed) (b c : Ledger J) → SameRun b c → made_after ds b ≡ made_after ds c
made-after-same [] b c x = refl
made-after-same (d ∷ ds) b c x =
    ap (λ xs. xs ++ made_after ds (ledger_by d b)) (made-same d b c x) ∙ ap (λ xs. made_by d c ++ xs) (made-after-same ds (ledger_by d b) (ledger_by d c) (deed-same d b c x))

made-asking-same : {J : Type 0} (a : Asks J) (b c : Ledger J) → SameRun b c → made_asking a b ≡ made_asking a c
made-asking-same Nothing b c x = refl
made-asking-same (deeds.Within q) b c x = refl
made-asking-same {J} (Outside q) b c x = ap (λ (o : Option (Question J)). acts_made (asking_if o)) (asked-same q b c x)

made-of-same : {J : Type 0} (e : Moment J) (b c : Ledger J) → SameRun b c → made_of e b ≡ made_of e c
made-of-same e b c x =
    ap (λ xs. xs ++ made_asking e.asks (ledger_after e.does b)) (made-after-same e.does b c x)
    ∙ ap (λ xs. made_after e.does c ++ xs) (made-asking-same e.asks (ledger_after e.does b) (ledger_after e.does c) (deeds-same e.does b c x))

-- the acts so far, and one more
pub one-more : {J S : Type 0} (acts acts' : List (Act J)) (a : Act J) (did done : Performed J S) → acts' ≡ acts ++ a ∷ []
    → did ≡ before acts (record { state = done.state; acts = a ∷ done.acts }) → did ≡ before acts' done
one-more acts acts' a did done e h =
    h ∙ ap (λ xs. record { state = done.state; acts = xs }) (sym (append_assoc acts (a ∷ []) done.acts) ∙ ap (λ xs. xs ++ done.acts) (sym e))

module _ {R J I : Type 0} (v : View R J I)
    (lawful : IsRun v.meaning.plan v.meaning.holds) (apart : (x : R) (b c : Ledger J) (r : I) → AreAlike b c → v.meaning.stands x b r → v.meaning.stands x c r) where
  pub run-alike : (st : Stage) (o p : Option R) (w x : Waits) (b c : Ledger J) (r : I) → p ≡ o → x ≡ w → AreAlike b c → HasRun v st o w b r → HasRun v st p x c r
  run-alike stage.Busy o p w x b c r e f same h = (h.0, e ∙ h.1, apart h.0 b c r same h.2, f ∙ h.3)
  run-alike stage.Idle o p w x b c r e f same h = tt
  run-alike stage.Head o p w x b c r e f same h = tt
  run-alike stage.Flush o p w x b c r e f same h = tt
  run-alike stage.Drop o p w x b c r e f same h = tt
  run-alike stage.Over o p w x b c r e f same h = tt

  -- what concerns only the client leaves what is known of the run, and what is left of its turn
  pub stays-within : (e : Moment J) (c c' : Connection R) (u u' : Progress J) (b b' : Ledger J) (s s' : Both I)
      → Within v e c u b s → SameRun b b' → s'.run ≡ s.run → s'.client.stage ≡ s.client.stage → c'.run ≡ c.run → c'.waits ≡ c.waits
      → Serves c' u' b' s' → Within v e c' u' b' s'
  stays-within e c c' u u' b b' s s' h same run st crun waits serves =
      let alike = at_end-same e b b' same in
      let w : Waits = waits_did e.does (waits_of c'.waits) in
      record {
        serves = serves;
        at = st ∙ h.at;
        run = subst (λ r. HasRun v e.stage c'.run w (at_end e b') r) (sym run)
            (run-alike e.stage c.run c'.run (waits_did e.does (waits_of c.waits)) w (at_end e b) (at_end e b') s.run crun (ap (λ x. waits_did e.does (waits_of x)) waits) alike h.run);
        known = subst (λ r. AgreesWithin v.meaning.holds e.stage (at_end e b') r) (sym run)
            (within-alike (service v) 0 v.meaning.holds lawful e.stage (at_end e b) (at_end e b') s.run alike h.known);
        blank = λ over. blank-alike (at_end e b) (at_end e b') alike (h.blank over);
        made = h.made ∙ made-of-same e b b' same;
      }

  -- nothing changed
  pub as-it-was : (e : Moment J) (did : Performed J (Both I)) (c c' : Connection R) (u u' : Progress J) (m : Move J (Both I)) → IsSameRun c c' → kept c'.client ≡ kept c.client
      → u'.is_offered ≡ u.is_offered → u'.acts.items ≡ u.acts.items → Toward v e did c u m → Toward v e did c' u' m
  as-it-was e did c c' u u' m same client offered acts h =
      let b = h.ledger in
      let s = h.inner in
      let w = h.within.serves in
      record {
        ledger = b;
        inner = s;
        within = stays-within e c c' u u' b b s s h.within (same-run-refl b) refl refl same.run same.waits (record {
          client = client ∙ w.client;
          sockets = w.sockets ∙ ap (places (is_there b)) (sym same.sockets);
          count = same.count ∙ w.count;
          keeping = same.keeping ∙ w.keeping;
          offered = λ there. offered ∙ w.offered there;
          taking = λ there. same.taking ∙ w.taking there;
          counted = w.counted;
          once = w.once;
          none_asked = w.none_asked;
          on = w.on;
        });
        leads = h.leads ∙ ap (λ xs. before xs (perform m b s)) (sym acts);
      }

  -- ---- timers

  pub begins : (now : ℕ) (t : Timer) (e : Moment J) (did : Performed J (Both I)) (c c' : Connection R) (u u' : Progress J) (m : Move J (Both I)) (time : ℕ)
      → IsSameRun c c' → kept c'.client ≡ with_armed t true (kept c.client) → u'.is_offered ≡ u.is_offered
      → time ≡ time_of v.serving.default_times (kept c.client).times t → u'.acts.items ≡ u.acts.items ++ act.Arm (number_of t) (later now time) ∷ []
      → Toward v e did c u (begin_timer (service v) now t m) → Toward v e did c' u' m
  begins now t e did c c' u u' m time same armed offered times acts h =
      let b = h.ledger in
      let s = h.inner in
      let w = h.within.serves in
      let at = later now (time_of v.serving.default_times s.client.times t) in
      let b' = with_deadline (number_of t) at b in
      let is : time ≡ time_of v.serving.default_times s.client.times t = times ∙ ap (λ (k : Kept). time_of v.serving.default_times k.times t) w.client in
      record {
        ledger = b';
        inner = s;
        within = stays-within e c c' u u' b b' s s h.within (armed-same (number_of t) at b (own-number t)) refl refl same.run same.waits (record {
          client = armed ∙ ap (with_armed t true) w.client ∙ arms t at b s.client;
          sockets = w.sockets ∙ ap (places (is_there b)) (sym same.sockets);
          count = same.count ∙ w.count;
          keeping = same.keeping ∙ w.keeping;
          offered = λ there. offered ∙ w.offered there;
          taking = λ there. same.taking ∙ w.taking there;
          counted = w.counted;
          once = once-armed (number_of t) at.0 b.armed w.once;
          none_asked = w.none_asked;
          on = w.on;
        });
        leads = one-more u.acts.items u'.acts.items (act.Arm (number_of t) at) did (perform m b' s)
            (acts ∙ ap (λ n. u.acts.items ++ act.Arm (number_of t) (later now n) ∷ []) is) h.leads;
      }

  ends-armed : (now : ℕ) (t : Timer) (e : Moment J) (did : Performed J (Both I)) (c c' : Connection R) (u u' : Progress J) (m : Move J (Both I))
      → IsSameRun c c' → is_armed t (kept c.client) ≡ true → kept c'.client ≡ with_armed t false (kept c.client) → u'.is_offered ≡ u.is_offered
      → u'.acts.items ≡ u.acts.items ++ act.Cancel (number_of t) ∷ []
      → Toward v e did c u (end_timer (service v) now t m) → Toward v e did c' u' m
  ends-armed now t e did c c' u u' m same armed cancels offered acts h =
      let b = h.ledger in
      let s = h.inner in
      let w = h.within.serves in
      let b' = without_deadline (number_of t) b in
      let there : has_number (number_of t) (numbers b.armed) ≡ true = sym (ap (is_armed t) w.client ∙ is-armed t b s.client) ∙ armed in
      record {
        ledger = b';
        inner = s;
        within = stays-within e c c' u u' b b' s s h.within (cancelled-same (number_of t) b (own-number t)) refl refl same.run same.waits (record {
          client = cancels ∙ ap (with_armed t false) w.client ∙ disarms t b s.client w.once;
          sockets = w.sockets ∙ ap (places (is_there b)) (sym same.sockets);
          count = same.count ∙ w.count;
          keeping = same.keeping ∙ w.keeping;
          offered = λ there. offered ∙ w.offered there;
          taking = λ there. same.taking ∙ w.taking there;
          counted = w.counted;
          once = once-disarmed (number_of t) b.armed w.once;
          none_asked = w.none_asked;
          on = w.on;
        });
        leads = one-more u.acts.items u'.acts.items (act.Cancel (number_of t)) did (perform m b' s) acts
            (h.leads ∙ ap (λ (x : Bool). before u.acts.items (perform (if x then move.Cancel (number_of t) m else m) b s)) there);
      }

  ends-unarmed : (now : ℕ) (t : Timer) (e : Moment J) (did : Performed J (Both I)) (c : Connection R) (u : Progress J) (m : Move J (Both I))
      → is_armed t (kept c.client) ≡ false → Toward v e did c u (end_timer (service v) now t m) → Toward v e did c u m
  ends-unarmed now t e did c u m armed h =
      let b = h.ledger in
      let s = h.inner in
      let none : has_number (number_of t) (numbers b.armed) ≡ false = sym (ap (is_armed t) h.within.serves.client ∙ is-armed t b s.client) ∙ armed in
      record {
        ledger = b;
        inner = s;
        within = h.within;
        leads = h.leads ∙ ap (λ (x : Bool). before u.acts.items (perform (if x then move.Cancel (number_of t) m else m) b s)) none;
      }

  pub ends-if : (o : Bool) (now : ℕ) (t : Timer) (e : Moment J) (did : Performed J (Both I)) (c c' : Connection R) (u u' : Progress J) (m : Move J (Both I))
      → IsSameRun c c' → is_armed t (kept c.client) ≡ o → kept c'.client ≡ with_armed t false (kept c.client) → u'.is_offered ≡ u.is_offered
      → u'.acts.items ≡ u.acts.items ++ (if o then act.Cancel (number_of t) ∷ [] else [])
      → Toward v e did c u (end_timer (service v) now t m) → Toward v e did c' u' m
  ends-if true now t e did c c' u u' m same armed cancels offered acts h = ends-armed now t e did c c' u u' m same armed cancels offered acts h
  ends-if false now t e did c c' u u' m same none cancels offered acts h =
      as-it-was e did c c' u u' m same (cancels ∙ unarmed-same t (kept c.client) none) offered (acts ∙ append-nil u.acts.items) (ends-unarmed now t e did c u m none h)
