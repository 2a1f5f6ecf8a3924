-- Connections that arrive: a strand begins, or the connection is turned away.
use Rattle.engine_base.specs.declared.seats.ToCome.TheVariants as coming
use Rattle.std.proofs.Common.{◌≡◌, ℕ, ◌+◌, ◌<◌, ◌≤◌, true, false, ◌==◌, List, [], ◌∷◌, Option, None, if◌then◌else◌, refl, sym, ap, subst, ◌∙◌, arith}
use Rattle.std.proofs.lemmas.Bool.{eqb-true}
use Rattle.resty_base.specs.declared.names.Id.TheVariants as id
use Rattle.resty_base.specs.declared.names.StrandId.TheVariants as strand
use Rattle.resty_base.specs.BoolLaws.{by_test}
use Rattle.resty_world.specs.declared.entry.Entry.{Entry}
use Rattle.resty_world.specs.declared.entry.Entry.TheVariants as entry
use Rattle.resty_world.specs.declared.event.Event.TheVariants as event
use Rattle.resty_world.specs.Book.{Book}
use Rattle.resty_world.specs.Contract.{HangsUp, Forgets, Notes}
use Rattle.resty_world.specs.Given.{Gave}
use Rattle.strand_contract.specs.declared.turns.Place.TheVariants as place
use Rattle.strand_contract.specs.declared.turns.Start.TheVariants as start
use Rattle.strand_contract.specs.declared.turns.Act.{Act}
use Rattle.strand_contract.specs.Actions.{Action, LocalAction, Did, Began}
use Rattle.strand_contract.specs.Behaviors.{Behavior}
use Rattle.strand_contract.specs.Alone.{lives, is_open, has_ended, is_stopping, IsExecution, HasNoWork, KeepsNothingBack}
use Rattle.executions.specs.Executions.{GlobalAction, Of, TurnedAway, projection}
use Rattle.executions.specs.Counts.{arrived}
use Rattle.executions.specs.Queues.{lined, placed}
use Rattle.executions.specs.Agenda.{without_those, is_of, agenda}
use Rattle.executions.specs.Phases.{Waking, Running}
use Rattle.executions.specs.Histories.{external, offered_lengths}
use Rattle.strand_contract.specs.Laws.{IsLastAct}
use Rattle.engine_base.specs.Standing.{Held, is_to_end, is_to_wake, phase_at, without_dead, Around, Near, Busy, Falls, Standing}
use Rattle.engine_base.proofs.Lists.{same-true, tells-more, tells-same}
use Rattle.engine_base.proofs.Marks.{projection-same, touches, fit-same, SameBook, same-arrived, same-turned, same-hung, same-forgot, forgot-aside, forgot-ended, same-joins, hung-closed, common-next, around-next, near-begins}
use Rattle.engine_base.proofs.Agendas.{come-same}
use Rattle.engine_base.proofs.Acts.{aside-all}
use Rattle.engine_base.proofs.Waiting.{lined-own, placed-own, armed-own, runs-next, offers-next}
use Rattle.engine_base.proofs.Turns.{no-thread, no-place}
use Rattle.engine_base.proofs.Events.{at-rest, none-holds}

module _ {J S : Type 0} (b : Behavior J) (st : S → List (LocalAction J) → Type 0) (ms : List (GlobalAction J)) (h : Held S) (book : Book) (g : Standing b st h book ms) (run_queue : h.run_queue ≡ []) (offer_queue : h.offer_queue ≡ []) (running : h.in_offers ≡ false) (to_come : h.to_come ≡ coming.Nothing)
    (keeps : (es : List (LocalAction J)) → IsExecution b es → lives es ≡ true → HasNoWork b es → KeepsNothingBack b es) (c : ℕ) (new : c ≡ book.arrivals + 1) where
  unseen : projection (strand.Conn c) ms ≡ []
  unseen = g.common.unborn c (omega (arith, new))

  -- its number comes next
  next : c ≡ arrived ms + 1
  next = let known = g.common.arrived in omega (arith, new, known)

  -- what is known before the strand begins
  around-unseen : Around b st c false false h h.run_queue h.offer_queue book ms
  around-unseen = record {
    each = λ t ne live. g.each t live;
    dead = λ t ne gone. g.dead t gone;
    closed = λ t ne gone. g.closed t gone;
    shut = λ t ne gone q. g.shut t gone q;
    aside = λ s ne. g.aside s;
    forgotten = λ t ne gone. g.forgotten t gone;
    out = g.dead c (ap lives unseen);
    alive = ap lives unseen;
    connection = g.closed c (ap lives unseen);
    client = ap (is_open place.Client) unseen;
    no_socket = λ k. ap (is_open (place.Sock k)) unseen;
    own_aside = g.aside (strand.Conn c) ∙ ap lives unseen;
    disarmed = λ s ne. g.disarmed s;
    common = g.common;
  }

  module _ (book' : Book) (gave : Gave book book' (event.Arrive c)) (h' : Held S) (room : h.connections < b.connections) (held : h' ≡ record h { connections = h.connections + 1 }) where
    around-begun : Around b st c true true h' (lined (strand.Conn c) (b.acts (Did (Began h.now (start.Client c)) ∷ projection (strand.Conn c) ms)) h'.run_queue) (placed (strand.Conn c) (b.acts (Did (Began h.now (start.Client c)) ∷ projection (strand.Conn c) ms)) h'.offer_queue) book' (Of (strand.Conn c) (Began h.now (start.Client c)) None ∷ ms)
    around-begun =
        let z : Action J = Began h.now (start.Client c) in
        let es : List (LocalAction J) = projection (strand.Conn c) ms in
        let k : Held S = record h { connections = h.connections + 1 } in
        let same : SameBook c book book' = same-arrived c gave in
        rw held (around-next b st c ms z false true false true h k h.run_queue (lined (strand.Conn c) (b.acts (Did z ∷ es)) h.run_queue) h.offer_queue (placed (strand.Conn c) (b.acts (Did z ∷ es)) h.offer_queue) book book' around-unseen
        (record { seats = λ t ne. refl; run_queue = λ t ne. refl; offer_queue = λ t ne. refl; in_offers = refl; now = refl; ends = λ t ne. refl; wakes = refl; deadlines = λ s ne. refl })
        same
        around-unseen.out refl
        (gave.is_open (id.Conn c) ∙ ap (λ v. if v then true else book.is_open (id.Conn c)) (same-true c)) refl (λ k. refl)
        (gave.strand_aside (strand.Conn c) ∙ ap (λ v. if v then true else book.strand_aside (strand.Conn c)) (same-true c))
        (common-next b st c ms z h.run_queue (lined (strand.Conn c) (b.acts (Did z ∷ es)) h.run_queue) h.offer_queue (placed (strand.Conn c) (b.acts (Did z ∷ es)) h.offer_queue) h.now h.connections (h.connections + 1) book book' around-unseen.common
        (record {
          enabled = unseen;
          begins = (g.common.begins, (refl, sym g.common.present));
          given = (g.common.given, λ e. at-rest b st ms h book g run_queue offer_queue to_come);
          kept = (g.common.kept, λ e. none-holds b st ms h book g run_queue offer_queue to_come keeps);
          plain = (g.common.plain, (refl, next, rw g.common.count room));
          ordered = (g.common.ordered, tt);
          served = refl;
          counts = ap (λ n. n + 1) g.common.count;
        })
        (omega (arith, new, gave.arrivals)) gave.arrivals (λ n. gave.is_open (id.Sock n) ∙ g.common.no_socket n) (same.asides g.common.asides)
        (tells-more book.history book'.history (entry.Given (event.Arrive c) ∷ []) (external b ms) g.common.told gave.history)
        (tells-same book.offered book'.offered (offered_lengths b ms) g.common.offers_told gave.offered)
        (runs-next b c z ms (b.acts (Did z ∷ es)) h.run_queue refl refl (ap (without_dead (Of (strand.Conn c) z None ∷ ms)) run_queue ∙ sym (no-thread b st ms h book g run_queue)))
        (offers-next b c z ms (b.acts (Did z ∷ es)) h.offer_queue refl refl (ap (without_dead (Of (strand.Conn c) z None ∷ ms)) offer_queue ∙ sym (no-place b st ms h book g offer_queue)))))

    -- its beginning took no memory, or there was none
    pub falls-begun : Falls b st c true h' book' (Of (strand.Conn c) (Began h.now (start.Client c)) None ∷ ms)
    falls-begun = record {
      next_runs = lined (strand.Conn c) (b.acts (Did (Began h.now (start.Client c)) ∷ projection (strand.Conn c) ms)) h'.run_queue;
      next_offers = placed (strand.Conn c) (b.acts (Did (Began h.now (start.Client c)) ∷ projection (strand.Conn c) ms)) h'.offer_queue;
      around = around-begun;
      same_runs = lined-own (strand.Conn c) (b.acts (Did (Began h.now (start.Client c)) ∷ projection (strand.Conn c) ms)) h'.run_queue;
      same_offers = placed-own (strand.Conn c) (b.acts (Did (Began h.now (start.Client c)) ∷ projection (strand.Conn c) ms)) h'.offer_queue;
      agenda = rw held (armed-own (strand.Conn c) (b.acts (Did (Began h.now (start.Client c)) ∷ projection (strand.Conn c) ms)) (agenda b ms) ∙ ap (without_those (is_of (strand.Conn c))) g.agenda);
      phase = rw held (sym (ap phase_at to_come));
      last = rw held (sym running);
      touched = touches c (Began h.now (start.Client c)) None ms;
    }

    pub busy-begun : (asks : (es : List (LocalAction J)) → IsLastAct (b.acts es)) (x : S) (acts : List (Act J)) → st x (Did (Began h.now (start.Client c)) ∷ []) → acts ≡ b.acts (Did (Began h.now (start.Client c)) ∷ [])
        → Busy b st c x acts false true h' book' (Of (strand.Conn c) (Began h.now (start.Client c)) None ∷ ms)
    busy-begun asks x acts stands gives =
        let z : Action J = Began h.now (start.Client c) in
        let own : projection (strand.Conn c) (Of (strand.Conn c) z None ∷ ms) ≡ Did z ∷ [] = projection-same c z None ms ∙ ap (λ l. Did z ∷ l) unseen in
        record {
          near = subst (λ l. Near b st c l false true h' book' (Of (strand.Conn c) z None ∷ ms)) (ap (λ l. b.acts (Did z ∷ l)) unseen ∙ sym gives) (near-begins b st c ms asks z false true h' book' around-begun
              (record {
                done = rw unseen refl;
                no_use = refl;
                threads = rw (unseen, held, run_queue) refl;
                offered = rw (unseen, held, offer_queue) refl;
                agenda = rw held g.agenda;
                kind = rw held (sym running);
                offer = λ e. absurd (let w : false ≡ true = e in cc);
                moment = rw held refl;
                stopping = ap is_stopping unseen;
                no_more = ap (has_ended place.Client) unseen ∙ sym (gave.has_ended (id.Conn c) ∙ ap (λ v. if v then false else book.has_ended (id.Conn c)) (same-true c));
                not_to_end = rw held (ap (λ o. is_to_end o c) to_come);
                wakes = rw held (sym (ap is_to_wake to_come));
                phase = rw held (sym (ap phase_at to_come));
                last = rw held (sym running);
              }));
          stands = subst (λ (fs : List (LocalAction J)). st x fs) (sym own) stands;
        }

  -- as many are open as may be: it is turned away, and nothing of the connection is kept
  pub stands-turned : (book1 book2 book3 book4 : Book) (back : Option Entry) → Gave book book1 (event.Arrive c) → b.connections ≤ h.connections
      → Notes (entry.Turned c) back book1 book2 → HangsUp (id.Conn c) book2 book3 → Forgets (strand.Conn c) book3 book4
      → Standing b st h book4 (TurnedAway c ∷ ms)
  stands-turned book1 book2 book3 book4 back gave full noted hung forgot =
      let same : SameBook c book book4 = same-joins (same-joins (same-joins (same-arrived c gave) (same-turned c noted)) (same-hung c hung)) (same-forgot c forgot) in
      let arrivals : book4.arrivals ≡ book1.arrivals = forgot.numbers.arrivals ∙ hung.numbers.arrivals ∙ noted.numbers.arrivals in
      record {
        each = λ t live. by_test (t == c)
            (λ e. absurd (let w : false ≡ true = sym (ap lives unseen) ∙ subst (λ (i : ℕ). lives (projection (strand.Conn i) ms) ≡ true) (eqb-true t c e) live in cc))
            (λ ne. fit-same refl refl refl refl refl refl refl refl (same.is_open t ne) (same.has_ended t ne) (g.each t live));
        dead = g.dead;
        closed = λ t gone. by_test (t == c)
            (λ e. subst (λ (i : ℕ). book4.is_open (id.Conn i) ≡ false) (sym (eqb-true t c e)) (forgot.is_open (id.Conn c) ∙ hung-closed c hung))
            (λ ne. same.is_open t ne ∙ g.closed t gone);
        shut = g.shut;
        aside = aside-all c book4 ms (λ s ne. same.strand_aside s ne ∙ g.aside s) (forgot-aside c forgot ∙ sym (ap lives unseen));
        forgotten = λ t gone. by_test (t == c)
            (λ e. subst (λ (i : ℕ). book4.has_ended (id.Conn i) ≡ false) (sym (eqb-true t c e)) (forgot-ended c forgot))
            (λ ne. same.has_ended t ne ∙ g.forgotten t gone);
        flip_to_runs = λ run on. absurd (let w : false ≡ true = on in cc);
        flip_to_offers = λ offer off. run_queue;
        comes = come-same coming.Nothing h.to_come b (TurnedAway c ∷ ms) to_come (λ waking. absurd (let w : Running ≡ Waking = waking in cc));
        agenda = g.agenda;
        disarmed = g.disarmed;
        common = record {
          alone = g.common.alone;
          begins = (g.common.begins, tt);
          given = (g.common.given, λ e. at-rest b st ms h book g run_queue offer_queue to_come);
          kept = (g.common.kept, λ e. none-holds b st ms h book g run_queue offer_queue to_come keeps);
          plain = (g.common.plain, (next, rw g.common.count full));
          ordered = (g.common.ordered, tt);
          served = (g.common.served, tt);
          runs = ap (without_dead (TurnedAway c ∷ ms)) run_queue ∙ sym (no-thread b st ms h book g run_queue);
          offered = ap (without_dead (TurnedAway c ∷ ms)) offer_queue ∙ sym (no-place b st ms h book g offer_queue);
          told = tells-same book3.history book4.history (entry.Close (id.Conn c) ∷ entry.Turned c ∷ entry.Given (event.Arrive c) ∷ external b ms)
              (tells-more book2.history book3.history (entry.Close (id.Conn c) ∷ []) (entry.Turned c ∷ entry.Given (event.Arrive c) ∷ external b ms)
              (tells-more book1.history book2.history (entry.Turned c ∷ []) (entry.Given (event.Arrive c) ∷ external b ms)
              (tells-more book.history book1.history (entry.Given (event.Arrive c) ∷ []) (external b ms) g.common.told gave.history) noted.history) hung.history) forgot.entered.history;
          offers_told = tells-same book.offered book4.offered (offered_lengths b ms) g.common.offers_told (forgot.entered.offered ∙ hung.offered ∙ noted.offered ∙ gave.offered);
          unborn = λ t past. g.common.unborn t (let after : book4.arrivals < t = past in omega (arith, new, arrivals, gave.arrivals));
          jobless = g.common.jobless;
          no_socket = λ n. same.sockets n ∙ g.common.no_socket n;
          asides = same.asides g.common.asides;
          count = g.common.count;
          arrived = let known = g.common.arrived in omega (arith, arrivals, gave.arrivals, known);
          present = g.common.present;
        };
      }
