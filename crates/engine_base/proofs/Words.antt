-- What every living strand is told, and Stop, which ends them in the order of their beginning.
use Rattle.engine_base.specs.declared.seats.ToCome.{ToCome}
use Rattle.engine_base.specs.declared.seats.ToCome.TheVariants as coming
use Rattle.std.proofs.Common.{◌≡◌, ◌⊎◌, ℕ, ◌&&◌, ◌<◌, ◌≤◌, nat_lt, max, Bool, true, false, ◌==◌, List, [], ◌∷◌, Option, Some, None, if◌then◌else◌, refl, sym, ap, subst, ◌∙◌, append-nil, inl, inr, arith}
use Rattle.std.proofs.lemmas.Bool.{cases_lt, eqb-true}
use Rattle.std.proofs.lemmas.Bool.Decides.{nat_tests}
use Rattle.resty_base.specs.declared.names.Id.TheVariants as id
use Rattle.resty_base.specs.declared.names.StrandId.{StrandId}
use Rattle.resty_base.specs.declared.names.StrandId.TheVariants as strand
use Rattle.resty_base.specs.BoolLaws.{by_test, clash}
use Rattle.resty_world.specs.Book.{Book, KeepsIds, told}
use Rattle.resty_world.specs.Ids.{same_strand}
use Rattle.strand_contract.specs.declared.turns.Seen.TheVariants as seen
use Rattle.strand_contract.specs.Actions.{Word, Moment, Stop, Action, LocalAction, Told, Halted}
use Rattle.strand_contract.specs.Behaviors.{Behavior}
use Rattle.strand_contract.specs.Alone.{lives, moment, is_open, is_stopping, IsExecution, HasNoWork, KeepsNothingBack}
use Rattle.executions.specs.Executions.{GlobalAction, Everyone, projection, present}
use Rattle.executions.specs.Strands.{next_to_stop}
use Rattle.executions.specs.Phases.{Waking, Stopping, phase as phase_of}
use Rattle.executions.specs.OwnDeadlines.{deadlines}
use Rattle.executions.specs.Queues.{only}
use Rattle.executions.specs.Histories.{external, offered_lengths, word_entry}
use Rattle.strand_contract.specs.Laws.{IsLastAct, is_still}
use Rattle.engine_base.specs.declared.seats.Seat.{Seat}
use Rattle.engine_tables.specs.Seats.{is_after}
use Rattle.engine_base.specs.Standing.{Held, is_to_end, is_to_wake, phase_at, HasCome, MayWake, said_of, without_dead, Fit, Standing, Turn}
use Rattle.engine_base.proofs.Lists.{same-true, tells-more, tells-same}
use Rattle.engine_base.proofs.Agendas.{come-same}
use Rattle.engine_base.proofs.Marks.{fit-same, book-same, same-keeps}
use Rattle.engine_base.proofs.Turns.{seat-lives, seat-fits, around-leave, turn-next, between, no-thread, no-place}
use Rattle.engine_base.proofs.Events.{at-rest, none-holds}
use Rattle.engine_base.proofs.Served.{strands-rising, first-served}

-- what a word makes of the present moment, and what is still to come after it
abbrev pub after_word : Word → ℕ → ℕ
after_word (Moment t) n = max t n
after_word Stop n = n

abbrev pub to_come_after : Word → ToCome
to_come_after (Moment t) = coming.Wakings
to_come_after Stop = coming.Endings None

moment-told : {J : Type 0} (w : Word) (es : List (LocalAction J)) → moment (Told w ∷ es) ≡ after_word w (moment es)
moment-told (Moment t) es = refl
moment-told Stop es = refl

stopping-told : {J : Type 0} (w : Word) (es : List (LocalAction J)) (t : ℕ) → is_stopping es ≡ false → is_stopping (Told w ∷ es) ≡ is_to_end (to_come_after w) t
stopping-told (Moment u) es t still = still
stopping-told Stop es t still = refl

present-told : {J : Type 0} (w : Word) (ms : List (GlobalAction J)) → present (Everyone w ∷ ms) ≡ after_word w (present ms)
present-told (Moment t) ms = refl
present-told Stop ms = refl

comes-told : {J : Type 0} (b : Behavior J) (w : Word) (ms : List (GlobalAction J)) → HasCome (to_come_after w) b (Everyone w ∷ ms)
comes-told b (Moment t) ms = refl
comes-told b Stop ms = refl

wakes-told : {J : Type 0} (b : Behavior J) (w : Word) (es : List (LocalAction J)) → MayWake (is_to_wake (to_come_after w)) b (Told w ∷ es)
wakes-told b (Moment t) es = refl
wakes-told b Stop es = λ waking. absurd (let e : false ≡ true = waking in cc)

heard : {J : Type 0} (test : Bool) (w : Word) (es : List (LocalAction J)) → test ≡ true → (if test then Told w ∷ es else es) ≡ Told w ∷ es
heard test w es on = ap (λ v. if v then Told w ∷ es else es) on

unheard : {J : Type 0} (test : Bool) (w : Word) (es : List (LocalAction J)) → test ≡ false → (if test then Told w ∷ es else es) ≡ es
unheard test w es off = ap (λ v. if v then Told w ∷ es else es) off

module _ {J S : Type 0} (b : Behavior J) (st : S → List (LocalAction J) → Type 0) (ms : List (GlobalAction J)) (h : Held S) (book : Book) (g : Standing b st h book ms) (run_queue : h.run_queue ≡ []) (offer_queue : h.offer_queue ≡ []) (running : h.in_offers ≡ false) (to_come : h.to_come ≡ coming.Nothing)
    (keeps : (es : List (LocalAction J)) → IsExecution b es → lives es ≡ true → HasNoWork b es → KeepsNothingBack b es)
    (still : (x : S) (a : LocalAction J) (es : List (LocalAction J)) → is_still a ≡ true → st x es → st x (a ∷ es))
    (quiet : (a : LocalAction J) (es : List (LocalAction J)) → is_still a ≡ true → b.acts (a ∷ es) ≡ []) (w : Word) where
  alone-told : (s : StrandId) → IsExecution b (projection s (Everyone w ∷ ms))
  alone-told s = by_test (lives (projection s ms))
      (λ live. subst (λ (fs : List (LocalAction J)). IsExecution b fs) (sym (heard (lives (projection s ms)) w (projection s ms) live)) (g.common.alone s, (live, ((at-rest b st ms h book g run_queue offer_queue to_come).each s).idle live)))
      (λ gone. subst (λ (fs : List (LocalAction J)). IsExecution b fs) (sym (unheard (lives (projection s ms)) w (projection s ms) gone)) (g.common.alone s))

  fit-told : (t : ℕ) (seat : Option (Seat S)) → seat ≡ h.seats (strand.Conn t) → lives (projection (strand.Conn t) ms) ≡ true
      → Fit b st (record { seat = seat; threads = []; places = []; in_offers = false; now = after_word w h.now; to_end = is_to_end (to_come_after w) t; to_wake = is_to_wake (to_come_after w) }) (said_of t book) (Told w ∷ projection (strand.Conn t) ms)
  fit-told t seat same live =
      let f = g.each t live in
      let es : List (LocalAction J) = projection (strand.Conn t) ms in
      let none : b.acts (Told w ∷ es) ≡ [] = quiet (Told w) es refl in
      record {
        held = (f.held.0, same ∙ f.held.1, still f.held.0.strand (Told w) es refl f.held.2, f.held.3);
        no_act = rw (none, f.no_act) refl;
        threads = rw none (f.threads ∙ ap (only (strand.Conn t)) run_queue);
        offered = rw none (append-nil _ ∙ f.offered ∙ ap (only (strand.Conn t)) offer_queue);
        no_offer = refl;
        runs_first = λ run on. refl;
        offers_first = λ offer off. refl;
        moment = moment-told w es ∙ ap (after_word w) f.moment;
        wakes = wakes-told b w es;
        no_socket = f.no_socket;
        stopping = stopping-told w es t (f.stopping ∙ ap (λ o. is_to_end o t) to_come);
        client = f.client;
        no_more = f.no_more;
      }

  -- all are told
  pub stands-told : (h' : Held S) (book' : Book) → ((s : StrandId) → h'.seats s ≡ h.seats s) → h'.run_queue ≡ h.run_queue → h'.offer_queue ≡ h.offer_queue → h'.in_offers ≡ h.in_offers → h'.now ≡ after_word w h.now → h'.connections ≡ h.connections → h'.to_come ≡ to_come_after w → h'.agenda ≡ h.agenda
      → book'.history ≡ told (word_entry w ∷ []) book.history → book'.offered ≡ book.offered → KeepsIds book book'
      → Standing b st h' book' (Everyone w ∷ ms)
  stands-told h' book' seats runs_same offers_same phase now count ends armed history offers ids =
      let arrivals : book'.arrivals ≡ book.arrivals = ids.arrivals in
      let died = λ (s : StrandId) (gone : lives (projection s (Everyone w ∷ ms)) ≡ false). by_test (lives (projection s ms))
      (λ live. clash (let one : lives (Told w ∷ projection s ms) ≡ true = live in ap lives (heard (lives (projection s ms)) w (projection s ms) live) ∙ one) gone)
      (λ off. off) in
      let lived = λ (t : ℕ) (gone : lives (projection (strand.Conn t) (Everyone w ∷ ms)) ≡ false). died (strand.Conn t) gone in
      record {
        each = λ t on. by_test (lives (projection (strand.Conn t) ms))
            (λ live. fit-same (phase ∙ running) now (ap (λ o. is_to_end o t) ends) (ap is_to_wake ends) (heard (lives (projection (strand.Conn t) ms)) w (projection (strand.Conn t) ms) live) refl
            (ap (only (strand.Conn t)) (runs_same ∙ run_queue)) (ap (only (strand.Conn t)) (offers_same ∙ offer_queue)) (ids.is_open (id.Conn t)) (ids.has_ended (id.Conn t)) (fit-told t (h'.seats (strand.Conn t)) (seats (strand.Conn t)) live))
            (λ gone. clash on (ap lives (unheard (lives (projection (strand.Conn t) ms)) w (projection (strand.Conn t) ms) gone) ∙ gone));
        dead = λ t gone. seats (strand.Conn t) ∙ g.dead t (lived t gone);
        closed = λ t gone. ids.is_open (id.Conn t) ∙ g.closed t (lived t gone);
        shut = λ t gone q. ap (is_open q) (unheard (lives (projection (strand.Conn t) ms)) w (projection (strand.Conn t) ms) (lived t gone)) ∙ g.shut t (lived t gone) q;
        forgotten = λ t gone. ids.has_ended (id.Conn t) ∙ g.forgotten t (lived t gone);
        aside = λ s. ids.strand_aside s ∙ g.aside s ∙ sym (by_test (lives (projection s ms)) (λ live. ap lives (heard (lives (projection s ms)) w (projection s ms) live)) (λ gone. ap lives (unheard (lives (projection s ms)) w (projection s ms) gone)));
        flip_to_runs = λ run on. absurd (let e : false ≡ true = on in cc);
        flip_to_offers = λ offer off. runs_same ∙ run_queue;
        comes = come-same (to_come_after w) h'.to_come b (Everyone w ∷ ms) ends (comes-told b w ms);
        agenda = g.agenda ∙ sym armed;
        disarmed = λ s gone. ap (deadlines s) armed ∙ g.disarmed s (died s gone);
        common = record {
          alone = alone-told;
          begins = (g.common.begins, tt);
          given = (g.common.given, λ e. at-rest b st ms h book g run_queue offer_queue to_come);
          kept = (g.common.kept, λ e. none-holds b st ms h book g run_queue offer_queue to_come keeps);
          plain = (g.common.plain, tt);
          ordered = (g.common.ordered, tt);
          served = (g.common.served, tt);
          runs = ap (without_dead (Everyone w ∷ ms)) (runs_same ∙ run_queue) ∙ sym (no-thread b st ms h book g run_queue);
          offered = ap (without_dead (Everyone w ∷ ms)) (offers_same ∙ offer_queue) ∙ sym (no-place b st ms h book g offer_queue);
          told = tells-more book.history book'.history (word_entry w ∷ []) (external b ms) g.common.told history;
          offers_told = tells-same book.offered book'.offered (offered_lengths b ms) g.common.offers_told offers;
          unborn = λ t past. unheard (lives (projection (strand.Conn t) ms)) w (projection (strand.Conn t) ms) (ap lives (g.common.unborn t (rw arrivals at past))) ∙ g.common.unborn t (rw arrivals at past);
          jobless = λ n. unheard (lives (projection (strand.Job n) ms)) w (projection (strand.Job n) ms) (ap lives (g.common.jobless n)) ∙ g.common.jobless n;
          no_socket = λ n. ids.is_open (id.Sock n) ∙ g.common.no_socket n;
          asides = (same-keeps 0 ids).asides g.common.asides;
          count = g.common.count ∙ sym count;
          arrived = let known = g.common.arrived in omega (arith, arrivals, known);
          present = present-told w ms ∙ ap (after_word w) g.common.present ∙ sym now;
        };
      }

-- whoever comes after c, comes after whom c comes after
after-more : (last : Option ℕ) (c t : ℕ) → is_after last c ≡ true → c < t → is_after last t ≡ nat_lt c t
after-more None c t h less = grind (arith, nat_tests)
after-more (Some l) c t h less = grind (arith, nat_tests)

not-after : (c t : ℕ) → t ≤ c → nat_lt c t ≡ false
not-after c t h = grind (arith, nat_tests)

less-or : (c t : ℕ) → (t == c) ≡ false → (t < c) ⊎ (c < t)
less-or c t ne = elim (cases_lt t c) [ inl less ↦ inl less | inr more ↦ inr (grind (arith, nat_tests)) ]

module _ {J S : Type 0} (b : Behavior J) (st : S → List (LocalAction J) → Type 0) (ms : List (GlobalAction J)) (h : Held S) (book : Book) (g : Standing b st h book ms) (last : Option ℕ) (to_come : h.to_come ≡ coming.Endings last) where
  -- a living strand whose seat would be empty isn't there
  seated : (t : ℕ) → lives (projection (strand.Conn t) ms) ≡ true → h.seats (strand.Conn t) ≡ None → ⊥
  seated t live nil = let f = (g.each t live).held in let e : Some f.0 ≡ None = sym f.1 ∙ nil in cc

  -- no strand that lives is still to be ended
  pub stands-ended : (h' : Held S) → ((t : ℕ) → is_after last t ≡ true → h.seats (strand.Conn t) ≡ None) → h' ≡ record h { to_come = coming.Nothing } → Standing b st h' book ms
  stands-ended h' none held = rw held (record {
    each = λ t live. fit-same refl refl (sym (ap (λ o. is_to_end o t) to_come ∙ by_test (is_after last t) (λ on. absurd (seated t live (none t on))) (λ off. off))) (sym (ap is_to_wake to_come)) refl refl refl refl refl refl (g.each t live);
    dead = g.dead;
    closed = g.closed;
    shut = g.shut;
    aside = g.aside;
    forgotten = g.forgotten;
    flip_to_runs = g.flip_to_runs;
    flip_to_offers = g.flip_to_offers;
    comes = λ waking. absurd (let stops : phase_of ms ≡ Stopping = come-same h.to_come (coming.Endings last) b ms (sym to_come) g.comes in let e : Waking ≡ Stopping = sym waking ∙ stops in cc);
    agenda = g.agenda;
    disarmed = g.disarmed;
    common = g.common;
  })

  -- whoever comes first has no strand any more
  pub stands-passed : (c : ℕ) (h' : Held S) → is_after last c ≡ true → ((t : ℕ) → is_after last t ≡ true → t < c → h.seats (strand.Conn t) ≡ None) → h.seats (strand.Conn c) ≡ None
      → h' ≡ record h { to_come = coming.Endings (Some c) } → Standing b st h' book ms
  stands-passed c h' after before gone held = rw held (record {
    each = λ t live. fit-same refl refl
        (by_test (t == c)
        (λ e. absurd (seated t live (ap (λ i. h.seats (strand.Conn i)) (eqb-true t c e) ∙ gone)))
        (λ ne. elim (less-or c t ne) [
          | inl less ↦ not-after c t (omega (arith, less)) ∙ sym (ap (λ o. is_to_end o t) to_come ∙ by_test (is_after last t) (λ on. absurd (seated t live (before t on less))) (λ off. off))
          | inr more ↦ sym (ap (λ o. is_to_end o t) to_come ∙ after-more last c t after more)
        ]))
        (sym (ap is_to_wake to_come)) refl refl refl refl refl refl (g.each t live);
    dead = g.dead;
    closed = g.closed;
    shut = g.shut;
    aside = g.aside;
    forgotten = g.forgotten;
    flip_to_runs = g.flip_to_runs;
    flip_to_offers = g.flip_to_offers;
    comes = come-same h.to_come (coming.Endings last) b ms (sym to_come) g.comes;
    agenda = g.agenda;
    disarmed = g.disarmed;
    common = g.common;
  })

  -- the first that is to be ended takes its last turn
  pub turn-halt : (asks : (es : List (LocalAction J)) → IsLastAct (b.acts es)) (c : ℕ) (x : Seat S) (h' : Held S)
      → is_after last c ≡ true → ((t : ℕ) → is_after last t ≡ true → t < c → h.seats (strand.Conn t) ≡ None)
      → h.seats (strand.Conn c) ≡ Some x → h.in_offers ≡ false
      → ((s : StrandId) → h'.seats s ≡ (if same_strand s (strand.Conn c) then None else h.seats s)) → h'.run_queue ≡ h.run_queue → h'.offer_queue ≡ h.offer_queue → h'.in_offers ≡ h.in_offers → h'.now ≡ h.now → h'.connections ≡ h.connections → h'.to_come ≡ coming.Endings (Some c) → h'.agenda ≡ h.agenda
      → Turn b st c x.strand seen.Stop false x.is_open h' book ms
  turn-halt asks c x h' after before here running seats runs_same offers_same phase now count ends armed =
      let z : Action J = Halted in
      let es : List (LocalAction J) = projection (strand.Conn c) ms in
      let live : lives es ≡ true = seat-lives b st c ms h book x g here in
      let mine = g.each c live in
      let fits = seat-fits b st c ms h book x g here in
      let out : h'.seats (strand.Conn c) ≡ None = seats (strand.Conn c) ∙ ap (λ v. if v then None else h.seats (strand.Conn c)) (same-true c) in
      let passed = λ (t : ℕ) (less : t < c) (alive : lives (projection (strand.Conn t) ms) ≡ true). by_test (is_after last t) (λ on. absurd (seated t alive (before t on less))) (λ off. off) in
      let others = λ (t : ℕ) (ne : (t == c) ≡ false) (alive : lives (projection (strand.Conn t) ms) ≡ true). ap (λ o. is_to_end o t) ends ∙ elim (less-or c t ne) [
        | inl less ↦ not-after c t (omega (arith, less)) ∙ sym (ap (λ o. is_to_end o t) to_come ∙ passed t less alive)
        | inr more ↦ sym (ap (λ o. is_to_end o t) to_come ∙ after-more last c t after more)
      ] in
      let a = around-leave b st c ms h h' book x g here seats (λ t ne. ap (only (strand.Conn t)) runs_same) (λ t ne. ap (only (strand.Conn t)) offers_same) phase now count others (ap is_to_wake ends ∙ sym (ap is_to_wake to_come)) (λ s ne. ap (deadlines s) armed) in
      turn-next b st c ms asks seen.Stop x.strand false x.is_open x.is_open h' h' h.run_queue h.offer_queue book book a fits.0 (mine.moment ∙ sym now)
      (record { seats = λ t ne. refl; run_queue = λ t ne. refl; offer_queue = λ t ne. refl; in_offers = refl; now = refl; ends = λ t ne. refl; wakes = refl; deadlines = λ s ne. refl }) (book-same c book) out
      (record {
        enabled = (record { living = live; no_act = mine.no_act; no_offer = mine.no_offer }, inl (mine.stopping ∙ ap (λ o. is_to_end o c) to_come ∙ after));
        begins = (g.common.begins, tt);
        given = (g.common.given, λ e. absurd (let w : false ≡ true = e in cc));
        kept = (g.common.kept, λ e. absurd (let w : false ≡ true = e in cc));
        plain = (g.common.plain, refl);
        ordered = (g.common.ordered, (between b st ms h book g, inl (stops, first)));
        served = refl;
        counts = g.common.count ∙ sym count;
      }) live (sym fits.1) (mine.client ∙ sym fits.1) mine.no_socket (g.aside (strand.Conn c) ∙ live) refl g.common.told g.common.offers_told
      (ap (without_dead ms) runs_same ∙ g.common.runs) (ap (without_dead ms) offers_same ∙ g.common.offered)
      (record {
        done = mine.no_act;
        no_use = refl;
        threads = mine.threads ∙ sym (ap (only (strand.Conn c)) runs_same);
        offered = mine.offered ∙ sym (ap (only (strand.Conn c)) offers_same);
        agenda = g.agenda ∙ sym armed;
        kind = sym (phase ∙ running);
        offer = (λ e. absurd (let w : false ≡ true = e in cc));
        moment = mine.moment ∙ sym now;
        stopping = refl;
        no_more = mine.no_more;
        not_to_end = ap (λ o. is_to_end o c) ends ∙ not-after c c (omega arith);
        wakes = sym (ap is_to_wake ends);
        phase = stops ∙ sym (ap phase_at ends);
        last = sym (phase ∙ running);
      })
    where
      stops : phase_of ms ≡ Stopping
      stops = come-same h.to_come (coming.Endings last) b ms (sym to_come) g.comes

      own-live : lives (projection (strand.Conn c) ms) ≡ true
      own-live = seat-lives b st c ms h book x g here

      -- it is the first that Stop is still to end
      first : next_to_stop ms ≡ Some (strand.Conn c)
      first = first-served b (λ es. lives es && is_stopping es) ms c refl (strands-rising b ms g.common.served g.common.alone g.common.begins g.common.plain g.common.ordered)
          (ap (λ v. v && is_stopping (projection (strand.Conn c) ms)) own-live ∙ (g.each c own-live).stopping ∙ ap (λ o. is_to_end o c) to_come ∙ after)
          (λ t less. by_test (lives (projection (strand.Conn t) ms))
          (λ alive. ap (λ v. v && is_stopping (projection (strand.Conn t) ms)) alive ∙ (g.each t alive).stopping ∙ ap (λ o. is_to_end o t) to_come ∙ by_test (is_after last t) (λ on. absurd (seated t alive (before t on less))) (λ off. off))
          (λ off. ap (λ v. v && is_stopping (projection (strand.Conn t) ms)) off))
