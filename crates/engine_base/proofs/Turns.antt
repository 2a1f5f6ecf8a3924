-- How turns begin: a thread runs, a place is offered, a write is answered.
use Rattle.engine_base.specs.declared.seats.ToCome.TheVariants as coming
use Rattle.std.proofs.Common.{◌≡◌, ℕ, ◌≤◌, Bool, true, false, ◌==◌, List, [], ◌∷◌, ◌&&◌, drop, Option, Some, None, if◌then◌else◌, refl, sym, ap, subst, ◌∙◌, append-nil, arith}
use Rattle.std.proofs.lemmas.Bool.{eqb-true}
use Rattle.std.proofs.lemmas.Option.{same_Some}
use Rattle.resty_base.specs.declared.names.Id.TheVariants as id
use Rattle.resty_base.specs.declared.names.StrandId.{StrandId}
use Rattle.resty_base.specs.declared.names.StrandId.TheVariants as strand
use Rattle.resty_base.specs.BoolLaws.{by_test}
use Rattle.resty_world.specs.Book.{Book, told}
use Rattle.resty_world.specs.Ids.{same_strand}
use Rattle.strand_contract.specs.declared.turns.Place.{Place}
use Rattle.strand_contract.specs.declared.turns.Place.TheVariants as place
use Rattle.strand_contract.specs.declared.turns.Act.{Act}
use Rattle.strand_contract.specs.declared.turns.Seen.{Seen}
use Rattle.strand_contract.specs.declared.turns.Seen.TheVariants as seen
use Rattle.strand_contract.specs.Actions.{Action, LocalAction, Did, Run, Offer}
use Rattle.strand_contract.specs.Behaviors.{Behavior}
use Rattle.strand_contract.specs.OpenPlaceLaws.{none-open}
use Rattle.strand_contract.specs.Alone.{lives, moment, is_open, has_ended, todo, waiting, to_offer, begun_offer, in_offers, is_stopping, is_waking}
use Rattle.executions.specs.Executions.{GlobalAction, Of, projection, present}
use Rattle.executions.specs.Strands.{NoneUnderWay, is_under_way}
use Rattle.executions.specs.Phases.{Phase, Waking, Stopping, Running, phase as phase_of}
use Rattle.executions.specs.Queues.{only, lined, placed, without_first, after_run, after_offer, run_queue as runs_of, offer_queue as offers_of}
use Rattle.executions.specs.Agenda.{armed_with, without_those, is_of, agenda, next_due}
use Rattle.executions.specs.OwnDeadlines.{deadlines}
use Rattle.executions.specs.Histories.{external, offered_lengths}
use Rattle.executions.specs.Ordered.{HasSettledIn, HasSettled}
use Rattle.strand_contract.specs.Calls.{action_of}
use Rattle.strand_contract.specs.Laws.{is_still, IsLastAct}
use Rattle.engine_base.specs.declared.seats.Seat.{Seat}
use Rattle.engine_base.specs.Right.{Tells}
use Rattle.engine_base.specs.Standing.{Held, is_to_end, is_to_wake, phase_at, HasCome, without_dead, Around, Busy, Turn, Standing, Falls, IsOffer}
use Rattle.engine_base.proofs.Lists.{same-true}
use Rattle.engine_base.proofs.Agendas.{come-same, wake-same}
use Rattle.engine_base.proofs.Marks.{projection-same, touches, fit-same, SameHeld, SameBook, book-same, MayCome, has-arrived, arrives-none, common-next, around-next, Begins, near-begins}
use Rattle.executions.proofs.Strands.{none-that}
use Rattle.engine_base.proofs.Waiting.{runs-next, offers-next, still-dead}
use Rattle.engine_base.proofs.Served.{pool-none, pending-none}
use Rattle.engine_base.proofs.Acts.{not-under-way, not-open}

module _ {J S : Type 0} (b : Behavior J) (st : S → List (LocalAction J) → Type 0) (c : ℕ) (ms : List (GlobalAction J)) where
  pub seat-lives : (h : Held S) (book : Book) (x : Seat S) → Standing b st h book ms → h.seats (strand.Conn c) ≡ Some x → lives (projection (strand.Conn c) ms) ≡ true
  seat-lives h book x g here = by_test (lives (projection (strand.Conn c) ms)) (λ live. live) (λ gone. absurd (let e : Some x ≡ None = sym here ∙ g.dead c gone in cc))

  pub seat-fits : (h : Held S) (book : Book) (x : Seat S) → Standing b st h book ms → h.seats (strand.Conn c) ≡ Some x → st x.strand (projection (strand.Conn c) ms) × (x.is_open ≡ book.is_open (id.Conn c))
  seat-fits h book x g here =
      let f = (g.each c (seat-lives h book x g here)).held in
      let e : f.0 ≡ x = same_Some f.0 x (sym f.1 ∙ here) in
      subst (λ (y : Seat S). st y.strand (projection (strand.Conn c) ms) × (y.is_open ≡ book.is_open (id.Conn c))) e (f.2, f.3)

  -- the strand leaves its seat
  pub around-leave : (h h' : Held S) (book : Book) (x : Seat S)
      → Standing b st h book ms → h.seats (strand.Conn c) ≡ Some x
      → ((s : StrandId) → h'.seats s ≡ (if same_strand s (strand.Conn c) then None else h.seats s))
      → ((t : ℕ) → (t == c) ≡ false → only (strand.Conn t) h'.run_queue ≡ only (strand.Conn t) h.run_queue)
      → ((t : ℕ) → (t == c) ≡ false → only (strand.Conn t) h'.offer_queue ≡ only (strand.Conn t) h.offer_queue)
      → h'.in_offers ≡ h.in_offers → h'.now ≡ h.now → h'.connections ≡ h.connections
      → ((t : ℕ) → (t == c) ≡ false → lives (projection (strand.Conn t) ms) ≡ true → is_to_end h'.to_come t ≡ is_to_end h.to_come t)
      → is_to_wake h'.to_come ≡ is_to_wake h.to_come
      → ((s : StrandId) → same_strand s (strand.Conn c) ≡ false → deadlines s h'.agenda ≡ deadlines s h.agenda)
      → Around b st c true x.is_open h' h.run_queue h.offer_queue book ms
  around-leave h h' book x g here seats hq hp phase now count ends wakes armed =
      let live = seat-lives h book x g here in
      let mine = g.each c live in
      let fits = seat-fits h book x g here in
      let others = λ (t : ℕ) (ne : (t == c) ≡ false). seats (strand.Conn t) ∙ ap (λ v. if v then None else h.seats (strand.Conn t)) ne in
      record {
        each = λ t ne alive. fit-same phase now (ends t ne alive) wakes refl (others t ne) (hq t ne) (hp t ne) refl refl (g.each t alive);
        dead = λ t ne gone. others t ne ∙ g.dead t gone;
        closed = λ t ne gone. g.closed t gone;
        shut = λ t ne gone q. g.shut t gone q;
        aside = λ s ne. g.aside s;
        forgotten = λ t ne gone. g.forgotten t gone;
        out = seats (strand.Conn c) ∙ ap (λ v. if v then None else h.seats (strand.Conn c)) (same-true c);
        alive = live;
        connection = sym fits.1;
        client = mine.client ∙ sym fits.1;
        no_socket = mine.no_socket;
        own_aside = g.aside (strand.Conn c) ∙ live;
        disarmed = λ s ne gone. armed s ne ∙ g.disarmed s gone;
        common = record {
          alone = g.common.alone;
          begins = g.common.begins;
          given = g.common.given;
          kept = g.common.kept;
          plain = g.common.plain;
          ordered = g.common.ordered;
          served = g.common.served;
          runs = g.common.runs;
          offered = g.common.offered;
          told = g.common.told;
          offers_told = g.common.offers_told;
          unborn = g.common.unborn;
          jobless = g.common.jobless;
          no_socket = g.common.no_socket;
          asides = g.common.asides;
          count = g.common.count ∙ sym count;
          arrived = g.common.arrived;
          present = g.common.present ∙ sym now;
        };
      }

  -- what a strand is shown, out of its seat
  pub turn-next : (asks : (es : List (LocalAction J)) → IsLastAct (b.acts es)) (given : Seen) (x : S) (go o o' : Bool) (h h' : Held S) (threads : List (StrandId × ℕ)) (offer_queue : List (StrandId × Place)) (book book' : Book)
      → Around b st c true o h threads offer_queue book ms
      → st x (projection (strand.Conn c) ms) → moment (projection (strand.Conn c) ms) ≡ h'.now
      → SameHeld c h h' → SameBook c book book' → h'.seats (strand.Conn c) ≡ None
      → MayCome b c (action_of b (projection (strand.Conn c) ms) given) ms h'.connections
      → lives (Did (action_of b (projection (strand.Conn c) ms) given) ∷ projection (strand.Conn c) ms) ≡ true
      → book'.is_open (id.Conn c) ≡ o'
      → is_open place.Client (Did (action_of b (projection (strand.Conn c) ms) given) ∷ projection (strand.Conn c) ms) ≡ o'
      → ((k : ℕ) → is_open (place.Sock k) (Did (action_of b (projection (strand.Conn c) ms) given) ∷ projection (strand.Conn c) ms) ≡ false)
      → book'.strand_aside (strand.Conn c) ≡ true
      → book'.arrivals ≡ book.arrivals
      → Tells book'.history (external b (Of (strand.Conn c) (action_of b (projection (strand.Conn c) ms) given) None ∷ ms))
      → Tells book'.offered (offered_lengths b (Of (strand.Conn c) (action_of b (projection (strand.Conn c) ms) given) None ∷ ms))
      → without_dead ms h'.run_queue ≡ after_run (strand.Conn c) (action_of b (projection (strand.Conn c) ms) given) (runs_of b ms)
      → without_dead ms h'.offer_queue ≡ after_offer (strand.Conn c) (action_of b (projection (strand.Conn c) ms) given) (offers_of b ms)
      → Begins b st c ms (action_of b (projection (strand.Conn c) ms) given) go o' h' book'
      → Turn b st c x given go o' h' book' ms
  turn-next asks given x go o o' h h' threads offer_queue book book' a stands time sh sb out may live there client socks aside arrivals told offers_told runs list begins =
      let z : Action J = action_of b (projection (strand.Conn c) ms) given in
      let es : List (LocalAction J) = projection (strand.Conn c) ms in
      let born : c ≤ book'.arrivals = rw arrivals (has-arrived a) in
      record {
        stands = stands;
        moment = time;
        execution = (a.common.alone (strand.Conn c), may.enabled);
        near = near-begins b st c ms asks z go o' h' book'
            (around-next b st c ms z true true o o' h h' threads (lined (strand.Conn c) (b.acts (Did z ∷ es)) h'.run_queue) offer_queue (placed (strand.Conn c) (b.acts (Did z ∷ es)) h'.offer_queue) book book' a sh sb out live there client socks aside
            (rw sh.now (common-next b st c ms z threads (lined (strand.Conn c) (b.acts (Did z ∷ es)) h'.run_queue) offer_queue (placed (strand.Conn c) (b.acts (Did z ∷ es)) h'.offer_queue) h.now h.connections h'.connections
            book book' a.common may born (rw (arrives-none b (strand.Conn c) es given) (omega (arith, arrivals))) (λ n. sb.sockets n ∙ a.common.no_socket n) (sb.asides a.common.asides) told offers_told
            (runs-next b c z ms (b.acts (Did z ∷ es)) h'.run_queue live refl (still-dead b c z ms h'.run_queue (live ∙ sym a.alive) ∙ runs))
            (offers-next b c z ms (b.acts (Did z ∷ es)) h'.offer_queue live refl (still-dead b c z ms h'.offer_queue (live ∙ sym a.alive) ∙ list)))))
            begins;
      }

  pub turn-busy : (given : Seen) (x y : S) (acts : List (Act J)) (go o : Bool) (h : Held S) (book : Book)
      → Turn b st c x given go o h book ms → st y (Did (action_of b (projection (strand.Conn c) ms) given) ∷ projection (strand.Conn c) ms)
      → acts ≡ b.acts (Did (action_of b (projection (strand.Conn c) ms) given) ∷ projection (strand.Conn c) ms)
      → Busy b st c y acts go o h book (Of (strand.Conn c) (action_of b (projection (strand.Conn c) ms) given) None ∷ ms)
  turn-busy given x y acts go o h book t stands gave = record {
    near = rw gave t.near;
    stands = subst (λ (fs : List (LocalAction J)). st y fs) (sym (projection-same c (action_of b (projection (strand.Conn c) ms) given) None ms)) stands;
  }

pub no-job : {J : Type 0} (n : ℕ) (ms : List (GlobalAction J)) → projection (strand.Job n) ms ≡ [] → lives (projection (strand.Job n) ms) ≡ true → ⊥
no-job n ms nil live = absurd (let e : false ≡ true = sym (ap lives nil) ∙ live in cc)

module _ {J S : Type 0} (b : Behavior J) (st : S → List (LocalAction J) → Type 0) (ms : List (GlobalAction J)) (h : Held S) (book : Book) (g : Standing b st h book ms) where
  pub between : NoneUnderWay b ms
  between = none-that (is_under_way b) ms each
    where
      each : (s : StrandId) → is_under_way b (projection s ms) ≡ false
      each (strand.Conn t) = by_test (lives (projection (strand.Conn t) ms))
          (λ live. not-under-way b (projection (strand.Conn t) ms) live (g.each t live).no_act (g.each t live).no_offer)
          (λ off. not-open b (projection (strand.Conn t) ms) off (none-open (projection (strand.Conn t) ms) (g.shut t off)))
      each (strand.Job n) = ap (is_under_way b) (g.common.jobless n)

  -- all that a moment, or Stop, brings about has come
  pub settled : h.to_come ≡ coming.Nothing → HasSettled b ms
  settled no_end = settled-in (phase_of ms) refl
    where
      goes-on : (s : StrandId) → (lives (projection s ms) && is_stopping (projection s ms)) ≡ false
      goes-on (strand.Conn t) = by_test (lives (projection (strand.Conn t) ms))
          (λ live. ap (λ v. v && is_stopping (projection (strand.Conn t) ms)) live ∙ (g.each t live).stopping ∙ ap (λ o. is_to_end o t) no_end)
          (λ off. ap (λ v. v && is_stopping (projection (strand.Conn t) ms)) off)
      goes-on (strand.Job n) = ap (λ (es : List (LocalAction J)). lives es && is_stopping es) (g.common.jobless n)

      settled-in : (p : Phase) → phase_of ms ≡ p → HasSettledIn p b ms
      settled-in Waking e = let none : phase_of ms ≡ Waking → next_due b ms ≡ None = come-same h.to_come coming.Nothing b ms (sym no_end) g.comes in none e
      settled-in Stopping e = (none-that (λ es. lives es && is_stopping es) ms goes-on, pool-none ms g.common.served, pending-none b ms g.common.served)
      settled-in Running e = tt

  -- the queues are empty
  pub no-place : h.offer_queue ≡ [] → offers_of b ms ≡ []
  no-place nil = sym g.common.offered ∙ ap (without_dead ms) nil

  pub no-thread : h.run_queue ≡ [] → runs_of b ms ≡ []
  no-thread nil = sym g.common.runs ∙ ap (without_dead ms) nil

  -- the front of a queue is of a strand that lives
  pub first-run : (c k : ℕ) (rest : List (StrandId × ℕ)) → lives (projection (strand.Conn c) ms) ≡ true → h.run_queue ≡ (strand.Conn c, k) ∷ rest → runs_of b ms ≡ (strand.Conn c, k) ∷ without_dead ms rest
  first-run c k rest live front = sym g.common.runs ∙ ap (without_dead ms) front ∙ ap (λ v. if v then (strand.Conn c, k) ∷ without_dead ms rest else without_dead ms rest) live

  pub first-offer : (c : ℕ) (q : Place) (rest : List (StrandId × Place)) → lives (projection (strand.Conn c) ms) ≡ true → h.offer_queue ≡ (strand.Conn c, q) ∷ rest → offers_of b ms ≡ (strand.Conn c, q) ∷ without_dead ms rest
  first-offer c q rest live front = sym g.common.offered ∙ ap (without_dead ms) front ∙ ap (λ v. if v then (strand.Conn c, q) ∷ without_dead ms rest else without_dead ms rest) live

  -- one without a seat doesn't live
  pub no-seat : (s : StrandId) → h.seats s ≡ None → lives (projection s ms) ≡ false
  no-seat (strand.Conn t) gone = by_test (lives (projection (strand.Conn t) ms)) (λ live. let f = (g.each t live).held in absurd (let e : Some f.0 ≡ None = sym f.1 ∙ gone in cc)) (λ off. off)
  no-seat (strand.Job n) gone = ap lives (g.common.jobless n)

  -- the front of a queue is of a strand that has no seat
  pub skip-run : (h' : Held S) (s : StrandId) (k : ℕ) (rest : List (StrandId × ℕ)) → h.run_queue ≡ (s, k) ∷ rest → h.seats s ≡ None
      → ((t : StrandId) → h'.seats t ≡ (if same_strand t s then None else h.seats t)) → h'.run_queue ≡ rest → h'.offer_queue ≡ h.offer_queue → h'.in_offers ≡ h.in_offers → h'.now ≡ h.now → h'.connections ≡ h.connections → h'.to_come ≡ h.to_come → h'.agenda ≡ h.agenda
      → Standing b st h' book ms
  skip-run h' s k rest front gone seats run_queue offer_queue phase now count ends armed = record {
    each = λ t live. let f = g.each t live in
        by_test (same_strand (strand.Conn t) s)
        (λ e. absurd (seated t s f.held.0 f.held.1 e gone))
        (λ ne. fit-same phase now (ap (λ o. is_to_end o t) ends) (ap is_to_wake ends) refl (seats (strand.Conn t) ∙ ap (λ v. if v then None else h.seats (strand.Conn t)) ne) (ap (only (strand.Conn t)) run_queue ∙ sym (ap (only (strand.Conn t)) front ∙ ap (λ v. if v then k ∷ only (strand.Conn t) rest else only (strand.Conn t) rest) ne)) (ap (only (strand.Conn t)) offer_queue) refl refl f);
    dead = λ t off. by_test (same_strand (strand.Conn t) s)
        (λ e. seats (strand.Conn t) ∙ ap (λ v. if v then None else h.seats (strand.Conn t)) e)
        (λ ne. seats (strand.Conn t) ∙ ap (λ v. if v then None else h.seats (strand.Conn t)) ne ∙ g.dead t off);
    closed = g.closed;
    shut = g.shut;
    aside = g.aside;
    forgotten = g.forgotten;
    flip_to_runs = λ run on. offer_queue ∙ g.flip_to_runs (sym phase ∙ run) on;
    flip_to_offers = λ offer off. absurd (let e : (s, k) ∷ rest ≡ [] = sym front ∙ g.flip_to_offers (sym phase ∙ offer) off in cc);
    comes = come-same h.to_come h'.to_come b ms ends g.comes;
    agenda = g.agenda ∙ sym armed;
    disarmed = λ r off. ap (deadlines r) armed ∙ g.disarmed r off;
    common = record {
      alone = g.common.alone;
      begins = g.common.begins;
      given = g.common.given;
      kept = g.common.kept;
      plain = g.common.plain;
      ordered = g.common.ordered;
      served = g.common.served;
      runs = ap (without_dead ms) run_queue ∙ sym (ap (without_dead ms) front ∙ ap (λ v. if v then (s, k) ∷ without_dead ms rest else without_dead ms rest) (no-seat s gone)) ∙ g.common.runs;
      offered = ap (without_dead ms) offer_queue ∙ g.common.offered;
      told = g.common.told;
      offers_told = g.common.offers_told;
      unborn = g.common.unborn;
      jobless = g.common.jobless;
      no_socket = g.common.no_socket;
      asides = g.common.asides;
      count = g.common.count ∙ sym count;
      arrived = g.common.arrived;
      present = g.common.present ∙ sym now;
    };
  }
    where
      seated : (t : ℕ) (s : StrandId) (x : Seat S) → h.seats (strand.Conn t) ≡ Some x → same_strand (strand.Conn t) s ≡ true → h.seats s ≡ None → ⊥
      seated t (strand.Conn c) x some same nil = let e : Some x ≡ None = sym some ∙ subst (λ (i : ℕ). h.seats (strand.Conn i) ≡ None) (sym (eqb-true t c same)) nil in cc
      seated t (strand.Job n) x some same nil = absurd (let e : false ≡ true = same in cc)

  pub skip-offer : (h' : Held S) (s : StrandId) (q : Place) (rest : List (StrandId × Place)) → h.offer_queue ≡ (s, q) ∷ rest → h.seats s ≡ None
      → ((t : StrandId) → h'.seats t ≡ (if same_strand t s then None else h.seats t)) → h'.offer_queue ≡ rest → h'.run_queue ≡ h.run_queue → h'.in_offers ≡ h.in_offers → h'.now ≡ h.now → h'.connections ≡ h.connections → h'.to_come ≡ h.to_come → h'.agenda ≡ h.agenda
      → Standing b st h' book ms
  skip-offer h' s q rest front gone seats offer_queue run_queue phase now count ends armed = record {
    each = λ t live. let f = g.each t live in
        by_test (same_strand (strand.Conn t) s)
        (λ e. absurd (seated t s f.held.0 f.held.1 e gone))
        (λ ne. fit-same phase now (ap (λ o. is_to_end o t) ends) (ap is_to_wake ends) refl (seats (strand.Conn t) ∙ ap (λ v. if v then None else h.seats (strand.Conn t)) ne) (ap (only (strand.Conn t)) run_queue) (ap (only (strand.Conn t)) offer_queue ∙ sym (ap (only (strand.Conn t)) front ∙ ap (λ v. if v then q ∷ only (strand.Conn t) rest else only (strand.Conn t) rest) ne)) refl refl f);
    dead = λ t off. by_test (same_strand (strand.Conn t) s)
        (λ e. seats (strand.Conn t) ∙ ap (λ v. if v then None else h.seats (strand.Conn t)) e)
        (λ ne. seats (strand.Conn t) ∙ ap (λ v. if v then None else h.seats (strand.Conn t)) ne ∙ g.dead t off);
    closed = g.closed;
    shut = g.shut;
    aside = g.aside;
    forgotten = g.forgotten;
    flip_to_runs = λ run on. absurd (let e : (s, q) ∷ rest ≡ [] = sym front ∙ g.flip_to_runs (sym phase ∙ run) on in cc);
    flip_to_offers = λ offer off. run_queue ∙ g.flip_to_offers (sym phase ∙ offer) off;
    comes = come-same h.to_come h'.to_come b ms ends g.comes;
    agenda = g.agenda ∙ sym armed;
    disarmed = λ r off. ap (deadlines r) armed ∙ g.disarmed r off;
    common = record {
      alone = g.common.alone;
      begins = g.common.begins;
      given = g.common.given;
      kept = g.common.kept;
      plain = g.common.plain;
      ordered = g.common.ordered;
      served = g.common.served;
      runs = ap (without_dead ms) run_queue ∙ g.common.runs;
      offered = ap (without_dead ms) offer_queue ∙ sym (ap (without_dead ms) front ∙ ap (λ v. if v then (s, q) ∷ without_dead ms rest else without_dead ms rest) (no-seat s gone)) ∙ g.common.offered;
      told = g.common.told;
      offers_told = g.common.offers_told;
      unborn = g.common.unborn;
      jobless = g.common.jobless;
      no_socket = g.common.no_socket;
      asides = g.common.asides;
      count = g.common.count ∙ sym count;
      arrived = g.common.arrived;
      present = g.common.present ∙ sym now;
    };
  }
    where
      seated : (t : ℕ) (s : StrandId) (x : Seat S) → h.seats (strand.Conn t) ≡ Some x → same_strand (strand.Conn t) s ≡ true → h.seats s ≡ None → ⊥
      seated t (strand.Conn c) x some same nil = let e : Some x ≡ None = sym some ∙ subst (λ (i : ℕ). h.seats (strand.Conn i) ≡ None) (sym (eqb-true t c same)) nil in cc
      seated t (strand.Job n) x some same nil = absurd (let e : false ≡ true = same in cc)

  -- a thread runs
  pub turn-run : (asks : (es : List (LocalAction J)) → IsLastAct (b.acts es)) (c k : ℕ) (rest : List (StrandId × ℕ)) (x : Seat S) (h' : Held S)
      → h.run_queue ≡ (strand.Conn c, k) ∷ rest → h.seats (strand.Conn c) ≡ Some x → h.in_offers ≡ false → h.to_come ≡ coming.Nothing
      → ((t : StrandId) → h'.seats t ≡ (if same_strand t (strand.Conn c) then None else h.seats t)) → h'.run_queue ≡ rest → h'.offer_queue ≡ h.offer_queue → h'.in_offers ≡ h.in_offers → h'.now ≡ h.now → h'.connections ≡ h.connections → h'.to_come ≡ h.to_come → h'.agenda ≡ h.agenda
      → Turn b st c x.strand (seen.Run k) false x.is_open h' book ms
  turn-run asks c k rest x h' front here running no_end seats run_queue offer_queue phase now count ends armed =
      let z : Action J = Run k in
      let es : List (LocalAction J) = projection (strand.Conn c) ms in
      let live : lives es ≡ true = seat-lives b st c ms h book x g here in
      let mine = g.each c live in
      let fits = seat-fits b st c ms h book x g here in
      let ahead : waiting b es ≡ k ∷ only (strand.Conn c) rest = mine.threads ∙ ap (only (strand.Conn c)) front ∙ ap (λ v. if v then k ∷ only (strand.Conn c) rest else only (strand.Conn c) rest) (same-true c) in
      let out : h'.seats (strand.Conn c) ≡ None = seats (strand.Conn c) ∙ ap (λ v. if v then None else h.seats (strand.Conn c)) (same-true c) in
      let a = around-leave b st c ms h h' book x g here seats
      (λ t ne. ap (only (strand.Conn t)) run_queue ∙ sym (ap (only (strand.Conn t)) front ∙ ap (λ v. if v then k ∷ only (strand.Conn t) rest else only (strand.Conn t) rest) ne)) (λ t ne. ap (only (strand.Conn t)) offer_queue) phase now count (λ t ne alive. ap (λ o. is_to_end o t) ends) (ap is_to_wake ends) (λ s ne. ap (deadlines s) armed) in
      turn-next b st c ms asks (seen.Run k) x.strand false x.is_open x.is_open h' h' h.run_queue h.offer_queue book book a fits.0 (mine.moment ∙ sym now)
      (record { seats = λ t ne. refl; run_queue = λ t ne. refl; offer_queue = λ t ne. refl; in_offers = refl; now = refl; ends = λ t ne. refl; wakes = refl; deadlines = λ s ne. refl }) (book-same c book) out
      (record {
        enabled = (record { living = live; no_act = mine.no_act; no_offer = mine.no_offer }, (only (strand.Conn c) rest, sym ahead), (λ on. mine.offered ∙ (mine.runs_first running on)), (wake-same (is_to_wake h.to_come) false b es (sym (ap is_to_wake no_end)) mine.wakes), (mine.stopping ∙ ap (λ o. is_to_end o c) no_end));
        begins = (g.common.begins, tt);
        given = (g.common.given, λ e. absurd (let w : false ≡ true = e in cc));
        kept = (g.common.kept, λ e. absurd (let w : false ≡ true = e in cc));
        plain = (g.common.plain, refl);
        ordered = (g.common.ordered, (between, settled no_end, (λ on. no-place (g.flip_to_runs running on)), (without_dead ms rest, first-run c k rest live front)));
        served = refl;
        counts = g.common.count ∙ sym count;
      }) live (sym fits.1) (mine.client ∙ sym fits.1) mine.no_socket (g.aside (strand.Conn c) ∙ live) refl g.common.told g.common.offers_told
      (ap (without_dead ms) run_queue ∙ sym (ap (without_first (strand.Conn c)) (first-run c k rest live front) ∙ ap (λ v. if v then without_dead ms rest else (strand.Conn c, k) ∷ without_first (strand.Conn c) (without_dead ms rest)) (same-true c)))
      (ap (without_dead ms) offer_queue ∙ g.common.offered)
      (record {
        done = mine.no_act;
        no_use = refl;
        threads = ap (drop 1) ahead ∙ sym (ap (only (strand.Conn c)) run_queue);
        offered = mine.offered ∙ sym (ap (only (strand.Conn c)) offer_queue);
        agenda = g.agenda ∙ sym armed;
        kind = sym (phase ∙ running);
        offer = (λ e. absurd (let w : false ≡ true = e in cc));
        moment = mine.moment ∙ sym now;
        stopping = mine.stopping ∙ ap (λ o. is_to_end o c) no_end;
        no_more = mine.no_more;
        not_to_end = ap (λ o. is_to_end o c) (ends ∙ no_end);
        wakes = sym (ap is_to_wake (ends ∙ no_end));
        phase = sym (ap phase_at (ends ∙ no_end));
        last = sym (phase ∙ running);
      })

  -- a place is offered: what is known of the others, and of the strand
  offer-around : (quiet : (a : LocalAction J) (es : List (LocalAction J)) → is_still a ≡ true → b.acts (a ∷ es) ≡ []) (c : ℕ) (q : Place) (rest : List (StrandId × Place)) (x : Seat S) (h' : Held S)
      → h.offer_queue ≡ (strand.Conn c, q) ∷ rest → h.seats (strand.Conn c) ≡ Some x → h.in_offers ≡ true → h.to_come ≡ coming.Nothing
      → ((t : StrandId) → h'.seats t ≡ (if same_strand t (strand.Conn c) then None else h.seats t)) → h'.offer_queue ≡ rest → h'.run_queue ≡ h.run_queue → h'.in_offers ≡ h.in_offers → h'.now ≡ h.now → h'.connections ≡ h.connections → h'.to_come ≡ h.to_come → h'.agenda ≡ h.agenda
      → Around b st c true x.is_open h' h'.run_queue h'.offer_queue book (Of (strand.Conn c) (Offer q) None ∷ ms)
  offer-around quiet c q rest x h' front here running no_end seats offer_queue run_queue phase now count ends armed =
      let z : Action J = Offer q in
      let es : List (LocalAction J) = projection (strand.Conn c) ms in
      let live : lives es ≡ true = seat-lives b st c ms h book x g here in
      let mine = g.each c live in
      let fits = seat-fits b st c ms h book x g here in
      let none : b.acts (Did z ∷ es) ≡ [] = quiet (Did z) es refl in
      let ahead : to_offer b es ≡ q ∷ only (strand.Conn c) rest = mine.offered ∙ ap (only (strand.Conn c)) front ∙ ap (λ v. if v then q ∷ only (strand.Conn c) rest else only (strand.Conn c) rest) (same-true c) in
      let out : h'.seats (strand.Conn c) ≡ None = seats (strand.Conn c) ∙ ap (λ v. if v then None else h.seats (strand.Conn c)) (same-true c) in
      let a = around-leave b st c ms h h' book x g here seats
      (λ t ne. ap (only (strand.Conn t)) run_queue) (λ t ne. ap (only (strand.Conn t)) offer_queue ∙ sym (ap (only (strand.Conn t)) front ∙ ap (λ v. if v then q ∷ only (strand.Conn t) rest else only (strand.Conn t) rest) ne)) phase now count (λ t ne alive. ap (λ o. is_to_end o t) ends) (ap is_to_wake ends) (λ s ne. ap (deadlines s) armed) in
      around-next b st c ms z true true x.is_open x.is_open h' h' h.run_queue h'.run_queue h.offer_queue h'.offer_queue book book a
      (record { seats = λ t ne. refl; run_queue = λ t ne. refl; offer_queue = λ t ne. refl; in_offers = refl; now = refl; ends = λ t ne. refl; wakes = refl; deadlines = λ s ne. refl }) (book-same c book) out live (sym fits.1) (mine.client ∙ sym fits.1) mine.no_socket (g.aside (strand.Conn c) ∙ live)
      (common-next b st c ms z h.run_queue h'.run_queue h.offer_queue h'.offer_queue h'.now h'.connections h'.connections book book a.common
      (record {
        enabled = (record { living = live; no_act = mine.no_act; no_offer = mine.no_offer }, (only (strand.Conn c) rest, sym ahead), (λ off. mine.threads ∙ (mine.offers_first running off)), (wake-same (is_to_wake h.to_come) false b es (sym (ap is_to_wake no_end)) mine.wakes), (mine.stopping ∙ ap (λ o. is_to_end o c) no_end));
        begins = (g.common.begins, tt);
        given = (g.common.given, λ e. absurd (let w : false ≡ true = e in cc));
        kept = (g.common.kept, λ e. absurd (let w : false ≡ true = e in cc));
        plain = (g.common.plain, refl);
        ordered = (g.common.ordered, (between, settled no_end, (λ off. no-thread (g.flip_to_offers running off)), (without_dead ms rest, first-offer c q rest live front)));
        served = refl;
        counts = g.common.count ∙ sym count;
      }) (has-arrived a) (omega arith) g.common.no_socket g.common.asides g.common.told g.common.offers_told
      (runs-next b c z ms [] h'.run_queue live none (still-dead b c z ms h'.run_queue refl ∙ ap (without_dead ms) run_queue ∙ g.common.runs))
      (offers-next b c z ms [] h'.offer_queue live none (still-dead b c z ms h'.offer_queue refl ∙ ap (without_dead ms) offer_queue
      ∙ sym (ap (without_first (strand.Conn c)) (first-offer c q rest live front) ∙ ap (λ v. if v then without_dead ms rest else (strand.Conn c, q) ∷ without_first (strand.Conn c) (without_dead ms rest)) (same-true c)))))

  offered-armed : (quiet : (a : LocalAction J) (es : List (LocalAction J)) → is_still a ≡ true → b.acts (a ∷ es) ≡ []) (c : ℕ) (q : Place) → agenda b (Of (strand.Conn c) (Offer q) None ∷ ms) ≡ h.agenda
  offered-armed quiet c q = ap (λ taken. armed_with (strand.Conn c) taken (agenda b ms)) (quiet (Did (Offer q)) (projection (strand.Conn c) ms) refl) ∙ g.agenda

  pub falls-offered : (quiet : (a : LocalAction J) (es : List (LocalAction J)) → is_still a ≡ true → b.acts (a ∷ es) ≡ []) (c : ℕ) (q : Place) (rest : List (StrandId × Place)) (x : Seat S) (h' : Held S)
      → h.offer_queue ≡ (strand.Conn c, q) ∷ rest → h.seats (strand.Conn c) ≡ Some x → h.in_offers ≡ true → h.to_come ≡ coming.Nothing
      → ((t : StrandId) → h'.seats t ≡ (if same_strand t (strand.Conn c) then None else h.seats t)) → h'.offer_queue ≡ rest → h'.run_queue ≡ h.run_queue → h'.in_offers ≡ h.in_offers → h'.now ≡ h.now → h'.connections ≡ h.connections → h'.to_come ≡ h.to_come → h'.agenda ≡ h.agenda
      → Falls b st c x.is_open h' book (Of (strand.Conn c) (Offer q) None ∷ ms)
  falls-offered quiet c q rest x h' front here running no_end seats offer_queue run_queue phase now count ends armed = record {
    next_runs = h'.run_queue;
    next_offers = h'.offer_queue;
    around = offer-around quiet c q rest x h' front here running no_end seats offer_queue run_queue phase now count ends armed;
    same_runs = refl;
    same_offers = refl;
    agenda = ap (without_those (is_of (strand.Conn c))) (offered-armed quiet c q ∙ sym armed);
    phase = sym (ap phase_at (ends ∙ no_end));
    last = sym (phase ∙ running);
    touched = touches c (Offer q) None ms;
  }

  -- the client's connection is offered
  pub busy-offered : (still : (y : S) (a : LocalAction J) (es : List (LocalAction J)) → is_still a ≡ true → st y es → st y (a ∷ es)) (quiet : (a : LocalAction J) (es : List (LocalAction J)) → is_still a ≡ true → b.acts (a ∷ es) ≡ []) (c : ℕ) (rest : List (StrandId × Place)) (x : Seat S) (h' : Held S)
      → h.offer_queue ≡ (strand.Conn c, place.Client) ∷ rest → h.seats (strand.Conn c) ≡ Some x → h.in_offers ≡ true → h.to_come ≡ coming.Nothing
      → ((t : StrandId) → h'.seats t ≡ (if same_strand t (strand.Conn c) then None else h.seats t)) → h'.offer_queue ≡ rest → h'.run_queue ≡ h.run_queue → h'.in_offers ≡ h.in_offers → h'.now ≡ h.now → h'.connections ≡ h.connections → h'.to_come ≡ h.to_come → h'.agenda ≡ h.agenda
      → Busy b st c x.strand [] true x.is_open h' book (Of (strand.Conn c) (Offer place.Client) None ∷ ms)
  busy-offered still quiet c rest x h' front here running no_end seats offer_queue run_queue phase now count ends armed =
      let z : Action J = Offer place.Client in
      let es : List (LocalAction J) = projection (strand.Conn c) ms in
      let live : lives es ≡ true = seat-lives b st c ms h book x g here in
      let mine = g.each c live in
      let fits = seat-fits b st c ms h book x g here in
      let none : b.acts (Did z ∷ es) ≡ [] = quiet (Did z) es refl in
      let own : projection (strand.Conn c) (Of (strand.Conn c) z None ∷ ms) ≡ Did z ∷ es = projection-same c z None ms in
      let ahead : to_offer b es ≡ place.Client ∷ only (strand.Conn c) rest = mine.offered ∙ ap (only (strand.Conn c)) front ∙ ap (λ v. if v then place.Client ∷ only (strand.Conn c) rest else only (strand.Conn c) rest) (same-true c) in
      record {
        near = record {
          around = (offer-around quiet c place.Client rest x h' front here running no_end seats offer_queue run_queue phase now count ends armed);
          to_do = ap (todo b) own ∙ (rw (none, mine.no_act) refl);
          last_act = tt;
          threads = sym (ap (waiting b) own ∙ (rw none (mine.threads ∙ sym (ap (only (strand.Conn c)) run_queue))));
          offered = append-nil _ ∙ sym (ap (to_offer b) own ∙ (rw (none, ahead) (append-nil _ ∙ sym (ap (only (strand.Conn c)) offer_queue))));
          agenda = armed ∙ sym (offered-armed quiet c place.Client);
          kind = ap in_offers own ∙ sym (phase ∙ running);
          offer = subst (λ (fs : List (LocalAction J)). IsOffer true x.is_open (begun_offer fs)) (sym own) refl;
          moment = ap moment own ∙ mine.moment ∙ sym now;
          stopping = ap is_stopping own ∙ mine.stopping ∙ ap (λ o. is_to_end o c) no_end;
          no_more = ap (has_ended place.Client) own ∙ mine.no_more;
          not_to_end = ap (λ o. is_to_end o c) (ends ∙ no_end);
          wakes = ap is_waking own ∙ sym (ap is_to_wake (ends ∙ no_end));
          phase = sym (ap phase_at (ends ∙ no_end));
          last = sym (phase ∙ running);
          touched = touches c z None ms;
        };
        stands = subst (λ (fs : List (LocalAction J)). st x.strand fs) (sym own) (still x.strand (Did z) es refl fits.0);
      }
