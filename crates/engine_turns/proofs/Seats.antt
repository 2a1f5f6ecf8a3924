-- Strands that leave their seats, and come back to them.
use Rattle.std.proofs.Common.{◌≡◌, ℕ, ◌≤◌, Bool, true, false, ◌==◌, ◌&&◌, List, [], ◌∷◌, slice_get, drop, length, Option, Some, None, if◌then◌else◌, refl, sym, ap, subst, ◌∙◌, append-nil, arith}
use Rattle.std.proofs.lemmas.Bool.{eqb-true}
use Rattle.resty_base.specs.declared.names.StrandId.{StrandId}
use Rattle.resty_base.specs.declared.names.StrandId.TheVariants as strand
use Rattle.resty_base.specs.BoolLaws.{by_test, clash}
use Rattle.resty_world.specs.Book.{Book}
use Rattle.resty_world.specs.Ids.{same_strand}
use Rattle.resty_world.specs.IdLaws.{same_strand-eq}
use Rattle.strand_contract.specs.declared.turns.Place.{Place}
use Rattle.strand_contract.specs.declared.turns.Place.TheVariants as place
use Rattle.strand_contract.specs.Actions.{LocalAction}
use Rattle.strand_contract.specs.Behaviors.{Behavior, Meaning}
use Rattle.strand_contract.specs.Alone.{lives, offering, going_on, begun_offer}
use Rattle.executions.specs.Executions.{GlobalAction, projection}
use Rattle.wakes.specs.Queue.{QueueView, left, without_thread as without_thread_of}
use Rattle.executions.specs.Queues.{only, without_all, without_thread}
use Rattle.executions.specs.Agenda.{without_those, is_of}
use Rattle.executions.specs.OwnDeadlines.{deadlines}
use Rattle.engine_turns.specs.declared.turns.Turns.{Turns}
use Rattle.engine_base.specs.declared.seats.Seat.{Seat}
use Rattle.engine_tables.specs.declared.seats.Seats.{Seats}
use Rattle.engine_tables.specs.Seats.{seat_at}
use Rattle.engine_turns.specs.Turns.{IsBusy, IsDone}
use Rattle.engine_base.specs.Standing.{Held, is_to_wake, phase_at, share_of, said_of, without_dead, Fit, Busy, Standing, Falls, IsOffer}
use Rattle.engine_base.proofs.Lists.{same-true}
use Rattle.engine_base.proofs.Agendas.{come-of, come-same, may-wake}
use Rattle.engine_base.proofs.Marks.{fit-same}
use Rattle.engine_base.proofs.Acts.{aside-all}

module _ {J S : Type 0} (b : Behavior J) (st : S → List (LocalAction J) → Type 0) (c : ℕ) where
  -- the turn is over, and nothing is under way
  pub busy-done : (x : Seat S) (go : Bool) (h h' : Held S) (book : Book) (ms : List (GlobalAction J))
      → Busy b st c x.strand [] go x.is_open h book ms → offering b (projection (strand.Conn c) ms) ≡ None
      → ((s : StrandId) → h'.seats s ≡ (if same_strand s (strand.Conn c) then Some x else h.seats s))
      → h'.run_queue ≡ h.run_queue → h'.offer_queue ≡ h.offer_queue → h'.in_offers ≡ h.in_offers → h'.now ≡ h.now → h'.connections ≡ h.connections → h'.to_come ≡ h.to_come → h'.agenda ≡ h.agenda
      → Standing b st h' book ms
  busy-done x go h h' book ms y still seats run_queue offer_queue phase now count ends armed =
      let here : h'.seats (strand.Conn c) ≡ Some x = seats (strand.Conn c) ∙ ap (λ v. if v then Some x else h.seats (strand.Conn c)) (same-true c) in
      let other = λ (t : ℕ) (ne : (t == c) ≡ false). seats (strand.Conn t) ∙ ap (λ v. if v then Some x else h.seats (strand.Conn t)) ne in
      let n = y.near in
      let a = n.around in
      let es : List (LocalAction J) = projection (strand.Conn c) ms in
      let g : Held S = record h { seats = h'.seats } in
      let mine : Fit b st (share_of c g) (said_of c book) es = record {
        held = (x, here, y.stands, sym a.connection);
        no_act = n.to_do;
        threads = sym n.threads;
        offered = sym n.offered ∙ append-nil _;
        no_offer = still;
        runs_first = λ run on. clash on (n.kind ∙ run);
        offers_first = λ offer off. clash (n.kind ∙ offer) off;
        moment = n.moment;
        wakes = may-wake (is_to_wake h.to_come) b es n.wakes;
        no_socket = a.no_socket;
        stopping = n.stopping ∙ sym n.not_to_end;
        client = a.client ∙ sym a.connection;
        no_more = n.no_more;
      } in
      record {
        each = λ t live. rw (run_queue, offer_queue, phase, now, ends) (by_test (t == c)
            (λ e. subst (λ (i : ℕ). Fit b st (share_of i g) (said_of i book) (projection (strand.Conn i) ms)) (sym (eqb-true t c e)) mine)
            (λ ne. fit-same refl refl refl refl refl (other t ne) refl refl refl refl (a.each t ne live)));
        dead = λ t gone. by_test (t == c)
            (λ e. clash a.alive (subst (λ (i : ℕ). lives (projection (strand.Conn i) ms) ≡ false) (eqb-true t c e) gone))
            (λ ne. other t ne ∙ a.dead t ne gone);
        closed = λ t gone. by_test (t == c)
            (λ e. clash a.alive (subst (λ (i : ℕ). lives (projection (strand.Conn i) ms) ≡ false) (eqb-true t c e) gone))
            (λ ne. a.closed t ne gone);
        shut = λ t gone q. by_test (t == c)
            (λ e. clash a.alive (subst (λ (i : ℕ). lives (projection (strand.Conn i) ms) ≡ false) (eqb-true t c e) gone))
            (λ ne. a.shut t ne gone q);
        aside = aside-all c book ms a.aside (a.own_aside ∙ sym a.alive);
        forgotten = λ t gone. by_test (t == c)
            (λ e. clash a.alive (subst (λ (i : ℕ). lives (projection (strand.Conn i) ms) ≡ false) (eqb-true t c e) gone))
            (λ ne. a.forgotten t ne gone);
        flip_to_runs = λ run on. clash on (n.last ∙ sym phase ∙ run);
        flip_to_offers = λ offer off. clash (n.last ∙ sym phase ∙ offer) off;
        comes = come-same h.to_come h'.to_come b ms ends (come-of h.to_come b ms n.phase);
        agenda = sym n.agenda ∙ sym armed;
        disarmed = λ s gone. ap (deadlines s) armed ∙ by_test (same_strand s (strand.Conn c))
            (λ on. clash a.alive (subst (λ (r : StrandId). lives (projection r ms) ≡ false) (same_strand-eq s (strand.Conn c) on) gone))
            (λ off. a.disarmed s off gone);
        common = record {
          alone = a.common.alone;
          begins = a.common.begins;
          given = a.common.given;
          kept = a.common.kept;
          plain = a.common.plain;
          ordered = a.common.ordered;
          served = a.common.served;
          runs = ap (without_dead ms) run_queue ∙ a.common.runs;
          offered = ap (without_dead ms) offer_queue ∙ a.common.offered;
          told = a.common.told;
          offers_told = a.common.offers_told;
          unborn = a.common.unborn;
          jobless = a.common.jobless;
          no_socket = a.common.no_socket;
          asides = a.common.asides;
          count = a.common.count ∙ sym count;
          arrived = a.common.arrived;
          present = a.common.present ∙ sym now;
        };
      }

  -- the seats stay as they are
  pub falls-seats : (o : Bool) (h h' : Held S) (book : Book) (ms : List (GlobalAction J))
      → Falls b st c o h book ms → ((s : StrandId) → h'.seats s ≡ h.seats s)
      → h'.run_queue ≡ h.run_queue → h'.offer_queue ≡ h.offer_queue → h'.in_offers ≡ h.in_offers → h'.now ≡ h.now → h'.connections ≡ h.connections → h'.to_come ≡ h.to_come → h'.agenda ≡ h.agenda
      → Falls b st c o h' book ms
  falls-seats o h h' book ms f seats run_queue offer_queue phase now count ends armed = record {
    next_runs = f.next_runs;
    next_offers = f.next_offers;
    same_runs = f.same_runs ∙ sym (ap (without_all (strand.Conn c)) run_queue);
    same_offers = f.same_offers ∙ sym (ap (without_all (strand.Conn c)) offer_queue);
    agenda = f.agenda ∙ sym (ap (without_those (is_of (strand.Conn c))) armed);
    phase = f.phase ∙ sym (ap phase_at ends);
    around = record {
      each = λ t ne live. rw (run_queue, offer_queue, phase, now, ends) (fit-same refl refl refl refl refl (seats (strand.Conn t)) refl refl refl refl (f.around.each t ne live));
      dead = λ t ne gone. seats (strand.Conn t) ∙ f.around.dead t ne gone;
      closed = f.around.closed;
      shut = f.around.shut;
      aside = f.around.aside;
      forgotten = f.around.forgotten;
      out = seats (strand.Conn c) ∙ f.around.out;
      alive = f.around.alive;
      connection = f.around.connection;
      client = f.around.client;
      no_socket = f.around.no_socket;
      own_aside = f.around.own_aside;
      disarmed = λ s ne gone. ap (deadlines s) armed ∙ f.around.disarmed s ne gone;
      common = rw (now, count) f.around.common;
    };
    last = f.last ∙ sym phase;
    touched = f.touched;
  }

  -- no offer goes on where none may
  pub no-offer : (o : Bool) (es : List (LocalAction J)) → IsOffer false o (begun_offer es) → offering b es ≡ None
  no-offer o es h = closes (begun_offer es) h
    where
      closes : (p : Option Place) → IsOffer false o p → going_on b es p ≡ None
      closes None k = refl
      closes (Some place.Client) k = absurd (let e : false ≡ true = k in cc)
      closes (Some (place.Sock j)) k = absurd k

-- a turn in which no offer goes on is over
pub done-of : {J S : Type 0} (m : Meaning S J) (c : ℕ) (seat : Seat S) (e : Turns S) (book : Book) → IsBusy m c seat [] false e book → IsDone m c seat e book
done-of m c seat e book y = (false, y.0, y.1, no-offer m.behavior m.stands c seat.is_open (projection (strand.Conn c) y.0) y.1.near.offer)

-- no place is in the queue: threads run
pub to-runs : {J S : Type 0} (b : Behavior J) (st : S → List (LocalAction J) → Type 0) (h h' : Held S) (book : Book) (ms : List (GlobalAction J)) → Standing b st h book ms → h.offer_queue ≡ [] → h' ≡ record h { in_offers = false } → Standing b st h' book ms
to-runs b st h h' book ms g nil held = rw held (record {
  each = λ t live. let f = g.each t live in record {
    held = f.held;
    no_act = f.no_act;
    threads = f.threads;
    offered = f.offered;
    no_offer = f.no_offer;
    runs_first = λ run on. ap (only (strand.Conn t)) nil;
    offers_first = λ offer off. absurd (let e : false ≡ true = offer in cc);
    moment = f.moment;
    wakes = f.wakes;
    no_socket = f.no_socket;
    stopping = f.stopping;
    client = f.client;
    no_more = f.no_more;
  };
  dead = g.dead;
  closed = g.closed;
  shut = g.shut;
  aside = g.aside;
  forgotten = g.forgotten;
  flip_to_runs = λ run on. nil;
  flip_to_offers = λ offer off. absurd (let e : false ≡ true = offer in cc);
  comes = g.comes;
  agenda = g.agenda;
  disarmed = g.disarmed;
  common = g.common;
})

-- no thread is in the queue: places are offered
pub to-offers : {J S : Type 0} (b : Behavior J) (st : S → List (LocalAction J) → Type 0) (h h' : Held S) (book : Book) (ms : List (GlobalAction J)) → Standing b st h book ms → h.run_queue ≡ [] → h' ≡ record h { in_offers = true } → Standing b st h' book ms
to-offers b st h h' book ms g nil held = rw held (record {
  each = λ t live. let f = g.each t live in record {
    held = f.held;
    no_act = f.no_act;
    threads = f.threads;
    offered = f.offered;
    no_offer = f.no_offer;
    runs_first = λ run on. absurd (let e : true ≡ false = run in cc);
    offers_first = λ offer off. ap (only (strand.Conn t)) nil;
    moment = f.moment;
    wakes = f.wakes;
    no_socket = f.no_socket;
    stopping = f.stopping;
    client = f.client;
    no_more = f.no_more;
  };
  dead = g.dead;
  closed = g.closed;
  shut = g.shut;
  aside = g.aside;
  forgotten = g.forgotten;
  flip_to_runs = λ run on. absurd (let e : true ≡ false = run in cc);
  flip_to_offers = λ offer off. nil;
  comes = g.comes;
  agenda = g.agenda;
  disarmed = g.disarmed;
  common = g.common;
})

-- the first of a queue is in front of the rest
pub front-of : {A : Type 0} (l : List A) (x : A) → Some x ≡ slice_get l 0 → l ≡ x ∷ drop 1 l
front-of [] x e = absurd (let f : Some x ≡ None = e in cc)
front-of (y ∷ l) x e = ap (λ z. z ∷ l) (let f : y ≡ x = cc in f)

pub popped : (old new : QueueView) (s : StrandId) (k : ℕ) → Some (s, k) ≡ slice_get old.threads 0 → new ≡ left old (drop 1 old.threads) → old.threads ≡ (s, k) ∷ new.threads
popped old new s k first rest = front-of old.threads (s, k) first ∙ ap (λ (q : QueueView). (s, k) ∷ q.threads) (sym rest)

-- a vacant seat that is taken away leaves nothing less
pub vacant-ends : {X : Type 0} (old new : Seats X) (who : StrandId) → ((s : StrandId) → seat_at new s ≡ (if same_strand s who then None else seat_at old s)) → seat_at old who ≡ None → seat_at new ≡ seat_at old
vacant-ends old new who ended none = λ i s. at s i
  where
    pick : (s : StrandId) (v : Bool) → same_strand s who ≡ v → (if v then None else seat_at old s) ≡ seat_at old s
    pick s true e = sym (ap (seat_at old) (same_strand-eq s who e) ∙ none)
    pick s false e = refl

    at : (s : StrandId) → seat_at new s ≡ seat_at old s
    at s = ended s ∙ pick s (same_strand s who) refl

-- a strand with a seat is a connection's
pub seat-conn : {X : Type 0} (seats : Seats X) (who : StrandId) (x : X) → Some x ≡ seat_at seats who → ((c : ℕ) → who ≡ strand.Conn c → ⊥) → ⊥
seat-conn seats (strand.Conn c) x e other = other c refl
seat-conn seats (strand.Job n) x e other = let f : Some x ≡ None = e in cc

nil-of : {A : Type 0} (l : List A) → None ≡ slice_get l 0 → drop 1 l ≡ []
nil-of [] e = refl
nil-of (y ∷ l) e = absurd (let f : None ≡ Some y = e in cc)

pub emptied : (old new : QueueView) → None ≡ slice_get old.threads 0 → new ≡ left old (drop 1 old.threads) → new.threads ≡ []
emptied old new first rest = ap (λ (q : QueueView). q.threads) rest ∙ nil-of old.threads first

-- a thread of a strand is the same in the words of the queue and of executions
pub without-same : (s : StrandId) (k : ℕ) (l : List (StrandId × ℕ)) → without_thread_of (s, k) l ≡ without_thread s k l
without-same s k [] = refl
without-same s k (e ∷ l) = ap (λ r. if same_strand s e.0 && (k == e.1) then l else e ∷ r) (without-same s k l)

pub thread-not-longer : (s : StrandId) (k : ℕ) (l : List (StrandId × ℕ)) → length (without_thread s k l) ≤ length l
thread-not-longer s k [] = omega arith
thread-not-longer s k (e ∷ l) = put (same_strand s e.0 && (k == e.1)) (thread-not-longer s k l)
  where
    put : (v : Bool) → length (without_thread s k l) ≤ length l → length (if v then l else e ∷ without_thread s k l) ≤ length (e ∷ l)
    put true h = omega arith
    put false h = omega (arith, h)
