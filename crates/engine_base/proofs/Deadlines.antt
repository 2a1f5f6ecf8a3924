-- Acts that change what is armed and take threads out of line, and the turns of deadlines that are due.
use Rattle.std.proofs.Common.{◌≡◌, ℕ, ◌&&◌, ◌==◌, Bool, true, false, List, [], ◌∷◌, ◌++◌, Option, Some, None, if◌then◌else◌, refl, sym, ap, subst, ◌∙◌}
use Rattle.std.proofs.lemmas.Bool.{eqb-true}
use Rattle.resty_base.specs.declared.names.Ms.{Ms}
use Rattle.resty_base.specs.declared.names.StrandId.{StrandId}
use Rattle.resty_base.specs.declared.names.StrandId.TheVariants as strand
use Rattle.resty_base.specs.BoolLaws.{by_test, clash}
use Rattle.resty_world.specs.Book.{Book}
use Rattle.resty_world.specs.Ids.{same_strand}
use Rattle.strand_contract.specs.declared.turns.Place.{Place}
use Rattle.strand_contract.specs.declared.turns.Place.TheVariants as place
use Rattle.strand_contract.specs.declared.turns.Act.{Act}
use Rattle.strand_contract.specs.declared.turns.Act.TheVariants as act
use Rattle.strand_contract.specs.declared.turns.Seen.TheVariants as seen
use Rattle.strand_contract.specs.Actions.{LocalAction}
use Rattle.strand_contract.specs.Behaviors.{Behavior}
use Rattle.strand_contract.specs.Alone.{lives, moment, lined_up, without, armed, due, is_waking}
use Rattle.strand_contract.specs.Laws.{IsQuiet, IsLastAct}
use Rattle.executions.specs.Executions.{GlobalAction, projection, present}
use Rattle.executions.specs.Phases.{Waking, phase as phase_of}
use Rattle.executions.specs.Queues.{only, without_thread}
use Rattle.executions.specs.Agenda.{Whose, OfStrand, without_one, is_number, agenda, least, whose, next_due}
use Rattle.executions.specs.OwnDeadlines.{deadlines}
use Rattle.executions.proofs.OwnAgenda.{own-agenda}
use Rattle.engine_base.specs.declared.seats.Seat.{Seat}
use Rattle.engine_base.specs.declared.seats.ToCome.TheVariants as coming
use Rattle.engine_base.specs.Standing.{Held, is_to_end, is_to_wake, phase_at, MayWake, without_dead, Around, Busy, Falls, Turn, Standing}
use Rattle.engine_base.proofs.Lists.{same-true}
use Rattle.engine_base.proofs.Waiting.{those-one}
use Rattle.engine_base.proofs.Agendas.{come-same, wake-same, other-one, other-end, own-first, first-at, first-none}
use Rattle.engine_base.proofs.Marks.{fit-same, book-same}
use Rattle.engine_base.proofs.Turns.{seat-lives, seat-fits, around-leave, turn-next, between, no-seat}

-- a thread of a strand that is taken out of line is its own
own-without : (s : StrandId) (k : ℕ) (l : List (StrandId × ℕ)) → only s (without_thread s k l) ≡ without k (only s l)
own-without s k [] = refl
own-without s k (e ∷ l) = put (own-without s k l) (same_strand s e.0) refl (k == e.1) refl
  where
    put : only s (without_thread s k l) ≡ without k (only s l) → (b : Bool) → same_strand s e.0 ≡ b → (c : Bool) → (k == e.1) ≡ c → only s (if b && c then l else e ∷ without_thread s k l) ≡ without k (if b then e.1 ∷ only s l else only s l)
    put ih true h true g = sym (ap (λ c. if c then only s l else e.1 ∷ without k (only s l)) g)
    put ih true h false g = ap (λ b. if b then e.1 ∷ only s (without_thread s k l) else only s (without_thread s k l)) h ∙ ap (λ r. e.1 ∷ r) ih ∙ sym (ap (λ c. if c then only s l else e.1 ∷ without k (only s l)) g)
    put ih false h c g = ap (λ b. if b then e.1 ∷ only s (without_thread s k l) else only s (without_thread s k l)) h ∙ ih

other-without : (t c k : ℕ) (l : List (StrandId × ℕ)) → (t == c) ≡ false → only (strand.Conn t) (without_thread (strand.Conn c) k l) ≡ only (strand.Conn t) l
other-without t c k [] ne = refl
other-without t c k (e ∷ l) ne = put e.0 (other-without t c k l ne)
  where
    put : (r : StrandId) → only (strand.Conn t) (without_thread (strand.Conn c) k l) ≡ only (strand.Conn t) l
        → only (strand.Conn t) (if same_strand (strand.Conn c) r && (k == e.1) then l else (r, e.1) ∷ without_thread (strand.Conn c) k l) ≡ (if same_strand (strand.Conn t) r then e.1 ∷ only (strand.Conn t) l else only (strand.Conn t) l)
    put (strand.Job n) ih = ih
    put (strand.Conn r) ih = one (c == r) refl (k == e.1)
      where
        one : (v : Bool) → (c == r) ≡ v → (w : Bool) → only (strand.Conn t) (if v && w then l else (strand.Conn r, e.1) ∷ without_thread (strand.Conn c) k l) ≡ (if t == r then e.1 ∷ only (strand.Conn t) l else only (strand.Conn t) l)
        one true f true = sym (ap (λ v. if v then e.1 ∷ only (strand.Conn t) l else only (strand.Conn t) l) (subst (λ (x : ℕ). (t == x) ≡ false) (eqb-true c r f) ne))
        one true f false = ap (λ x. if t == r then e.1 ∷ x else x) ih
        one false f w = ap (λ x. if t == r then e.1 ∷ x else x) ih

module _ {J S : Type 0} (b : Behavior J) (st : S → List (LocalAction J) → Type 0) (c : ℕ) where
  -- the strand's deadlines change, and no other's
  around-armed : (al o : Bool) (h : Held S) (l : List (Whose × ℕ)) (runs : List (StrandId × ℕ)) (offered : List (StrandId × Place)) (book : Book) (ms : List (GlobalAction J))
      → Around b st c al o h runs offered book ms → ((s : StrandId) → same_strand s (strand.Conn c) ≡ false → deadlines s l ≡ deadlines s h.agenda)
      → Around b st c al o (record h { agenda = l }) runs offered book ms
  around-armed al o h l runs offered book ms a same = record {
    each = a.each;
    dead = a.dead;
    closed = a.closed;
    shut = a.shut;
    aside = a.aside;
    forgotten = a.forgotten;
    out = a.out;
    alive = a.alive;
    connection = a.connection;
    client = a.client;
    no_socket = a.no_socket;
    own_aside = a.own_aside;
    disarmed = λ s ne gone. same s ne ∙ a.disarmed s ne gone;
    common = a.common;
  }

  -- a deadline is armed, now if it was armed before
  pub busy-armed : (x : S) (k : ℕ) (at : Ms) (acts : List (Act J)) (go o : Bool) (h h' : Held S) (book : Book) (ms : List (GlobalAction J))
      → Busy b st c x (act.Arm k at ∷ acts) go o h book ms → h' ≡ record h { agenda = without_one (is_number (strand.Conn c) k) h.agenda ++ (OfStrand (strand.Conn c) k, at.0) ∷ [] } → Busy b st c x acts go o h' book ms
  busy-armed x k at acts go o h h' book ms y held = rw held (record {
    near = record {
      around = around-armed true o h (without_one (is_number (strand.Conn c) k) h.agenda ++ (OfStrand (strand.Conn c) k, at.0) ∷ []) _ _ book ms y.near.around
          (λ s ne. other-end s (strand.Conn c) k at.0 (without_one (is_number (strand.Conn c) k) h.agenda) ne ∙ other-one s (strand.Conn c) k h.agenda ne);
      to_do = y.near.to_do;
      last_act = y.near.last_act;
      threads = y.near.threads;
      offered = y.near.offered;
      agenda = y.near.agenda;
      kind = y.near.kind;
      offer = y.near.offer;
      moment = y.near.moment;
      stopping = y.near.stopping;
      no_more = y.near.no_more;
      not_to_end = y.near.not_to_end;
      wakes = y.near.wakes;
      phase = y.near.phase;
      last = y.near.last;
      touched = y.near.touched;
    };
    stands = y.stands;
  })

  -- a deadline is cancelled
  pub busy-cancelled : (x : S) (k : ℕ) (acts : List (Act J)) (go o : Bool) (h h' : Held S) (book : Book) (ms : List (GlobalAction J))
      → Busy b st c x (act.Cancel k ∷ acts) go o h book ms → h' ≡ record h { agenda = without_one (is_number (strand.Conn c) k) h.agenda } → Busy b st c x acts go o h' book ms
  busy-cancelled x k acts go o h h' book ms y held = rw held (record {
    near = record {
      around = around-armed true o h (without_one (is_number (strand.Conn c) k) h.agenda) _ _ book ms y.near.around (λ s ne. other-one s (strand.Conn c) k h.agenda ne);
      to_do = y.near.to_do;
      last_act = y.near.last_act;
      threads = y.near.threads;
      offered = y.near.offered;
      agenda = y.near.agenda;
      kind = y.near.kind;
      offer = y.near.offer;
      moment = y.near.moment;
      stopping = y.near.stopping;
      no_more = y.near.no_more;
      not_to_end = y.near.not_to_end;
      wakes = y.near.wakes;
      phase = y.near.phase;
      last = y.near.last;
      touched = y.near.touched;
    };
    stands = y.stands;
  })

  -- where a deadline wasn't armed for want of memory, the old one isn't either
  pub falls-disarmed : (k : ℕ) (o : Bool) (h h' : Held S) (book : Book) (ms : List (GlobalAction J))
      → Falls b st c o h book ms → h' ≡ record h { agenda = without_one (is_number (strand.Conn c) k) h.agenda } → Falls b st c o h' book ms
  falls-disarmed k o h h' book ms f held = rw held (record {
    next_runs = f.next_runs;
    next_offers = f.next_offers;
    around = around-armed true o h (without_one (is_number (strand.Conn c) k) h.agenda) f.next_runs f.next_offers book ms f.around (λ s ne. other-one s (strand.Conn c) k h.agenda ne);
    same_runs = f.same_runs;
    same_offers = f.same_offers;
    agenda = f.agenda ∙ sym (those-one (strand.Conn c) k h.agenda);
    phase = f.phase;
    last = f.last;
    touched = f.touched;
  })

  -- a thread is taken out of line
  pub busy-unready : (x : S) (k : ℕ) (acts : List (Act J)) (go o : Bool) (h h' : Held S) (book : Book) (ms : List (GlobalAction J))
      → Busy b st c x (act.Unready k ∷ acts) go o h book ms → h' ≡ record h { run_queue = without_thread (strand.Conn c) k h.run_queue } → Busy b st c x acts go o h' book ms
  busy-unready x k acts go o h h' book ms y held = rw held (record {
    near = record {
      around = record {
        each = λ t ne live. fit-same refl refl refl refl refl refl (other-without t c k h.run_queue ne) refl refl refl (y.near.around.each t ne live);
        dead = y.near.around.dead;
        closed = y.near.around.closed;
        shut = y.near.around.shut;
        aside = y.near.around.aside;
        forgotten = y.near.around.forgotten;
        out = y.near.around.out;
        alive = y.near.around.alive;
        connection = y.near.around.connection;
        client = y.near.around.client;
        no_socket = y.near.around.no_socket;
        own_aside = y.near.around.own_aside;
        disarmed = y.near.around.disarmed;
        common = y.near.around.common;
      };
      to_do = y.near.to_do;
      last_act = y.near.last_act;
      threads = ap (λ l. lined_up acts l) (own-without (strand.Conn c) k h.run_queue) ∙ y.near.threads;
      offered = y.near.offered;
      agenda = y.near.agenda;
      kind = y.near.kind;
      offer = y.near.offer;
      moment = y.near.moment;
      stopping = y.near.stopping;
      no_more = y.near.no_more;
      not_to_end = y.near.not_to_end;
      wakes = y.near.wakes;
      phase = y.near.phase;
      last = y.near.last;
      touched = y.near.touched;
    };
    stands = y.stands;
  })

module _ {J S : Type 0} (b : Behavior J) (st : S → List (LocalAction J) → Type 0) (ms : List (GlobalAction J)) (h : Held S) (book : Book) (g : Standing b st h book ms) (to_come : h.to_come ≡ coming.Wakings) (quiet : IsQuiet b) where
  -- of what is armed, what is a living strand's is what it has armed
  own-armed : (c : ℕ) → lives (projection (strand.Conn c) ms) ≡ true → deadlines (strand.Conn c) h.agenda ≡ armed b (projection (strand.Conn c) ms)
  own-armed c live = ap (deadlines (strand.Conn c)) (sym g.agenda) ∙ own-agenda b quiet (strand.Conn c) ms (g.common.alone (strand.Conn c)) live

  -- all that is due has come
  pub stands-woken : (h' : Held S) → whose (least h.now h.agenda) ≡ None → h' ≡ record h { to_come = coming.Nothing } → Standing b st h' book ms
  stands-woken h' none held = rw held (record {
    each = λ t live. let f = g.each t live in record {
      held = f.held;
      no_act = f.no_act;
      threads = f.threads;
      offered = f.offered;
      no_offer = f.no_offer;
      runs_first = f.runs_first;
      offers_first = f.offers_first;
      moment = f.moment;
      wakes = λ waking. ap (λ n. due n (armed b (projection (strand.Conn t) ms))) f.moment ∙ ap (due h.now) (sym (own-armed t live)) ∙ (own-first (strand.Conn t) h.now h.agenda).none (first-none (least h.now h.agenda) none);
      no_socket = f.no_socket;
      stopping = f.stopping ∙ ap (λ o. is_to_end o t) to_come;
      client = f.client;
      no_more = f.no_more;
    };
    dead = g.dead;
    closed = g.closed;
    shut = g.shut;
    aside = g.aside;
    forgotten = g.forgotten;
    flip_to_runs = g.flip_to_runs;
    flip_to_offers = g.flip_to_offers;
    comes = λ waking. ap (λ n. whose (least n (agenda b ms))) g.common.present ∙ ap (λ l. whose (least h.now l)) g.agenda ∙ none;
    agenda = g.agenda;
    disarmed = g.disarmed;
    common = g.common;
  })

  -- whose deadline is due has a seat
  pub due-seated : (s : StrandId) (k : ℕ) → whose (least h.now h.agenda) ≡ Some (OfStrand s k) → h.seats s ≡ None → ⊥
  due-seated s k first nil =
      let gone : deadlines s h.agenda ≡ [] = g.disarmed s (no-seat b st ms h book g s nil) in
      let at = first-at (least h.now h.agenda) (OfStrand s k) first in
      let own : due h.now (deadlines s h.agenda) ≡ Some (k, at.0) = (own-first s h.now h.agenda).same k at.0 at.1 in
      let e : None ≡ Some (k, at.0) = ap (due h.now) (sym gone) ∙ own in cc

  -- the strand whose deadline is due first takes its turn
  pub turn-due : (asks : (es : List (LocalAction J)) → IsLastAct (b.acts es)) (c k : ℕ) (x : Seat S) (h' : Held S)
      → whose (least h.now h.agenda) ≡ Some (OfStrand (strand.Conn c) k) → h.seats (strand.Conn c) ≡ Some x → h.in_offers ≡ false
      → ((t : StrandId) → h'.seats t ≡ (if same_strand t (strand.Conn c) then None else h.seats t)) → h'.run_queue ≡ h.run_queue → h'.offer_queue ≡ h.offer_queue → h'.in_offers ≡ h.in_offers → h'.now ≡ h.now → h'.connections ≡ h.connections → h'.to_come ≡ h.to_come
      → h'.agenda ≡ without_one (is_number (strand.Conn c) k) h.agenda
      → Turn b st c x.strand (seen.Due k) false x.is_open h' book ms
  turn-due asks c k x h' first here running seats runs_same offers_same phase now count ends armed_less =
      let es : List (LocalAction J) = projection (strand.Conn c) ms in
      let live : lives es ≡ true = seat-lives b st c ms h book x g here in
      let mine = g.each c live in
      let fits = seat-fits b st c ms h book x g here in
      let out : h'.seats (strand.Conn c) ≡ None = seats (strand.Conn c) ∙ ap (λ v. if v then None else h.seats (strand.Conn c)) (same-true c) in
      let waking : is_waking es ≡ true = wake-same (is_to_wake h.to_come) true b es (sym (ap is_to_wake to_come)) mine.wakes in
      let wakes : phase_of ms ≡ Waking = come-same h.to_come coming.Wakings b ms (sym to_come) g.comes in
      let at = first-at (least h.now h.agenda) (OfStrand (strand.Conn c) k) first in
      let is_due : due (moment es) (armed b es) ≡ Some (k, at.0) = ap (λ n. due n (armed b es)) mine.moment ∙ ap (due h.now) (sym (own-armed c live)) ∙ (own-first (strand.Conn c) h.now h.agenda).same k at.0 at.1 in
      let a = around-leave b st c ms h h' book x g here seats (λ t ne. ap (only (strand.Conn t)) runs_same) (λ t ne. ap (only (strand.Conn t)) offers_same) phase now count (λ t ne alive. ap (λ o. is_to_end o t) ends) (ap is_to_wake ends)
      (λ s ne. ap (deadlines s) armed_less ∙ other-one s (strand.Conn c) k h.agenda ne) in
      turn-next b st c ms asks (seen.Due k) x.strand false x.is_open x.is_open h' h' h.run_queue h.offer_queue book book a fits.0 (mine.moment ∙ sym now)
      (record { seats = λ t ne. refl; run_queue = λ t ne. refl; offer_queue = λ t ne. refl; in_offers = refl; now = refl; ends = λ t ne. refl; wakes = refl; deadlines = λ s ne. refl }) (book-same c book) out
      (record {
        enabled = (record { living = live; no_act = mine.no_act; no_offer = mine.no_offer }, waking, (at.0, is_due));
        begins = (g.common.begins, tt);
        given = (g.common.given, λ e. absurd (let w : false ≡ true = e in cc));
        kept = (g.common.kept, λ e. absurd (let w : false ≡ true = e in cc));
        plain = (g.common.plain, refl);
        ordered = (g.common.ordered, (between b st ms h book g, wakes, ap (λ n. whose (least n (agenda b ms))) g.common.present ∙ ap (λ l. whose (least h.now l)) g.agenda ∙ first));
        served = refl;
        counts = g.common.count ∙ sym count;
      }) live (sym fits.1) (mine.client ∙ sym fits.1) mine.no_socket (g.aside (strand.Conn c) ∙ live) refl g.common.told g.common.offers_told
      (ap (without_dead ms) runs_same ∙ g.common.runs) (ap (without_dead ms) offers_same ∙ g.common.offered)
      (record {
        done = mine.no_act;
        no_use = refl;
        threads = mine.threads ∙ sym (ap (only (strand.Conn c)) runs_same);
        offered = mine.offered ∙ sym (ap (only (strand.Conn c)) offers_same);
        agenda = ap (without_one (is_number (strand.Conn c) k)) g.agenda ∙ sym armed_less;
        kind = sym (phase ∙ running);
        offer = (λ e. absurd (let w : false ≡ true = e in cc));
        moment = mine.moment ∙ sym now;
        stopping = mine.stopping ∙ ap (λ o. is_to_end o c) to_come;
        no_more = mine.no_more;
        not_to_end = ap (λ o. is_to_end o c) (ends ∙ to_come);
        wakes = waking ∙ sym (ap is_to_wake (ends ∙ to_come));
        phase = wakes ∙ sym (ap phase_at (ends ∙ to_come));
        last = sym (phase ∙ running);
      })
