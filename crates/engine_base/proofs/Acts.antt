-- One lemma for each act that is carried out, for the end of a turn, and for a strand that is given up.
use Rattle.std.proofs.Common.{◌≡◌, ℕ, ◌-◌, Bool, true, false, ◌||◌, ◌==◌, List, [], ◌∷◌, ◌++◌, Option, Some, None, if◌then◌else◌, refl, sym, ap, subst, ◌∙◌, append_assoc, append-nil, inl, inr, arith}
use Rattle.std.proofs.lemmas.Bool.{eqb-true}
use Rattle.resty_base.specs.declared.names.Id.{Id}
use Rattle.resty_base.specs.declared.names.Id.TheVariants as id
use Rattle.resty_base.specs.declared.names.StrandId.{StrandId}
use Rattle.resty_base.specs.declared.names.StrandId.TheVariants as strand
use Rattle.resty_base.specs.BoolLaws.{by_test, clash}
use Rattle.resty_world.specs.declared.entry.Entry.{Entry}
use Rattle.resty_world.specs.declared.entry.Entry.TheVariants as entry
use Rattle.resty_world.specs.declared.answers.Logged.{Logged as LogAnswer}
use Rattle.resty_world.specs.declared.answers.Logged.TheVariants as logged
use Rattle.resty_world.specs.Book.{Book, KeepsIds, KeepsTold, told}
use Rattle.resty_world.specs.Contract.{HangsUp, Forgets, Logs, Notes}
use Rattle.resty_world.specs.Ids.{same_strand, is_own}
use Rattle.resty_world.specs.Calls.{log_entry}
use Rattle.resty_world.specs.IdLaws.{same_strand-eq}
use Rattle.strand_contract.specs.declared.turns.Place.{Place}
use Rattle.strand_contract.specs.declared.turns.Place.TheVariants as place
use Rattle.strand_contract.specs.declared.turns.Act.{Act}
use Rattle.strand_contract.specs.declared.turns.Act.TheVariants as act
use Rattle.strand_contract.specs.Actions.{Action, LocalAction, Did, Close, Log, Dropped, Gone}
use Rattle.strand_contract.specs.Behaviors.{Behavior}
use Rattle.strand_contract.specs.Alone.{lives, was_dropped, moment, is_open, has_ended, todo, carried, waiting, lined_up, to_offer, offers, begun_offer, offering, but, in_offers, is_stopping, is_waking, open_places, IsExecution, IsPrefixOf}
use Rattle.executions.specs.Executions.{GlobalAction, Of, projection}
use Rattle.executions.specs.Strands.{is_under_way, strands}
use Rattle.executions.specs.Queues.{only, lined, placed, without_all, run_queue as runs_of, offer_queue as offers_of}
use Rattle.executions.specs.Agenda.{armed_with, without_those, is_of, agenda}
use Rattle.executions.specs.OwnDeadlines.{deadlines}
use Rattle.executions.specs.Histories.{external, offered_lengths}
use Rattle.executions.specs.Ordered.{offers_last, was_touched, MayDropLiving}
use Rattle.strand_contract.specs.Laws.{is_still}
use Rattle.strand_contract.specs.OpenPlaceLaws.{is_among, open-among, place-self, none-open}
use Rattle.engine_base.specs.Standing.{Held, HasCome, HasAsides, Common, Around, Near, Busy, Falls, Standing, IsOffer, runs_with, offers_with}
use Rattle.engine_base.proofs.Lists.{same-true, only-same, only-other, tells-more, tells-same}
use Rattle.engine_base.proofs.Agendas.{come-of, other-those, none-left}
use Rattle.engine_base.proofs.Waiting.{lined-own, placed-own, armed-own, only-first, runs-still, offers-still, without-next}
use Rattle.engine_base.proofs.Marks.{projection-same, touches, fit-same, SameHeld, held-same, SameBook, same-keeps, same-hung, hung-closed, same-dropped, same-forgot, forgot-aside, forgot-ended, own-closed, has-arrived, common-next, around-next}

-- where no socket is open, the client's connection is the first open place, or there is none
first-among : (ps : List Place) → is_among place.Client ps ≡ true → ((k : ℕ) → is_among (place.Sock k) ps ≡ false) → IsPrefixOf (place.Client ∷ []) ps
first-among [] client socks = clash client refl
first-among (place.Client ∷ ps) client socks = (ps, refl)
first-among (place.Sock k ∷ ps) client socks = clash (ap (λ v. v || is_among (place.Sock k) ps) (place-self (place.Sock k))) (socks k)

client-first : {J : Type 0} (es : List (LocalAction J)) → is_open place.Client es ≡ true → ((k : ℕ) → is_open (place.Sock k) es ≡ false) → IsPrefixOf (place.Client ∷ []) (open_places es)
client-first es client socks = first-among (open_places es) (sym (open-among place.Client es) ∙ client) (λ k. sym (open-among (place.Sock k) es) ∙ socks k)

all-shut : {J : Type 0} (es : List (LocalAction J)) → is_open place.Client es ≡ false → ((k : ℕ) → is_open (place.Sock k) es ≡ false) → (q : Place) → is_open q es ≡ false
all-shut es client socks place.Client = client
all-shut es client socks (place.Sock k) = socks k

-- an offer isn't begun anew by a closing, nor goes on
pub offer-closed : (go o : Bool) (p : Option Place) → IsOffer go o p → IsOffer go false (but place.Client p)
offer-closed go o None h = λ on. refl
offer-closed go o (Some place.Client) h = λ on. refl
offer-closed go o (Some (place.Sock k)) h = absurd h

-- no turn of a strand is under way that has nothing to do, or nothing open
pub not-under-way : {J : Type 0} (b : Behavior J) (es : List (LocalAction J)) → lives es ≡ true → todo b es ≡ [] → offering b es ≡ None → is_under_way b es ≡ false
not-under-way b es live nil none = rw (live, nil, none) refl

pub not-open : {J : Type 0} (b : Behavior J) (es : List (LocalAction J)) → lives es ≡ false → open_places es ≡ [] → is_under_way b es ≡ false
not-open b es off nil = rw (off, nil) refl

-- room is set aside for c's strand and for the others
pub aside-all : {J : Type 0} (c : ℕ) (book : Book) (ms : List (GlobalAction J)) → ((s : StrandId) → same_strand s (strand.Conn c) ≡ false → book.strand_aside s ≡ lives (projection s ms))
    → book.strand_aside (strand.Conn c) ≡ lives (projection (strand.Conn c) ms) → (s : StrandId) → book.strand_aside s ≡ lives (projection s ms)
aside-all c book ms others own (strand.Conn t) = by_test (t == c)
    (λ e. subst (λ (i : ℕ). book.strand_aside (strand.Conn i) ≡ lives (projection (strand.Conn i) ms)) (sym (eqb-true t c e)) own)
    (λ ne. others (strand.Conn t) ne)
aside-all c book ms others own (strand.Job n) = others (strand.Job n) refl

-- a call of the world that enters nothing, and opens and closes nothing
pub common-kept : {J : Type 0} (b : Behavior J) (runs : List (StrandId × ℕ)) (offered : List (StrandId × Place)) (now count : ℕ) (book book' : Book) (ms : List (GlobalAction J))
    → Common b runs offered now count book ms → KeepsTold book book' → ((n : ℕ) → book'.is_open (id.Sock n) ≡ book.is_open (id.Sock n)) → (HasAsides book → HasAsides book') → book'.arrivals ≡ book.arrivals
    → Common b runs offered now count book' ms
common-kept b runs offered now count book book' ms k entered socks asides arrivals = record {
  alone = k.alone;
  begins = k.begins;
  given = k.given;
  kept = k.kept;
  plain = k.plain;
  ordered = k.ordered;
  served = k.served;
  runs = k.runs;
  offered = k.offered;
  told = tells-same book.history book'.history (external b ms) k.told entered.history;
  offers_told = tells-same book.offered book'.offered (offered_lengths b ms) k.offers_told entered.offered;
  unborn = λ t past. k.unborn t (rw arrivals at past);
  jobless = k.jobless;
  no_socket = λ n. socks n ∙ k.no_socket n;
  asides = asides k.asides;
  count = k.count;
  arrived = k.arrived ∙ sym arrivals;
  present = k.present;
}

module _ {J S : Type 0} (b : Behavior J) (st : S → List (LocalAction J) → Type 0) (c : ℕ) where
  -- what a busy strand leaves when it is given up
  pub near-falls : (acts : List (Act J)) (go o : Bool) (h : Held S) (book : Book) (ms : List (GlobalAction J)) → Near b st c acts go o h book ms → Falls b st c o h book ms
  near-falls acts go o h book ms y = record {
    next_runs = runs_with c acts h;
    next_offers = offers_with c acts h;
    around = y.around;
    same_runs = lined-own (strand.Conn c) acts h.run_queue;
    same_offers = placed-own (strand.Conn c) acts h.offer_queue;
    agenda = ap (without_those (is_of (strand.Conn c))) (sym y.agenda) ∙ armed-own (strand.Conn c) acts h.agenda;
    phase = y.phase;
    last = y.last;
    touched = y.touched;
  }

  -- the strand is gone
  pub around-dead :
      (h : Held S) (book : Book) (ms : List (GlobalAction J)) →
      Around b st c false false h h.run_queue h.offer_queue book ms →
      HasCome h.to_come b ms →
      agenda b ms ≡ h.agenda →
      deadlines (strand.Conn c) h.agenda ≡ [] →
      book.has_ended (id.Conn c) ≡ false →
      (h.in_offers ≡ false → offers_last ms ≡ true → h.offer_queue ≡ []) →
      (h.in_offers ≡ true → offers_last ms ≡ false → h.run_queue ≡ []) →
      Standing b st h book ms
  around-dead h book ms a comes armed none_armed ended runs_flip offers_flip = record {
    each = λ t live. by_test (t == c)
        (λ e. clash (subst (λ (i : ℕ). lives (projection (strand.Conn i) ms) ≡ true) (eqb-true t c e) live) a.alive)
        (λ ne. a.each t ne live);
    dead = λ t gone. by_test (t == c)
        (λ e. subst (λ (i : ℕ). h.seats (strand.Conn i) ≡ None) (sym (eqb-true t c e)) a.out)
        (λ ne. a.dead t ne gone);
    closed = λ t gone. by_test (t == c)
        (λ e. subst (λ (i : ℕ). book.is_open (id.Conn i) ≡ false) (sym (eqb-true t c e)) a.connection)
        (λ ne. a.closed t ne gone);
    shut = λ t gone q. by_test (t == c)
        (λ e. subst (λ (i : ℕ). is_open q (projection (strand.Conn i) ms) ≡ false) (sym (eqb-true t c e)) (all-shut (projection (strand.Conn c) ms) a.client a.no_socket q))
        (λ ne. a.shut t ne gone q);
    aside = aside-all c book ms a.aside (a.own_aside ∙ sym a.alive);
    forgotten = λ t gone. by_test (t == c)
        (λ e. subst (λ (i : ℕ). book.has_ended (id.Conn i) ≡ false) (sym (eqb-true t c e)) ended)
        (λ ne. a.forgotten t ne gone);
    flip_to_runs = runs_flip;
    flip_to_offers = offers_flip;
    comes = comes;
    agenda = armed;
    disarmed = λ s gone. by_test (same_strand s (strand.Conn c))
        (λ on. subst (λ (t : StrandId). deadlines t h.agenda ≡ []) (sym (same_strand-eq s (strand.Conn c) on)) none_armed)
        (λ off. a.disarmed s off gone);
    common = a.common;
  }

  -- what was reported of a strand that is over is forgotten
  around-forgets : (h : Held S) (book book' : Book) (ms : List (GlobalAction J)) → Around b st c false false h h.run_queue h.offer_queue book ms → Forgets (strand.Conn c) book book'
      → Around b st c false false h h.run_queue h.offer_queue book' ms
  around-forgets h book book' ms a forgot =
      let same : SameBook c book book' = same-forgot c forgot in
      record {
        each = λ t ne live. fit-same refl refl refl refl refl refl refl refl (same.is_open t ne) (same.has_ended t ne) (a.each t ne live);
        dead = a.dead;
        closed = λ t ne gone. same.is_open t ne ∙ a.closed t ne gone;
        shut = a.shut;
        aside = λ s ne. same.strand_aside s ne ∙ a.aside s ne;
        forgotten = λ t ne gone. same.has_ended t ne ∙ a.forgotten t ne gone;
        out = a.out;
        alive = a.alive;
        connection = forgot.is_open (id.Conn c) ∙ a.connection;
        client = a.client;
        no_socket = a.no_socket;
        own_aside = forgot-aside c forgot;
        disarmed = a.disarmed;
        common = common-kept b h.run_queue h.offer_queue h.now h.connections book book' ms a.common forgot.entered (λ n. same.sockets n) same.asides forgot.numbers.arrivals;
      }

  -- the deadlines of the strand leave with it
  abbrev pub ended : Held S → Held S
  ended h = record h { agenda = without_those (is_of (strand.Conn c)) h.agenda }

  ended-same : (h : Held S) → SameHeld c h (ended h)
  ended-same h = record { seats = λ t ne. refl; run_queue = λ t ne. refl; offer_queue = λ t ne. refl; in_offers = refl; now = refl; ends = λ t ne. refl; wakes = refl; deadlines = λ s ne. other-those s (strand.Conn c) h.agenda ne }

  -- no turn of another strand is under way
  others-between : (o : Bool) (h : Held S) (threads : List (StrandId × ℕ)) (offer_queue : List (StrandId × Place)) (book : Book) (ms : List (GlobalAction J))
      → Around b st c true o h threads offer_queue book ms → (t : StrandId) → same_strand t (strand.Conn c) ≡ false → is_under_way b (projection t ms) ≡ false
  others-between o h threads offer_queue book ms a (strand.Conn t) ne = by_test (lives (projection (strand.Conn t) ms))
      (λ live. let f = a.each t ne live in not-under-way b (projection (strand.Conn t) ms) live f.no_act f.no_offer)
      (λ off. not-open b (projection (strand.Conn t) ms) off (none-open (projection (strand.Conn t) ms) (a.shut t ne off)))
  others-between o h threads offer_queue book ms a (strand.Job n) ne = ap (is_under_way b) (a.common.jobless n)

  may-drop : (o : Bool) (h : Held S) (threads : List (StrandId × ℕ)) (offer_queue : List (StrandId × Place)) (book : Book) (ms : List (GlobalAction J))
      → Around b st c true o h threads offer_queue book ms → was_touched (strand.Conn c) ms ≡ true → MayDropLiving (lives (projection (strand.Conn c) ms)) b (strand.Conn c) ms
  may-drop o h threads offer_queue book ms a touched =
      subst (λ (v : Bool). MayDropLiving v b (strand.Conn c) ms) (sym a.alive)
      (only-first (is_under_way b) (strands ms) ms (strand.Conn c) (others-between o h threads offer_queue book ms a), touched)

  module _ (quiet : (a : LocalAction J) (es : List (LocalAction J)) → is_still a ≡ true → b.acts (a ∷ es) ≡ []) where
    dropped : (o : Bool) (h : Held S) (book book1 : Book) (back : Option Entry) (ms : List (GlobalAction J)) → Falls b st c o h book ms
        → Notes (entry.Dropped (strand.Conn c)) back book book1
        → Around b st c false o (ended h) h.run_queue h.offer_queue book1 (Of (strand.Conn c) Dropped None ∷ ms)
    dropped o h book book1 back ms f noted =
        let a : Around b st c true o h f.next_runs f.next_offers book ms = f.around in
        let same : SameBook c book book1 = same-dropped c noted in
        let arrivals : book1.arrivals ≡ book.arrivals = noted.numbers.arrivals in
        let none : b.acts (Did Dropped ∷ projection (strand.Conn c) ms) ≡ [] = quiet (Did Dropped) (projection (strand.Conn c) ms) refl in
        around-next b st c ms Dropped true false o o h (ended h) f.next_runs h.run_queue f.next_offers h.offer_queue book book1 a (ended-same h) same a.out refl (noted.is_open (id.Conn c) ∙ a.connection) a.client a.no_socket
        (noted.strand_aside (strand.Conn c) ∙ ap (λ v. if v then false else book.strand_aside (strand.Conn c)) (same-true c))
        (common-next b st c ms Dropped f.next_runs h.run_queue f.next_offers h.offer_queue h.now h.connections h.connections book book1 a.common
        (record {
          enabled = inl a.alive;
          begins = (a.common.begins, tt);
          given = (a.common.given, λ e. absurd (let x : false ≡ true = e in cc));
          kept = (a.common.kept, λ e. absurd (let x : false ≡ true = e in cc));
          plain = (a.common.plain, refl);
          ordered = (a.common.ordered, may-drop o h f.next_runs f.next_offers book ms a f.touched);
          served = refl;
          counts = a.common.count;
        }) (rw arrivals (has-arrived a)) (omega (arith, arrivals)) (λ n. same.sockets n ∙ a.common.no_socket n) (same.asides a.common.asides)
        (tells-more book.history book1.history (entry.Dropped (strand.Conn c) ∷ []) (external b ms) a.common.told noted.history)
        (tells-same book.offered book1.offered (offered_lengths b ms) a.common.offers_told noted.offered)
        (without-next b c Dropped ms h.run_queue f.next_runs refl f.same_runs ∙ ap (without_all (strand.Conn c)) a.common.runs ∙ sym (ap (λ taken. lined (strand.Conn c) taken (without_all (strand.Conn c) (runs_of b ms))) none))
        (without-next b c Dropped ms h.offer_queue f.next_offers refl f.same_offers ∙ ap (without_all (strand.Conn c)) a.common.offered ∙ sym (ap (λ taken. placed (strand.Conn c) taken (without_all (strand.Conn c) (offers_of b ms))) none)))

    -- what is armed after it
    dropped-armed : (o : Bool) (h : Held S) (book : Book) (ms : List (GlobalAction J)) → Falls b st c o h book ms → agenda b (Of (strand.Conn c) Dropped None ∷ ms) ≡ without_those (is_of (strand.Conn c)) h.agenda
    dropped-armed o h book ms f = ap (λ taken. armed_with (strand.Conn c) taken (without_those (is_of (strand.Conn c)) (agenda b ms))) (quiet (Did Dropped) (projection (strand.Conn c) ms) refl) ∙ f.agenda

    -- its connection was closed before
    pub fallen-shut : (h h' : Held S) (book book1 book2 : Book) (back : Option Entry) (ms : List (GlobalAction J)) → Falls b st c false h book ms
        → Notes (entry.Dropped (strand.Conn c)) back book book1 → Forgets (strand.Conn c) book1 book2 → h' ≡ ended h
        → Standing b st h' book2 (Of (strand.Conn c) Dropped None ∷ ms)
    fallen-shut h h' book book1 book2 back ms f noted forgot held =
        let a : Around b st c false false (ended h) h.run_queue h.offer_queue book1 (Of (strand.Conn c) Dropped None ∷ ms) = dropped false h book book1 back ms f noted in
        rw held (around-dead (ended h) book2 (Of (strand.Conn c) Dropped None ∷ ms) (around-forgets (ended h) book1 book2 (Of (strand.Conn c) Dropped None ∷ ms) a forgot) (come-of h.to_come b (Of (strand.Conn c) Dropped None ∷ ms) f.phase) (dropped-armed false h book ms f) (none-left (strand.Conn c) h.agenda) (forgot-ended c forgot)
        (λ run on. clash on (f.last ∙ run)) (λ offer off. clash (f.last ∙ offer) off))

    -- its connection is closed after it
    pub fallen-open : (h h' : Held S) (book book1 book2 book3 : Book) (back : Option Entry) (ms : List (GlobalAction J)) → Falls b st c true h book ms
        → Notes (entry.Dropped (strand.Conn c)) back book book1 → HangsUp (id.Conn c) book1 book2 → Forgets (strand.Conn c) book2 book3
        → h' ≡ record h { connections = h.connections - 1; agenda = without_those (is_of (strand.Conn c)) h.agenda }
        → Standing b st h' book3 (Of (strand.Conn c) (Close place.Client) None ∷ Of (strand.Conn c) Dropped None ∷ ms)
    fallen-open h h' book book1 book2 book3 back ms f noted hung forgot held =
        let fell : List (GlobalAction J) = Of (strand.Conn c) Dropped None ∷ ms in
        let a : Around b st c false true (ended h) h.run_queue h.offer_queue book1 fell = dropped true h book book1 back ms f noted in
        let none : b.acts (Did (Close place.Client) ∷ projection (strand.Conn c) fell) ≡ [] = quiet (Did (Close place.Client)) (projection (strand.Conn c) fell) refl in
        let g : Held S = record h { connections = h.connections - 1; agenda = without_those (is_of (strand.Conn c)) h.agenda } in
        let same : SameBook c book1 book2 = same-hung c hung in
        let arrivals : book2.arrivals ≡ book1.arrivals = hung.numbers.arrivals in
        let shut : Around b st c false false g g.run_queue g.offer_queue book2 (Of (strand.Conn c) (Close place.Client) None ∷ fell) =
        (around-next b st c fell (Close place.Client) false false true false (ended h) g h.run_queue h.run_queue h.offer_queue h.offer_queue book1 book2 a
        (record { seats = λ t ne. refl; run_queue = λ t ne. refl; offer_queue = λ t ne. refl; in_offers = refl; now = refl; ends = λ t ne. refl; wakes = refl; deadlines = λ s ne. refl }) same a.out a.alive (hung-closed c hung) refl a.no_socket
        (hung.strand_aside (strand.Conn c) ∙ a.own_aside)
        (common-next b st c fell (Close place.Client) h.run_queue h.run_queue h.offer_queue h.offer_queue h.now h.connections (h.connections - 1) book1 book2 a.common
        (record {
          enabled = inr (ap was_dropped (projection-same c Dropped None ms), client-first (projection (strand.Conn c) fell) a.client a.no_socket);
          begins = (a.common.begins, tt);
          given = (a.common.given, λ e. absurd (let x : false ≡ true = e in cc));
          kept = (a.common.kept, λ e. absurd (let x : false ≡ true = e in cc));
          plain = (a.common.plain, refl);
          ordered = (a.common.ordered, tt);
          served = refl;
          counts = ap (λ n. n - 1) a.common.count;
        }) (rw (arrivals, noted.numbers.arrivals) (has-arrived f.around)) (omega (arith, arrivals)) (λ n. same.sockets n ∙ a.common.no_socket n) (same.asides a.common.asides)
        (tells-more book1.history book2.history (entry.Close (id.Conn c) ∷ []) (external b fell) a.common.told hung.history)
        (tells-same book1.offered book2.offered (offered_lengths b fell) a.common.offers_told hung.offered)
        (runs-still b c (Close place.Client) fell h.run_queue refl none refl a.common.runs)
        (offers-still b c (Close place.Client) fell h.offer_queue refl none refl a.common.offered))) in
        rw held (around-dead g book3 (Of (strand.Conn c) (Close place.Client) None ∷ fell) (around-forgets g book2 book3 (Of (strand.Conn c) (Close place.Client) None ∷ fell) shut forgot)
        (come-of h.to_come b (Of (strand.Conn c) (Close place.Client) None ∷ fell) f.phase) (ap (λ taken. armed_with (strand.Conn c) taken (agenda b fell)) none ∙ dropped-armed true h book ms f) (none-left (strand.Conn c) h.agenda) (forgot-ended c forgot)
        (λ run on. clash on (f.last ∙ run)) (λ offer off. clash (f.last ∙ offer) off))

  -- a thread is put in the queue
  pub busy-ready : (x : S) (k : ℕ) (acts : List (Act J)) (go o : Bool) (h h' : Held S) (book : Book) (ms : List (GlobalAction J))
      → Busy b st c x (act.Ready k ∷ acts) go o h book ms → h' ≡ record h { run_queue = h.run_queue ++ (strand.Conn c, k) ∷ [] } → Busy b st c x acts go o h' book ms
  busy-ready x k acts go o h h' book ms y held = rw held (record {
    near = record {
      around = record {
        each = λ t ne live. fit-same refl refl refl refl refl refl (only-other (strand.Conn t) (strand.Conn c) k h.run_queue ne) refl refl refl (y.near.around.each t ne live);
        dead = y.near.around.dead;
        closed = y.near.around.closed;
        shut = y.near.around.shut;
        aside = y.near.around.aside;
        forgotten = y.near.around.forgotten;
        out = y.near.around.out;
        alive = y.near.around.alive;
        connection = y.near.around.connection;
        client = y.near.around.client;
        no_socket = y.near.around.no_socket;
        own_aside = y.near.around.own_aside;
        disarmed = y.near.around.disarmed;
        common = y.near.around.common;
      };
      to_do = y.near.to_do;
      last_act = y.near.last_act;
      threads = ap (λ l. lined_up acts l) (only-same (strand.Conn c) k h.run_queue) ∙ y.near.threads;
      offered = y.near.offered;
      agenda = y.near.agenda;
      kind = y.near.kind;
      offer = y.near.offer;
      moment = y.near.moment;
      stopping = y.near.stopping;
      no_more = y.near.no_more;
      not_to_end = y.near.not_to_end;
      wakes = y.near.wakes;
      phase = y.near.phase;
      last = y.near.last;
      touched = y.near.touched;
    };
    stands = y.stands;
  })

  -- a place is put in the queue
  pub busy-offer : (x : S) (q : Place) (acts : List (Act J)) (go o : Bool) (h h' : Held S) (book : Book) (ms : List (GlobalAction J))
      → Busy b st c x (act.Offer q ∷ acts) go o h book ms → h' ≡ record h { offer_queue = h.offer_queue ++ (strand.Conn c, q) ∷ [] } → Busy b st c x acts go o h' book ms
  busy-offer x q acts go o h h' book ms y held = rw held (record {
    near = record {
      around = record {
        each = λ t ne live. fit-same refl refl refl refl refl refl refl (only-other (strand.Conn t) (strand.Conn c) q h.offer_queue ne) refl refl (y.near.around.each t ne live);
        dead = y.near.around.dead;
        closed = y.near.around.closed;
        shut = y.near.around.shut;
        aside = y.near.around.aside;
        forgotten = y.near.around.forgotten;
        out = y.near.around.out;
        alive = y.near.around.alive;
        connection = y.near.around.connection;
        client = y.near.around.client;
        no_socket = y.near.around.no_socket;
        own_aside = y.near.around.own_aside;
        disarmed = y.near.around.disarmed;
        common = y.near.around.common;
      };
      to_do = y.near.to_do;
      last_act = y.near.last_act;
      threads = y.near.threads;
      offered = ap (λ l. l ++ offers acts) (only-same (strand.Conn c) q h.offer_queue) ∙ append_assoc (only (strand.Conn c) h.offer_queue) (q ∷ []) (offers acts) ∙ y.near.offered;
      agenda = y.near.agenda;
      kind = y.near.kind;
      offer = y.near.offer;
      moment = y.near.moment;
      stopping = y.near.stopping;
      no_more = y.near.no_more;
      not_to_end = y.near.not_to_end;
      wakes = y.near.wakes;
      phase = y.near.phase;
      last = y.near.last;
      touched = y.near.touched;
    };
    stands = y.stands;
  })

abbrev pub done_of : LogAnswer → Bool
done_of logged.Done = true
done_of logged.Failed = false
done_of logged.Memory = false

pub log_entry-done : (s : StrandId) (line : List ℕ) (r : LogAnswer) → (r ≡ logged.Memory → ⊥) → log_entry s line r ≡ entry.Log s line (done_of r) ∷ []
log_entry-done s line logged.Done h = refl
log_entry-done s line logged.Failed h = refl
log_entry-done s line logged.Memory h = absurd (h refl)

pub offer-logged : {J : Type 0} (line : List ℕ) (done : Bool) (es : List (LocalAction J)) (go o : Bool) → IsOffer go o (begun_offer es) → IsOffer go o (begun_offer (Did (Log line done) ∷ es))
offer-logged line done es go o h = h

module _ {J S : Type 0} (b : Behavior J) (st : S → List (LocalAction J) → Type 0) (c : ℕ)
    (still : (x : S) (a : LocalAction J) (es : List (LocalAction J)) → is_still a ≡ true → st x es → st x (a ∷ es))
    (quiet : (a : LocalAction J) (es : List (LocalAction J)) → is_still a ≡ true → b.acts (a ∷ es) ≡ []) where
  -- the client's connection is closed
  pub busy-closed : (x : S) (rest : List (Act J)) (go : Bool) (h h' : Held S) (book book' : Book) (ms : List (GlobalAction J))
      → Busy b st c x (act.HangUp place.Client ∷ rest) go true h book ms
      → HangsUp (id.Conn c) book book'
      → h' ≡ record h { connections = h.connections - 1 }
      → Busy b st c x rest go false h' book' (Of (strand.Conn c) (Close place.Client) None ∷ ms)
  busy-closed x rest go h h' book book' ms y hung held =
      let z : Action J = Close place.Client in
      let es : List (LocalAction J) = projection (strand.Conn c) ms in
      let a = y.near.around in
      let none : b.acts (Did z ∷ es) ≡ [] = quiet (Did z) es refl in
      let own : projection (strand.Conn c) (Of (strand.Conn c) z None ∷ ms) ≡ Did z ∷ es = projection-same c z None ms in
      let g : Held S = record h { connections = h.connections - 1 } in
      let same : SameBook c book book' = same-hung c hung in
      let arrivals : book'.arrivals ≡ book.arrivals = hung.numbers.arrivals in
      rw held (record {
        near = record {
          around = around-next b st c ms z true true true false h g _ (lined (strand.Conn c) rest h.run_queue) _ (placed (strand.Conn c) rest h.offer_queue) book book' a
              (record { seats = λ t ne. refl; run_queue = λ t ne. refl; offer_queue = λ t ne. refl; in_offers = refl; now = refl; ends = λ t ne. refl; wakes = refl; deadlines = λ s ne. refl }) same a.out a.alive (hung-closed c hung) refl a.no_socket
              (hung.strand_aside (strand.Conn c) ∙ a.own_aside)
              (common-next b st c ms z _ (lined (strand.Conn c) rest h.run_queue) _ (placed (strand.Conn c) rest h.offer_queue) h.now h.connections (h.connections - 1) book book' a.common
              (record {
                enabled = inl ((carried rest, y.near.to_do), a.client);
                begins = (a.common.begins, tt);
                given = (a.common.given, λ e. absurd (let w : false ≡ true = e in cc));
                kept = (a.common.kept, λ e. absurd (let w : false ≡ true = e in cc));
                plain = (a.common.plain, refl);
                ordered = (a.common.ordered, tt);
                served = refl;
                counts = ap (λ n. n - 1) a.common.count;
              }) (rw arrivals (has-arrived a)) (omega (arith, arrivals)) (λ n. same.sockets n ∙ a.common.no_socket n) (same.asides a.common.asides)
              (tells-more book.history book'.history (entry.Close (id.Conn c) ∷ []) (external b ms) a.common.told hung.history)
              (tells-same book.offered book'.offered (offered_lengths b ms) a.common.offers_told hung.offered)
              (runs-still b c z ms _ refl none refl a.common.runs)
              (offers-still b c z ms _ refl none refl a.common.offered));
          to_do = ap (todo b) own ∙ (rw (none, y.near.to_do) (append-nil (carried rest)));
          last_act = y.near.last_act;
          threads = sym (ap (waiting b) own ∙ (rw none (sym y.near.threads)));
          offered = sym (ap (to_offer b) own ∙ (rw none (append-nil (to_offer b es) ∙ sym y.near.offered)));
          agenda = y.near.agenda ∙ sym (ap (λ taken. armed_with (strand.Conn c) taken (agenda b ms)) none);
          kind = ap in_offers own ∙ y.near.kind;
          offer = subst (λ (fs : List (LocalAction J)). IsOffer go false (begun_offer fs)) (sym own) (offer-closed go true (begun_offer es) y.near.offer);
          moment = ap moment own ∙ y.near.moment;
          stopping = ap is_stopping own ∙ y.near.stopping;
          no_more = ap (has_ended place.Client) own ∙ y.near.no_more ∙ sym (hung.has_ended (id.Conn c));
          not_to_end = y.near.not_to_end;
          wakes = ap is_waking own ∙ y.near.wakes;
          phase = y.near.phase;
          last = y.near.last;
          touched = touches c z None ms;
        };
        stands = subst (λ (fs : List (LocalAction J)). st x fs) (sym own) (still x (Did z) es refl y.stands);
      })

  -- a log line is written, or isn't
  pub busy-logged : (x : S) (line : List ℕ) (r : LogAnswer) (rest : List (Act J)) (go o : Bool) (h : Held S) (book book' : Book) (ms : List (GlobalAction J))
      → Busy b st c x (act.Log line ∷ rest) go o h book ms
      → (r ≡ logged.Memory → ⊥) → Logs (strand.Conn c) line r book book'
      → Busy b st c x rest go o h book' (Of (strand.Conn c) (Log line (done_of r)) None ∷ ms)
  busy-logged x line r rest go o h book book' ms y ok logs =
      let ids : KeepsIds book book' = logs.ids in
      let z : Action J = Log line (done_of r) in
      let es : List (LocalAction J) = projection (strand.Conn c) ms in
      let a = y.near.around in
      let none : b.acts (Did z ∷ es) ≡ [] = quiet (Did z) es refl in
      let own : projection (strand.Conn c) (Of (strand.Conn c) z None ∷ ms) ≡ Did z ∷ es = projection-same c z None ms in
      record {
        near = record {
          around = around-next b st c ms z true true o o h h _ (lined (strand.Conn c) rest h.run_queue) _ (placed (strand.Conn c) rest h.offer_queue) book book' a
              (held-same c h) (same-keeps c ids) a.out a.alive (ids.is_open (id.Conn c) ∙ a.connection) a.client a.no_socket
              (ids.strand_aside (strand.Conn c) ∙ a.own_aside)
              (common-next b st c ms z _ (lined (strand.Conn c) rest h.run_queue) _ (placed (strand.Conn c) rest h.offer_queue) h.now h.connections h.connections book book' a.common
              (record {
                enabled = (carried rest, y.near.to_do);
                begins = (a.common.begins, tt);
                given = (a.common.given, λ e. absurd (let w : false ≡ true = e in cc));
                kept = (a.common.kept, λ e. absurd (let w : false ≡ true = e in cc));
                plain = (a.common.plain, refl);
                ordered = (a.common.ordered, tt);
                served = refl;
                counts = a.common.count;
              }) (rw ids.arrivals (has-arrived a)) (omega (arith, ids.arrivals)) (λ n. ids.is_open (id.Sock n) ∙ a.common.no_socket n) ((same-keeps c ids).asides a.common.asides)
              (tells-more book.history book'.history (entry.Log (strand.Conn c) line (done_of r) ∷ []) (external b ms) a.common.told (logs.history ∙ ap (λ e. told e book.history) (log_entry-done (strand.Conn c) line r ok)))
              (tells-same book.offered book'.offered (offered_lengths b ms) a.common.offers_told logs.offered)
              (runs-still b c z ms _ refl none refl a.common.runs)
              (offers-still b c z ms _ refl none refl a.common.offered));
          to_do = ap (todo b) own ∙ (rw (none, y.near.to_do) (append-nil (carried rest)));
          last_act = y.near.last_act;
          threads = sym (ap (waiting b) own ∙ (rw none (sym y.near.threads)));
          offered = sym (ap (to_offer b) own ∙ (rw none (append-nil (to_offer b es) ∙ sym y.near.offered)));
          agenda = y.near.agenda ∙ sym (ap (λ taken. armed_with (strand.Conn c) taken (agenda b ms)) none);
          kind = ap in_offers own ∙ y.near.kind;
          offer = subst (λ (fs : List (LocalAction J)). IsOffer go o (begun_offer fs)) (sym own) y.near.offer;
          moment = ap moment own ∙ y.near.moment;
          stopping = ap is_stopping own ∙ y.near.stopping;
          no_more = ap (has_ended place.Client) own ∙ y.near.no_more ∙ sym (ids.has_ended (id.Conn c));
          not_to_end = y.near.not_to_end;
          wakes = ap is_waking own ∙ y.near.wakes;
          phase = y.near.phase;
          last = y.near.last;
          touched = touches c z None ms;
        };
        stands = subst (λ (fs : List (LocalAction J)). st x fs) (sym own) (still x (Did z) es refl y.stands);
      }

  -- its life is over
  pub standing-gone : (x : S) (rest : List (Act J)) (go : Bool) (h h' : Held S) (book book' : Book) (ms : List (GlobalAction J))
      → Busy b st c x (act.Gone ∷ rest) go false h book ms → Forgets (strand.Conn c) book book' → h' ≡ ended b st c h
      → Standing b st h' book' (Of (strand.Conn c) Gone None ∷ ms)
  unfolding near-falls
  standing-gone x rest go h h' book book' ms y forgot held =
      let same : SameBook c book book' = same-forgot c forgot in
      let arrivals : book'.arrivals ≡ book.arrivals = forgot.numbers.arrivals in
      let es : List (LocalAction J) = projection (strand.Conn c) ms in
      let none : b.acts (Did Gone ∷ es) ≡ [] = quiet (Did Gone) es refl in
      let a = y.near.around in
      let f = near-falls b st c (act.Gone ∷ rest) go false h book ms y.near in
      rw held (around-dead b st c (ended b st c h) book' (Of (strand.Conn c) Gone None ∷ ms)
      (around-next b st c ms Gone true false false false h (ended b st c h) f.next_runs h.run_queue f.next_offers h.offer_queue book book' a (ended-same b st c h) same a.out refl (forgot.is_open (id.Conn c) ∙ a.connection) a.client a.no_socket
      (forgot-aside c forgot)
      (common-next b st c ms Gone f.next_runs h.run_queue f.next_offers h.offer_queue h.now h.connections h.connections book book' a.common
      (record {
        enabled = y.near.to_do ∙ ap (λ l. act.Gone ∷ carried l) y.near.last_act;
        begins = (a.common.begins, tt);
        given = (a.common.given, λ e. absurd (let w : false ≡ true = e in cc));
        kept = (a.common.kept, λ e. absurd (let w : false ≡ true = e in cc));
        plain = (a.common.plain, refl);
        ordered = (a.common.ordered, tt);
        served = refl;
        counts = a.common.count;
      }) (rw arrivals (has-arrived a)) (omega (arith, arrivals)) (λ n. same.sockets n ∙ a.common.no_socket n) (same.asides a.common.asides)
      (tells-same book.history book'.history (external b ms) a.common.told forgot.entered.history) (tells-same book.offered book'.offered (offered_lengths b ms) a.common.offers_told forgot.entered.offered)
      (without-next b c Gone ms h.run_queue f.next_runs refl f.same_runs ∙ ap (without_all (strand.Conn c)) a.common.runs ∙ sym (ap (λ taken. lined (strand.Conn c) taken (without_all (strand.Conn c) (runs_of b ms))) none))
      (without-next b c Gone ms h.offer_queue f.next_offers refl f.same_offers ∙ ap (without_all (strand.Conn c)) a.common.offered ∙ sym (ap (λ taken. placed (strand.Conn c) taken (without_all (strand.Conn c) (offers_of b ms))) none))))
      (come-of h.to_come b (Of (strand.Conn c) Gone None ∷ ms) y.near.phase) (ap (λ taken. armed_with (strand.Conn c) taken (without_those (is_of (strand.Conn c)) (agenda b ms))) none ∙ f.agenda) (none-left (strand.Conn c) h.agenda)
      (forgot-ended c forgot)
      (λ run on. clash on (y.near.last ∙ run)) (λ offer off. clash (y.near.last ∙ offer) off))

module _ {J S : Type 0} (b : Behavior J) (st : S → List (LocalAction J) → Type 0) (c : ℕ) where
  -- what is hung up is open
  pub client-open : (hangs : (es : List (LocalAction J)) (q : Place) (rest : List (Act J)) → IsExecution b es → todo b es ≡ act.HangUp q ∷ rest → (lives es ≡ true) × (is_open q es ≡ true))
      → (x : S) (rest : List (Act J)) (go o : Bool) (h : Held S) (book : Book) (ms : List (GlobalAction J))
      → Busy b st c x (act.HangUp place.Client ∷ rest) go o h book ms → o ≡ true
  client-open hangs x rest go o h book ms y =
      sym y.near.around.client ∙ (hangs (projection (strand.Conn c) ms) place.Client (carried rest) (y.near.around.common.alone (strand.Conn c)) y.near.to_do).1

  -- nothing is open where its life is over
  pub nothing-open : (leaves : (es : List (LocalAction J)) (q : Place) → IsExecution b es → todo b es ≡ act.Gone ∷ [] → is_open q es ≡ false)
      → (x : S) (rest : List (Act J)) (go o : Bool) (h : Held S) (book : Book) (ms : List (GlobalAction J))
      → Busy b st c x (act.Gone ∷ rest) go o h book ms → o ≡ false
  nothing-open leaves x rest go o h book ms y =
      sym y.near.around.client ∙ leaves (projection (strand.Conn c) ms) place.Client (y.near.around.common.alone (strand.Conn c)) (y.near.to_do ∙ ap (λ l. act.Gone ∷ carried l) y.near.last_act)

  -- what the world asks of a strand that is forgotten
  pub gone-closed : (leaves : (es : List (LocalAction J)) (q : Place) → IsExecution b es → todo b es ≡ act.Gone ∷ [] → is_open q es ≡ false)
      → (x : S) (rest : List (Act J)) (go o : Bool) (h : Held S) (book : Book) (ms : List (GlobalAction J))
      → Busy b st c x (act.Gone ∷ rest) go o h book ms → (i : Id) → is_own (strand.Conn c) i ≡ true → book.is_open i ≡ false
  gone-closed leaves x rest go o h book ms y = own-closed c book (y.near.around.connection ∙ nothing-open leaves x rest go o h book ms y)

  -- a call of the world that leaves all as it is
  pub around-kept : (al o : Bool) (h : Held S) (threads : List (StrandId × ℕ)) (offer_queue : List (StrandId × Place)) (book book' : Book) (ms : List (GlobalAction J))
      → Around b st c al o h threads offer_queue book ms → KeepsIds book book' → KeepsTold book book'
      → Around b st c al o h threads offer_queue book' ms
  around-kept al o h threads offer_queue book book' ms a ids entered = record {
    each = λ t ne live. fit-same refl refl refl refl refl refl refl refl (ids.is_open (id.Conn t)) (ids.has_ended (id.Conn t)) (a.each t ne live);
    dead = a.dead;
    closed = λ t ne gone. ids.is_open (id.Conn t) ∙ a.closed t ne gone;
    shut = a.shut;
    aside = λ s ne. ids.strand_aside s ∙ a.aside s ne;
    forgotten = λ t ne gone. ids.has_ended (id.Conn t) ∙ a.forgotten t ne gone;
    out = a.out;
    alive = a.alive;
    connection = ids.is_open (id.Conn c) ∙ a.connection;
    client = a.client;
    no_socket = a.no_socket;
    own_aside = ids.strand_aside (strand.Conn c) ∙ a.own_aside;
    disarmed = a.disarmed;
    common = common-kept b threads offer_queue h.now h.connections book book' ms a.common entered (λ n. ids.is_open (id.Sock n)) ((same-keeps c ids).asides) ids.arrivals;
  }

  pub falls-kept : (o : Bool) (h : Held S) (book book' : Book) (ms : List (GlobalAction J))
      → Falls b st c o h book ms → KeepsIds book book' → KeepsTold book book' → Falls b st c o h book' ms
  falls-kept o h book book' ms f ids entered = record {
    next_runs = f.next_runs;
    next_offers = f.next_offers;
    around = around-kept true o h f.next_runs f.next_offers book book' ms f.around ids entered;
    same_runs = f.same_runs;
    same_offers = f.same_offers;
    agenda = f.agenda;
    phase = f.phase;
    last = f.last;
    touched = f.touched;
  }
