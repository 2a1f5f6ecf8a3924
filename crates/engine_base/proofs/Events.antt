-- What a world gives where all strands are at rest: what is known of them there, and the turns that it begins.
use Rattle.engine_base.specs.declared.seats.ToCome.TheVariants as coming
use Rattle.std.proofs.Common.{◌≡◌, ℕ, Bool, true, false, ◌==◌, List, [], ◌∷◌, Some, None, if◌then◌else◌, refl, sym, ap, subst, ◌∙◌, arith}
use Rattle.resty_base.specs.declared.names.Id.{Id}
use Rattle.resty_base.specs.declared.names.Id.TheVariants as id
use Rattle.resty_base.specs.declared.names.StrandId.{StrandId}
use Rattle.resty_base.specs.declared.names.StrandId.TheVariants as strand
use Rattle.resty_base.specs.BoolLaws.{by_test, clash}
use Rattle.resty_world.specs.declared.entry.Entry.TheVariants as entry
use Rattle.resty_world.specs.declared.event.Event.{Event}
use Rattle.resty_world.specs.declared.event.Event.TheVariants as event
use Rattle.resty_world.specs.Book.{Book}
use Rattle.resty_world.specs.Given.{Gave}
use Rattle.resty_world.specs.Ids.{same_strand}
use Rattle.strand_contract.specs.declared.turns.Place.{Place}
use Rattle.strand_contract.specs.declared.turns.Place.TheVariants as place
use Rattle.strand_contract.specs.declared.turns.Start.TheVariants as start
use Rattle.strand_contract.specs.declared.turns.Seen.{Seen}
use Rattle.strand_contract.specs.declared.turns.Seen.TheVariants as seen
use Rattle.strand_contract.specs.Actions.{LocalAction, Told, Did, Began, Halted}
use Rattle.strand_contract.specs.Behaviors.{Behavior}
use Rattle.strand_contract.specs.Alone.{lives, moment, is_open, open_places, has_ended, left_by, waiting, run_by, to_offer, offered_by, begun_offer, in_offers, is_stopping, is_waking, winds_up_by, is_winding_up, IsQuiescent, IsExecution, HasNoWork, KeepsNothingBack, IsGivenAt}
use Rattle.executions.specs.Executions.{GlobalAction, Of, Everyone, TurnedAway, IdleGave, IdleClosed, projection, Throughout}
use Rattle.executions.specs.Queues.{only, after_run, after_offer, run_queue as runs_of, offer_queue as offers_of}
use Rattle.executions.specs.Phases.{Running, phase as phase_of}
use Rattle.executions.specs.Agenda.{agenda, agenda_at}
use Rattle.executions.specs.OwnDeadlines.{deadlines}
use Rattle.executions.specs.Histories.{external, offered_lengths}
use Rattle.executions.specs.Ordered.{offers_last}
use Rattle.executions.specs.Lawful.{AllAtRest, BeginsRight, NoneHoldsBack}
use Rattle.strand_contract.specs.Calls.{action_of}
use Rattle.strand_contract.specs.Laws.{IsLastAct}
use Rattle.strand_contract.specs.OpenPlaceLaws.{none-open}
use Rattle.engine_base.specs.declared.seats.Seat.{Seat}
use Rattle.engine_base.specs.Shown.{shown}
use Rattle.engine_base.specs.Right.{Tells, IsFresh, IsRight}
use Rattle.engine_base.specs.Standing.{Held, is_to_end, is_to_wake, phase_at, HasAsides, Turn, Standing, without_dead}
use Rattle.engine_base.proofs.Lists.{same-true, tells-more, tells-same}
use Rattle.engine_base.proofs.Agendas.{come-same, wake-same}
use Rattle.engine_base.proofs.Marks.{gave-asides, MayCome}
use Rattle.engine_base.proofs.Turns.{seat-lives, seat-fits, around-leave, turn-next, no-job, settled, no-thread, no-place}

-- where nothing has happened, and no strand has a seat
pub fresh-stands : {J S : Type 0} (b : Behavior J) (st : S → List (LocalAction J) → Type 0) (h : Held S) (book : Book) → IsFresh book → ((s : StrandId) → h.seats s ≡ None)
    → h.run_queue ≡ [] → h.offer_queue ≡ [] → h.now ≡ 0 → h.connections ≡ 0 → h.to_come ≡ coming.Nothing → h.agenda ≡ [] → Standing b st h book []
fresh-stands {J = J} b st h book fresh seats run_queue offer_queue now count ends none_armed = record {
  each = λ t live. absurd (let e : false ≡ true = live in cc);
  dead = λ t gone. seats (strand.Conn t);
  closed = λ t gone. fresh.none_open (id.Conn t);
  shut = λ t gone q. refl;
  aside = λ s. fresh.none_aside s;
  forgotten = λ t gone. fresh.none_ended (id.Conn t);
  flip_to_runs = λ run on. absurd (let e : false ≡ true = on in cc);
  flip_to_offers = λ offer off. run_queue;
  comes = come-same coming.Nothing h.to_come b [] ends (λ waking. refl);
  agenda = sym none_armed;
  disarmed = λ s gone. ap (deadlines s) none_armed;
  common = record {
    alone = λ s. tt;
    begins = tt;
    given = tt;
    kept = tt;
    plain = tt;
    ordered = tt;
    served = tt;
    runs = ap (without_dead {J = J} []) run_queue;
    offered = ap (without_dead {J = J} []) offer_queue;
    told = fresh.history;
    offers_told = fresh.offered;
    unborn = λ t past. refl;
    jobless = λ n. refl;
    no_socket = λ n. fresh.none_open (id.Sock n);
    asides = λ x on. clash on (fresh.none_open x);
    count = sym count;
    arrived = sym fresh.arrivals;
    present = sym now;
  };
}

-- a connection's strand begins as its client, and so is never a job that Stop came before
winds-by : {J : Type 0} (test : Bool) (a : LocalAction J) (es : List (LocalAction J)) → is_winding_up es ≡ false → winds_up_by a false ≡ false → is_winding_up (if test then a ∷ es else es) ≡ false
winds-by true a es before none = ap (winds_up_by a) before ∙ none
winds-by false a es before none = before

pub never-winds : {J : Type 0} (b : Behavior J) (c : ℕ) (ms : List (GlobalAction J)) → Throughout (BeginsRight b) ms → is_winding_up (projection (strand.Conn c) ms) ≡ false
never-winds b c [] right = refl
never-winds b c (Of (strand.Conn t) (Began now (start.Client d)) n ∷ ms) right = winds-by (c == t) _ (projection (strand.Conn c) ms) (never-winds b c ms right.0) refl
never-winds b c (Of (strand.Conn t) (Began now (start.Job j premature job)) n ∷ ms) right = absurd right.1.0
never-winds b c (Of (strand.Job t) x n ∷ ms) right = never-winds b c ms right.0
never-winds b c (Of s Halted n ∷ ms) right = winds-by (same_strand (strand.Conn c) s) (Did Halted) (projection (strand.Conn c) ms) (never-winds b c ms right.0) refl
never-winds b c (Of s x n ∷ ms) right = winds-by (same_strand (strand.Conn c) s) (Did x) (projection (strand.Conn c) ms) (never-winds b c ms right.0) refl
never-winds b c (Everyone w ∷ ms) right = winds-by (lives (projection (strand.Conn c) ms)) (Told w) (projection (strand.Conn c) ms) (never-winds b c ms right.0) refl
never-winds b c (TurnedAway d ∷ ms) right = never-winds b c ms right.0
never-winds b c (IdleGave e ∷ ms) right = never-winds b c ms right.0
never-winds b c (IdleClosed n ∷ ms) right = never-winds b c ms right.0

first-same : {A B : Type 0} (p q : A × B) → Some p ≡ Some q → p.0 ≡ q.0
first-same p q e = cc

second-same : {A B : Type 0} (p q : A × B) → Some p ≡ Some q → p.1 ≡ q.1
second-same p q e = cc

-- what is shown comes of what is open
pub shown-open : (e : Event) (i : Id) (given : Seen) (book book' : Book) → Gave book book' e → shown e ≡ Some (i, given) → book.is_open i ≡ true
shown-open (event.Bytes j bytes) i given book book' gave is = subst (λ (k : Id). book.is_open k ≡ true) (first-same (j, seen.Bytes place.Client bytes) (i, given) is) gave.fit.0
shown-open (event.Ended j) i given book book' gave is = subst (λ (k : Id). book.is_open k ≡ true) (first-same (j, seen.Ended place.Client) (i, given) is) gave.fit
shown-open (event.Broken j) i given book book' gave is = subst (λ (k : Id). book.is_open k ≡ true) (first-same (j, seen.Broken place.Client) (i, given) is) gave.fit
shown-open (event.Ready j) i given book book' gave is = subst (λ (k : Id). book.is_open k ≡ true) (first-same (j, seen.Ready place.Client) (i, given) is) gave.fit
shown-open e i given book book' gave is = absurd (let w : None ≡ Some (i, given) = is in cc)

module _ {J S : Type 0} (b : Behavior J) (st : S → List (LocalAction J) → Type 0) (ms : List (GlobalAction J)) (h : Held S) (book : Book) (g : Standing b st h book ms) (run_queue : h.run_queue ≡ []) (offer_queue : h.offer_queue ≡ []) (to_come : h.to_come ≡ coming.Nothing) where
  quiescent : (s : StrandId) → IsQuiescent b (projection s ms)
  quiescent (strand.Conn t) = record {
    idle = λ live. let f = g.each t live in record {
      no_act = f.no_act;
      no_thread = f.threads ∙ ap (only (strand.Conn t)) run_queue;
      no_place = f.offered ∙ ap (only (strand.Conn t)) offer_queue;
      no_offer = f.no_offer;
      no_deadline = wake-same (is_to_wake h.to_come) false b (projection (strand.Conn t) ms) (sym (ap is_to_wake to_come)) f.wakes;
      no_stop = f.stopping ∙ ap (λ o. is_to_end o t) to_come;
      no_end = never-winds b t ms g.common.begins;
    };
    closed = λ off. none-open (projection (strand.Conn t) ms) (g.shut t off);
  }
  quiescent (strand.Job n) = record { idle = λ live. absurd (no-job n ms (g.common.jobless n) live); closed = λ off. ap open_places (g.common.jobless n) }

  pub at-rest : AllAtRest b ms
  at-rest = record {
    each = quiescent;
    waits = record { settled = settled b st ms h book g to_come; no_thread = no-thread b st ms h book g run_queue; no_place = no-place b st ms h book g offer_queue };
  }

  module _ (keeps : (es : List (LocalAction J)) → IsExecution b es → lives es ≡ true → HasNoWork b es → KeepsNothingBack b es) where
    pub none-holds : NoneHoldsBack b ms
    none-holds s live = keeps (projection s ms) (g.common.alone s) live ((at-rest.each s).idle live)

    -- what stands at rest is right
    pub rests-right : IsRight b book
    rests-right = record {
      execution = ms;
      history = g.common.told;
      offered = g.common.offers_told;
      lawful = record { alone = g.common.alone; begins = g.common.begins; given = g.common.given; rests = at-rest };
      kept = (g.common.kept, none-holds);
      plain = g.common.plain;
      aside = g.aside;
      forgotten = g.forgotten;
      ordered = g.common.ordered;
      served = g.common.served;
    }

    -- an id that is open is a connection's whose strand has a seat
    pub open-seated : (c : ℕ) → book.is_open (id.Conn c) ≡ true → h.seats (strand.Conn c) ≡ None → ⊥
    open-seated c on nil = by_test (lives (projection (strand.Conn c) ms))
        (λ live. let f = (g.each c live).held in let e : Some f.0 ≡ None = sym f.1 ∙ nil in cc)
        (λ gone. clash on (g.closed c gone))

    module _ (asks : (es : List (LocalAction J)) → IsLastAct (b.acts es)) (c : ℕ) (x : Seat S) (h' : Held S) (book' : Book)
        (here : h.seats (strand.Conn c) ≡ Some x) (running : h.in_offers ≡ false)
        (seats : (t : StrandId) → h'.seats t ≡ (if same_strand t (strand.Conn c) then None else h.seats t))
        (runs_same : h'.run_queue ≡ h.run_queue) (offers_same : h'.offer_queue ≡ h.offer_queue) (phase : h'.in_offers ≡ h.in_offers) (now : h'.now ≡ h.now) (count : h'.connections ≡ h.connections) (ends : h'.to_come ≡ h.to_come) (armed : h'.agenda ≡ h.agenda) where
      turn-event : (given : Seen)
          → MayCome b c (action_of b (projection (strand.Conn c) ms) given) ms h'.connections
          → lives (Did (action_of b (projection (strand.Conn c) ms) given) ∷ projection (strand.Conn c) ms) ≡ lives (projection (strand.Conn c) ms)
          → ((q : Place) → is_open q (Did (action_of b (projection (strand.Conn c) ms) given) ∷ projection (strand.Conn c) ms) ≡ is_open q (projection (strand.Conn c) ms))
          → left_by (Did (action_of b (projection (strand.Conn c) ms) given)) [] ≡ []
          → after_run (strand.Conn c) (action_of b (projection (strand.Conn c) ms) given) (runs_of b ms) ≡ runs_of b ms
          → after_offer (strand.Conn c) (action_of b (projection (strand.Conn c) ms) given) (offers_of b ms) ≡ offers_of b ms
          → agenda_at (strand.Conn c) (action_of b (projection (strand.Conn c) ms) given) None ms (agenda b ms) ≡ agenda b ms
          → is_waking (Did (action_of b (projection (strand.Conn c) ms) given) ∷ projection (strand.Conn c) ms) ≡ false
          → phase_of (Of (strand.Conn c) (action_of b (projection (strand.Conn c) ms) given) None ∷ ms) ≡ Running
          → run_by (Did (action_of b (projection (strand.Conn c) ms) given)) (waiting b (projection (strand.Conn c) ms)) ≡ waiting b (projection (strand.Conn c) ms)
          → offered_by (Did (action_of b (projection (strand.Conn c) ms) given)) (to_offer b (projection (strand.Conn c) ms)) ≡ to_offer b (projection (strand.Conn c) ms)
          → in_offers (Did (action_of b (projection (strand.Conn c) ms) given) ∷ projection (strand.Conn c) ms) ≡ false
          → begun_offer (Did (action_of b (projection (strand.Conn c) ms) given) ∷ projection (strand.Conn c) ms) ≡ None
          → moment (Did (action_of b (projection (strand.Conn c) ms) given) ∷ projection (strand.Conn c) ms) ≡ moment (projection (strand.Conn c) ms)
          → is_stopping (Did (action_of b (projection (strand.Conn c) ms) given) ∷ projection (strand.Conn c) ms) ≡ is_stopping (projection (strand.Conn c) ms)
          → has_ended place.Client (Did (action_of b (projection (strand.Conn c) ms) given) ∷ projection (strand.Conn c) ms) ≡ book'.has_ended (id.Conn c)
          → offers_last (Of (strand.Conn c) (action_of b (projection (strand.Conn c) ms) given) None ∷ ms) ≡ false
          → ((y : Id) → book'.is_open y ≡ book.is_open y) → (HasAsides book → HasAsides book') → ((s : StrandId) → book'.strand_aside s ≡ book.strand_aside s)
          → ((t : ℕ) → (t == c) ≡ false → book'.has_ended (id.Conn t) ≡ book.has_ended (id.Conn t))
          → book'.arrivals ≡ book.arrivals
          → Tells book'.history (external b (Of (strand.Conn c) (action_of b (projection (strand.Conn c) ms) given) None ∷ ms))
          → Tells book'.offered (offered_lengths b (Of (strand.Conn c) (action_of b (projection (strand.Conn c) ms) given) None ∷ ms))
          → Turn b st c x.strand given false x.is_open h' book' ms
      turn-event given may live opens no_use no_run no_offer arms_none wakes runs threads list kind offer time stopping more last ids aside own_aside ended arrivals told offers_told =
          let alive : lives (projection (strand.Conn c) ms) ≡ true = seat-lives b st c ms h book x g here in
          let mine = g.each c alive in
          let fits = seat-fits b st c ms h book x g here in
          let out : h'.seats (strand.Conn c) ≡ None = seats (strand.Conn c) ∙ ap (λ v. if v then None else h.seats (strand.Conn c)) (same-true c) in
          let a = around-leave b st c ms h h' book x g here seats (λ t ne. ap (only (strand.Conn t)) runs_same) (λ t ne. ap (only (strand.Conn t)) offers_same) phase now count (λ t ne living. ap (λ o. is_to_end o t) ends) (ap is_to_wake ends) (λ s ne. ap (deadlines s) armed) in
          turn-next b st c ms asks given x.strand false x.is_open x.is_open h' h' h.run_queue h.offer_queue book book' a fits.0 (mine.moment ∙ sym now)
          (record { seats = λ t ne. refl; run_queue = λ t ne. refl; offer_queue = λ t ne. refl; in_offers = refl; now = refl; ends = λ t ne. refl; wakes = refl; deadlines = λ s ne. refl })
          (record { is_open = λ t ne. ids (id.Conn t); has_ended = ended; strand_aside = λ s ne. own_aside s; sockets = λ n. ids (id.Sock n); asides = aside }) out may
          (live ∙ alive) (ids (id.Conn c) ∙ sym fits.1) (opens place.Client ∙ mine.client ∙ sym fits.1) (λ k. opens (place.Sock k) ∙ mine.no_socket k) (own_aside (strand.Conn c) ∙ g.aside (strand.Conn c) ∙ alive) arrivals told offers_told
          (ap (without_dead ms) runs_same ∙ g.common.runs ∙ sym no_run) (ap (without_dead ms) offers_same ∙ g.common.offered ∙ sym no_offer)
          (record {
            done = mine.no_act;
            no_use = no_use;
            threads = threads ∙ mine.threads ∙ sym (ap (only (strand.Conn c)) runs_same);
            offered = list ∙ mine.offered ∙ sym (ap (only (strand.Conn c)) offers_same);
            agenda = arms_none ∙ g.agenda ∙ sym armed;
            kind = kind ∙ sym (phase ∙ running);
            offer = rw offer (λ e. absurd (let w : false ≡ true = e in cc));
            moment = time ∙ mine.moment ∙ sym now;
            stopping = stopping ∙ mine.stopping ∙ ap (λ o. is_to_end o c) to_come;
            no_more = more;
            not_to_end = ap (λ o. is_to_end o c) (ends ∙ to_come);
            wakes = wakes ∙ sym (ap is_to_wake (ends ∙ to_come));
            phase = runs ∙ sym (ap phase_at (ends ∙ to_come));
            last = last ∙ sym (phase ∙ running);
          })

      given-at : book.is_open (id.Conn c) ≡ true → IsGivenAt b (projection (strand.Conn c) ms) place.Client
      given-at on =
          let alive : lives (projection (strand.Conn c) ms) ≡ true = seat-lives b st c ms h book x g here in
          record { living = alive; idle = (at-rest.each (strand.Conn c)).idle alive; opened = (g.each c alive).client ∙ on }

      turn-came : (bytes : List ℕ) → Gave book book' (event.Bytes (id.Conn c) bytes) → Turn b st c x.strand (seen.Bytes place.Client bytes) false x.is_open h' book' ms
      turn-came bytes gave =
          let alive : lives (projection (strand.Conn c) ms) ≡ true = seat-lives b st c ms h book x g here in
          let mine = g.each c alive in
          turn-event (seen.Bytes place.Client bytes)
          (record {
            enabled = (given-at gave.fit.0, mine.no_more ∙ gave.fit.1, gave.fit.2);
            begins = (g.common.begins, tt);
            given = (g.common.given, λ e. at-rest);
            kept = (g.common.kept, λ e. none-holds);
            plain = (g.common.plain, refl);
            ordered = (g.common.ordered, tt);
            served = refl;
            counts = g.common.count ∙ sym count;
          }) refl (λ q. refl) refl refl refl refl refl refl refl refl refl refl refl refl
          (mine.no_more ∙ sym (gave.has_ended (id.Conn c))) refl gave.is_open (gave-asides (event.Bytes (id.Conn c) bytes) gave) gave.strand_aside (λ t ne. gave.has_ended (id.Conn t)) (omega (arith, gave.arrivals))
          (tells-more book.history book'.history (entry.Given (event.Bytes (id.Conn c) bytes) ∷ []) (external b ms) g.common.told gave.history)
          (tells-same book.offered book'.offered (offered_lengths b ms) g.common.offers_told gave.offered)

      turn-ended : Gave book book' (event.Ended (id.Conn c)) → Turn b st c x.strand (seen.Ended place.Client) false x.is_open h' book' ms
      turn-ended gave =
          turn-event (seen.Ended place.Client)
          (record {
            enabled = given-at gave.fit;
            begins = (g.common.begins, tt);
            given = (g.common.given, λ e. at-rest);
            kept = (g.common.kept, λ e. none-holds);
            plain = (g.common.plain, refl);
            ordered = (g.common.ordered, tt);
            served = refl;
            counts = g.common.count ∙ sym count;
          }) refl (λ q. refl) refl refl refl refl refl refl refl refl refl refl refl refl
          (sym (gave.has_ended (id.Conn c) ∙ ap (λ v. if v then true else book.has_ended (id.Conn c)) (same-true c))) refl gave.is_open (gave-asides (event.Ended (id.Conn c)) gave) gave.strand_aside
          (λ t ne. gave.has_ended (id.Conn t) ∙ ap (λ v. if v then true else book.has_ended (id.Conn t)) ne) (omega (arith, gave.arrivals))
          (tells-more book.history book'.history (entry.Given (event.Ended (id.Conn c)) ∷ []) (external b ms) g.common.told gave.history)
          (tells-same book.offered book'.offered (offered_lengths b ms) g.common.offers_told gave.offered)

      turn-broken : Gave book book' (event.Broken (id.Conn c)) → Turn b st c x.strand (seen.Broken place.Client) false x.is_open h' book' ms
      turn-broken gave =
          turn-event (seen.Broken place.Client)
          (record {
            enabled = given-at gave.fit;
            begins = (g.common.begins, tt);
            given = (g.common.given, λ e. at-rest);
            kept = (g.common.kept, λ e. none-holds);
            plain = (g.common.plain, refl);
            ordered = (g.common.ordered, tt);
            served = refl;
            counts = g.common.count ∙ sym count;
          }) refl (λ q. refl) refl refl refl refl refl refl refl refl refl refl refl refl
          (sym (gave.has_ended (id.Conn c) ∙ ap (λ v. if v then true else book.has_ended (id.Conn c)) (same-true c))) refl gave.is_open (gave-asides (event.Broken (id.Conn c)) gave) gave.strand_aside
          (λ t ne. gave.has_ended (id.Conn t) ∙ ap (λ v. if v then true else book.has_ended (id.Conn t)) ne) (omega (arith, gave.arrivals))
          (tells-more book.history book'.history (entry.Given (event.Broken (id.Conn c)) ∷ []) (external b ms) g.common.told gave.history)
          (tells-same book.offered book'.offered (offered_lengths b ms) g.common.offers_told gave.offered)

      turn-again : Gave book book' (event.Ready (id.Conn c)) → Turn b st c x.strand (seen.Ready place.Client) false x.is_open h' book' ms
      turn-again gave =
          let alive : lives (projection (strand.Conn c) ms) ≡ true = seat-lives b st c ms h book x g here in
          turn-event (seen.Ready place.Client)
          (record {
            enabled = given-at gave.fit;
            begins = (g.common.begins, tt);
            given = (g.common.given, λ e. at-rest);
            kept = (g.common.kept, λ e. none-holds);
            plain = (g.common.plain, refl);
            ordered = (g.common.ordered, tt);
            served = refl;
            counts = g.common.count ∙ sym count;
          }) refl (λ q. refl) refl refl refl refl refl refl refl refl refl refl refl refl
          ((g.each c alive).no_more ∙ sym (gave.has_ended (id.Conn c))) refl gave.is_open (gave-asides (event.Ready (id.Conn c)) gave) gave.strand_aside (λ t ne. gave.has_ended (id.Conn t)) (omega (arith, gave.arrivals))
          (tells-more book.history book'.history (entry.Given (event.Ready (id.Conn c)) ∷ []) (external b ms) g.common.told gave.history)
          (tells-same book.offered book'.offered (offered_lengths b ms) g.common.offers_told gave.offered)

      -- what a client gives is a turn of its strand
      pub turn-shown : (e : Event) (given : Seen) → Gave book book' e → shown e ≡ Some (id.Conn c, given) → Turn b st c x.strand given false x.is_open h' book' ms
      turn-shown (event.Bytes i bytes) given gave is =
          subst (λ (s : Seen). Turn b st c x.strand s false x.is_open h' book' ms) (second-same (i, seen.Bytes place.Client bytes) (id.Conn c, given) is)
          (turn-came bytes (subst (λ (j : Id). Gave book book' (event.Bytes j bytes)) (first-same (i, seen.Bytes place.Client bytes) (id.Conn c, given) is) gave))
      turn-shown (event.Ended i) given gave is =
          subst (λ (s : Seen). Turn b st c x.strand s false x.is_open h' book' ms) (second-same (i, seen.Ended place.Client) (id.Conn c, given) is)
          (turn-ended (subst (λ (j : Id). Gave book book' (event.Ended j)) (first-same (i, seen.Ended place.Client) (id.Conn c, given) is) gave))
      turn-shown (event.Broken i) given gave is =
          subst (λ (s : Seen). Turn b st c x.strand s false x.is_open h' book' ms) (second-same (i, seen.Broken place.Client) (id.Conn c, given) is)
          (turn-broken (subst (λ (j : Id). Gave book book' (event.Broken j)) (first-same (i, seen.Broken place.Client) (id.Conn c, given) is) gave))
      turn-shown (event.Ready i) given gave is =
          subst (λ (s : Seen). Turn b st c x.strand s false x.is_open h' book' ms) (second-same (i, seen.Ready place.Client) (id.Conn c, given) is)
          (turn-again (subst (λ (j : Id). Gave book book' (event.Ready j)) (first-same (i, seen.Ready place.Client) (id.Conn c, given) is) gave))
      turn-shown e given gave is = absurd (let w : None ≡ Some (id.Conn c, given) = is in cc)
