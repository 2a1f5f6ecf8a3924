-- How an execution goes on, action by action, with one strand out of its seat.
use Rattle.std.proofs.Common.{◌≡◌, ℕ, ◌+◌, ◌<◌, ◌≤◌, Bool, true, false, not, ◌||◌, ◌&&◌, ◌==◌, List, [], ◌∷◌, ◌++◌, Option, None, if◌then◌else◌, refl, sym, ap, subst, ◌∙◌, inl, inr, arith}
use Rattle.std.proofs.lemmas.Bool.{eqb-true, cases_lt}
use Rattle.std.proofs.lemmas.Bool.Decides.{nat_tests}
use Rattle.resty_base.specs.declared.names.Id.{Id}
use Rattle.resty_base.specs.declared.names.Id.TheVariants as id
use Rattle.resty_base.specs.declared.names.StrandId.{StrandId}
use Rattle.resty_base.specs.declared.names.StrandId.TheVariants as strand
use Rattle.resty_base.specs.BoolLaws.{clash}
use Rattle.resty_world.specs.declared.entry.Entry.{Entry}
use Rattle.resty_world.specs.declared.entry.Entry.TheVariants as entry
use Rattle.resty_world.specs.declared.event.Event.{Event}
use Rattle.resty_world.specs.declared.event.Event.TheVariants as event
use Rattle.resty_world.specs.Book.{Book, KeepsIds}
use Rattle.resty_world.specs.Contract.{HangsUp, Forgets, Notes}
use Rattle.resty_world.specs.Given.{Gave, arrives}
use Rattle.resty_world.specs.Ids.{same_id, same_strand, is_own}
use Rattle.strand_contract.specs.declared.turns.Place.{Place}
use Rattle.strand_contract.specs.declared.turns.Place.TheVariants as place
use Rattle.strand_contract.specs.Actions.{Action, LocalAction, Did, is_given}
use Rattle.strand_contract.specs.Behaviors.{Behavior}
use Rattle.strand_contract.specs.Alone.{lives, moment, is_open, has_ended, todo, left_by, waiting, lined_up, run_by, to_offer, offers, offered_by, begun_offer, in_offers, is_stopping, is_waking, Enabled, IsExecution}
use Rattle.executions.specs.Executions.{GlobalAction, Of, projection, Throughout}
use Rattle.executions.specs.Phases.{phase as phase_of}
use Rattle.executions.specs.Counts.{arrived_by, open_connections}
use Rattle.executions.specs.Queues.{only, lined, placed, run_queue as runs_of, offer_queue as offers_of}
use Rattle.executions.specs.Agenda.{armed_with, agenda, agenda_at}
use Rattle.executions.specs.OwnDeadlines.{deadlines}
use Rattle.executions.specs.Histories.{external, offered_lengths}
use Rattle.executions.specs.Plain.{IsPlain}
use Rattle.executions.specs.Ordered.{offers_last, was_touched, IsOrdered}
use Rattle.executions.specs.Lawful.{IsGivenAtRest, BeginsRight, HeldNothingBack}
use Rattle.strand_contract.specs.declared.turns.Seen.{Seen}
use Rattle.strand_contract.specs.declared.turns.Seen.TheVariants as seen
use Rattle.strand_contract.specs.Calls.{action_of}
use Rattle.strand_contract.specs.Laws.{IsLastAct}
use Rattle.engine_base.specs.declared.seats.Seat.{Seat}
use Rattle.engine_base.specs.Right.{Tells, is_served}
use Rattle.engine_base.specs.Standing.{Held, is_to_end, is_to_wake, phase_at, without_dead, Fit, HasAsides, Common, Around, Near, IsOffer}
use Rattle.engine_base.proofs.Lists.{same-true}

pub projection-same : {J : Type 0} (c : ℕ) (x : Action J) (n : Option ℕ) (ms : List (GlobalAction J)) → projection (strand.Conn c) (Of (strand.Conn c) x n ∷ ms) ≡ Did x ∷ projection (strand.Conn c) ms
projection-same c x n ms = ap (λ b. if b then Did x ∷ projection (strand.Conn c) ms else projection (strand.Conn c) ms) (same-true c)

pub projection-other : {J : Type 0} (t c : ℕ) (x : Action J) (n : Option ℕ) (ms : List (GlobalAction J)) → (t == c) ≡ false → projection (strand.Conn t) (Of (strand.Conn c) x n ∷ ms) ≡ projection (strand.Conn t) ms
projection-other t c x n ms h = ap (λ b. if b then Did x ∷ projection (strand.Conn t) ms else projection (strand.Conn t) ms) h

pub projection-out : {J : Type 0} (s : StrandId) (c : ℕ) (x : Action J) (n : Option ℕ) (ms : List (GlobalAction J)) → same_strand s (strand.Conn c) ≡ false → projection s (Of (strand.Conn c) x n ∷ ms) ≡ projection s ms
projection-out s c x n ms h = ap (λ b. if b then Did x ∷ projection s ms else projection s ms) h

pub touches : {J : Type 0} (c : ℕ) (x : Action J) (n : Option ℕ) (ms : List (GlobalAction J)) → was_touched (strand.Conn c) (Of (strand.Conn c) x n ∷ ms) ≡ true
touches c x n ms = ap (λ b. b || (not (is_given x) && was_touched (strand.Conn c) ms)) (same-true c)

pub differs : (c t n : ℕ) → c ≤ n → n < t → (t == c) ≡ false
differs c t n h k = grind (arith, nat_tests)

-- what is held of a strand stays so, where it sees no change
pub fit-same : {J S : Type 0} {b : Behavior J} {st : S → List (LocalAction J) → Type 0} {f f' : Bool} {now now' : ℕ} {u u' v v' : Bool} {es es' : List (LocalAction J)} {seat seat' : Option (Seat S)} {l l' : List ℕ} {q q' : List Place} {o o' e e' : Bool}
    → f' ≡ f → now' ≡ now → u' ≡ u → v' ≡ v → es' ≡ es → seat' ≡ seat → l' ≡ l → q' ≡ q → o' ≡ o → e' ≡ e
    → Fit b st (record { seat = seat; threads = l; places = q; in_offers = f; now = now; to_end = u; to_wake = v }) (record { is_open = o; has_ended = e }) es
    → Fit b st (record { seat = seat'; threads = l'; places = q'; in_offers = f'; now = now'; to_end = u'; to_wake = v' }) (record { is_open = o'; has_ended = e' }) es'
fit-same e1 e2 e3 e4 e5 e6 e7 e8 e9 e10 fit = rw (e1, e2, e3, e4, e5, e6, e7, e8, e9, e10) fit

-- what the engine holds of the strands but c's stays so
pub record SameHeld {S : Type 0} (c : ℕ) (h h' : Held S) : Type 0 where
  pub seats : (t : ℕ) → (t == c) ≡ false → h'.seats (strand.Conn t) ≡ h.seats (strand.Conn t)
  pub run_queue : (t : ℕ) → (t == c) ≡ false → only (strand.Conn t) h'.run_queue ≡ only (strand.Conn t) h.run_queue
  pub offer_queue : (t : ℕ) → (t == c) ≡ false → only (strand.Conn t) h'.offer_queue ≡ only (strand.Conn t) h.offer_queue
  pub in_offers : h'.in_offers ≡ h.in_offers
  pub now : h'.now ≡ h.now
  pub ends : (t : ℕ) → (t == c) ≡ false → is_to_end h'.to_come t ≡ is_to_end h.to_come t
  pub wakes : is_to_wake h'.to_come ≡ is_to_wake h.to_come
  pub deadlines : (s : StrandId) → same_strand s (strand.Conn c) ≡ false → deadlines s h'.agenda ≡ deadlines s h.agenda

pub held-same : {S : Type 0} (c : ℕ) (h : Held S) → SameHeld c h h
held-same c h = record { seats = λ t ne. refl; run_queue = λ t ne. refl; offer_queue = λ t ne. refl; in_offers = refl; now = refl; ends = λ t ne. refl; wakes = refl; deadlines = λ s ne. refl }

-- what the world says of the connections but c stays so, and of the sockets
pub record SameBook (c : ℕ) (book book' : Book) : Type 0 where
  pub is_open : (t : ℕ) → (t == c) ≡ false → book'.is_open (id.Conn t) ≡ book.is_open (id.Conn t)
  pub has_ended : (t : ℕ) → (t == c) ≡ false → book'.has_ended (id.Conn t) ≡ book.has_ended (id.Conn t)
  pub strand_aside : (s : StrandId) → same_strand s (strand.Conn c) ≡ false → book'.strand_aside s ≡ book.strand_aside s
  pub sockets : (n : ℕ) → book'.is_open (id.Sock n) ≡ book.is_open (id.Sock n)
  pub asides : HasAsides book → HasAsides book'

pub book-same : (c : ℕ) (book : Book) → SameBook c book book
book-same c book = record { is_open = λ t ne. refl; has_ended = λ t ne. refl; strand_aside = λ s ne. refl; sockets = λ n. refl; asides = λ a. a }

-- what each call of the world leaves of them
pub same-keeps : (c : ℕ) {book book' : Book} → KeepsIds book book' → SameBook c book book'
same-keeps c ids = record {
  is_open = λ t ne. ids.is_open (id.Conn t);
  has_ended = λ t ne. ids.has_ended (id.Conn t);
  strand_aside = λ s ne. ids.strand_aside s;
  sockets = λ n. ids.is_open (id.Sock n);
  asides = λ a x on. ids.id_aside x ∙ a x (sym (ids.is_open x) ∙ on);
}

hung-aside : (test was aside : Bool) → (was ≡ true → aside ≡ true) → (if test then false else was) ≡ true → (if test then false else aside) ≡ true
hung-aside true was aside h on = on
hung-aside false was aside h on = h on

pub same-hung : (c : ℕ) {book book' : Book} → HangsUp (id.Conn c) book book' → SameBook c book book'
same-hung c {book = book} u = record {
  is_open = λ t ne. u.is_open (id.Conn t) ∙ ap (λ v. if v then false else book.is_open (id.Conn t)) ne;
  has_ended = λ t ne. u.has_ended (id.Conn t);
  strand_aside = λ s ne. u.strand_aside s;
  sockets = λ n. u.is_open (id.Sock n);
  asides = λ a x on. u.id_aside x ∙ hung-aside (same_id x (id.Conn c)) (book.is_open x) (book.id_aside x) (a x) (sym (u.is_open x) ∙ on);
}

pub hung-closed : (c : ℕ) {book book' : Book} → HangsUp (id.Conn c) book book' → book'.is_open (id.Conn c) ≡ false
hung-closed c {book = book} u = u.is_open (id.Conn c) ∙ ap (λ v. if v then false else book.is_open (id.Conn c)) (same-true c)

pub same-dropped : (c : ℕ) {book book' : Book} {back : Option Entry} → Notes (entry.Dropped (strand.Conn c)) back book book' → SameBook c book book'
same-dropped c {book = book} n = record {
  is_open = λ t ne. n.is_open (id.Conn t);
  has_ended = λ t ne. n.has_ended (id.Conn t);
  strand_aside = λ s ne. n.strand_aside s ∙ ap (λ v. if v then false else book.strand_aside s) ne;
  sockets = λ n'. n.is_open (id.Sock n');
  asides = λ a x on. n.id_aside x ∙ a x (sym (n.is_open x) ∙ on);
}

pub same-turned : (c : ℕ) {book book' : Book} {back : Option Entry} → Notes (entry.Turned c) back book book' → SameBook c book book'
same-turned c {book = book} n = record {
  is_open = λ t ne. n.is_open (id.Conn t);
  has_ended = λ t ne. n.has_ended (id.Conn t);
  strand_aside = λ s ne. n.strand_aside s ∙ ap (λ v. if v then false else book.strand_aside s) ne;
  sockets = λ n'. n.is_open (id.Sock n');
  asides = λ a x on. n.id_aside x ∙ a x (sym (n.is_open x) ∙ on);
}

pub same-forgot : (c : ℕ) {book book' : Book} → Forgets (strand.Conn c) book book' → SameBook c book book'
same-forgot c {book = book} f = record {
  is_open = λ t ne. f.is_open (id.Conn t);
  has_ended = λ t ne. f.has_ended (id.Conn t) ∙ ap (λ v. if v then false else book.has_ended (id.Conn t)) ne;
  strand_aside = λ s ne. f.strand_aside s ∙ ap (λ v. if v then false else book.strand_aside s) ne;
  sockets = λ n. f.is_open (id.Sock n);
  asides = λ a x on. f.id_aside x ∙ a x (sym (f.is_open x) ∙ on);
}

pub forgot-ended : (c : ℕ) {book book' : Book} → Forgets (strand.Conn c) book book' → book'.has_ended (id.Conn c) ≡ false
forgot-ended c {book = book} f = f.has_ended (id.Conn c) ∙ ap (λ v. if v then false else book.has_ended (id.Conn c)) (same-true c)

pub forgot-aside : (c : ℕ) {book book' : Book} → Forgets (strand.Conn c) book book' → book'.strand_aside (strand.Conn c) ≡ false
forgot-aside c {book = book} f = f.strand_aside (strand.Conn c) ∙ ap (λ v. if v then false else book.strand_aside (strand.Conn c)) (same-true c)

given-aside : (test was aside : Bool) → (was ≡ true → aside ≡ true) → (if test then true else was) ≡ true → (if test then true else aside) ≡ true
given-aside true was aside h on = on
given-aside false was aside h on = h on

pub gave-asides : {book book' : Book} (e : Event) → Gave book book' e → HasAsides book → HasAsides book'
gave-asides {book = book} e gave a x on = gave.id_aside x ∙ given-aside (arrives e x) (book.is_open x) (book.id_aside x) (a x) (sym (gave.is_open x) ∙ on)

pub same-arrived : (c : ℕ) {book book' : Book} → Gave book book' (event.Arrive c) → SameBook c book book'
same-arrived c {book = book} gave = record {
  is_open = λ t ne. gave.is_open (id.Conn t) ∙ ap (λ v. if v then true else book.is_open (id.Conn t)) ne;
  has_ended = λ t ne. gave.has_ended (id.Conn t) ∙ ap (λ v. if v then false else book.has_ended (id.Conn t)) ne;
  strand_aside = λ s ne. gave.strand_aside s ∙ ap (λ v. if v then true else book.strand_aside s) ne;
  sockets = λ n. gave.is_open (id.Sock n);
  asides = gave-asides (event.Arrive c) gave;
}

pub same-joins : {c : ℕ} {book1 book2 book3 : Book} → SameBook c book1 book2 → SameBook c book2 book3 → SameBook c book1 book3
same-joins a d = record {
  is_open = λ t ne. d.is_open t ne ∙ a.is_open t ne;
  has_ended = λ t ne. d.has_ended t ne ∙ a.has_ended t ne;
  strand_aside = λ s ne. d.strand_aside s ne ∙ a.strand_aside s ne;
  sockets = λ n. d.sockets n ∙ a.sockets n;
  asides = λ h. d.asides (a.asides h);
}

-- a connection whose id is closed, as the world asks of what is forgotten
pub own-closed : (c : ℕ) (book : Book) → book.is_open (id.Conn c) ≡ false → (x : Id) → is_own (strand.Conn c) x ≡ true → book.is_open x ≡ false
own-closed c book shut (id.Conn d) own = subst (λ (i : ℕ). book.is_open (id.Conn i) ≡ false) (sym (eqb-true d c own)) shut
own-closed c book shut (id.Sock n) own = absurd (let e : false ≡ true = own in cc)

-- the action may come, of the strand alone and among the others
pub record MayCome {J : Type 0} (b : Behavior J) (c : ℕ) (x : Action J) (ms : List (GlobalAction J)) (count : ℕ) : Type 0 where
  pub enabled : Enabled b (projection (strand.Conn c) ms) (Did x)
  pub begins : Throughout (BeginsRight b) (Of (strand.Conn c) x None ∷ ms)
  pub given : Throughout (IsGivenAtRest b) (Of (strand.Conn c) x None ∷ ms)
  pub kept : Throughout (HeldNothingBack b) (Of (strand.Conn c) x None ∷ ms)
  pub plain : IsPlain b (Of (strand.Conn c) x None ∷ ms)
  pub ordered : IsOrdered b (Of (strand.Conn c) x None ∷ ms)
  pub served : is_served x ≡ true
  pub counts : open_connections (Of (strand.Conn c) x None ∷ ms) ≡ count

alone-next : {J : Type 0} (b : Behavior J) (c t : ℕ) (x : Action J) (ms : List (GlobalAction J)) → IsExecution b (projection (strand.Conn t) ms) → Enabled b (projection (strand.Conn c) ms) (Did x) → IsExecution b (projection (strand.Conn t) (Of (strand.Conn c) x None ∷ ms))
alone-next b c t x ms before may = chosen (t == c) (λ e. eqb-true t c e)
  where
    chosen : (test : Bool) → (test ≡ true → t ≡ c) → IsExecution b (if test then Did x ∷ projection (strand.Conn t) ms else projection (strand.Conn t) ms)
    chosen true same = (before, subst (λ (i : ℕ). Enabled b (projection (strand.Conn i) ms) (Did x)) (sym (same refl)) may)
    chosen false same = before

pub alone-all : {J : Type 0} (b : Behavior J) (c : ℕ) (x : Action J) (ms : List (GlobalAction J)) → ((s : StrandId) → IsExecution b (projection s ms)) → Enabled b (projection (strand.Conn c) ms) (Did x) → (s : StrandId) → IsExecution b (projection s (Of (strand.Conn c) x None ∷ ms))
alone-all b c x ms before may (strand.Conn t) = alone-next b c t x ms (before (strand.Conn t)) may
alone-all b c x ms before may (strand.Job n) = before (strand.Job n)

-- a strand that lives has arrived
pub has-arrived : {J S : Type 0} {b : Behavior J} {st : S → List (LocalAction J) → Type 0} {c : ℕ} {ms : List (GlobalAction J)} {o : Bool} {h : Held S} {threads : List (StrandId × ℕ)} {offer_queue : List (StrandId × Place)} {book : Book}
    → Around b st c true o h threads offer_queue book ms → c ≤ book.arrivals
has-arrived {c = c} {book = book} a = elim (cases_lt book.arrivals c) [ inl past ↦ clash a.alive (ap lives (a.common.unborn c past)) | inr come ↦ come ]

-- what a strand is shown is no arrival
pub arrives-none : {J : Type 0} (b : Behavior J) (s : StrandId) (es : List (LocalAction J)) (given : Seen) → arrived_by (Of s (action_of b es given) None) ≡ 0
arrives-none b s es (seen.Bytes q bytes) = refl
arrives-none b s es (seen.Ended q) = refl
arrives-none b s es (seen.Broken q) = refl
arrives-none b s es (seen.Ready q) = refl
arrives-none b s es (seen.Took q n) = refl
arrives-none b s es (seen.Later q) = refl
arrives-none b s es (seen.Lost q) = refl
arrives-none b s es (seen.Dialled k) = refl
arrives-none b s es (seen.Refused k) = refl
arrives-none b s es (seen.Due n) = refl
arrives-none b s es (seen.Run k) = refl
arrives-none b s es seen.Stop = refl

module _ {J S : Type 0} (b : Behavior J) (st : S → List (LocalAction J) → Type 0) (c : ℕ) (ms : List (GlobalAction J)) where
  -- one more action of the strand that is out
  pub common-next : (x : Action J) (threads threads' : List (StrandId × ℕ)) (offer_queue offer_queue' : List (StrandId × Place)) (now count count' : ℕ) (book book' : Book)
      → Common b threads offer_queue now count book ms → MayCome b c x ms count'
      → c ≤ book'.arrivals → book'.arrivals ≡ book.arrivals + arrived_by (Of (strand.Conn c) x None)
      → ((n : ℕ) → book'.is_open (id.Sock n) ≡ false) → HasAsides book'
      → Tells book'.history (external b (Of (strand.Conn c) x None ∷ ms))
      → Tells book'.offered (offered_lengths b (Of (strand.Conn c) x None ∷ ms))
      → without_dead (Of (strand.Conn c) x None ∷ ms) threads' ≡ runs_of b (Of (strand.Conn c) x None ∷ ms)
      → without_dead (Of (strand.Conn c) x None ∷ ms) offer_queue' ≡ offers_of b (Of (strand.Conn c) x None ∷ ms)
      → Common b threads' offer_queue' now count' book' (Of (strand.Conn c) x None ∷ ms)
  common-next x threads threads' offer_queue offer_queue' now count count' book book' k may born met sockets asides told offers_told runs offered = record {
    alone = alone-all b c x ms k.alone may.enabled;
    begins = may.begins;
    given = may.given;
    kept = may.kept;
    plain = may.plain;
    runs = runs;
    offered = offered;
    ordered = may.ordered;
    served = (k.served, may.served);
    told = told;
    offers_told = offers_told;
    unborn = λ t past. projection-other t c x None ms (differs c t book'.arrivals born past) ∙ k.unborn t (omega (arith, met, past));
    jobless = k.jobless;
    no_socket = sockets;
    asides = asides;
    count = may.counts;
    arrived = rw met (ap (λ n. n + arrived_by (Of (strand.Conn c) x None)) k.arrived);
    present = k.present;
  }

  pub around-next : (x : Action J) (al al' o o' : Bool) (h h' : Held S) (threads threads' : List (StrandId × ℕ)) (offer_queue offer_queue' : List (StrandId × Place)) (book book' : Book)
      → Around b st c al o h threads offer_queue book ms
      → SameHeld c h h' → SameBook c book book'
      → h'.seats (strand.Conn c) ≡ None
      → lives (Did x ∷ projection (strand.Conn c) ms) ≡ al'
      → book'.is_open (id.Conn c) ≡ o'
      → is_open place.Client (Did x ∷ projection (strand.Conn c) ms) ≡ o'
      → ((k : ℕ) → is_open (place.Sock k) (Did x ∷ projection (strand.Conn c) ms) ≡ false)
      → book'.strand_aside (strand.Conn c) ≡ al'
      → Common b threads' offer_queue' h'.now h'.connections book' (Of (strand.Conn c) x None ∷ ms)
      → Around b st c al' o' h' threads' offer_queue' book' (Of (strand.Conn c) x None ∷ ms)
  around-next x al al' o o' h h' threads threads' offer_queue offer_queue' book book' a sh sb out alive there client socks own_aside common = record {
    each = λ t ne live. let same = projection-other t c x None ms ne in
        fit-same sh.in_offers sh.now (sh.ends t ne) sh.wakes same (sh.seats t ne) (sh.run_queue t ne) (sh.offer_queue t ne) (sb.is_open t ne) (sb.has_ended t ne) (a.each t ne (sym (ap lives same) ∙ live));
    dead = λ t ne gone. sh.seats t ne ∙ a.dead t ne (sym (ap lives (projection-other t c x None ms ne)) ∙ gone);
    closed = λ t ne gone. sb.is_open t ne ∙ a.closed t ne (sym (ap lives (projection-other t c x None ms ne)) ∙ gone);
    shut = λ t ne gone q. let same = projection-other t c x None ms ne in ap (is_open q) same ∙ a.shut t ne (sym (ap lives same) ∙ gone) q;
    aside = λ s ne. sb.strand_aside s ne ∙ a.aside s ne ∙ sym (ap lives (projection-out s c x None ms ne));
    forgotten = λ t ne gone. sb.has_ended t ne ∙ a.forgotten t ne (sym (ap lives (projection-other t c x None ms ne)) ∙ gone);
    out = out;
    alive = ap lives (projection-same c x None ms) ∙ alive;
    connection = there;
    client = ap (is_open place.Client) (projection-same c x None ms) ∙ client;
    no_socket = λ k. ap (is_open (place.Sock k)) (projection-same c x None ms) ∙ socks k;
    own_aside = own_aside;
    disarmed = λ s ne gone. sh.deadlines s ne ∙ a.disarmed s ne (sym (ap lives (projection-out s c x None ms ne)) ∙ gone);
    common = common;
  }

  -- the turn that an action begins
  pub record Begins (x : Action J) (go o : Bool) (h : Held S) (book : Book) : Type 0 where
    pub done : todo b (projection (strand.Conn c) ms) ≡ []
    pub no_use : left_by (Did x) [] ≡ []
    pub threads : run_by (Did x) (waiting b (projection (strand.Conn c) ms)) ≡ only (strand.Conn c) h.run_queue
    pub offered : offered_by (Did x) (to_offer b (projection (strand.Conn c) ms)) ≡ only (strand.Conn c) h.offer_queue
    pub agenda : agenda_at (strand.Conn c) x None ms (agenda b ms) ≡ h.agenda
    pub kind : in_offers (Did x ∷ projection (strand.Conn c) ms) ≡ h.in_offers
    pub offer : IsOffer go o (begun_offer (Did x ∷ projection (strand.Conn c) ms))
    pub moment : moment (Did x ∷ projection (strand.Conn c) ms) ≡ h.now
    pub stopping : is_stopping (Did x ∷ projection (strand.Conn c) ms) ≡ false
    pub no_more : has_ended place.Client (Did x ∷ projection (strand.Conn c) ms) ≡ book.has_ended (id.Conn c)
    pub not_to_end : is_to_end h.to_come c ≡ false
    pub wakes : is_waking (Did x ∷ projection (strand.Conn c) ms) ≡ is_to_wake h.to_come
    pub phase : phase_of (Of (strand.Conn c) x None ∷ ms) ≡ phase_at h.to_come
    pub last : offers_last (Of (strand.Conn c) x None ∷ ms) ≡ h.in_offers

  pub near-begins : (asks : (es : List (LocalAction J)) → IsLastAct (b.acts es)) (x : Action J) (go o : Bool) (h : Held S) (book : Book)
      → Around b st c true o h (lined (strand.Conn c) (b.acts (Did x ∷ projection (strand.Conn c) ms)) h.run_queue) (placed (strand.Conn c) (b.acts (Did x ∷ projection (strand.Conn c) ms)) h.offer_queue) book (Of (strand.Conn c) x None ∷ ms)
      → Begins x go o h book
      → Near b st c (b.acts (Did x ∷ projection (strand.Conn c) ms)) go o h book (Of (strand.Conn c) x None ∷ ms)
  near-begins asks x go o h book a t =
      let same : projection (strand.Conn c) (Of (strand.Conn c) x None ∷ ms) ≡ Did x ∷ projection (strand.Conn c) ms = projection-same c x None ms in
      record {
        around = a;
        to_do = ap (todo b) same ∙ (rw (t.done, t.no_use) refl);
        last_act = asks (Did x ∷ projection (strand.Conn c) ms);
        threads = sym (ap (waiting b) same ∙ ap (λ l. lined_up (b.acts (Did x ∷ projection (strand.Conn c) ms)) l) t.threads);
        offered = sym (ap (to_offer b) same ∙ ap (λ l. l ++ offers (b.acts (Did x ∷ projection (strand.Conn c) ms))) t.offered);
        agenda = sym (ap (λ l. armed_with (strand.Conn c) (b.acts (Did x ∷ projection (strand.Conn c) ms)) l) t.agenda);
        kind = ap in_offers same ∙ t.kind;
        offer = subst (λ (es : List (LocalAction J)). IsOffer go o (begun_offer es)) (sym same) t.offer;
        moment = ap moment same ∙ t.moment;
        stopping = ap is_stopping same ∙ t.stopping;
        no_more = ap (has_ended place.Client) same ∙ t.no_more;
        not_to_end = t.not_to_end;
        wakes = ap is_waking same ∙ t.wakes;
        phase = t.phase;
        last = t.last;
        touched = touches c x None ms;
      }
