-- Requests in turn: where no run is, one begins, a head is refused, or more is waited for.
use Rattle.std.proofs.Common.{◌≡◌, ℕ, Bool, true, false, not, ◌&&◌, ◌⊎◌, inl, inr, List, [], Some, if◌then◌else◌, refl, sym, ap, ◌∙◌, subst}
use Rattle.uri_args.specs.declared.targets.Target.{Target}
use Rattle.http_in.specs.declared.heads.Head.{Head}
use Rattle.client_line.specs.declared.requests.LineOut.{LineOut}
use Rattle.client_line.specs.declared.requests.LineOut.TheVariants as out
use Rattle.client_line.specs.declared.line.Held.{Held}
use Rattle.client_line.specs.declared.line.Held.TheVariants as held
use Rattle.client_line.specs.Records.{At, Came}
use Rattle.client_line.specs.Records as line
use Rattle.client_line.specs.Lines.{held_in}
use Rattle.strand_contract.specs.declared.turns.Place.TheVariants as place
use Rattle.strand_contract.specs.Alone.{is_some_left}
use Rattle.strand_plans.specs.Ledgers.{Ledger, left_at}
use Rattle.strand_plans.specs.Moves.{Move, Done, Performed, Look, perform}
use Rattle.run_contract.specs.declared.turns.RunTurn.{RunTurn}
use Rattle.run_contract.specs.Runs.{Waits, waits_at_first}
use Rattle.run_contract.specs.Calls as calls
use Rattle.run_contract.specs.Conditions.{IsBlank, IsRun, Leaves}
use Rattle.connection_plan.specs.Clients.{Stage, Client, with_request, with_refusal, closes_after}
use Rattle.connection_plan.specs.Clients as stage
use Rattle.connection_plan.specs.Services.{Both}
use Rattle.connection_plan.specs.Timers.{Timer}
use Rattle.connection_plan.specs.Timers as timer
use Rattle.connection_plan.specs.Conditions.{AgreesWithin}
use Rattle.connection_plan.specs.Turns.{is_there, is_all_taken, change, send, begin, begin_timer, end_timer, finish, close_if_taken, refuse, wait_for, heard_by, next}
use Rattle.connection_strand.specs.Views.{View, service}
use Rattle.connection_strand.specs.declared.state.Connection.{Connection}
use Rattle.connection_strand.specs.declared.state.Progress.{Progress}
use Rattle.connection_strand.specs.Kept.{Kept, kept, kept_of, waits_of, all_taken, stage_waiting, timer_waiting}
use Rattle.connection_strand.specs.Standing.{Moment, plain, HasRun, Serves, Toward, IsOn, IsFree, before, places}
use Rattle.connection_strand.specs.Turns.{Took, IsRefusedAt, IsAnswered}
use Rattle.connection_strand.proofs.Moving.{IsSameRun}
use Rattle.connection_strand.proofs.Telling.{took-turn}

module _ {R J I : Type 0} (v : View R J I) where
  abbrev pub To : Moment J → Performed J (Both I) → Connection R → Progress J → Move J (Both I) → Type 0
  To e did c u m = Toward v e did c u m

  -- where no run is nothing of one is left
  pub blank-free : (st : Stage) (b : Ledger J) (r : I) → IsFree st → AgreesWithin v.meaning.holds st b r → IsBlank b
  blank-free stage.Idle b r f h = h
  blank-free stage.Head b r f h = h
  blank-free stage.Flush b r f h = h
  blank-free stage.Drop b r f h = h
  blank-free stage.Busy b r f h = absurd f
  blank-free stage.Over b r f h = absurd f

  agrees-free : (st : Stage) (b : Ledger J) (r : I) → IsFree st → IsBlank b → AgreesWithin v.meaning.holds st b r
  agrees-free stage.Idle b r f h = h
  agrees-free stage.Head b r f h = h
  agrees-free stage.Flush b r f h = h
  agrees-free stage.Drop b r f h = h
  agrees-free stage.Busy b r f h = absurd f
  agrees-free stage.Over b r f h = absurd f

  runs-free : (st : Stage) (c : Connection R) (b : Ledger J) (r : I) → IsFree st → HasRun v st c.run (waits_of c.waits) b r
  runs-free stage.Idle c b r f = tt
  runs-free stage.Head c b r f = tt
  runs-free stage.Flush c b r f = tt
  runs-free stage.Drop c b r f = tt
  runs-free stage.Busy c b r f = absurd f
  runs-free stage.Over c b r f = absurd f

  on-free : (st : Stage) → IsFree st → IsOn st
  on-free stage.Idle f = tt
  on-free stage.Head f = tt
  on-free stage.Flush f = tt
  on-free stage.Drop f = tt
  on-free stage.Busy f = absurd f
  on-free stage.Over f = absurd f

  -- it goes to another stage without a run
  pub restages : (f : Client → Client) (k : Kept → Kept) (st st' : Stage) (did : Performed J (Both I)) (c c' : Connection R) (u : Progress J) (m : Move J (Both I)) → IsFree st → IsFree st'
      → ((b : Ledger J) (x : Client) → k (kept_of b x) ≡ kept_of b (f x)) → ((x : Client) → (f x).stage ≡ st') → IsSameRun c c' → kept c'.client ≡ k (kept c.client)
      → To (plain st) did c u (change f m) → To (plain st') did c' u m
  restages f k st st' did c c' u m free free' so goes same client h =
      let b = h.ledger in
      let s = h.inner in
      let w = h.within.serves in
      record {
        ledger = b;
        inner = record s { client = f s.client };
        within = record {
          serves = record {
            client = client ∙ ap k w.client ∙ so b s.client;
            sockets = w.sockets ∙ ap (places (is_there b)) (sym same.sockets);
            count = same.count ∙ w.count;
            keeping = same.keeping ∙ w.keeping;
            offered = w.offered;
            taking = λ there. same.taking ∙ w.taking there;
            counted = w.counted;
            once = w.once;
            none_asked = w.none_asked;
            on = subst IsOn (sym (goes s.client)) (on-free st' free');
          };
          at = goes s.client;
          run = runs-free st' c' b s.run free';
          known = agrees-free st' b s.run free' (blank-free st b s.run free h.within.known);
          blank = λ over. absurd (let e : false ≡ true = over in cc);
          made = refl;
        };
        leads = h.leads;
      }

  -- a request begins
  pub begins-request : (lawful : IsRun v.meaning.plan v.meaning.holds) (now : ℕ) (st : Stage) (head : Head) (target : Target) (next : RunTurn J) (did : Performed J (Both I)) (c c' : Connection R) (u : Progress J) (m : Move J (Both I)) (run : R)
      → IsFree st → calls.Begins v.meaning now c.count head target run next → c'.run ≡ Some run → waits_of c'.waits ≡ waits_at_first true
      → c'.sockets ≡ c.sockets → c'.count ≡ c.count → c'.keeping ≡ c.keeping → c'.is_taking ≡ c.is_taking
      → kept c'.client ≡ record (kept c.client) { stage = stage.Busy; times = v.serving.times_of head target; reply = stage.Unsent; expects = head.expects; waited = false }
      → To (plain st) did c u (begin (service v) now m head target) → Took v now next did c' u m
  begins-request lawful now st head target next did c c' u m run free begins is waits socks count keeping taking client h =
      let b = h.ledger in
      let s = h.inner in
      let w = h.within.serves in
      let times = v.serving.times_of head target in
      let blank : IsBlank b = blank-free st b s.run free h.within.known in
      let t = v.meaning.plan.begun now head target b in
      took-turn v now t next did c' u m b (record { client = with_request head target times s.client; run = v.meaning.plan.unborn }) run (record {
        client = client ∙ ap (λ (k : Kept). record k { stage = stage.Busy; times = times; reply = stage.Unsent; expects = head.expects; waited = false }) w.client;
        sockets = w.sockets ∙ ap (λ v. places (is_there b) v.items) (sym socks);
        count = count ∙ w.count;
        keeping = keeping ∙ w.keeping;
        offered = w.offered;
        taking = λ there. taking ∙ w.taking there;
        counted = w.counted;
        once = w.once;
        none_asked = w.none_asked;
        on = tt;
      }) refl is (begins b blank (sym w.count))
      (subst (λ (x : Waits). Leaves v.meaning.plan v.meaning.holds x t b) (sym waits) (lawful.begins now head target b blank)) h.leads

  -- ---- what is waited for

  abbrev looks : (go : Ledger J → Both I → Move J (Both I)) (n : Move J (Both I)) (e : Moment J) (did : Performed J (Both I)) (c : Connection R) (u : Progress J)
      → (h : To e did c u (Look go)) → go h.ledger h.inner ≡ n → To e did c u n
  looks go n e did c u h is = record {
    ledger = h.ledger;
    inner = h.inner;
    within = h.within;
    leads = h.leads ∙ ap (λ (n : Move J (Both I)). before u.acts.items (perform n h.ledger h.inner)) is;
  }

  waits-by : (now : ℕ) (x : Held) → wait_for (service v) now x ≡ change (λ c. record c { stage = stage_waiting x }) (begin_timer (service v) now (timer_waiting x) Done)
  waits-by now held.Request = refl
  waits-by now held.Body = refl
  waits-by now held.Nothing = refl
  waits-by now held.Begun = refl

  waits-free : (x : Held) → IsFree (stage_waiting x)
  waits-free held.Request = tt
  waits-free held.Body = tt
  waits-free held.Nothing = tt
  waits-free held.Begun = tt

  pub waits-so : (now : ℕ) (st : Stage) (did : Performed J (Both I)) (c c' : Connection R) (u : Progress J) (x : Held) (t : Timer) → x ≡ held_in (kept c.client).came.at (kept c.client).came.held
      → IsFree st → IsSameRun c c' → kept c'.client ≡ record (kept c.client) { stage = stage_waiting x } → t ≡ timer_waiting x
      → To (plain st) did c u (Look (λ b s. wait_for (service v) now (held_in s.client.came.at s.client.came.held))) → To (plain (stage_waiting x)) did c' u (begin_timer (service v) now t Done)
  waits-so now st did c c' u x t is free same client timed h =
      let to = stage_waiting x in
      subst (λ (y : Timer). To (plain to) did c' u (begin_timer (service v) now y Done)) (sym timed)
      (restages (λ k. record k { stage = to }) (λ k. record k { stage = to }) st to did c c' u (begin_timer (service v) now (timer_waiting x) Done) free (waits-free x) (λ b x. refl) (λ x. refl) same client
      (looks _ _ (plain st) did c u h (ap (wait_for (service v) now) (sym (is ∙ ap (λ (k : Kept). held_in k.came.at k.came.held) h.within.serves.client)) ∙ waits-by now x)))

  -- ---- a head that is refused

  refused-at : (now code : ℕ) (at : At) (bytes : List ℕ) (x : Held) → IsRefusedAt at → x ≡ held_in at bytes
      → (x ≡ held.Begun → refuse (service v) now at code ≡ refuse (service v) now (line.Over code) code) × ((x ≡ held.Begun → ⊥) → refuse (service v) now at code ≡ finish)
  refused-at now code (line.Over status) bytes x h e = ((λ f. refl), (λ f. absurd (f e)))
  refused-at now code (line.Dropping far) bytes x h e = ((λ f. absurd (let g : held.Body ≡ held.Begun = sym e ∙ f in cc)), (λ f. refl))
  refused-at now code line.Head bytes x h e = absurd h
  refused-at now code (line.Present body kind skips) bytes x h e = absurd h

  abbrev pub Refuses : ℕ → ℕ → Moment J → Performed J (Both I) → Connection R → Progress J → Type 0
  Refuses now code e did c u = To e did c u (Look (λ b s. end_timer (service v) now timer.Header (refuse (service v) now s.client.came.at code)))

  pub refuses-head : (now code : ℕ) (e : Moment J) (did : Performed J (Both I)) (c : Connection R) (u : Progress J) (x : Held) → IsRefusedAt (kept c.client).came.at
      → x ≡ held_in (kept c.client).came.at (kept c.client).came.held → x ≡ held.Begun
      → Refuses now code e did c u → To e did c u (end_timer (service v) now timer.Header (refuse (service v) now (line.Over code) code))
  refuses-head now code e did c u x at is begun h =
      let came = ap (λ (k : Kept). k.came) h.within.serves.client in
      looks _ _ e did c u h (ap (end_timer (service v) now timer.Header)
      (ap (λ (k : Came). refuse (service v) now k.at code) (sym came) ∙ (refused-at now code (kept c.client).came.at (kept c.client).came.held x at is).0 begun))

  pub refuses-body : (now code : ℕ) (e : Moment J) (did : Performed J (Both I)) (c : Connection R) (u : Progress J) (x : Held) → IsRefusedAt (kept c.client).came.at
      → x ≡ held_in (kept c.client).came.at (kept c.client).came.held → (x ≡ held.Begun → ⊥)
      → Refuses now code e did c u → To e did c u (end_timer (service v) now timer.Header finish)
  refuses-body now code e did c u x at is begun h =
      let came = ap (λ (k : Kept). k.came) h.within.serves.client in
      looks _ _ e did c u h (ap (end_timer (service v) now timer.Header)
      (ap (λ (k : Came). refuse (service v) now k.at code) (sym came) ∙ (refused-at now code (kept c.client).came.at (kept c.client).came.held x at is).1 begun))

  pub refuses-now : (now code : ℕ) (st : Stage) (did : Performed J (Both I)) (c c' : Connection R) (u : Progress J) (bytes : List ℕ) → IsFree st → IsSameRun c c'
      → kept c'.client ≡ record (kept c.client) { stage = stage.Flush; times = v.serving.default_times; reply = stage.Whole true } → bytes ≡ v.serving.refusal code now
      → To (plain st) did c u (refuse (service v) now (line.Over code) code) → To (plain stage.Flush) did c' u (send (service v) 0 bytes (close_if_taken (service v) now))
  refuses-now now code st did c c' u bytes free same client is h =
      subst (λ (xs : List ℕ). To (plain stage.Flush) did c' u (send (service v) 0 xs (close_if_taken (service v) now))) (sym is)
      (restages (with_refusal code v.serving.default_times) (λ k. record k { stage = stage.Flush; times = v.serving.default_times; reply = stage.Whole true }) st stage.Flush did c c' u
      (send (service v) now (v.serving.refusal code now) (close_if_taken (service v) now)) free tt (λ b x. refl) (λ x. refl) same client h)

  pub not-begun : (x : Held) → (x ≡ held.Request) ⊎ ((x ≡ held.Body) ⊎ (x ≡ held.Nothing)) → x ≡ held.Begun → ⊥
  not-begun x h e = elim h [
    | inl f ↦ let g : held.Request ≡ held.Begun = sym f ∙ e in cc
    | inr y ↦ elim y [
      | inl f ↦ let g : held.Body ≡ held.Begun = sym f ∙ e in cc
      | inr f ↦ let g : held.Nothing ≡ held.Begun = sym f ∙ e in cc
    ]
  ]

  -- all is taken, by what is kept
  pub taken-is : (c : Connection R) (u : Progress J) (b : Ledger J) (s : Both I) → Serves c u b s → all_taken (kept c.client) ≡ is_all_taken b
  taken-is c u b s w = ap all_taken w.client ∙ by (is_there b)
    where
      by : (o : Bool) → not (o && is_some_left (if o then left_at place.Client b else [])) ≡ not (o && is_some_left (left_at place.Client b))
      by true = refl
      by false = refl

  pub closes : (now : ℕ) (e : Moment J) (did : Performed J (Both I)) (c : Connection R) (u : Progress J) (x : Bool) → all_taken (kept c.client) ≡ x
      → To e did c u (close_if_taken (service v) now) → To e did c u (if x then finish else Done)
  closes now e did c u x is h =
      looks _ _ e did c u h (ap (λ (y : Bool). if y then finish else Done) (sym (taken-is c u h.ledger h.inner h.within.serves) ∙ is))

  -- ---- what is heard

  abbrev pub Heard : ℕ → Bool → Move J (Both I) → LineOut → Moment J → Performed J (Both I) → Connection R → Progress J → Type 0
  Heard now anew rest answer e did c u = To e did c u (Look (λ b s. heard_by (service v) now anew rest s.client.came s.client.ended answer))

  abbrev pub heard-as : (now : ℕ) (anew : Bool) (rest : Move J (Both I)) (x y : LineOut) (e : Moment J) (did : Performed J (Both I)) (c : Connection R) (u : Progress J) → x ≡ y
      → Heard now anew rest x e did c u → Heard now anew rest y e did c u
  heard-as now anew rest x y e did c u is h = subst (λ (z : LineOut). Heard now anew rest z e did c u) is h

  pub hears-request : (now : ℕ) (anew : Bool) (rest : Move J (Both I)) (x : LineOut) (head : Head) (target : Target) (e : Moment J) (did : Performed J (Both I)) (c : Connection R) (u : Progress J)
      → x ≡ out.Request head target → Heard now anew rest x e did c u → To e did c u (end_timer (service v) now timer.Header (begin (service v) now rest head target))
  hears-request now anew rest x head target e did c u is h =
      let g = heard-as now anew rest x (out.Request head target) e did c u is h in
      record { ledger = g.ledger; inner = g.inner; within = g.within; leads = g.leads }

  pub hears-refusal : (now : ℕ) (anew : Bool) (rest : Move J (Both I)) (x : LineOut) (code : ℕ) (e : Moment J) (did : Performed J (Both I)) (c : Connection R) (u : Progress J)
      → x ≡ out.Refused code → Heard now anew rest x e did c u → Refuses now code e did c u
  hears-refusal now anew rest x code e did c u is h =
      let g = heard-as now anew rest x (out.Refused code) e did c u is h in
      record { ledger = g.ledger; inner = g.inner; within = g.within; leads = g.leads }

  pub hears-end : (now : ℕ) (anew : Bool) (rest : Move J (Both I)) (x : LineOut) (e : Moment J) (did : Performed J (Both I)) (c : Connection R) (u : Progress J)
      → x ≡ out.Waiting → c.client.has_ended ≡ true → Heard now anew rest x e did c u → To e did c u finish
  hears-end now anew rest x e did c u is ended h =
      let g = heard-as now anew rest x out.Waiting e did c u is h in
      looks _ _ e did c u g (ap (λ (y : Bool). if y then finish else (if anew then wait_for (service v) now (held_in g.inner.client.came.at g.inner.client.came.held) else Done))
      (sym (ap (λ (k : Kept). k.ended) g.within.serves.client) ∙ ended))

  pub hears-waiting : (now : ℕ) (anew y : Bool) (rest : Move J (Both I)) (x : LineOut) (e : Moment J) (did : Performed J (Both I)) (c : Connection R) (u : Progress J)
      → x ≡ out.Waiting → c.client.has_ended ≡ false → anew ≡ y → Heard now anew rest x e did c u
      → To e did c u (Look (λ b s. if y then wait_for (service v) now (held_in s.client.came.at s.client.came.held) else Done))
  hears-waiting now anew y rest x e did c u is ended anew-is h =
      let g = heard-as now anew rest x out.Waiting e did c u is h in
      let waits : Bool → Move J (Both I) = λ z. if z then wait_for (service v) now (held_in g.inner.client.came.at g.inner.client.came.held) else Done in
      let n = looks _ (waits y) e did c u g (ap (λ (z : Bool). if z then finish else waits anew) (sym (ap (λ (k : Kept). k.ended) g.within.serves.client) ∙ ended) ∙ ap waits anew-is) in
      record { ledger = n.ledger; inner = n.inner; within = n.within; leads = n.leads }

  pub hears-nothing : (now : ℕ) (anew : Bool) (rest : Move J (Both I)) (x : LineOut) (e : Moment J) (did : Performed J (Both I)) (c : Connection R) (u : Progress J)
      → x ≡ out.Waiting → c.client.has_ended ≡ false → anew ≡ false → Heard now anew rest x e did c u → To e did c u Done
  hears-nothing now anew rest x e did c u is ended anew-is h =
      let n = hears-waiting now anew false rest x e did c u is ended anew-is h in
      record { ledger = n.ledger; inner = n.inner; within = n.within; leads = n.leads }

pub refused-so : (x : LineOut) (code : ℕ) (at : At) → x ≡ out.Refused code → IsAnswered x at → IsRefusedAt at
refused-so x code at e h = subst (λ (y : LineOut). IsAnswered y at) e h
