-- The end of a life, and of a client.
use Rattle.std.proofs.Common.{◌≡◌, ℕ, Bool, true, false, not, ◌⊎◌, inl, inr, List, [], ◌∷◌, ◌++◌, map, Some, None, if◌then◌else◌, refl, sym, ap, ◌∙◌, subst, append_assoc, append-nil}
use Rattle.send_queue.specs.Queues as queues
use Rattle.strand_contract.specs.declared.turns.Act.{Act}
use Rattle.strand_contract.specs.declared.turns.Act.TheVariants as act
use Rattle.strand_contract.specs.declared.turns.Place.TheVariants as place
use Rattle.strand_contract.specs.Alone.{without_place}
use Rattle.strand_plans.specs.Ledgers.{Ledger, has, has_number, numbers, left_at}
use Rattle.strand_plans.specs.Moves.{Move, Done, Performed, HangUp, Cancel, Look, hung_up, without_deadline, ending, after_act, after_act_if, perform}
use Rattle.strand_plans.proofs.Places.{has-without}
use Rattle.run_contract.specs.declared.turns.RunSeen.{RunSeen}
use Rattle.run_contract.specs.declared.turns.RunSeen.TheVariants as seen
use Rattle.run_contract.specs.Runs.{Waits}
use Rattle.run_contract.specs.Calls as calls
use Rattle.run_contract.specs.Alike.{AreAlike}
use Rattle.run_contract.specs.Conditions.{IsRun, MayCome, entered_as}
use Rattle.connection_plan.specs.Clients.{Stage, Client}
use Rattle.connection_plan.specs.Clients as stage
use Rattle.connection_plan.specs.Services.{Both}
use Rattle.connection_plan.specs.Timers.{Timer, number_of}
use Rattle.connection_plan.specs.Timers as timer
use Rattle.connection_plan.specs.Turns.{is_there, finish, tell, end_timer, lose, lose_at}
use Rattle.connection_plan.proofs.Alike.{hung-up-alike}
use Rattle.connection_plan.proofs.Lifted.{SameRun}
use Rattle.connection_strand.specs.declared.client.Stage as code
use Rattle.connection_strand.specs.declared.client.Stage.TheVariants as own
use Rattle.connection_strand.specs.Views.{View, service}
use Rattle.connection_strand.specs.declared.state.Connection.{Connection}
use Rattle.connection_strand.specs.declared.state.Progress.{Progress}
use Rattle.connection_strand.specs.Acts.{hang_ups}
use Rattle.connection_strand.specs.Kept.{Kept, kept, kept_of, waits_of, stage_of}
use Rattle.connection_strand.specs.Standing.{Moment, plain, Serves, Within, Toward, Came, Goes, IsAt, before, places}
use Rattle.connection_strand.specs.Turns.{Told}
use Rattle.connection_strand.proofs.Moving.{IsSameRun, one-more, stays-within, as-it-was}
use Rattle.connection_strand.proofs.Sockets.{without-none}

-- no run is there, in code
abbrev pub IsFreeStage : code.Stage → Type 0
IsFreeStage st = (st ≡ own.Idle) ⊎ ((st ≡ own.Head) ⊎ ((st ≡ own.Flush) ⊎ ((st ≡ own.Drop) ⊎ (st ≡ own.Over))))

pub free-stage : (st : code.Stage) → IsFreeStage st → stage_of st ≡ stage.Busy → ⊥
free-stage own.Idle h e = let f : stage.Idle ≡ stage.Busy = e in cc
free-stage own.Head h e = let f : stage.Head ≡ stage.Busy = e in cc
free-stage own.Flush h e = let f : stage.Flush ≡ stage.Busy = e in cc
free-stage own.Drop h e = let f : stage.Drop ≡ stage.Busy = e in cc
free-stage own.Over h e = let f : stage.Over ≡ stage.Busy = e in cc
free-stage own.Busy h e = elim h [
  | inl x ↦ let f : own.Busy ≡ own.Idle = x in cc
  | inr y ↦ elim y [
    | inl x ↦ let f : own.Busy ≡ own.Head = x in cc
    | inr z ↦ elim z [
      | inl x ↦ let f : own.Busy ≡ own.Flush = x in cc
      | inr w ↦ elim w [
        | inl x ↦ let f : own.Busy ≡ own.Drop = x in cc
        | inr x ↦ let f : own.Busy ≡ own.Over = x in cc
      ]
    ]
  ]
]

-- ---- the acts of an end

ending-socks : {J : Type 0} (ks : List ℕ) → ending {J = J} (map place.Sock ks) ≡ hang_ups ks ++ act.Gone ∷ []
ending-socks [] = refl
ending-socks (k ∷ ks) = ap (λ xs. act.HangUp (place.Sock k) ∷ xs) (ending-socks ks)

abbrev pub client_act : {J : Type 0} → Bool → List (Act J)
client_act o = if o then act.HangUp place.Client ∷ [] else []

ending-places : {J : Type 0} (o : Bool) (ks : List ℕ) → ending {J = J} (places o ks) ≡ client_act o ++ (hang_ups ks ++ act.Gone ∷ [])
ending-places true ks = ap (λ xs. act.HangUp place.Client ∷ xs) (ending-socks ks)
ending-places false ks = ending-socks ks

module _ {R J I : Type 0} (v : View R J I) where
  abbrev pub To : Moment J → Performed J (Both I) → Connection R → Progress J → Move J (Both I) → Type 0
  To e did c u m = Toward v e did c u m

  pub finishes : (st : Stage) (did : Performed J (Both I)) (c c' : Connection R) (u u' : Progress J) (acts acts' : List (Act J))
      → acts ≡ u.acts.items ++ client_act c.client.is_open → acts' ≡ acts ++ hang_ups c.sockets.items → u'.acts.items ≡ acts' ++ act.Gone ∷ []
      → To (plain st) did c u finish → Came v did c' u'
  finishes st did c c' u u' acts acts' first others gone h =
      let b = h.ledger in
      let w = h.within.serves in
      let open_is : is_there b ≡ c.client.is_open = sym (ap (λ (k : Kept). k.opened) w.client) in
      let all : u.acts.items ++ ending b.opened ≡ u'.acts.items =
      ap (λ ps. u.acts.items ++ ending ps) w.sockets
      ∙ ap (λ xs. u.acts.items ++ xs) (ending-places (is_there b) c.sockets.items)
      ∙ ap (λ o. u.acts.items ++ (client_act o ++ (hang_ups c.sockets.items ++ act.Gone ∷ []))) open_is
      ∙ sym (append_assoc u.acts.items (client_act c.client.is_open) (hang_ups c.sockets.items ++ act.Gone ∷ []))
      ∙ ap (λ xs. xs ++ (hang_ups c.sockets.items ++ act.Gone ∷ [])) (sym first)
      ∙ sym (append_assoc acts (hang_ups c.sockets.items) (act.Gone ∷ []))
      ∙ ap (λ xs. xs ++ act.Gone ∷ []) (sym others) ∙ sym gone in
      subst (λ (p : Performed J (Both I)). Came v p c' u') (sym h.leads) (record {
        acts = all;
        stays = λ on. absurd (let e : true ≡ false = on in cc);
        taking = λ there. absurd (let e : false ≡ true = there in cc);
      })

  -- moves that are made leave it within the turn
  pub goes-at : (f : Move J (Both I) → Move J (Both I)) (st : Stage) (c c' : Connection R) (u u' : Progress J) → Goes v f c u c' u'
      → IsAt v st c u → IsAt v st c' u'
  goes-at f st c c' u u' goes h =
      let did = before u.acts.items (perform (f Done) h.0 h.1) in
      let t = goes (plain st) did Done (record { ledger = h.0; inner = h.1; within = h.2; leads = refl }) in
      (t.ledger, t.inner, t.within)

  -- ---- what the run is told of its client

  -- it may be told this, by what it waits for
  abbrev pub MayTell : ℕ → RunSeen → Connection R → Type 0
  MayTell now x c = (b : Ledger J) (r : I) → b.asked ≡ None → waits_of c.waits ≡ v.meaning.plan.waits r → (entered_as x b ≡ b) × MayCome v.meaning.plan now x b r

  pub may-tell : (now : ℕ) (x : RunSeen) (c : Connection R) (u : Progress J) → MayTell now x c → IsAt v stage.Busy c u
      → (run : R) → c.run ≡ Some run → calls.MayBeTold v.meaning now x run
  may-tell now x c u may h run is =
      let mine : h.2.run.0 ≡ run = (let g : Some h.2.run.0 ≡ Some run = sym h.2.run.1 ∙ is in cc) in
      (h.0, h.1.run, subst (λ (y : R). v.meaning.stands y h.0 h.1.run) mine h.2.run.2, h.2.known, (may h.0 h.1.run h.2.serves.none_asked h.2.run.3).1)

  pub tells : (now : ℕ) (x : RunSeen) (did : Performed J (Both I)) (c : Connection R) (u : Progress J) (m : Move J (Both I)) → MayTell now x c
      → To (plain stage.Busy) did c u (tell (service v) now x m) → Told v now x did c u m
  tells now x did c u m may h =
      let b = h.ledger in
      let s = h.inner in
      let w = h.within in
      let comes = may b s.run w.serves.none_asked w.run.3 in
      record {
        ledger = b;
        inner = s;
        serves = subst (λ (l : Ledger J). Serves c u l s) (sym comes.0) w.serves;
        busy = w.at;
        run = w.run.0;
        is = w.run.1;
        standing = w.run.2;
        waits = w.run.3;
        known = w.known;
        comes = comes.1;
        leads = h.leads ∙ ap (λ (l : Ledger J). before u.acts.items (perform (tell (service v) now x m) l s)) (sym comes.0);
      }

  -- ---- the client is hung up

  module _ (lawful : IsRun v.meaning.plan v.meaning.holds) (apart : (x : R) (b c : Ledger J) (r : I) → AreAlike b c → v.meaning.stands x b r → v.meaning.stands x c r) where
    hung-up-same : (b : Ledger J) → SameRun b (hung_up place.Client b)
    hung-up-same b = record { alike = hung-up-alike b; places = λ k. refl; begun = λ k. refl }

    gone-client : (b : Ledger J) → has place.Client (without_place place.Client b.opened) ≡ false
    gone-client b = has-without place.Client place.Client b.opened

    socks-left : (ks : List ℕ) → without_place place.Client (map place.Sock ks) ≡ map place.Sock ks
    socks-left [] = refl
    socks-left (k ∷ ks) = ap (λ ps. place.Sock k ∷ ps) (socks-left ks)

    places-left : (o : Bool) (ks : List ℕ) → without_place place.Client (places o ks) ≡ places false ks
    places-left true ks = socks-left ks
    places-left false ks = socks-left ks

    pub hangs-up : (e : Moment J) (did : Performed J (Both I)) (c c' : Connection R) (u u' : Progress J) (m : Move J (Both I)) → IsSameRun c c' → c.client.is_open ≡ true
        → kept c'.client ≡ record (kept c.client) { opened = false; sending = queues.dropped (kept c.client).sending } → u'.acts.items ≡ u.acts.items ++ act.HangUp place.Client ∷ []
        → To e did c u (HangUp place.Client m) → To e did c' u' m
    hangs-up e did c c' u u' m same opened client acts h =
        let b = h.ledger in
        let s = h.inner in
        let w = h.within.serves in
        let b' = hung_up place.Client b in
        let there : is_there b ≡ true = sym (ap (λ (k : Kept). k.opened) w.client) ∙ opened in
        record {
          ledger = b';
          inner = s;
          within = stays-within v lawful apart e c c' u u' b b' s s h.within (hung-up-same b) refl refl same.run same.waits (record {
            client = client ∙ ap (λ (k : Kept). record k { opened = false; sending = queues.dropped k.sending }) w.client
                ∙ sym (ap (λ o. record (kept_of b s.client) { opened = o; sending = record { bytes = if o then left_at place.Client b else []; phase = (kept_of b s.client).sending.phase; gone = not o } }) (gone-client b));
            sockets = ap (without_place place.Client) w.sockets ∙ places-left (is_there b) c.sockets.items ∙ ap (λ o. places o c.sockets.items) (sym (gone-client b)) ∙ ap (places (is_there b')) (sym same.sockets);
            count = same.count ∙ w.count;
            keeping = same.keeping ∙ w.keeping;
            offered = λ there. absurd (let f : false ≡ true = sym (gone-client b) ∙ there in cc);
            taking = λ there. absurd (let f : false ≡ true = sym (gone-client b) ∙ there in cc);
            counted = w.counted;
            once = w.once;
            none_asked = w.none_asked;
            on = w.on;
          });
          leads = one-more u.acts.items u'.acts.items (act.HangUp place.Client) did (perform m b' s) acts
              (h.leads ∙ ap (λ o. before u.acts.items (after_act_if o (act.HangUp place.Client) (perform m b' s))) there);
        }

    pub hangs-not : (e : Moment J) (did : Performed J (Both I)) (c : Connection R) (u : Progress J) (m : Move J (Both I)) → c.client.is_open ≡ false
        → To e did c u (HangUp place.Client m) → To e did c u m
    hangs-not e did c u m shut h =
        let b = h.ledger in
        let s = h.inner in
        let none : is_there b ≡ false = sym (ap (λ (k : Kept). k.opened) h.within.serves.client) ∙ shut in
        record {
          ledger = b;
          inner = s;
          within = h.within;
          leads = h.leads ∙ ap (λ o. before u.acts.items (after_act_if o (act.HangUp place.Client) (perform m (hung_up place.Client b) s))) none
              ∙ ap (λ ps. before u.acts.items (perform m (record b { opened = ps }) s)) (without-none place.Client b.opened none);
        }

    pub hangs-up-if : (o : Bool) (e : Moment J) (did : Performed J (Both I)) (c c' : Connection R) (u u' : Progress J) (m : Move J (Both I)) → IsSameRun c c' → c.client.is_open ≡ o
        → kept c'.client ≡ (if o then record (kept c.client) { opened = false; sending = queues.dropped (kept c.client).sending } else kept c.client)
        → u'.is_offered ≡ u.is_offered → u'.acts.items ≡ u.acts.items ++ client_act o → To e did c u (HangUp place.Client m) → To e did c' u' m
    hangs-up-if true e did c c' u u' m same opened client offered acts h = hangs-up e did c c' u u' m same opened client acts h
    hangs-up-if false e did c c' u u' m same shut client offered acts h =
        as-it-was v lawful apart e did c c' u u' m same client offered (acts ∙ append-nil u.acts.items) (hangs-not e did c u m shut h)

  -- ---- the client is lost

  not-busy : (now : ℕ) (st : Stage) (s : Both I) → (st ≡ stage.Busy → ⊥) → lose_at (service v) now st s ≡ finish
  not-busy now stage.Busy s h = absurd (h refl)
  not-busy now stage.Idle s h = refl
  not-busy now stage.Head s h = refl
  not-busy now stage.Flush s h = refl
  not-busy now stage.Drop s h = refl
  not-busy now stage.Over s h = refl

  -- without a run the life is over
  pub loses-free : (now : ℕ) (st : Stage) (did : Performed J (Both I)) (c : Connection R) (u : Progress J) → ((kept c.client).stage ≡ stage.Busy → ⊥)
      → To (plain st) did c u (lose (service v) now) → To (plain st) did c u finish
  loses-free now st did c u free h =
      let b = h.ledger in
      let s = h.inner in
      record {
        ledger = b;
        inner = s;
        within = h.within;
        leads = h.leads ∙ ap (λ (n : Move J (Both I)). before u.acts.items (perform n b s)) (not-busy now s.client.stage s (λ e. free (ap (λ (k : Kept). k.stage) h.within.serves.client ∙ e)));
      }

  -- with a run: it is told so, if it has a client
  abbrev pub told_gone : ℕ → Bool → Move J (Both I)
  told_gone now x = if x then tell (service v) now seen.ClientGone Done else Done

  abbrev pub tells_gone : ℕ → Move J (Both I)
  tells_gone now = Look (λ b s. told_gone now (v.meaning.plan.waits s.run).client)

  ends-same : (now : ℕ) (t : Timer) (m n : Move J (Both I)) (s : Both I) → ((b : Ledger J) → perform m b s ≡ perform n b s)
      → (b : Ledger J) → perform (end_timer (service v) now t m) b s ≡ perform (end_timer (service v) now t n) b s
  ends-same now t m n s f b = by (has_number (number_of t) (numbers b.armed))
    where
      by : (c : Bool) → perform (if c then Cancel (number_of t) m else m) b s ≡ perform (if c then Cancel (number_of t) n else n) b s
      by true = ap (after_act (act.Cancel (number_of t))) (f (without_deadline (number_of t) b))
      by false = f b

  pub loses-busy : (now : ℕ) (st : Stage) (did : Performed J (Both I)) (c : Connection R) (u : Progress J) → (kept c.client).stage ≡ stage.Busy
      → To (plain st) did c u (lose (service v) now)
      → To (plain stage.Busy) did c u (HangUp place.Client (end_timer (service v) now timer.Body (end_timer (service v) now timer.Send (tells_gone now))))
  loses-busy now st did c u busy h =
      let b = h.ledger in
      let s = h.inner in
      let at : s.client.stage ≡ stage.Busy = sym (ap (λ (k : Kept). k.stage) h.within.serves.client) ∙ busy in
      let w : Within v (plain stage.Busy) c u b s = subst (λ (x : Stage). Within v (plain x) c u b s) (sym h.within.at ∙ at) h.within in
      let told = told_gone now (v.meaning.plan.waits s.run).client in
      record {
        ledger = b;
        inner = s;
        within = w;
        leads = h.leads ∙ ap (λ (x : Stage). before u.acts.items (perform (lose_at (service v) now x s) b s)) at
            ∙ ap (λ (p : Performed J (Both I)). before u.acts.items (after_act_if (has place.Client b.opened) (act.HangUp place.Client) p))
            (ends-same now timer.Body (end_timer (service v) now timer.Send told) (end_timer (service v) now timer.Send (tells_gone now)) s
            (ends-same now timer.Send told (tells_gone now) s (λ l. refl)) (hung_up place.Client b));
      }

  pub tells-gone : (now : ℕ) (did : Performed J (Both I)) (c : Connection R) (u : Progress J) (x : Bool) → c.waits.client ≡ x
      → To (plain stage.Busy) did c u (tells_gone now) → To (plain stage.Busy) did c u (told_gone now x)
  tells-gone now did c u x client h =
      let b = h.ledger in
      let s = h.inner in
      record {
        ledger = b;
        inner = s;
        within = h.within;
        leads = h.leads ∙ ap (λ (y : Bool). before u.acts.items (perform (told_gone now y) b s)) (sym (ap (λ (w : Waits). w.client) h.within.run.3) ∙ client);
      }

  pub busy-at : (st : Stage) (c : Connection R) (u : Progress J) → (kept c.client).stage ≡ stage.Busy → IsAt v st c u → IsAt v stage.Busy c u
  busy-at st c u busy h =
      let at : st ≡ stage.Busy = sym h.2.at ∙ sym (ap (λ (k : Kept). k.stage) h.2.serves.client) ∙ busy in
      subst (λ (x : Stage). IsAt v x c u) at h

  pub may-be-gone : (now : ℕ) (c : Connection R) → c.waits.client ≡ true → c.waits.asks ≡ None → MayTell now seen.ClientGone c
  may-be-gone now c client asks b r none waits =
      (refl, (record { outside = none; within = sym (ap (λ (w : Waits). w.asks) waits) ∙ asks }, sym (ap (λ (w : Waits). w.client) waits) ∙ client))

  pub has-run : (c : Connection R) (u : Progress J) → IsAt v stage.Busy c u → c.run ≡ None → ⊥
  has-run c u h e = let f : None ≡ Some h.2.run.0 = sym e ∙ h.2.run.1 in cc
