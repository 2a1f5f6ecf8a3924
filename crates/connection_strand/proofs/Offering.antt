-- What is sent to the client, and offers of it.
use Rattle.std.proofs.Common.{◌≡◌, ℕ, ◌≤◌, ◌%◌, zero, suc, Bool, true, false, not, ◌&&◌, ◌||◌, List, [], ◌∷◌, ◌++◌, length, drop, if◌then◌else◌, refl, sym, ap, ◌∙◌, append-nil, arith, length-append, subst}
use Rattle.send_queue.specs.Records.{Sending}
use Rattle.send_queue.specs.Queues as queues
use Rattle.strand_contract.specs.declared.turns.Act.TheVariants as act
use Rattle.strand_contract.specs.declared.turns.Place.{Place}
use Rattle.strand_contract.specs.declared.turns.Place.TheVariants as place
use Rattle.strand_contract.specs.Actions.{same_place}
use Rattle.strand_contract.specs.Alone.{is_some_left}
use Rattle.strand_plans.specs.Ledgers.{Ledger, has, has_offer, is_place, left_at}
use Rattle.strand_plans.specs.Ledgers as ledgers
use Rattle.strand_plans.specs.Moves.{Move, Performed, Send, with_sent, with_offer, after_act_if, perform}
use Rattle.strand_plans.proofs.Places.{has-append}
use Rattle.run_contract.specs.Alike.{AreAlike}
use Rattle.run_contract.specs.Conditions.{IsRun}
use Rattle.connection_plan.specs.Clients.{with_more}
use Rattle.connection_plan.specs.Services.{Both}
use Rattle.connection_plan.specs.Turns.{is_there, change, send}
use Rattle.connection_plan.proofs.Alike.{sent-alike}
use Rattle.connection_plan.proofs.Lifted.{SameRun}
use Rattle.connection_plan.proofs.Steps.{sent-to-client-same}
use Rattle.connection_strand.specs.Views.{View, service}
use Rattle.connection_strand.specs.declared.state.Connection.{Connection}
use Rattle.connection_strand.specs.declared.state.Progress.{Progress}
use Rattle.connection_strand.specs.Kept.{Kept, kept, kept_of, sending_of, wants_offer}
use Rattle.connection_strand.specs.Standing.{Moment, Serves, Toward, before, places}
use Rattle.connection_strand.proofs.Moving.{IsSameRun, one-more, stays-within}

-- nothing more is sent
nothing-sent : (c d : Bool) (xs : List ℕ) → (if c && d then xs ++ [] else xs) ≡ xs
nothing-sent true true xs = append-nil xs
nothing-sent true false xs = refl
nothing-sent false d xs = refl

pub sends-nothing : {J : Type 0} (q : Place) (b : Ledger J) → with_sent q [] b ≡ b
sends-nothing q b = λ i. record b { sent = λ p. nothing-sent (has q b.opened) (same_place p q) (b.sent p) i }

-- whether an offer is wanted, by what is kept
wanted : (o l f h i : Bool) → (o ≡ true → i ≡ h) → (o && l && not (f || h)) ≡ ((o && l && not f) && not i)
wanted true true true h i e = refl
wanted true true false h i e = ap not (sym (e refl))
wanted true false f h i e = refl
wanted false l f h i e = refl

left-there : (o : Bool) (xs : List ℕ) → (o && is_some_left (if o then xs else [])) ≡ (o && is_some_left xs)
left-there true xs = refl
left-there false xs = refl

or-true : (c : Bool) → (c || true) ≡ true
or-true true = refl
or-true false = refl

pub and-none : (c d : Bool) → d ≡ false → (c && d) ≡ false
and-none true d h = h
and-none false d h = refl

module _ {R J I : Type 0} (v : View R J I)
    (lawful : IsRun v.meaning.plan v.meaning.holds) (apart : (x : R) (b c : Ledger J) (r : I) → AreAlike b c → v.meaning.stands x b r → v.meaning.stands x c r) where
  abbrev pub To : Moment J → Performed J (Both I) → Connection R → Progress J → Move J (Both I) → Type 0
  To e did c u m = Toward v e did c u m

  is-wanted : (c : Connection R) (u : Progress J) (b : Ledger J) (s : Both I) → Serves c u b s → ledgers.wants_offer place.Client b ≡ (wants_offer (kept c.client) && not u.is_offered)
  is-wanted c u b s w =
      wanted (is_there b) (is_some_left (left_at place.Client b)) (b.put_off place.Client) (has_offer place.Client b) u.is_offered w.offered
      ∙ ap (λ x. (x && not (b.put_off place.Client)) && not u.is_offered) (sym (left-there (is_there b) (left_at place.Client b)))
      ∙ ap (λ (k : Kept). wants_offer k && not u.is_offered) (sym w.client)

  offered-leads : (e : Moment J) (did : Performed J (Both I)) (c : Connection R) (u : Progress J) (m : Move J (Both I)) (h : Toward v e did c u (Send place.Client [] m))
      → (x : Bool) → ledgers.wants_offer place.Client h.ledger ≡ x
      → did ≡ before u.acts.items (after_act_if x (act.Offer place.Client) (perform m (with_offer place.Client h.ledger) h.inner))
  offered-leads e did c u m h x is =
      h.leads
      ∙ ap (λ (d : Ledger J). before u.acts.items (after_act_if (ledgers.wants_offer place.Client d) (act.Offer place.Client) (perform m (with_offer place.Client d) h.inner))) (sends-nothing place.Client h.ledger)
      ∙ ap (λ y. before u.acts.items (after_act_if y (act.Offer place.Client) (perform m (with_offer place.Client h.ledger) h.inner))) is

  offer-same : (b : Ledger J) → SameRun b (with_offer place.Client b)
  offer-same b = subst (λ (d : Ledger J). SameRun b (with_offer place.Client d)) (sends-nothing place.Client b) (sent-to-client-same [] b)

  -- the offer is asked for
  pub offers : (e : Moment J) (did : Performed J (Both I)) (c c' : Connection R) (u u' : Progress J) (m : Move J (Both I))
      → IsSameRun c c' → kept c'.client ≡ kept c.client → (wants_offer (kept c.client) && not u.is_offered) ≡ true → u'.is_offered ≡ true
      → u'.acts.items ≡ u.acts.items ++ act.Offer place.Client ∷ [] → To e did c u (Send place.Client [] m) → To e did c' u' m
  offers e did c c' u u' m same client wants offered acts h =
      let b = h.ledger in
      let s = h.inner in
      let w = h.within.serves in
      let is : ledgers.wants_offer place.Client b ≡ true = is-wanted c u b s w ∙ wants in
      let b' = with_offer place.Client b in
      let listed : has place.Client b'.places ≡ true = ap (λ x. has place.Client (b.places ++ (if x then place.Client ∷ [] else []))) is ∙ has-append place.Client place.Client b.places in
      record {
        ledger = b';
        inner = s;
        within = stays-within v lawful apart e c c' u u' b b' s s h.within (offer-same b) refl refl same.run same.waits (record {
          client = client ∙ w.client;
          sockets = w.sockets ∙ ap (places (is_there b)) (sym same.sockets);
          count = same.count ∙ w.count;
          keeping = same.keeping ∙ w.keeping;
          offered = λ there. offered ∙ sym (ap (λ x. x || is_place place.Client b.begun) listed);
          taking = λ there. same.taking ∙ w.taking there;
          counted = w.counted;
          once = w.once;
          none_asked = w.none_asked;
          on = w.on;
        });
        leads = one-more u.acts.items u'.acts.items (act.Offer place.Client) did (perform m b' s) acts (offered-leads e did c u m h true is);
      }

  -- none is wanted
  pub offers-not : (e : Moment J) (did : Performed J (Both I)) (c : Connection R) (u : Progress J) (m : Move J (Both I))
      → (wants_offer (kept c.client) && not u.is_offered) ≡ false → To e did c u (Send place.Client [] m) → To e did c u m
  offers-not e did c u m wants h =
      let b = h.ledger in
      let s = h.inner in
      let w = h.within.serves in
      let is : ledgers.wants_offer place.Client b ≡ false = is-wanted c u b s w ∙ wants in
      let same : with_offer place.Client b ≡ b = ap (λ ps. record b { places = ps }) (ap (λ x. b.places ++ (if x then place.Client ∷ [] else [])) is ∙ append-nil b.places) in
      record {
        ledger = b;
        inner = s;
        within = h.within;
        leads = offered-leads e did c u m h false is ∙ ap (λ (d : Ledger J). before u.acts.items (perform m d s)) same;
      }

  -- ---- bytes

  drop-more : (n : ℕ) (xs ys : List ℕ) → n ≤ length xs → drop n xs ++ ys ≡ drop n (xs ++ ys)
  drop-more zero xs ys h = refl
  drop-more (suc n) [] ys h = absurd (omega (arith, h))
  drop-more (suc n) (x ∷ xs) ys h = drop-more n xs ys (omega (arith, h))

  sent-more : (b : Ledger J) (bytes : List ℕ) → is_there b ≡ true → b.taken place.Client ≤ length (b.sent place.Client)
      → queues.queued (sending_of b) bytes ≡ sending_of (with_sent place.Client bytes b)
  sent-more b bytes there counted = by (is_there b) there
    where
      by : (o : Bool) → o ≡ true → queues.queued (record { bytes = if o then left_at place.Client b else []; phase = b.taken place.Client % 16_384; gone = not o }) bytes
          ≡ record { bytes = if o then drop (b.taken place.Client) (if o && true then b.sent place.Client ++ bytes else b.sent place.Client) else []; phase = b.taken place.Client % 16_384; gone = not o }
      by true e = ap (λ xs. record { bytes = xs; phase = b.taken place.Client % 16_384; gone = false }) (drop-more (b.taken place.Client) (b.sent place.Client) bytes counted)
      by false e = absurd (let f : false ≡ true = e in cc)

  counted-on : (b : Ledger J) (bytes : List ℕ) → b.taken place.Client ≤ length (b.sent place.Client)
      → b.taken place.Client ≤ length ((with_sent place.Client bytes b).sent place.Client)
  counted-on b bytes h = by (has place.Client b.opened)
    where
      by : (o : Bool) → b.taken place.Client ≤ length (if o && true then b.sent place.Client ++ bytes else b.sent place.Client)
      by true = omega (arith, h, length-append (b.sent place.Client) bytes)
      by false = h

  sent-only : (b : Ledger J) (bytes : List ℕ) → SameRun b (with_sent place.Client bytes b)
  sent-only b bytes = let a = sent-alike bytes b in record {
    alike = record { threads = a.threads; armed = a.armed; put_off = a.put_off; taken = a.taken; sent = a.sent; opened = a.opened; count = a.count; asked = a.asked };
    places = λ k. refl;
    begun = λ k. refl;
  }

  -- bytes are queued, before an offer is asked for
  pub queues-more : (e : Moment J) (did : Performed J (Both I)) (c c' : Connection R) (u : Progress J) (bytes : List ℕ) (m : Move J (Both I))
      → IsSameRun c c' → c.client.is_open ≡ true → kept c'.client ≡ record (kept c.client) { sending = queues.queued (kept c.client).sending bytes }
      → To e did c u (send (service v) 0 bytes m) → To e did c' u (Send place.Client [] m)
  queues-more e did c c' u bytes m same opened client h =
      let b = h.ledger in
      let s = h.inner in
      let w = h.within.serves in
      let there : is_there b ≡ true = sym (ap (λ (k : Kept). k.opened) w.client) ∙ opened in
      let s' : Both I = record s { client = record s.client { exchanges = with_more bytes s.client.exchanges } } in
      let b' = with_sent place.Client bytes b in
      record {
        ledger = b';
        inner = s';
        within = stays-within v lawful apart e c c' u u b b' s s' h.within (sent-only b bytes) refl refl same.run same.waits (record {
          client = client ∙ ap (λ (k : Kept). record k { sending = queues.queued k.sending bytes }) w.client
              ∙ ap (λ (q : Sending). record (kept_of b s.client) { sending = q }) (sent-more b bytes there w.counted);
          sockets = w.sockets ∙ ap (places (is_there b)) (sym same.sockets);
          count = same.count ∙ w.count;
          keeping = same.keeping ∙ w.keeping;
          offered = w.offered;
          taking = λ there. same.taking ∙ w.taking there;
          counted = counted-on b bytes w.counted;
          once = w.once;
          none_asked = w.none_asked;
          on = w.on;
        });
        leads = h.leads
            ∙ ap (λ (x : Bool). before u.acts.items (perform (if x then change (λ c. record c { exchanges = with_more bytes c.exchanges }) (Send place.Client bytes m) else m) b s)) there
            ∙ ap (λ (d : Ledger J). before u.acts.items (after_act_if (ledgers.wants_offer place.Client d) (act.Offer place.Client) (perform m (with_offer place.Client d) s'))) (sym (sends-nothing place.Client b'));
      }

  -- a client that isn't there is sent nothing
  pub queues-not : (e : Moment J) (did : Performed J (Both I)) (c : Connection R) (u : Progress J) (bytes : List ℕ) (m : Move J (Both I))
      → c.client.is_open ≡ false → To e did c u (send (service v) 0 bytes m) → To e did c u m
  queues-not e did c u bytes m shut h =
      let b = h.ledger in
      let s = h.inner in
      let gone : is_there b ≡ false = sym (ap (λ (k : Kept). k.opened) h.within.serves.client) ∙ shut in
      record {
        ledger = b;
        inner = s;
        within = h.within;
        leads = h.leads ∙ ap (λ (x : Bool). before u.acts.items (perform (if x then change (λ c. record c { exchanges = with_more bytes c.exchanges }) (Send place.Client bytes m) else m) b s)) gone;
      }
