-- The ledger agrees with an execution, whatever the plan.
use Rattle.strand_contract.specs.Actions.{LocalAction, Told, Did, Moment, Stop, same_place, Began, Bytes, Ended, Broken, Ready, Dialled, Refused}
use Rattle.strand_contract.specs.Actions.{Put, Later, Lost, Close, Log, Dict, Take, Dial, Keep, Timer, Dropped, Run, Offer, Due, Halted, Gone}
use Rattle.strand_contract.specs.Behaviors.{Behavior}
use Rattle.strand_contract.specs.Alone.{was_dropped, moment, is_open, queued, piece, todo, left_by, carried, begun_offer, but, socket_count, going_on, offering, due, is_some_left}
use Rattle.strand_contract.specs.Alone.{Enabled, IsExecution, HasNoWork, IsBetween, IsGivenAt, IsOfferedAt, IsPrefixOf}
use Rattle.strand_contract.specs.Laws.{is_still, IsQuiet}
use Rattle.strand_contract.specs.ClientOnlyLaws.{clash}
use Rattle.strand_plans.specs.Questions.{Question}
use Rattle.strand_plans.specs.Ledgers.{Ledger, has, is_place, left_at, has_offer, opened_by, count_by, entered}
use Rattle.strand_plans.specs.Moves.{State}
use Rattle.shared_rules.specs.Ranges.{MayAnswer}
use Rattle.strand_plans.specs.Plans.{Plan, move_of, stepped, state_of, behavior_of}
use Rattle.strand_plans.specs.Turns.{IsFree, IsFreeAt, IsTaking, Comes}
use Rattle.strand_plans.specs.Conditions.{IsServed, IsPlan}
use Rattle.std.proofs.Common.{◌≡◌, ℕ, zero, suc, ne_eqb, ◌+◌, Bool, true, false, ◌||◌, List, [], ◌∷◌, ◌++◌, Option, Some, None, drop, take, ◌%◌, ◌-◌, if◌then◌else◌, refl, sym, ap, ◌∙◌, subst, append-nil, arith, inl, inr}
use Rattle.resty_base.specs.declared.names.Ms.{Ms}
use Rattle.resty_base.specs.declared.dictionary.DictCall.{DictCall}
use Rattle.resty_base.specs.declared.dictionary.DictAnswer.{DictAnswer}
use Rattle.resty_world.specs.declared.answers.TimerAnswer.{TimerAnswer}
use Rattle.strand_contract.specs.declared.turns.Place.{Place}
use Rattle.strand_contract.specs.declared.turns.Place.TheVariants as place
use Rattle.strand_contract.specs.declared.turns.Start.{Start}
use Rattle.strand_contract.specs.declared.turns.Start.TheVariants as start
use Rattle.strand_contract.specs.declared.turns.Act.{Act}
use Rattle.strand_contract.specs.declared.turns.Act.TheVariants as act
use Rattle.strand_contract.specs.OpenPlaceLaws.{same-place}
use Rattle.strand_plans.proofs.Places.{shut, has-without, has-append, once-append, or-none}
use Rattle.strand_plans.proofs.Ledgers.{threads-are, armed-are, places-are, taken-is, begun-is, count-is}
use Rattle.strand_plans.proofs.Opened.{Leads, IsNumbered, leads-same, leads-carried, stays-shut, performed-leads, performed-numbered, numbered-without}
use Rattle.strand_plans.proofs.Served.{performed-kept, unshut}

pub quiet : {J S : Type 0} (p : Plan J S) → IsQuiet (behavior_of p)
quiet p a es h = rw h refl

-- the action may come after what happened
abbrev pub ComesTo : {J S : Type 0} → Plan J S → LocalAction J → List (LocalAction J) → Type 0
ComesTo p a es = Comes p (moment (a ∷ es)) a (state_of p es)

-- what an execution and the ledger have in common
pub record Agrees {J S : Type 0} (p : Plan J S) (holds : State J S → Type 0) (es : List (LocalAction J)) : Type 0 where
  pub leads : Leads (λ q. is_open q es) (todo (behavior_of p) es) (λ q. has q (state_of p es).ledger.opened) (state_of p es).ledger.asked
  pub served : (q : Place) → IsServed q (state_of p es).ledger
  pub numbered : IsNumbered (state_of p es).ledger.opened (state_of p es).ledger.count (state_of p es).ledger.sent
  pub inner : holds (state_of p es)

-- between two turns
pub record IsIdle {J S : Type 0} (p : Plan J S) (es : List (LocalAction J)) : Type 0 where
  pub opens : (q : Place) → is_open q es ≡ has q (state_of p es).ledger.opened
  pub none_asked : (state_of p es).ledger.asked ≡ None

pub is-idle : {J S : Type 0} (p : Plan J S) (holds : State J S → Type 0) (es : List (LocalAction J)) → Agrees p holds es → todo (behavior_of p) es ≡ [] → IsIdle p es
is-idle p holds es g none =
    let h = subst (λ acts. Leads (λ q. is_open q es) acts (λ q. has q (state_of p es).ledger.opened) (state_of p es).ledger.asked) none g.leads in
    record { opens = h.0; none_asked = h.1 }

-- what waits, by the ledger
pub queued-is : {J S : Type 0} (p : Plan J S) (es : List (LocalAction J)) (q : Place) → is_open q es ≡ true → queued (behavior_of p) q es ≡ left_at q (state_of p es).ledger
queued-is p es q h = rw h (ap (λ n. drop n ((state_of p es).ledger.sent q)) (taken-is p q es))

some-none : {A C : Type 0} (x : A) → Some x ≡ None → C
some-none x e = absurd (let f : None ≡ Some x = sym e in cc)

-- where no offer is under way, none is by the ledger, of what waits at an open place
pub none-begun : {J S : Type 0} (p : Plan J S) (es : List (LocalAction J)) (q : Place) → IsIdle p es → offering (behavior_of p) es ≡ None
    → has q (state_of p es).ledger.opened ≡ true → is_some_left (left_at q (state_of p es).ledger) ≡ true → is_place q (state_of p es).ledger.begun ≡ false
none-begun {J = J} p es q free none h k = subst (λ o. is_place q o ≡ false) (begun-is p es) (test (begun_offer es) none)
  where
    opened : is_open q es ≡ true
    opened = free.opens q ∙ h

    some : is_some_left (queued (behavior_of p) q es) ≡ true
    some = ap is_some_left (queued-is p es q opened) ∙ k

    place : (r : Place) (c : Bool) → same_place q r ≡ c → going_on (behavior_of p) es (Some r) ≡ None → c ≡ false
    place r true e g = some-none r (sym (ap (λ x. if x then Some r else None) (subst (λ r. is_some_left (queued (behavior_of p) r es) ≡ true) (same-place q r e) some)) ∙ g)
    place r false e g = refl

    test : (o : Option Place) → going_on (behavior_of p) es o ≡ None → is_place q o ≡ false
    test None g = refl
    test (Some r) g = place r (same_place q r) refl g

-- a kept place stays so while no offer of it is lost
waits : (a h g g' : Bool) → g ≡ false → (a || (h || g)) ≡ true → (a || (h || g')) ≡ true
waits true h g g' e f = refl
waits false true g g' e f = refl
waits false false g g' e f = clash g f e

-- two ledgers have the same of a place, but for its offer
record IsSameAt {J : Type 0} (q : Place) (b c : Ledger J) : Type 0 where
  opened : has q c.opened ≡ has q b.opened
  sent : c.sent q ≡ b.sent q
  taken_is : c.taken q ≡ b.taken q
  later : c.put_off q ≡ b.put_off q
  lined : has q c.places ≡ has q b.places

still-kept : {J : Type 0} (q : Place) (b c : Ledger J) → (has q b.opened ≡ true → is_some_left (left_at q b) ≡ true → is_place q b.begun ≡ false) → IsSameAt q b c → IsServed q b → IsServed q c
still-kept q b c none same kept h k =
    let o : has q b.opened ≡ true = sym same.opened ∙ h in
    let w : is_some_left (left_at q b) ≡ true = sym (ap (λ n. is_some_left (drop n (c.sent q))) same.taken_is ∙ ap (λ xs. is_some_left (drop (b.taken q) xs)) same.sent) ∙ k in
    rw (same.later, same.lined) (waits (b.put_off q) (has q b.places) (is_place q b.begun) (is_place q c.begun) (none o w) (kept o w))

some-some : {A : Type 0} (x y : A) → Some x ≡ Some y → x ≡ y
some-some x y e = cc

some-if : {A : Type 0} (c : Bool) (x y : A) → (if c then Some x else None) ≡ Some y → (c ≡ true) × (x ≡ y)
some-if true x y e = (refl, some-some x y e)
some-if false x y e = absurd (let f : None ≡ Some y = e in cc)

going : {J : Type 0} (b : Behavior J) (es : List (LocalAction J)) (o : Option Place) (q : Place) → going_on b es o ≡ Some q → (o ≡ Some q) × (is_some_left (queued b q es) ≡ true)
going b es None q e = absurd (let f : None ≡ Some q = e in cc)
going b es (Some p) q e = let h = some-if (is_some_left (queued b p es)) p q e in (ap Some h.1, subst (λ r. is_some_left (queued b r es) ≡ true) h.1 h.0)

some-left : (c : Bool) (xs : List ℕ) → is_some_left (if c then xs else []) ≡ true → c ≡ true
some-left true xs h = refl
some-left false xs h = absurd (let e : false ≡ true = h in cc)

begun-lined : (a h g : Bool) → g ≡ true → (a || (h || g)) ≡ true
begun-lined true h g e = refl
begun-lined false true g e = refl
begun-lined false false g e = e

later-lined : (a x : Bool) → a ≡ true → (a || x) ≡ true
later-lined a x e = rw e refl

not-open : {C : Type 0} (c : Bool) → c ≡ false → c ≡ true → C
not-open c h k = clash c k h

pub taking : {J S : Type 0} (p : Plan J S) (es : List (LocalAction J)) (q : Place) → IsIdle p es → offering (behavior_of p) es ≡ Some q → IsTaking (state_of p es).ledger q
taking p es q free o =
    let g = going (behavior_of p) es (begun_offer es) q o in
    let c = some-left (is_open q es) _ g.1 in
    record {
      opened = sym (free.opens q) ∙ c;
      begun = sym (begun-is p es) ∙ g.0;
      some = sym (ap is_some_left (queued-is p es q c)) ∙ g.1;
      none_asked = free.none_asked;
    }

first-of : {A : Type 0} (x : A) (rest xs ys : List A) → (x ∷ []) ++ rest ≡ xs → xs ≡ ys → ys ≡ x ∷ rest
first-of x rest xs ys e f = sym (e ∙ f)

but-other : (q r : Place) (o : Option Place) → same_place q r ≡ false → is_place q (but r o) ≡ is_place q o
but-other q r None h = refl
but-other q r (Some x) h = test (same_place r x) refl
  where
    test : (c : Bool) → same_place r x ≡ c → is_place q (if c then None else Some x) ≡ same_place q x
    test true e = sym (subst (λ y. same_place q y ≡ false) (same-place r x e) h)
    test false e = refl

or-false : (c : Bool) → c ≡ (c || false)
or-false true = refl
or-false false = refl

no-more : (n : ℕ) → drop {A = ℕ} n [] ≡ []
no-more zero = refl
no-more (suc n) = refl

numbered-gain : (opened : List Place) (count : ℕ) (sent : Place → List ℕ) → IsNumbered opened count sent → IsNumbered (opened ++ place.Sock count ∷ []) (count + 1) sent
numbered-gain opened count sent n = record {
  once = once-append (place.Sock count) opened (n.there count (omega arith)) n.once;
  there = λ k h. has-append (place.Sock k) (place.Sock count) opened ∙ or-none _ _ (ne_eqb k count (λ e. omega arith)) (n.there k (omega arith));
  unsent = λ k h. n.unsent k (omega arith);
}

kept-gain : {J : Type 0} (q : Place) (b c : Ledger J) → IsNumbered b.opened b.count b.sent → c.opened ≡ b.opened ++ place.Sock b.count ∷ [] → c.sent q ≡ b.sent q → c.taken q ≡ b.taken q → c.put_off q ≡ b.put_off q → c.places ≡ b.places → c.begun ≡ b.begun
    → IsServed q b → IsServed q c
kept-gain q b c n opened sent took off places begun kept h k = test (same_place q (place.Sock b.count)) refl
  where
    some : is_some_left (left_at q b) ≡ true
    some = sym (ap (λ n. is_some_left (drop n (c.sent q))) took ∙ ap (λ xs. is_some_left (drop (b.taken q) xs)) sent) ∙ k

    test : (x : Bool) → same_place q (place.Sock b.count) ≡ x → (c.put_off q || has_offer q c) ≡ true
    test true e = clash (is_some_left (left_at q b)) some
        (ap (λ xs. is_some_left (drop (b.taken q) xs)) (subst (λ r. b.sent r ≡ []) (sym (same-place q (place.Sock b.count) e)) (n.unsent b.count (omega arith))) ∙ ap is_some_left (no-more (b.taken q)))
    test false e = rw (off, places, begun) (kept (sym (has-append q (place.Sock b.count) b.opened ∙ ap (λ x. x || has q b.opened) e) ∙ sym (ap (has q) opened) ∙ h) some)

module _ {J S : Type 0} (p : Plan J S) (holds : State J S → Type 0) (may_ask : Question J → Type 0) (plan : IsPlan p holds may_ask) where
  -- an action at which nothing is left to be done
  step : (a : LocalAction J) (es : List (LocalAction J)) → Agrees p holds es
      → left_by a (todo (behavior_of p) es) ≡ [] → (entered a (state_of p es).ledger).asked ≡ None
      → ((q : Place) → is_open q (a ∷ es) ≡ has q (entered a (state_of p es).ledger).opened)
      → IsNumbered (entered a (state_of p es).ledger).opened (entered a (state_of p es).ledger).count (state_of p es).ledger.sent
      → ((q : Place) → IsServed q (state_of p (a ∷ es)).ledger) → ComesTo p a es → Agrees p holds (a ∷ es)
  step a es g none un opens numbered kept comes =
      let st = state_of p es in
      let m = move_of p (moment (a ∷ es)) a st in
      let r = stepped p (moment (a ∷ es)) a st in
      record {
        leads = rw none (leads-same (λ q. has q (entered a st.ledger).opened) (λ q. is_open q (a ∷ es)) (carried r.acts) (λ q. has q r.state.ledger.opened) r.state.ledger.asked (λ q. sym (opens q))
            (leads-carried (λ q. has q (entered a st.ledger).opened) r.acts (λ q. has q r.state.ledger.opened) r.state.ledger.asked (performed-leads m (entered a st.ledger) st.inner numbered.once un)));
        served = kept;
        numbered = performed-numbered m (entered a st.ledger) st.inner numbered;
        inner = plan.stays (moment (a ∷ es)) a st g.inner comes;
      }

  -- what holds of a place as the turn begins holds after it
  behind : (a : LocalAction J) (es : List (LocalAction J)) (q : Place) → IsServed q (entered a (state_of p es).ledger) → IsServed q (state_of p (a ∷ es)).ledger
  behind a es q kept = let st = state_of p es in performed-kept q (move_of p (moment (a ∷ es)) a st) (entered a st.ledger) st.inner kept

  -- an action that begins a turn between two, and leaves all as it is
  calm : (a : LocalAction J) (es : List (LocalAction J)) → Agrees p holds es → todo (behavior_of p) es ≡ [] → offering (behavior_of p) es ≡ None
      → left_by a [] ≡ [] → ((x : Option (Question J)) → x ≡ None → (if is_still a then x else None) ≡ None)
      → ((q : Place) → is_open q (a ∷ es) ≡ is_open q es) → opened_by a (state_of p es).ledger.count (state_of p es).ledger.opened ≡ (state_of p es).ledger.opened → count_by a (state_of p es).ledger.count ≡ (state_of p es).ledger.count
      → ((q : Place) → IsSameAt q (state_of p es).ledger (entered a (state_of p es).ledger)) → ComesTo p a es → Agrees p holds (a ∷ es)
  calm a es g none offer l un o opened count same comes =
      let free = is-idle p holds es g none in
      let b = (state_of p es).ledger in
      step a es g (ap (left_by a) none ∙ l) (un b.asked free.none_asked) (λ q. o q ∙ free.opens q ∙ ap (has q) (sym opened))
      (subst (λ n. IsNumbered (opened_by a b.count b.opened) n b.sent) (sym count) (subst (λ qs. IsNumbered qs b.count b.sent) (sym opened) g.numbered))
      (λ q. behind a es q (still-kept q b (entered a b) (none-begun p es q free offer) (same q) (g.served q))) comes

  -- an action at one place
  splits : (a : LocalAction J) (es : List (LocalAction J)) (r : Place) → Agrees p holds es
      → ((q : Place) → same_place q r ≡ true → IsServed q (state_of p (a ∷ es)).ledger)
      → ((q : Place) → same_place q r ≡ false → IsSameAt q (state_of p es).ledger (entered a (state_of p es).ledger))
      → ((q : Place) → same_place q r ≡ false → has q (state_of p es).ledger.opened ≡ true → is_some_left (left_at q (state_of p es).ledger) ≡ true → is_place q (state_of p es).ledger.begun ≡ false)
      → (q : Place) → IsServed q (state_of p (a ∷ es)).ledger
  splits a es r g here there none q = test (same_place q r) refl
    where
      test : (c : Bool) → same_place q r ≡ c → IsServed q (state_of p (a ∷ es)).ledger
      test true e = here q e
      test false e = behind a es q (still-kept q (state_of p es).ledger (entered a (state_of p es).ledger) (none q e) (there q e) (g.served q))

  -- an action at the place that is being offered
  at-offer : (a : LocalAction J) (es : List (LocalAction J)) (r : Place) → Agrees p holds es → IsIdle p es → IsTaking (state_of p es).ledger r
      → left_by a (todo (behavior_of p) es) ≡ [] → (entered a (state_of p es).ledger).asked ≡ None → ((q : Place) → is_open q (a ∷ es) ≡ is_open q es)
      → opened_by a (state_of p es).ledger.count (state_of p es).ledger.opened ≡ (state_of p es).ledger.opened → count_by a (state_of p es).ledger.count ≡ (state_of p es).ledger.count
      → ((q : Place) → same_place q r ≡ true → IsServed q (state_of p (a ∷ es)).ledger)
      → ((q : Place) → same_place q r ≡ false → IsSameAt q (state_of p es).ledger (entered a (state_of p es).ledger))
      → ComesTo p a es → Agrees p holds (a ∷ es)
  at-offer a es r g free t none un o opened count here there comes =
      let b = (state_of p es).ledger in
      step a es g none un (λ q. o q ∙ free.opens q ∙ ap (has q) (sym opened))
      (subst (λ n. IsNumbered (opened_by a b.count b.opened) n b.sent) (sym count) (subst (λ qs. IsNumbered qs b.count b.sent) (sym opened) g.numbered))
      (splits a es r g here there (λ q e h k. ap (is_place q) t.begun ∙ e)) comes

  free-of : (es : List (LocalAction J)) → Agrees p holds es → HasNoWork (behavior_of p) es → IsFree (state_of p es).ledger
  free-of es g w = record { no_thread = sym (threads-are p es) ∙ w.no_thread; no_place = sym (places-are p es) ∙ w.no_place; none_asked = (is-idle p holds es g w.no_act).none_asked }

  given-open : (es : List (LocalAction J)) (q : Place) → Agrees p holds es → IsGivenAt (behavior_of p) es q → has q (state_of p es).ledger.opened ≡ true
  given-open es q g w = sym ((is-idle p holds es g w.idle.no_act).opens q) ∙ w.opened

  free-at : (es : List (LocalAction J)) (q : Place) → Agrees p holds es → IsGivenAt (behavior_of p) es q → IsFreeAt (state_of p es).ledger q
  free-at es q g w = record { free = free-of es g w.idle; opened = given-open es q g w }

  taking-of : (es : List (LocalAction J)) (q : Place) → Agrees p holds es → IsOfferedAt (behavior_of p) es q → IsTaking (state_of p es).ledger q
  taking-of es q g w = taking p es q (is-idle p holds es g w.no_act) w.offered

  put : (es : List (LocalAction J)) (r : Place) (bytes : List ℕ) → Agrees p holds es → IsOfferedAt (behavior_of p) es r → ComesTo p (Did (Put r bytes)) es → Agrees p holds (Did (Put r bytes) ∷ es)
  put es r bytes g w comes = at-offer (Did (Put r bytes)) es r g (is-idle p holds es g w.no_act) (taking-of es r g w) w.no_act refl (λ q. refl) refl refl
      (λ q e. behind (Did (Put r bytes)) es q (λ h k. begun-lined _ _ _ e))
      (λ q e. record { opened = refl; sent = refl; taken_is = rw e refl; later = rw e refl; lined = refl }) comes

  later : (es : List (LocalAction J)) (r : Place) → Agrees p holds es → IsOfferedAt (behavior_of p) es r → Agrees p holds (Did (Later r) ∷ es)
  later es r g w = at-offer (Did (Later r)) es r g (is-idle p holds es g w.no_act) (taking-of es r g w) w.no_act refl (λ q. refl) refl refl
      (λ q e. behind (Did (Later r)) es q (λ h k. later-lined (if same_place q r then true else (state_of p es).ledger.put_off q) _ (rw e refl)))
      (λ q e. record { opened = refl; sent = refl; taken_is = refl; later = rw e refl; lined = refl }) (taking-of es r g w)

  lost : (es : List (LocalAction J)) (r : Place) → Agrees p holds es → IsOfferedAt (behavior_of p) es r → Agrees p holds (Did (Lost r) ∷ es)
  lost es r g w = at-offer (Did (Lost r)) es r g (is-idle p holds es g w.no_act) (taking-of es r g w) w.no_act refl (λ q. refl) refl refl
      (λ q e. subst (λ x. IsServed x (state_of p (Did (Lost r) ∷ es)).ledger) (sym (same-place q r e)) (plan.lost (moment es) r (state_of p es) g.inner (taking-of es r g w)))
      (λ q e. record { opened = refl; sent = refl; taken_is = refl; later = rw e refl; lined = refl }) (taking-of es r g w)

  again : (es : List (LocalAction J)) (r : Place) → Agrees p holds es → IsGivenAt (behavior_of p) es r → Agrees p holds (Did (Ready r) ∷ es)
  again es r g w =
      let free = is-idle p holds es g w.idle.no_act in
      step (Did (Ready r)) es g w.idle.no_act refl (λ q. free.opens q) g.numbered
      (splits (Did (Ready r)) es r g
      (λ q e. subst (λ x. IsServed x (state_of p (Did (Ready r) ∷ es)).ledger) (sym (same-place q r e)) (plan.again (moment es) r (state_of p es) g.inner (free-at es r g w)))
      (λ q e. record { opened = refl; sent = refl; taken_is = refl; later = rw e refl; lined = refl })
      (λ q e. none-begun p es q free w.idle.no_offer)) (free-at es r g w)

  offer : (es : List (LocalAction J)) (r : Place) (rest : List Place) → Agrees p holds es → IsBetween (behavior_of p) es → (state_of p es).ledger.places ≡ r ∷ rest → Agrees p holds (Did (Offer r) ∷ es)
  offer es r rest g w places =
      let free = is-idle p holds es g w.no_act in
      step (Did (Offer r)) es g w.no_act free.none_asked (λ q. free.opens q) g.numbered
      (splits (Did (Offer r)) es r g
      (λ q e. behind (Did (Offer r)) es q (λ h k. begun-lined _ _ _ e))
      (λ q e. record { opened = refl; sent = refl; taken_is = refl; later = refl; lined = rw (places, e) refl })
      (λ q e. none-begun p es q free w.no_offer)) tt

  asked-of : (es : List (LocalAction J)) → Agrees p holds es → {acts : List (Act J)} → todo (behavior_of p) es ≡ acts
      → Leads (λ q. is_open q es) acts (λ q. has q (state_of p es).ledger.opened) (state_of p es).ledger.asked
  asked-of es g t = subst (λ acts. Leads (λ q. is_open q es) acts (λ q. has q (state_of p es).ledger.opened) (state_of p es).ledger.asked) t g.leads

  close-kept : (es : List (LocalAction J)) (r q : Place) → Agrees p holds es → (same_place q r ≡ true → has q (state_of p es).ledger.opened ≡ false) → (c : Bool) → same_place q r ≡ c → IsServed q (state_of p (Did (Close r) ∷ es)).ledger
  close-kept es r q g none true e h k = clash (has q (state_of p es).ledger.opened) h (none e)
  close-kept es r q g none false e h k = rw (but-other q r (state_of p es).ledger.begun e) (g.served q h k)

  close : (es : List (LocalAction J)) (r : Place) (rest : List (Act J)) → Agrees p holds es → todo (behavior_of p) es ≡ act.HangUp r ∷ rest → Agrees p holds (Did (Close r) ∷ es)
  close es r rest g t =
      let b = (state_of p es).ledger in
      let h = asked-of es g t in
      record {
        leads = rw (t, append-nil rest) h.1;
        served = λ q. close-kept es r q g (λ e. stays-shut (shut r (λ q. is_open q es)) rest (λ q. has q b.opened) b.asked q h.1 (rw e refl)) (same_place q r) refl;
        numbered = g.numbered;
        inner = plan.stays (moment es) (Did (Close r)) (state_of p es) g.inner tt;
      }

  log : (es : List (LocalAction J)) (line : List ℕ) (done : Bool) (rest : List (Act J)) → Agrees p holds es → todo (behavior_of p) es ≡ act.Log line ∷ rest → Agrees p holds (Did (Log line done) ∷ es)
  log es line done rest g t =
      let b = (state_of p es).ledger in
      let h = asked-of es g t in
      record {
        leads = rw (t, append-nil rest) h;
        served = g.served;
        numbered = g.numbered;
        inner = plan.stays (moment es) (Did (Log line done)) (state_of p es) g.inner tt;
      }

  gone : (es : List (LocalAction J)) → Agrees p holds es → todo (behavior_of p) es ≡ act.Gone ∷ [] → Agrees p holds (Did Gone ∷ es)
  gone es g t =
      let b = (state_of p es).ledger in
      let h = asked-of es g t in
      step (Did Gone) es g (rw t refl) h.3 (λ q. h.0 q ∙ sym (h.1 q)) g.numbered (λ q o. clash (has q b.opened) o (h.1 q)) tt

  gain-opens : (es : List (LocalAction J)) (q : Place) → is_open q es ≡ has q (state_of p es).ledger.opened
      → (same_place q (place.Sock (socket_count es)) || is_open q es) ≡ has q ((state_of p es).ledger.opened ++ place.Sock (state_of p es).ledger.count ∷ [])
  gain-opens es q e =
      ap (λ n. same_place q (place.Sock n) || is_open q es) (count-is p es) ∙ ap (λ x. same_place q (place.Sock (state_of p es).ledger.count) || x) e
      ∙ sym (has-append q (place.Sock (state_of p es).ledger.count) (state_of p es).ledger.opened)

  dialled : (es : List (LocalAction J)) (host : List ℕ) (port : ℕ) (done : Bool) → Agrees p holds es → todo (behavior_of p) es ≡ act.Dial host port ∷ [] → Agrees p holds (Did (Dial host port done) ∷ es)
  dialled es host port true g t =
      let b = (state_of p es).ledger in
      let h = asked-of es g t in
      step (Did (Dial host port true)) es g (rw t refl) refl (λ q. gain-opens es q (h.0 q)) (numbered-gain b.opened b.count b.sent g.numbered)
      (λ q. behind (Did (Dial host port true)) es q (kept-gain q b (entered (Did (Dial host port true)) b) g.numbered refl refl refl refl refl refl (g.served q))) h.2
  dialled es host port false g t =
      let b = (state_of p es).ledger in
      let h = asked-of es g t in
      step (Did (Dial host port false)) es g (rw t refl) refl (λ q. h.0 q) g.numbered (λ q. behind (Did (Dial host port false)) es q (g.served q)) h.2

  took : (es : List (LocalAction J)) (key : List ℕ) (uses : Option ℕ) → Agrees p holds es → todo (behavior_of p) es ≡ act.Take key ∷ [] → Agrees p holds (Did (Take key uses) ∷ es)
  took es key (Some uses) g t =
      let b = (state_of p es).ledger in
      let h = asked-of es g t in
      step (Did (Take key (Some uses))) es g (rw t refl) refl (λ q. gain-opens es q (h.0 q)) (numbered-gain b.opened b.count b.sent g.numbered)
      (λ q. behind (Did (Take key (Some uses))) es q (kept-gain q b (entered (Did (Take key (Some uses))) b) g.numbered refl refl refl refl refl refl (g.served q))) h.2
  took es key None g t =
      let b = (state_of p es).ledger in
      let h = asked-of es g t in
      step (Did (Take key None)) es g (rw t refl) refl (λ q. h.0 q) g.numbered (λ q. behind (Did (Take key None)) es q (g.served q)) h.2

  keep : (es : List (LocalAction J)) (k : ℕ) (key : List ℕ) (idle : Ms) (size : ℕ) → Agrees p holds es → todo (behavior_of p) es ≡ act.Keep k key idle size ∷ [] → Agrees p holds (Did (Keep k key idle size) ∷ es)
  keep es k key idle size g t =
      let b = (state_of p es).ledger in
      let h = asked-of es g t in
      step (Did (Keep k key idle size)) es g (rw t refl) refl
      (λ q. ap (λ x. if same_place q (place.Sock k) then false else x) (h.0 q) ∙ sym (has-without q (place.Sock k) b.opened))
      (numbered-without (place.Sock k) b.opened b.count b.sent g.numbered)
      (λ q. behind (Did (Keep k key idle size)) es q (λ o w. g.served q (unshut (same_place q (place.Sock k)) (has q b.opened) (sym (has-without q (place.Sock k) b.opened) ∙ o)) w))
      (h.2, sym (h.0 (place.Sock k)) ∙ h.3)

  dict : (es : List (LocalAction J)) (zone : ℕ) (call : DictCall) (answer : DictAnswer) → MayAnswer call answer → Agrees p holds es → todo (behavior_of p) es ≡ act.Dict zone call ∷ [] → Agrees p holds (Did (Dict zone call answer) ∷ es)
  dict es zone call answer may g t =
      let b = (state_of p es).ledger in
      let h = asked-of es g t in
      step (Did (Dict zone call answer)) es g (rw t refl) refl (λ q. h.0 q) g.numbered (λ q. behind (Did (Dict zone call answer)) es q (g.served q)) (h.2, may)

  timed : (es : List (LocalAction J)) (at : Ms) (answer : TimerAnswer) (job : J) → Agrees p holds es → todo (behavior_of p) es ≡ act.Timer at job ∷ [] → Agrees p holds (Did (Timer at answer) ∷ es)
  timed es at answer job g t =
      let b = (state_of p es).ledger in
      let h = asked-of es g t in
      step (Did (Timer at answer)) es g (rw t refl) refl (λ q. h.0 q) g.numbered (λ q. behind (Did (Timer at answer)) es q (g.served q)) (job, h.2)

  unborn : Agrees p holds []
  unborn = record {
    leads = (λ q. refl, refl);
    served = λ q h. absurd (let e : false ≡ true = h in cc);
    numbered = record { once = tt; there = λ k h. refl; unsent = λ k h. refl };
    inner = plan.begins;
  }

  born : (now : ℕ) (begin : Start J) → Agrees p holds (Did (Began now begin) ∷ [])
  born now (start.Client c) = step (Did (Began now (start.Client c))) [] unborn refl refl (λ q. or-false (same_place q place.Client))
      (record { once = (refl, tt); there = λ k h. refl; unsent = λ k h. refl })
      (λ q. behind (Did (Began now (start.Client c))) [] q (λ h k. absurd (let e : false ≡ true = k in cc))) refl
  born now (start.Job n premature job) = step (Did (Began now (start.Job n premature job))) [] unborn refl refl (λ q. refl) unborn.numbered
      (λ q. behind (Did (Began now (start.Job n premature job))) [] q (λ h k. absurd (let e : false ≡ true = h in cc))) refl

  piece-of : (es : List (LocalAction J)) (q : Place) (bytes : List ℕ) → IsIdle p es → IsTaking (state_of p es).ledger q → IsPrefixOf bytes (piece (behavior_of p) q es)
      → IsPrefixOf bytes (take (16_384 - (state_of p es).ledger.taken q % 16_384) (left_at q (state_of p es).ledger))
  piece-of es q bytes free t h = (
    h.0,
    h.1 ∙ ap (λ n. take (16_384 - n % 16_384) (queued (behavior_of p) q es)) (taken-is p q es)
        ∙ ap (take (16_384 - (state_of p es).ledger.taken q % 16_384)) (queued-is p es q (free.opens q ∙ t.opened)),
  )

  -- what is known where an action begins a turn
  pub comes : (a : LocalAction J) (es : List (LocalAction J)) → Agrees p holds es → Enabled (behavior_of p) es a → ComesTo p a es
  comes (Told w) es g f = tt
  comes (Did (Began now begin)) es g f = ap (state_of p) f
  comes (Did (Bytes q bytes)) es g f = (free-at es q g f.0, f.2)
  comes (Did (Ended q)) es g f = free-at es q g f
  comes (Did (Broken q)) es g f = free-at es q g f
  comes (Did (Ready q)) es g f = free-at es q g f
  comes (Did (Dialled k)) es g f = free-at es (place.Sock k) g f
  comes (Did (Refused k)) es g f = free-at es (place.Sock k) g f
  comes (Did (Put q bytes)) es g f =
      let t = taking-of es q g f.0 in
      record { taking = t; some = f.1; prefix = piece-of es q bytes (is-idle p holds es g f.0.no_act) t f.2 }
  comes (Did (Later q)) es g f = taking-of es q g f
  comes (Did (Lost q)) es g f = taking-of es q g f
  comes (Did (Close q)) es g f = tt
  comes (Did (Log line done)) es g f = tt
  comes (Did (Dict zone call answer)) es g f = ((asked-of es g f.0).2, f.1)
  comes (Did (Take key uses)) es g f = (asked-of es g f).2
  comes (Did (Dial host port done)) es g f = (asked-of es g f).2
  comes (Did (Keep k key idle size)) es g f = let h = asked-of es g f.0 in (h.2, sym (h.0 (place.Sock k)) ∙ h.3)
  comes (Did (Timer at answer)) es g f = (f.0, (asked-of es g f.1).2)
  comes (Did Dropped) es g f = tt
  comes (Did (Run k)) es g f = ((f.1.0, f.1.1 ∙ threads-are p es), (is-idle p holds es g f.0.no_act).none_asked)
  comes (Did (Offer q)) es g f = tt
  comes (Did (Due n)) es g f = record { at = f.2.0; first = sym (ap (due (moment es)) (armed-are p es)) ∙ f.2.1; none_asked = (is-idle p holds es g f.0.no_act).none_asked }
  comes (Did Halted) es g f = tt
  comes (Did Gone) es g f = tt

  told : (a : LocalAction J) (es : List (LocalAction J)) → Agrees p holds es → HasNoWork (behavior_of p) es → left_by a [] ≡ []
      → ((x : Option (Question J)) → x ≡ None → (if is_still a then x else None) ≡ None)
      → ((q : Place) → is_open q (a ∷ es) ≡ is_open q es) → opened_by a (state_of p es).ledger.count (state_of p es).ledger.opened ≡ (state_of p es).ledger.opened → count_by a (state_of p es).ledger.count ≡ (state_of p es).ledger.count
      → ((q : Place) → IsSameAt q (state_of p es).ledger (entered a (state_of p es).ledger)) → ComesTo p a es → Agrees p holds (a ∷ es)
  told a es g w = calm a es g w.no_act w.no_offer

  -- the ledger agrees with each execution, up to a drop
  pub agrees : (es : List (LocalAction J)) → IsExecution (behavior_of p) es → was_dropped es ≡ false → Agrees p holds es
  agrees [] f d = unborn
  agrees (Told (Moment t) ∷ es) f d = told _ es (agrees es f.0 d) f.1.1 refl (λ x h. h) (λ q. refl) refl refl (λ q. record { opened = refl; sent = refl; taken_is = refl; later = refl; lined = refl }) tt
  agrees (Told Stop ∷ es) f d = told _ es (agrees es f.0 d) f.1.1 refl (λ x h. h) (λ q. refl) refl refl (λ q. record { opened = refl; sent = refl; taken_is = refl; later = refl; lined = refl }) tt
  agrees (Did (Began now begin) ∷ es) f d = subst (λ xs. Agrees p holds (Did (Began now begin) ∷ xs)) (sym f.1) (born now begin)
  agrees (Did (Bytes q bytes) ∷ es) f d =
      let g = agrees es f.0 d in
      told _ es g f.1.0.idle refl (λ x h. refl) (λ q. refl) refl refl (λ q. record { opened = refl; sent = refl; taken_is = refl; later = refl; lined = refl }) (comes (Did (Bytes q bytes)) es g f.1)
  agrees (Did (Ended q) ∷ es) f d =
      let g = agrees es f.0 d in
      told _ es g f.1.idle refl (λ x h. refl) (λ q. refl) refl refl (λ q. record { opened = refl; sent = refl; taken_is = refl; later = refl; lined = refl }) (comes (Did (Ended q)) es g f.1)
  agrees (Did (Broken q) ∷ es) f d =
      let g = agrees es f.0 d in
      told _ es g f.1.idle refl (λ x h. refl) (λ q. refl) refl refl (λ q. record { opened = refl; sent = refl; taken_is = refl; later = refl; lined = refl }) (comes (Did (Broken q)) es g f.1)
  agrees (Did (Ready q) ∷ es) f d = again es q (agrees es f.0 d) f.1
  agrees (Did (Dialled k) ∷ es) f d =
      let g = agrees es f.0 d in
      told _ es g f.1.idle refl (λ x h. refl) (λ q. refl) refl refl (λ q. record { opened = refl; sent = refl; taken_is = refl; later = refl; lined = refl }) (comes (Did (Dialled k)) es g f.1)
  agrees (Did (Refused k) ∷ es) f d =
      let g = agrees es f.0 d in
      told _ es g f.1.idle refl (λ x h. refl) (λ q. refl) refl refl (λ q. record { opened = refl; sent = refl; taken_is = refl; later = refl; lined = refl }) (comes (Did (Refused k)) es g f.1)
  agrees (Did (Put q bytes) ∷ es) f d =
      let g = agrees es f.0 d in
      put es q bytes g f.1.0 (comes (Did (Put q bytes)) es g f.1)
  agrees (Did (Later q) ∷ es) f d = later es q (agrees es f.0 d) f.1
  agrees (Did (Lost q) ∷ es) f d = lost es q (agrees es f.0 d) f.1
  agrees (Did (Close q) ∷ es) f d = elim f.1 [
    | inl w ↦ close es q w.0.0 (agrees es f.0 d) w.0.1
    | inr w ↦ clash (was_dropped es) w.0 d
  ]
  agrees (Did (Log line done) ∷ es) f d = log es line done f.1.0 (agrees es f.0 d) f.1.1
  agrees (Did (Dict zone call answer) ∷ es) f d = dict es zone call answer f.1.1 (agrees es f.0 d) f.1.0
  agrees (Did (Take key uses) ∷ es) f d = took es key uses (agrees es f.0 d) f.1
  agrees (Did (Dial host port done) ∷ es) f d = dialled es host port done (agrees es f.0 d) f.1
  agrees (Did (Keep k key idle size) ∷ es) f d = keep es k key idle size (agrees es f.0 d) f.1.0
  agrees (Did (Timer at answer) ∷ es) f d = timed es at answer f.1.0 (agrees es f.0 d) f.1.1
  agrees (Did Dropped ∷ es) f d = clash true refl d
  agrees (Did (Run k) ∷ es) f d =
      let g = agrees es f.0 d in
      calm _ es g f.1.0.no_act f.1.0.no_offer refl (λ x h. refl) (λ q. refl) refl refl (λ q. record { opened = refl; sent = refl; taken_is = refl; later = refl; lined = refl })
      (comes (Did (Run k)) es g f.1)
  agrees (Did (Offer q) ∷ es) f d = offer es q f.1.1.0 (agrees es f.0 d) f.1.0 (sym (places-are p es) ∙ sym f.1.1.1)
  agrees (Did (Due n) ∷ es) f d =
      let g = agrees es f.0 d in
      calm _ es g f.1.0.no_act f.1.0.no_offer refl (λ x h. refl) (λ q. refl) refl refl (λ q. record { opened = refl; sent = refl; taken_is = refl; later = refl; lined = refl })
      (comes (Did (Due n)) es g f.1)
  agrees (Did Halted ∷ es) f d =
      let g = agrees es f.0 d in
      calm _ es g f.1.0.no_act f.1.0.no_offer refl (λ x h. refl) (λ q. refl) refl refl (λ q. record { opened = refl; sent = refl; taken_is = refl; later = refl; lined = refl }) tt
  agrees (Did Gone ∷ es) f d = gone es (agrees es f.0 d) f.1
