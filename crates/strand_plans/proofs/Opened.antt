-- What a turn's acts close is open, and what is asked stands last.
use Rattle.strand_contract.specs.Actions.{same_place}
use Rattle.strand_contract.specs.Alone.{carried}
use Rattle.strand_contract.specs.Alone.{without_place}
use Rattle.strand_plans.specs.Questions.{Question, asking_if}
use Rattle.strand_plans.specs.Questions as question
use Rattle.strand_plans.specs.Ledgers.{Ledger, has, has_number, wants_offer}
use Rattle.strand_plans.specs.Moves.{Move, Done, Ready, Unready, Send, Arm, Cancel, HangUp, Log, Set, Look, Ask, End, sends, with_sent, with_offer, with_thread, without_thread, with_deadline, without_deadline, hung_up, ending, act_if, perform}
use Rattle.strand_plans.specs.Tidiness.{PlacesOnce}
use Rattle.std.proofs.Common.{◌≡◌, ℕ, ◌≤◌, not, Bool, true, false, ◌&&◌, ◌||◌, List, [], ◌∷◌, ◌++◌, Option, Some, None, if◌then◌else◌, refl, sym, ap, ◌∙◌, subst}
use Rattle.strand_contract.specs.declared.turns.Place.{Place}
use Rattle.strand_contract.specs.declared.turns.Place.TheVariants as place
use Rattle.strand_contract.specs.declared.turns.Act.{Act}
use Rattle.strand_contract.specs.declared.turns.Act.TheVariants as act
use Rattle.strand_contract.specs.OpenPlaceLaws.{same-place, place-self}
use Rattle.strand_plans.proofs.Places.{shut, has-without, once-without}

-- carrying out the acts leads from what is open to what is left open, and to what is asked:
-- each closes what is open, only an open socket is kept, and the last leaves nothing open
abbrev pub Leads : {J : Type 0} → (Place → Bool) → List (Act J) → (Place → Bool) → Option (Question J) → Type 0
Leads o [] l asked = ((q : Place) → o q ≡ l q) × (asked ≡ None)
Leads o (act.HangUp q ∷ acts) l asked = (o q ≡ true) × Leads (shut q o) acts l asked
Leads o (act.Gone ∷ acts) l asked = ((q : Place) → o q ≡ false) × ((q : Place) → l q ≡ false) × (acts ≡ []) × (asked ≡ None)
Leads o (act.Dict zone call ∷ acts) l asked = ((q : Place) → o q ≡ l q) × (acts ≡ []) × (asked ≡ Some (question.Dict zone call))
Leads o (act.Take key ∷ acts) l asked = ((q : Place) → o q ≡ l q) × (acts ≡ []) × (asked ≡ Some (question.Take key))
Leads o (act.Dial host port ∷ acts) l asked = ((q : Place) → o q ≡ l q) × (acts ≡ []) × (asked ≡ Some (question.Dial host port))
Leads o (act.Keep k key idle size ∷ acts) l asked = ((q : Place) → o q ≡ l q) × (acts ≡ []) × (asked ≡ Some (question.Keep k key idle size)) × (o (place.Sock k) ≡ true)
Leads o (act.Timer at job ∷ acts) l asked = ((q : Place) → o q ≡ l q) × (acts ≡ []) × (asked ≡ Some (question.Timer at job))
Leads o (a ∷ acts) l asked = Leads o acts l asked

-- open places stand once, sockets are numbered by their count, and nothing was sent to one that isn't there yet
pub record IsNumbered (opened : List Place) (count : ℕ) (sent : Place → List ℕ) : Type 0 where
  pub once : PlacesOnce opened
  pub there : (k : ℕ) → count ≤ k → has (place.Sock k) opened ≡ false
  pub unsent : (k : ℕ) → count ≤ k → sent (place.Sock k) ≡ []

-- what is open counts place by place
pub leads-same : {J : Type 0} (o o' : Place → Bool) (acts : List (Act J)) (l : Place → Bool) (asked : Option (Question J)) → ((q : Place) → o q ≡ o' q) → Leads o acts l asked → Leads o' acts l asked
leads-same o o' [] l asked e h = (λ q. sym (e q) ∙ h.0 q, h.1)
leads-same o o' (act.HangUp q ∷ acts) l asked e h = (sym (e q) ∙ h.0, leads-same (shut q o) (shut q o') acts l asked (λ p. ap (λ x. if same_place p q then false else x) (e p)) h.1)
leads-same o o' (act.Gone ∷ acts) l asked e h = (λ q. sym (e q) ∙ h.0 q, h.1, h.2, h.3)
leads-same o o' (act.Dict zone call ∷ acts) l asked e h = (λ q. sym (e q) ∙ h.0 q, h.1, h.2)
leads-same o o' (act.Take key ∷ acts) l asked e h = (λ q. sym (e q) ∙ h.0 q, h.1, h.2)
leads-same o o' (act.Dial host port ∷ acts) l asked e h = (λ q. sym (e q) ∙ h.0 q, h.1, h.2)
leads-same o o' (act.Keep k key idle size ∷ acts) l asked e h = (λ q. sym (e q) ∙ h.0 q, h.1, h.2, sym (e (place.Sock k)) ∙ h.3)
leads-same o o' (act.Timer at job ∷ acts) l asked e h = (λ q. sym (e q) ∙ h.0 q, h.1, h.2)
leads-same o o' (act.Ready k ∷ acts) l asked e h = leads-same o o' acts l asked e h
leads-same o o' (act.Unready k ∷ acts) l asked e h = leads-same o o' acts l asked e h
leads-same o o' (act.Offer q ∷ acts) l asked e h = leads-same o o' acts l asked e h
leads-same o o' (act.Arm n at ∷ acts) l asked e h = leads-same o o' acts l asked e h
leads-same o o' (act.Cancel n ∷ acts) l asked e h = leads-same o o' acts l asked e h
leads-same o o' (act.Log line ∷ acts) l asked e h = leads-same o o' acts l asked e h

-- acts that need no action of their own don't matter
pub leads-carried : {J : Type 0} (o : Place → Bool) (acts : List (Act J)) (l : Place → Bool) (asked : Option (Question J)) → Leads o acts l asked → Leads o (carried acts) l asked
leads-carried o [] l asked h = h
leads-carried o (act.HangUp q ∷ acts) l asked h = (h.0, leads-carried (shut q o) acts l asked h.1)
leads-carried o (act.Gone ∷ acts) l asked h = (h.0, h.1, ap carried h.2, h.3)
leads-carried o (act.Dict zone call ∷ acts) l asked h = (h.0, ap carried h.1, h.2)
leads-carried o (act.Take key ∷ acts) l asked h = (h.0, ap carried h.1, h.2)
leads-carried o (act.Dial host port ∷ acts) l asked h = (h.0, ap carried h.1, h.2)
leads-carried o (act.Keep k key idle size ∷ acts) l asked h = (h.0, ap carried h.1, h.2, h.3)
leads-carried o (act.Timer at job ∷ acts) l asked h = (h.0, ap carried h.1, h.2)
leads-carried o (act.Ready k ∷ acts) l asked h = leads-carried o acts l asked h
leads-carried o (act.Unready k ∷ acts) l asked h = leads-carried o acts l asked h
leads-carried o (act.Offer q ∷ acts) l asked h = leads-carried o acts l asked h
leads-carried o (act.Arm n at ∷ acts) l asked h = leads-carried o acts l asked h
leads-carried o (act.Cancel n ∷ acts) l asked h = leads-carried o acts l asked h
leads-carried o (act.Log line ∷ acts) l asked h = leads-carried o acts l asked h

-- what was closed stays so
pub stays-shut : {J : Type 0} (o : Place → Bool) (acts : List (Act J)) (l : Place → Bool) (asked : Option (Question J)) (p : Place) → Leads o acts l asked → o p ≡ false → l p ≡ false
stays-shut o [] l asked p h e = sym (h.0 p) ∙ e
stays-shut o (act.HangUp q ∷ acts) l asked p h e = stays-shut (shut q o) acts l asked p h.1 (either (same_place p q) (o p) e)
  where
    either : (c d : Bool) → d ≡ false → (if c then false else d) ≡ false
    either true d h = refl
    either false d h = h
stays-shut o (act.Gone ∷ acts) l asked p h e = h.1 p
stays-shut o (act.Dict zone call ∷ acts) l asked p h e = sym (h.0 p) ∙ e
stays-shut o (act.Take key ∷ acts) l asked p h e = sym (h.0 p) ∙ e
stays-shut o (act.Dial host port ∷ acts) l asked p h e = sym (h.0 p) ∙ e
stays-shut o (act.Keep k key idle size ∷ acts) l asked p h e = sym (h.0 p) ∙ e
stays-shut o (act.Timer at job ∷ acts) l asked p h e = sym (h.0 p) ∙ e
stays-shut o (act.Ready k ∷ acts) l asked p h e = stays-shut o acts l asked p h e
stays-shut o (act.Unready k ∷ acts) l asked p h e = stays-shut o acts l asked p h e
stays-shut o (act.Offer q ∷ acts) l asked p h e = stays-shut o acts l asked p h e
stays-shut o (act.Arm n at ∷ acts) l asked p h e = stays-shut o acts l asked p h e
stays-shut o (act.Cancel n ∷ acts) l asked p h e = stays-shut o acts l asked p h e
stays-shut o (act.Log line ∷ acts) l asked p h e = stays-shut o acts l asked p h e

-- shutting what isn't open changes nothing
shut-none : (q : Place) (qs : List Place) → has q qs ≡ false → (p : Place) → shut q (λ r. has r qs) p ≡ has p qs
shut-none q qs h p = test (same_place p q) refl
  where
    test : (c : Bool) → same_place p q ≡ c → (if c then false else has p qs) ≡ has p qs
    test true k = sym (subst (λ r. has r qs ≡ false) (sym (same-place p q k)) h)
    test false k = refl

hangs-if : {J : Type 0} (c : Bool) (q : Place) (qs : List Place) (acts : List (Act J)) (l : Place → Bool) (asked : Option (Question J)) → has q qs ≡ c → Leads (shut q (λ r. has r qs)) acts l asked
    → Leads (λ r. has r qs) (act_if c (act.HangUp q) acts) l asked
hangs-if true q qs acts l asked h k = (h, k)
hangs-if false q qs acts l asked h k = leads-same _ _ acts l asked (shut-none q qs h) k

ready-if : {J : Type 0} (c : Bool) (k : ℕ) (o : Place → Bool) (acts : List (Act J)) (l : Place → Bool) (asked : Option (Question J)) → Leads o acts l asked → Leads o (act_if c (act.Ready k) acts) l asked
ready-if true k o acts l asked h = h
ready-if false k o acts l asked h = h

offers-if : {J : Type 0} (c : Bool) (q : Place) (o : Place → Bool) (acts : List (Act J)) (l : Place → Bool) (asked : Option (Question J)) → Leads o acts l asked → Leads o (act_if c (act.Offer q) acts) l asked
offers-if true q o acts l asked h = h
offers-if false q o acts l asked h = h

first-shut : (q : Place) (qs : List Place) → has q qs ≡ false → (p : Place) → has p qs ≡ shut q (λ r. has r (q ∷ qs)) p
first-shut q qs h p = test (same_place p q) refl
  where
    test : (c : Bool) → same_place p q ≡ c → has p qs ≡ (if c then false else c || has p qs)
    test true k = subst (λ r. has r qs ≡ false) (sym (same-place p q k)) h
    test false k = refl

ends : {J : Type 0} (qs : List Place) (asked : Option (Question J)) → PlacesOnce qs → asked ≡ None → Leads (λ q. has q qs) (ending qs) (λ q. false) asked
ends [] asked once none = (λ q. refl, λ q. refl, refl, none)
ends (q ∷ qs) asked once none = (rw (place-self q) refl, leads-same _ _ (ending qs) _ asked (first-shut q qs once.0) (ends qs asked once.1 none))

keeps-if : (J : Type 0) (x : Question J) (c : Bool) (o : Place → Bool) → (c ≡ true → Leads o (asking_if (Some x)) o (Some x))
    → Leads o (asking_if (if c then Some x else None)) o (if c then Some x else None)
keeps-if J x true o l = l refl
keeps-if J x false o l = (λ q. refl, refl)

module _ {J S : Type 0} where
  -- a turn's acts lead from the ledger before to the ledger after it
  pub performed-leads : (m : Move J S) (b : Ledger J) (s : S) → PlacesOnce b.opened → b.asked ≡ None
      → Leads (λ q. has q b.opened) (perform m b s).acts (λ q. has q (perform m b s).state.ledger.opened) (perform m b s).state.ledger.asked
  performed-leads Done b s once none = (λ q. refl, none)
  performed-leads (Ready k m) b s once none = ready-if (not (has_number k b.threads)) k _ _ _ _ (performed-leads m (with_thread k b) s once none)
  performed-leads (Unready k m) b s once none = performed-leads m (without_thread k b) s once none
  performed-leads (Send q bytes m) b s once none =
      let c = with_sent q bytes b in offers-if (wants_offer q c) q _ _ _ _ (performed-leads m (with_offer q c) s once none)
  performed-leads (Arm n at m) b s once none = performed-leads m (with_deadline n at b) s once none
  performed-leads (Cancel n m) b s once none = performed-leads m (without_deadline n b) s once none
  performed-leads (HangUp q m) b s once none =
      let r = perform m (hung_up q b) s in
      hangs-if (has q b.opened) q b.opened r.acts (λ p. has p r.state.ledger.opened) r.state.ledger.asked refl
      (leads-same (λ p. has p (without_place q b.opened)) (shut q (λ p. has p b.opened)) r.acts (λ p. has p r.state.ledger.opened) r.state.ledger.asked (λ p. has-without p q b.opened)
      (performed-leads m (hung_up q b) s (once-without q b.opened once) none))
  performed-leads (Log line m) b s once none = performed-leads m b s once none
  performed-leads (Set f m) b s once none = performed-leads m b (f s) once none
  performed-leads (Look go) b s once none = performed-leads (go b s) b s once none
  performed-leads (Ask (question.Dict zone call)) b s once none = (λ q. refl, refl, refl)
  performed-leads (Ask (question.Take key)) b s once none = (λ q. refl, refl, refl)
  performed-leads (Ask (question.Dial host port)) b s once none = (λ q. refl, refl, refl)
  performed-leads (Ask (question.Keep k key idle size)) b s once none = keeps-if J (question.Keep k key idle size) (has (place.Sock k) b.opened) (λ q. has q b.opened) (λ h. (λ q. refl, refl, refl, h))
  performed-leads (Ask (question.Timer at job)) b s once none = (λ q. refl, refl, refl)
  performed-leads End b s once none = ends b.opened b.asked once none

unsent-sends : (c d : Bool) (xs bytes : List ℕ) → xs ≡ [] → (c ≡ true → d ≡ true → [] ≡ xs ++ bytes) → (if c && d then xs ++ bytes else xs) ≡ []
unsent-sends true true xs bytes e f = sym (f refl refl)
unsent-sends true false xs bytes e f = e
unsent-sends false d xs bytes e f = e

clashes : {C : Type 0} (x : Bool) → x ≡ true → x ≡ false → C
clashes x p q = absurd (let e : true ≡ false = sym p ∙ q in cc)

-- an open place that is sent to is one that is there
numbered-sends : (q : Place) (bytes : List ℕ) (opened : List Place) (count : ℕ) (sent : Place → List ℕ) → IsNumbered opened count sent → IsNumbered opened count (sends (has q opened) q bytes sent)
numbered-sends q bytes opened count sent n = record {
  once = n.once;
  there = n.there;
  unsent = λ k h. unsent-sends (has q opened) (same_place (place.Sock k) q) (sent (place.Sock k)) bytes (n.unsent k h)
      (λ c d. clashes (has q opened) c (subst (λ r. has r opened ≡ false) (same-place (place.Sock k) q d) (n.there k h)));
}

either-false : (c d : Bool) → d ≡ false → (if c then false else d) ≡ false
either-false true d h = refl
either-false false d h = h

pub numbered-without : (q : Place) (opened : List Place) (count : ℕ) (sent : Place → List ℕ) → IsNumbered opened count sent → IsNumbered (without_place q opened) count sent
numbered-without q opened count sent n = record {
  once = once-without q opened n.once;
  there = λ k h. has-without (place.Sock k) q opened ∙ either-false (same_place (place.Sock k) q) _ (n.there k h);
  unsent = n.unsent;
}

module _ {J S : Type 0} where
  pub performed-numbered : (m : Move J S) (b : Ledger J) (s : S) → IsNumbered b.opened b.count b.sent
      → let c = (perform m b s).state.ledger in IsNumbered c.opened c.count c.sent
  performed-numbered Done b s n = n
  performed-numbered (Ready k m) b s n = performed-numbered m (with_thread k b) s n
  performed-numbered (Unready k m) b s n = performed-numbered m (without_thread k b) s n
  performed-numbered (Send q bytes m) b s n =
      let c = with_sent q bytes b in performed-numbered m (with_offer q c) s (numbered-sends q bytes b.opened b.count b.sent n)
  performed-numbered (Arm k at m) b s n = performed-numbered m (with_deadline k at b) s n
  performed-numbered (Cancel k m) b s n = performed-numbered m (without_deadline k b) s n
  performed-numbered (HangUp q m) b s n = performed-numbered m (hung_up q b) s (numbered-without q b.opened b.count b.sent n)
  performed-numbered (Log line m) b s n = performed-numbered m b s n
  performed-numbered (Set f m) b s n = performed-numbered m b (f s) n
  performed-numbered (Look go) b s n = performed-numbered (go b s) b s n
  performed-numbered (Ask q) b s n = n
  performed-numbered End b s n = record { once = tt; there = λ k h. refl; unsent = n.unsent }
