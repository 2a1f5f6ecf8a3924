-- A queued place is there once, and something of it is left.
use Rattle.strand_contract.specs.Actions.{LocalAction, Told, Did, same_place, Ready}
use Rattle.strand_contract.specs.Actions.{Put, Later, Lost, Close, Log, Dict, Take, Dial, Keep, Timer, Dropped, Offer}
use Rattle.strand_contract.specs.Alone.{was_dropped, moment, taken, but, is_some_left}
use Rattle.strand_contract.specs.Alone.{IsExecution, IsPrefixOf}
use Rattle.strand_contract.specs.ClientOnlyLaws.{clash}
use Rattle.strand_plans.specs.Questions.{Question}
use Rattle.strand_plans.specs.Ledgers.{Ledger, has, is_place, left_at, wants_offer, entered}
use Rattle.strand_plans.specs.Moves.{Move, Done, Unready, Send, Arm, Cancel, HangUp, Set, Look, Ask, End, State, sends, with_sent, with_offer, with_thread, without_thread, with_deadline, without_deadline, hung_up, perform}
use Rattle.strand_plans.specs.Moves as move
use Rattle.strand_plans.specs.Plans.{Plan, move_of, state_of, behavior_of}
use Rattle.strand_plans.specs.Turns.{IsTaking}
use Rattle.strand_plans.specs.Conditions.{IsServed, IsPlan}
use Rattle.strand_plans.specs.Tidiness.{PlacesOnce, IsTidy}
use Rattle.std.proofs.Common.{◌≡◌, ℕ, ◌+◌, ◌≤◌, Bool, true, false, not, ◌&&◌, ◌||◌, List, [], ◌∷◌, ◌++◌, Option, Some, None, take, drop, length, if◌then◌else◌, refl, sym, ap, ◌∙◌, subst, append-nil, arith, length-append, length-take, length-drop}
use Rattle.std.proofs.lemmas.List.{drop-append-le}
use Rattle.strand_contract.specs.declared.turns.Place.{Place}
use Rattle.strand_contract.specs.OpenPlaceLaws.{same-place, place-self}
use Rattle.strand_plans.proofs.Places.{has-append, once-append}
use Rattle.strand_plans.proofs.Ledgers.{places-are}
use Rattle.strand_plans.proofs.Executions.{agrees, comes}

-- tidy, by what the ledger has of it
pub record IsTidyBy (places : List Place) (begun : Option Place) (put_off : Place → Bool) (taken : Place → ℕ) (sent : Place → List ℕ) : Type 0 where
  pub once : PlacesOnce places
  pub apart : (q : Place) → has q places ≡ true → is_place q begun ≡ false
  pub off : (q : Place) → has q places ≡ true → put_off q ≡ false
  pub some : (q : Place) → has q places ≡ true → is_some_left (drop (taken q) (sent q)) ≡ true
  pub counted : (q : Place) → taken q ≤ length (sent q)
  pub takes : (q : Place) → is_place q begun ≡ true → put_off q ≡ false

some-more : (xs ys : List ℕ) → is_some_left xs ≡ true → is_some_left (xs ++ ys) ≡ true
some-more [] ys h = clash false h refl
some-more (x ∷ xs) ys h = refl

more-left : (c : Bool) (n : ℕ) (xs ys : List ℕ) → n ≤ length xs → is_some_left (drop n xs) ≡ true → is_some_left (drop n (if c then xs ++ ys else xs)) ≡ true
more-left true n xs ys l h = ap is_some_left (drop-append-le n xs ys l) ∙ some-more (drop n xs) ys h
more-left false n xs ys l h = h

more-sent : (c : Bool) (n : ℕ) (xs ys : List ℕ) → n ≤ length xs → n ≤ length (if c then xs ++ ys else xs)
more-sent true n xs ys l = omega (arith, length-append xs ys)
more-sent false n xs ys l = l

grown : (c : Bool) (q : Place) (bytes : List ℕ) (places : List Place) (begun : Option Place) (off : Place → Bool) (taken : Place → ℕ) (sent : Place → List ℕ) → IsTidyBy places begun off taken sent → IsTidyBy places begun off taken (sends c q bytes sent)
grown c q bytes places begun off taken sent t = record {
  once = t.once;
  apart = t.apart;
  off = t.off;
  some = λ p h. more-left (c && same_place p q) (taken p) (sent p) bytes (t.counted p) (t.some p h);
  counted = λ p. more-sent (c && same_place p q) (taken p) (sent p) bytes (t.counted p);
  takes = t.takes;
}

added : (P : Place → Type 0) (q p : Place) (places : List Place) → P q → (has p places ≡ true → P p) → has p (places ++ q ∷ []) ≡ true → P p
added P q p places here there h = test (same_place p q) refl
  where
    test : (c : Bool) → same_place p q ≡ c → P p
    test true e = subst P (sym (same-place p q e)) here
    test false e = there (sym (has-append p q places ∙ ap (λ x. x || has p places) e) ∙ h)

lined : (q : Place) (places : List Place) (begun : Option Place) (off : Place → Bool) (taken : Place → ℕ) (sent : Place → List ℕ) → IsTidyBy places begun off taken sent
    → has q places ≡ false → is_place q begun ≡ false → off q ≡ false → is_some_left (drop (taken q) (sent q)) ≡ true → IsTidyBy (places ++ q ∷ []) begun off taken sent
lined q places begun off taken sent t new apart takes some = record {
  once = once-append q places new t.once;
  apart = λ p. added (λ p. is_place p begun ≡ false) q p places apart (t.apart p);
  off = λ p. added (λ p. off p ≡ false) q p places takes (t.off p);
  some = λ p. added (λ p. is_some_left (drop (taken p) (sent p)) ≡ true) q p places some (t.some p);
  counted = t.counted;
  takes = t.takes;
}

wanted : (o s a h g : Bool) → (o && s && not (a || (h || g))) ≡ true → (s ≡ true) × (a ≡ false) × (h ≡ false) × (g ≡ false)
wanted true true false false false e = (refl, refl, refl, refl)
wanted false s a h g e = clash false e refl
wanted true false a h g e = clash false e refl
wanted true true true h g e = clash false e refl
wanted true true false true g e = clash false e refl
wanted true true false false true e = clash false e refl

offered-if : {J : Type 0} (q : Place) (b : Ledger J) (w : Bool) → wants_offer q b ≡ w → IsTidyBy b.places b.begun b.put_off b.taken b.sent → IsTidyBy (b.places ++ (if w then q ∷ [] else [])) b.begun b.put_off b.taken b.sent
offered-if q b true e t =
    let k = wanted (has q b.opened) (is_some_left (left_at q b)) (b.put_off q) (has q b.places) (is_place q b.begun) e in
    lined q b.places b.begun b.put_off b.taken b.sent t k.2 k.3 k.1 k.0
offered-if q b false e t = subst (λ ps. IsTidyBy ps b.begun b.put_off b.taken b.sent) (sym (append-nil b.places)) t

module _ {J S : Type 0} where
  pub performed-tidy : (m : Move J S) (b : Ledger J) (s : S) → IsTidyBy b.places b.begun b.put_off b.taken b.sent
      → let c = (perform m b s).state.ledger in IsTidyBy c.places c.begun c.put_off c.taken c.sent
  performed-tidy Done b s t = t
  performed-tidy (move.Ready k m) b s t = performed-tidy m (with_thread k b) s t
  performed-tidy (Unready k m) b s t = performed-tidy m (without_thread k b) s t
  performed-tidy (Send q bytes m) b s t =
      let c = with_sent q bytes b in
      performed-tidy m (with_offer q c) s (offered-if q c (wants_offer q c) refl (grown (has q b.opened) q bytes b.places b.begun b.put_off b.taken b.sent t))
  performed-tidy (Arm n at m) b s t = performed-tidy m (with_deadline n at b) s t
  performed-tidy (Cancel n m) b s t = performed-tidy m (without_deadline n b) s t
  performed-tidy (HangUp q m) b s t = performed-tidy m (hung_up q b) s t
  performed-tidy (move.Log line m) b s t = performed-tidy m b s t
  performed-tidy (Set f m) b s t = performed-tidy m b (f s) t
  performed-tidy (Look go) b s t = performed-tidy (go b s) b s t
  performed-tidy (Ask x) b s t = t
  performed-tidy End b s t = t

-- the ledger as an action begins
abbrev pub IsTidyLedger : {J : Type 0} → Ledger J → Type 0
IsTidyLedger b = IsTidyBy b.places b.begun b.put_off b.taken b.sent

-- nothing is being offered any more
unbegun : (places : List Place) (begun : Option Place) (off : Place → Bool) (taken : Place → ℕ) (sent : Place → List ℕ) → IsTidyBy places begun off taken sent → IsTidyBy places None off taken sent
unbegun places begun off taken sent t = record { once = t.once; apart = λ q h. refl; off = t.off; some = t.some; counted = t.counted; takes = λ q h. clash false h refl }

other-if : {A : Type 0} (c : Bool) (x y : A) → c ≡ false → (if c then x else y) ≡ y
other-if true x y h = clash true refl h
other-if false x y h = refl

but-none : (q r : Place) (o : Option Place) → is_place q o ≡ false → is_place q (but r o) ≡ false
but-none q r None h = h
but-none q r (Some x) h = test (same_place r x)
  where
    test : (c : Bool) → is_place q (if c then None else Some x) ≡ false
    test true = refl
    test false = h

but-some : (q r : Place) (o : Option Place) → is_place q (but r o) ≡ true → is_place q o ≡ true
but-some q r None h = h
but-some q r (Some x) h = test (same_place r x) h
  where
    test : (c : Bool) → is_place q (if c then None else Some x) ≡ true → same_place q x ≡ true
    test true h = clash false h refl
    test false h = h

-- the place that is being offered isn't in line
not-lined : {J : Type 0} (b : Ledger J) (r q : Place) → IsTidyLedger b → b.begun ≡ Some r → has q b.places ≡ true → same_place q r ≡ false
not-lined b r q t e h = sym (ap (is_place q) e) ∙ t.apart q h

few : (n : ℕ) (bytes xs : List ℕ) (m : ℕ) → n ≤ length xs → IsPrefixOf bytes (take m (drop n xs)) → n + length bytes ≤ length xs
few n bytes xs m l h =
    let e : length bytes + length h.0 ≡ length (take m (drop n xs)) = sym (length-append bytes h.0) ∙ ap length h.1 in
    omega (arith, length-take m (drop n xs), length-drop n xs, e)

put-count : (c : Bool) (n k m : ℕ) → n ≤ m → (c ≡ true → n + k ≤ m) → (if c then n + k else n) ≤ m
put-count true n k m l f = f refl
put-count false n k m l f = l

put-tidy : {J : Type 0} (b : Ledger J) (r : Place) (bytes : List ℕ) (m : ℕ) → IsTidyLedger b → IsTaking b r → IsPrefixOf bytes (take m (left_at r b)) → IsTidyLedger (entered (Did (Put r bytes)) b)
put-tidy b r bytes m t w h = record {
  once = t.once;
  apart = λ q l. not-lined b r q t w.begun l;
  off = λ q l. rw (not-lined b r q t w.begun l) (t.off q l);
  some = λ q l. rw (not-lined b r q t w.begun l) (t.some q l);
  counted = λ q. put-count (same_place q r) (b.taken q) (length bytes) (length (b.sent q)) (t.counted q)
      (λ e. subst (λ x. b.taken x + length bytes ≤ length (b.sent x)) (sym (same-place q r e)) (few (b.taken r) bytes (b.sent r) m (t.counted r) h));
  takes = λ q e. rw e refl;
}

later-tidy : {J : Type 0} (b : Ledger J) (r : Place) → IsTidyLedger b → IsTaking b r → IsTidyLedger (entered (Did (Later r)) b)
later-tidy b r t w = record { once = t.once; apart = λ q l. refl; off = λ q l. rw (not-lined b r q t w.begun l) (t.off q l); some = t.some; counted = t.counted; takes = λ q h. clash false h refl }

lost-tidy : {J : Type 0} (b : Ledger J) (r : Place) → IsTidyLedger b → IsTaking b r → IsTidyLedger (entered (Did (Lost r)) b)
lost-tidy b r t w = record { once = t.once; apart = λ q l. refl; off = λ q l. rw (not-lined b r q t w.begun l) (t.off q l); some = t.some; counted = t.counted; takes = λ q h. clash false h refl }

if-none : (c d : Bool) → d ≡ false → (if c then false else d) ≡ false
if-none true d h = refl
if-none false d h = h

again-tidy : {J : Type 0} (b : Ledger J) (r : Place) → IsTidyLedger b → IsTidyLedger (entered (Did (Ready r)) b)
again-tidy b r t = record { once = t.once; apart = λ q l. refl; off = λ q l. if-none (same_place q r) (b.put_off q) (t.off q l); some = t.some; counted = t.counted; takes = λ q h. clash false h refl }

tail-has : (q r : Place) (rest : List Place) → has q rest ≡ true → has q (r ∷ rest) ≡ true
tail-has q r rest h = either (same_place q r)
  where
    either : (c : Bool) → (c || has q rest) ≡ true
    either true = refl
    either false = h

first-has : (r : Place) (rest : List Place) → has r (r ∷ rest) ≡ true
first-has r rest = rw (place-self r) refl

offered-tidy : {J : Type 0} (b : Ledger J) (r : Place) (rest : List Place) → b.places ≡ r ∷ rest → IsTidyLedger b → IsTidyLedger (entered (Did (Offer r)) b)
offered-tidy b r rest e t =
    let o : PlacesOnce (r ∷ rest) = subst PlacesOnce e t.once in
    let l = λ (q : Place) (h : has q rest ≡ true). (subst (λ ps. has q ps ≡ true) (sym e) (tail-has q r rest h)) in
    subst (λ ps. IsTidyBy (drop 1 ps) (Some r) b.put_off b.taken b.sent) (sym e) (record {
      once = o.1;
      apart = λ q h. apart q h o.0 (same_place q r) refl;
      off = λ q h. t.off q (l q h);
      some = λ q h. t.some q (l q h);
      counted = t.counted;
      takes = λ q h. subst (λ x. b.put_off x ≡ false) (sym (same-place q r h)) (t.off r (subst (λ ps. has r ps ≡ true) (sym e) (first-has r rest)));
    })
  where
    apart : (q : Place) → has q rest ≡ true → has r rest ≡ false → (c : Bool) → same_place q r ≡ c → c ≡ false
    apart q h new true k = clash (has r rest) (subst (λ x. has x rest ≡ true) (same-place q r k) h) new
    apart q h new false k = refl

close-tidy : {J : Type 0} (b : Ledger J) (r : Place) → IsTidyLedger b → IsTidyLedger (entered (Did (Close r)) b)
close-tidy b r t = record { once = t.once; apart = λ q h. but-none q r b.begun (t.apart q h); off = t.off; some = t.some; counted = t.counted; takes = λ q h. t.takes q (but-some q r b.begun h) }

same-tidy : {J : Type 0} (b : Ledger J) → IsTidyLedger b → IsTidyBy b.places b.begun b.put_off b.taken b.sent
same-tidy b t = t

pub none-tidy : {J : Type 0} (b : Ledger J) → IsTidyLedger b → IsTidyBy b.places None b.put_off b.taken b.sent
none-tidy b t = unbegun b.places b.begun b.put_off b.taken b.sent t

module _ {J S : Type 0} (p : Plan J S) (holds : State J S → Type 0) (may_ask : Question J → Type 0) (plan : IsPlan p holds may_ask) where
  turned : (a : LocalAction J) (es : List (LocalAction J)) → IsTidyLedger (entered a (state_of p es).ledger) → IsTidyLedger (state_of p (a ∷ es)).ledger
  turned a es t = let st = state_of p es in performed-tidy (move_of p (moment (a ∷ es)) a st) (entered a st.ledger) st.inner t

  pub kept-tidy : (es : List (LocalAction J)) → IsExecution (behavior_of p) es → was_dropped es ≡ false → IsTidyLedger (state_of p es).ledger
  kept-tidy [] f d = record { once = tt; apart = λ q h. refl; off = λ q h. refl; some = λ q h. clash false h refl; counted = λ q. omega arith; takes = λ q h. clash false h refl }
  kept-tidy (Told w ∷ es) f d = turned (Told w) es (none-tidy (state_of p es).ledger (kept-tidy es f.0 d))
  kept-tidy (Did (Put q bytes) ∷ es) f d =
      let w = comes p holds may_ask plan (Did (Put q bytes)) es (agrees p holds may_ask plan es f.0 d) f.1 in
      turned (Did (Put q bytes)) es (put-tidy (state_of p es).ledger q bytes _ (kept-tidy es f.0 d) w.taking w.prefix)
  kept-tidy (Did (Later q) ∷ es) f d = turned (Did (Later q)) es (later-tidy (state_of p es).ledger q (kept-tidy es f.0 d) (comes p holds may_ask plan (Did (Later q)) es (agrees p holds may_ask plan es f.0 d) f.1))
  kept-tidy (Did (Lost q) ∷ es) f d = turned (Did (Lost q)) es (lost-tidy (state_of p es).ledger q (kept-tidy es f.0 d) (comes p holds may_ask plan (Did (Lost q)) es (agrees p holds may_ask plan es f.0 d) f.1))
  kept-tidy (Did (Ready q) ∷ es) f d = turned (Did (Ready q)) es (again-tidy (state_of p es).ledger q (kept-tidy es f.0 d))
  kept-tidy (Did (Offer q) ∷ es) f d = turned (Did (Offer q)) es (offered-tidy (state_of p es).ledger q f.1.1.0 (sym (places-are p es) ∙ sym f.1.1.1) (kept-tidy es f.0 d))
  kept-tidy (Did (Close q) ∷ es) f d = turned (Did (Close q)) es (close-tidy (state_of p es).ledger q (kept-tidy es f.0 d))
  kept-tidy (Did (Log line done) ∷ es) f d = turned (Did (Log line done)) es (same-tidy (state_of p es).ledger (kept-tidy es f.0 d))
  kept-tidy (Did (Dict zone call answer) ∷ es) f d = turned (Did (Dict zone call answer)) es (same-tidy (state_of p es).ledger (kept-tidy es f.0 d))
  kept-tidy (Did (Take key uses) ∷ es) f d = turned (Did (Take key uses)) es (same-tidy (state_of p es).ledger (kept-tidy es f.0 d))
  kept-tidy (Did (Dial host port done) ∷ es) f d = turned (Did (Dial host port done)) es (same-tidy (state_of p es).ledger (kept-tidy es f.0 d))
  kept-tidy (Did (Keep k key idle size) ∷ es) f d = turned (Did (Keep k key idle size)) es (same-tidy (state_of p es).ledger (kept-tidy es f.0 d))
  kept-tidy (Did (Timer at answer) ∷ es) f d = turned (Did (Timer at answer)) es (same-tidy (state_of p es).ledger (kept-tidy es f.0 d))
  kept-tidy (Did Dropped ∷ es) f d = clash true refl d
  kept-tidy (Did x ∷ es) f d = turned (Did x) es (none-tidy (state_of p es).ledger (kept-tidy es f.0 d))

pub tidy : {J S : Type 0} (p : Plan J S) (holds : State J S → Type 0) (may_ask : Question J → Type 0) → IsPlan p holds may_ask
    → (es : List (LocalAction J)) → IsExecution (behavior_of p) es → was_dropped es ≡ false → IsTidy (state_of p es).ledger
tidy p holds may_ask plan es f d = let t = kept-tidy p holds may_ask plan es f d in record { once = t.once; apart = t.apart; off = t.off; some = t.some; counted = t.counted; takes = t.takes }

left-behind : (t : ℕ) (xs bytes : List ℕ) → t ≤ length xs → is_some_left (drop t xs) ≡ false → is_some_left (drop t (xs ++ bytes)) ≡ is_some_left bytes
left-behind t xs bytes l h = ap is_some_left (drop-append-le t xs bytes l) ∙ none (drop t xs) h
  where
    none : (ys : List ℕ) → is_some_left ys ≡ false → is_some_left (ys ++ bytes) ≡ is_some_left bytes
    none [] h = refl
    none (y ∷ ys) h = clash true refl h

-- an offer is asked for exactly where bytes come to an open place where nothing was left, that wasn't put off and whose offer isn't the turn's
pub send-wants : {J : Type 0} (q : Place) (bytes : List ℕ) (b : Ledger J) → IsTidyLedger b → IsServed q b
    → wants_offer q (with_sent q bytes b) ≡ (has q b.opened && is_some_left bytes && not (is_some_left (left_at q b) || (b.put_off q || is_place q b.begun)))
send-wants q bytes b t kept = test (has q b.opened) refl (is_some_left (left_at q b)) refl
  where
    test : (o : Bool) → has q b.opened ≡ o → (s : Bool) → is_some_left (left_at q b) ≡ s
        → (o && is_some_left (drop (b.taken q) (if o && same_place q q then b.sent q ++ bytes else b.sent q)) && not (b.put_off q || (has q b.places || is_place q b.begun)))
        ≡ (o && is_some_left bytes && not (s || (b.put_off q || is_place q b.begun)))
    test false e s k = refl
    test true e true k = rw (kept e k) (ands _ (is_some_left bytes))
      where
        ands : (x y : Bool) → (x && false) ≡ (y && false)
        ands true true = refl
        ands true false = refl
        ands false true = refl
        ands false false = refl
    test true e false k = rw (place-self q, left-behind (b.taken q) (b.sent q) bytes (t.counted q) k, unlined (has q b.places) refl) refl
      where
        unlined : (h : Bool) → has q b.places ≡ h → has q b.places ≡ false
        unlined true l = clash (is_some_left (left_at q b)) (t.some q l) k
        unlined false l = l
