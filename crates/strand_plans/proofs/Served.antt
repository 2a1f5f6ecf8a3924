-- Where something of an open place is left, it was put off, or its offer is queued or begun: no move spoils that.
use Rattle.strand_contract.specs.Actions.{same_place}
use Rattle.strand_contract.specs.Alone.{is_some_left}
use Rattle.strand_plans.specs.Ledgers.{Ledger, has, is_place, left_at, wants_offer}
use Rattle.strand_plans.specs.Moves.{Move, Done, Ready, Unready, Send, Arm, Cancel, HangUp, Log, Set, Look, Ask, End, sends, with_sent, with_offer, with_thread, without_thread, with_deadline, without_deadline, hung_up, perform}
use Rattle.strand_plans.specs.Conditions.{IsServed}
use Rattle.std.proofs.Common.{◌≡◌, ℕ, Bool, true, false, not, ◌&&◌, ◌||◌, List, [], ◌∷◌, ◌++◌, drop, if◌then◌else◌, refl, sym, ◌∙◌, subst}
use Rattle.strand_contract.specs.declared.turns.Place.{Place}
use Rattle.strand_contract.specs.OpenPlaceLaws.{same-place, place-self}
use Rattle.strand_plans.proofs.Places.{has-without, has-append, has-more}

pub more-lined : (a h h' g : Bool) → (h ≡ true → h' ≡ true) → (a || (h || g)) ≡ true → (a || (h' || g)) ≡ true
more-lined true h h' g f e = refl
more-lined false true h' g f e = rw (f refl) refl
more-lined false false true g f e = refl
more-lined false false false g f e = e

pub unshut : (c d : Bool) → (if c then false else d) ≡ true → d ≡ true
unshut true d h = absurd (let e : false ≡ true = h in cc)
unshut false d h = h

-- where it wants an offer it gets one
offered : (q : Place) (places : List Place) (a g o s : Bool) → o ≡ true → s ≡ true
    → (a || (has q (places ++ (if o && s && not (a || (has q places || g)) then q ∷ [] else [])) || g)) ≡ true
offered q places a g o s h k = rw (h, k) (test (a || (has q places || g)) refl)
  where
    test : (c : Bool) → (a || (has q places || g)) ≡ c → (a || (has q (places ++ (if not c then q ∷ [] else [])) || g)) ≡ true
    test true e = more-lined a (has q places) _ g (has-more q places []) e
    test false e = lined a (has q (places ++ q ∷ [])) g (has-append q q places ∙ rw (place-self q) refl)
      where
        lined : (a h g : Bool) → h ≡ true → (a || (h || g)) ≡ true
        lined true h g e = refl
        lined false h g e = rw e refl

pub offers-keep : {J : Type 0} (q : Place) (b : Ledger J) → IsServed q (with_offer q b)
offers-keep q b h k = offered q b.places (b.put_off q) (is_place q b.begun) (has q b.opened) (is_some_left (left_at q b)) h k

unsaid : (c d : Bool) (xs bytes : List ℕ) → d ≡ false → (if c && d then xs ++ bytes else xs) ≡ xs
unsaid true true xs bytes h = absurd (let e : true ≡ false = h in cc)
unsaid true false xs bytes h = refl
unsaid false d xs bytes h = refl

pub sends-keep : {J : Type 0} (q p : Place) (bytes : List ℕ) (b : Ledger J) → IsServed q b → let c = with_sent p bytes b in IsServed q (with_offer p c)
sends-keep q p bytes b kept h k = test (same_place q p) refl
  where
    goal : Place → Type 0
    goal r = (b.put_off q || (has q (b.places ++ (if wants_offer r (with_sent r bytes b) then r ∷ [] else [])) || is_place q b.begun)) ≡ true

    test : (d : Bool) → same_place q p ≡ d → goal p
    test true e = subst goal (same-place q p e) (offers-keep q (with_sent q bytes b) h (subst (λ r. is_some_left (drop (b.taken q) (sends (has r b.opened) r bytes b.sent q)) ≡ true) (sym (same-place q p e)) k))
    test false e = more-lined (b.put_off q) (has q b.places) _ (is_place q b.begun) (has-more q b.places _)
        (kept h (subst (λ xs. is_some_left (drop (b.taken q) xs) ≡ true) (unsaid (has p b.opened) (same_place q p) (b.sent q) bytes e) k))

module _ {J S : Type 0} where
  pub performed-kept : (q : Place) (m : Move J S) (b : Ledger J) (s : S) → IsServed q b → IsServed q (perform m b s).state.ledger
  performed-kept q Done b s kept = kept
  performed-kept q (Ready k m) b s kept = performed-kept q m (with_thread k b) s kept
  performed-kept q (Unready k m) b s kept = performed-kept q m (without_thread k b) s kept
  performed-kept q (Send p bytes m) b s kept = let c = with_sent p bytes b in performed-kept q m (with_offer p c) s (sends-keep q p bytes b kept)
  performed-kept q (Arm n at m) b s kept = performed-kept q m (with_deadline n at b) s kept
  performed-kept q (Cancel n m) b s kept = performed-kept q m (without_deadline n b) s kept
  performed-kept q (HangUp p m) b s kept = performed-kept q m (hung_up p b) s (λ h. kept (unshut (same_place q p) (has q b.opened) (sym (has-without q p b.opened) ∙ h)))
  performed-kept q (Log line m) b s kept = performed-kept q m b s kept
  performed-kept q (Set f m) b s kept = performed-kept q m b (f s) kept
  performed-kept q (Look go) b s kept = performed-kept q (go b s) b s kept
  performed-kept q (Ask x) b s kept = kept
  performed-kept q End b s kept = λ h. absurd (let e : false ≡ true = h in cc)

  -- for the conditions of a plan: a turn that begins so keeps the place, whatever was
  pub send-serves : (q : Place) (bytes : List ℕ) (m : Move J S) (b : Ledger J) (s : S) → IsServed q (perform (Send q bytes m) b s).state.ledger
  send-serves q bytes m b s = let c = with_sent q bytes b in performed-kept q m (with_offer q c) s (offers-keep q c)

  pub hang-up-serves : (q : Place) (m : Move J S) (b : Ledger J) (s : S) → IsServed q (perform (HangUp q m) b s).state.ledger
  hang-up-serves q m b s = performed-kept q m (hung_up q b) s
      (λ h. absurd (let e : false ≡ true = sym (rw (place-self q) refl) ∙ sym (has-without q q b.opened) ∙ h in cc))

  pub end-serves : (q : Place) (b : Ledger J) (s : S) → IsServed q (perform {J = J} {S = S} End b s).state.ledger
  end-serves q b s = λ h. absurd (let e : false ≡ true = h in cc)
