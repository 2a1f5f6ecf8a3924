-- The action that a strand takes by itself: there is one at most, and while there is one nothing comes from outside.
use Rattle.std.proofs.Common.{◌≡◌, ◌⊎◌, inl, inr, ℕ, Bool, true, false, List, [], ◌∷◌, Option, Some, None, if◌then◌else◌, refl, sym, ap, subst, ◌∙◌}
use Rattle.resty_base.specs.BoolLaws.{by_test, clash}
use Rattle.strand_contract.specs.declared.turns.Place.{Place}
use Rattle.strand_contract.specs.declared.turns.Act.{Act}
use Rattle.strand_contract.specs.declared.turns.Act.TheVariants as act
use Rattle.strand_contract.specs.Actions.{Moment, Stop, Began, Bytes, Ended, Broken, Ready, Dialled, Refused, Put, Later, Lost, Close, Log, Dict, Take, Dial, Keep, Timer, Dropped, Run, Offer, Due, Halted, Gone, LocalAction, Told, Did}
use Rattle.strand_contract.specs.Behaviors.{Behavior}
use Rattle.strand_contract.specs.Alone.{lives, was_dropped, moment, is_stopping, is_waking, is_winding_up, todo, waiting, to_offer, armed, due, begun_offer, going_on, offering, in_offers, Enabled, IsExecution, HasNoWork, IsQuiescent, NoneIsDue}
use Rattle.strand_contract.specs.OpenPlaceLaws.{no-place-open}
use Rattle.strand_contract.specs.Laws.{IsQuiet}

some-none : {A : Type 0} {C : Type 0} (o : Option A) (x : A) → o ≡ Some x → o ≡ None → C
some-none o x p q = absurd (let e : Some x ≡ None = sym p ∙ q in cc)

module _ {J : Type 0} where
  some-acts : {C : Type 0} (acts rest : List (Act J)) (a : Act J) → acts ≡ a ∷ rest → acts ≡ [] → C
  some-acts acts rest a p q = absurd (let e : a ∷ rest ≡ [] = sym p ∙ q in cc)

  -- actions that a strand takes by itself
  abbrev pub is_own : LocalAction J → Bool
  is_own (Did (Close q)) = true
  is_own (Did (Run k)) = true
  is_own (Did (Offer q)) = true
  is_own (Did (Due n)) = true
  is_own (Did Halted) = true
  is_own (Did Gone) = true
  is_own a = false

  -- which of them comes next
  abbrev by_end : Bool → Option (LocalAction J)
  by_end true = Some (Did Halted)
  by_end false = None

  abbrev by_lines : Bool → List ℕ → List Place → Option (LocalAction J) → Option (LocalAction J)
  by_lines true threads (q ∷ places) next = Some (Did (Offer q))
  by_lines true (k ∷ threads) [] next = Some (Did (Run k))
  by_lines true [] [] next = next
  by_lines false (k ∷ threads) places next = Some (Did (Run k))
  by_lines false [] (q ∷ places) next = Some (Did (Offer q))
  by_lines false [] [] next = next

  abbrev by_due : Option (ℕ × ℕ) → Bool → Option (LocalAction J) → Option (LocalAction J)
  by_due (Some d) stopping next = Some (Did (Due d.0))
  by_due None true next = Some (Did Halted)
  by_due None false next = next

  -- the deadline that comes due, at a moment
  abbrev now_due : Behavior J → List (LocalAction J) → Option (ℕ × ℕ)
  now_due b es = if is_waking es then due (moment es) (armed b es) else None

  abbrev by_offer : Option Place → Option (LocalAction J) → Option (LocalAction J)
  by_offer None next = next
  by_offer (Some q) next = None

  abbrev by_acts : List (Act J) → Option (LocalAction J) → Option (LocalAction J)
  by_acts [] next = next
  by_acts (act.HangUp q ∷ acts) next = Some (Did (Close q))
  by_acts (act.Gone ∷ acts) next = Some (Did Gone)
  by_acts (a ∷ acts) next = None

  abbrev pub own_step : Behavior J → List (LocalAction J) → Option (LocalAction J)
  own_step b es = by_acts (todo b es) (by_offer (offering b es) (by_due (now_due b es) (is_stopping es) (by_lines (in_offers es) (waiting b es) (to_offer b es) (by_end (is_winding_up es)))))

  pub tail-whole : (a : LocalAction J) (es : List (LocalAction J)) → was_dropped (a ∷ es) ≡ false → was_dropped es ≡ false
  tail-whole (Did Dropped) es h = clash refl h
  tail-whole a es h = h

  not-due : (b : Behavior J) (es : List (LocalAction J)) → NoneIsDue b es → now_due b es ≡ None
  not-due b es none = by_test (is_waking es) (λ on. ap (λ v. if v then due (moment es) (armed b es) else None) on ∙ none on) (λ off. ap (λ v. if v then due (moment es) (armed b es) else None) off)

  is-due : (b : Behavior J) (es : List (LocalAction J)) (d : ℕ × ℕ) → is_waking es ≡ true → due (moment es) (armed b es) ≡ Some d → now_due b es ≡ Some d
  is-due b es d on at = ap (λ v. if v then due (moment es) (armed b es) else None) on ∙ at

  -- a job that began after Stop isn't told a moment before it is ended
  winding : (b : Behavior J) (es : List (LocalAction J)) → IsExecution b es → is_winding_up es ≡ true → is_waking es ≡ false
  winding b [] f h = refl
  winding b (Told (Moment t) ∷ es) f h = clash h f.1.1.no_end
  winding b (Told Stop ∷ es) f h = refl
  winding b (Did (Began now begin) ∷ es) f h = refl
  winding b (Did (Bytes q bytes) ∷ es) f h = refl
  winding b (Did (Ended q) ∷ es) f h = refl
  winding b (Did (Broken q) ∷ es) f h = refl
  winding b (Did (Ready q) ∷ es) f h = refl
  winding b (Did (Dialled k) ∷ es) f h = refl
  winding b (Did (Refused k) ∷ es) f h = refl
  winding b (Did (Run k) ∷ es) f h = refl
  winding b (Did (Offer q) ∷ es) f h = refl
  winding b (Did Halted ∷ es) f h = refl
  winding b (a ∷ es) f h = winding b es f.0 h

  -- what a told Stop leaves: until it ends the strand, nothing else is to be done
  pub record Stops (b : Behavior J) (es : List (LocalAction J)) : Type 0 where
    no_act : todo b es ≡ []
    no_offer : begun_offer es ≡ None
    no_deadline : now_due b es ≡ None

  stopping : (b : Behavior J) → IsQuiet b → (es : List (LocalAction J)) → IsExecution b es → was_dropped es ≡ false → is_stopping es ≡ true → Stops b es
  stopping b quiet [] f w h = clash h refl
  stopping b quiet (Told Stop ∷ es) f w h = record {
    no_act = rw (f.1.1.no_act, quiet (Told Stop) es refl) refl;
    no_offer = refl;
    no_deadline = refl;
  }
  stopping b quiet (Told (Moment t) ∷ es) f w h = clash h f.1.1.no_stop
  stopping b quiet (Did (Began now begin) ∷ es) f w h = clash h (ap is_stopping f.1)
  stopping b quiet (Did (Bytes q bytes) ∷ es) f w h = clash h f.1.0.idle.no_stop
  stopping b quiet (Did (Ended q) ∷ es) f w h = clash h f.1.idle.no_stop
  stopping b quiet (Did (Broken q) ∷ es) f w h = clash h f.1.idle.no_stop
  stopping b quiet (Did (Ready q) ∷ es) f w h = clash h f.1.idle.no_stop
  stopping b quiet (Did (Dialled k) ∷ es) f w h = clash h f.1.idle.no_stop
  stopping b quiet (Did (Refused k) ∷ es) f w h = clash h f.1.idle.no_stop
  stopping b quiet (Did (Put q bytes) ∷ es) f w h = some-none _ q f.1.0.offered (ap (going_on b es) (stopping b quiet es f.0 w h).no_offer)
  stopping b quiet (Did (Later q) ∷ es) f w h = some-none _ q f.1.offered (ap (going_on b es) (stopping b quiet es f.0 w h).no_offer)
  stopping b quiet (Did (Lost q) ∷ es) f w h = some-none _ q f.1.offered (ap (going_on b es) (stopping b quiet es f.0 w h).no_offer)
  stopping b quiet (Did (Close q) ∷ es) f w h = elim f.1 [
    | inl next ↦ some-acts _ _ _ next.0.1 (stopping b quiet es f.0 w h).no_act
    | inr first ↦ clash first.0 w
  ]
  stopping b quiet (Did (Log line done) ∷ es) f w h = some-acts _ _ _ f.1.1 (stopping b quiet es f.0 w h).no_act
  stopping b quiet (Did (Dict zone call answer) ∷ es) f w h = some-acts _ _ _ f.1.0 (stopping b quiet es f.0 w h).no_act
  stopping b quiet (Did (Take key uses) ∷ es) f w h = some-acts _ _ _ f.1 (stopping b quiet es f.0 w h).no_act
  stopping b quiet (Did (Dial host port done) ∷ es) f w h = some-acts _ _ _ f.1 (stopping b quiet es f.0 w h).no_act
  stopping b quiet (Did (Keep k key idle size) ∷ es) f w h = some-acts _ _ _ f.1.0 (stopping b quiet es f.0 w h).no_act
  stopping b quiet (Did (Timer at answer) ∷ es) f w h = some-acts _ _ _ f.1.1 (stopping b quiet es f.0 w h).no_act
  stopping b quiet (Did Dropped ∷ es) f w h = clash refl w
  stopping b quiet (Did (Run k) ∷ es) f w h = clash h f.1.4
  stopping b quiet (Did (Offer q) ∷ es) f w h = clash h f.1.4
  stopping b quiet (Did (Due n) ∷ es) f w h = some-none _ _ (is-due b es _ f.1.1 f.1.2.1) (stopping b quiet es f.0 w h).no_deadline
  stopping b quiet (Did Halted ∷ es) f w h = clash h refl
  stopping b quiet (Did Gone ∷ es) f w h = some-acts _ _ _ f.1 (stopping b quiet es f.0 w h).no_act

  -- a life that is over leaves nothing to be done
  dead : (b : Behavior J) → IsQuiet b → (es : List (LocalAction J)) → IsExecution b es → was_dropped es ≡ false → lives es ≡ false → todo b es ≡ []
  dead b quiet [] f w h = refl
  dead b quiet (Told x ∷ es) f w h = clash f.1.0 h
  dead b quiet (Did (Began now begin) ∷ es) f w h = clash refl h
  dead b quiet (Did (Bytes q bytes) ∷ es) f w h = clash f.1.0.living h
  dead b quiet (Did (Ended q) ∷ es) f w h = clash f.1.living h
  dead b quiet (Did (Broken q) ∷ es) f w h = clash f.1.living h
  dead b quiet (Did (Ready q) ∷ es) f w h = clash f.1.living h
  dead b quiet (Did (Dialled k) ∷ es) f w h = clash f.1.living h
  dead b quiet (Did (Refused k) ∷ es) f w h = clash f.1.living h
  dead b quiet (Did (Put q bytes) ∷ es) f w h = clash f.1.0.living h
  dead b quiet (Did (Later q) ∷ es) f w h = clash f.1.living h
  dead b quiet (Did (Lost q) ∷ es) f w h = clash f.1.living h
  dead b quiet (Did (Close q) ∷ es) f w h = elim f.1 [
    | inl next ↦ some-acts _ _ _ next.0.1 (dead b quiet es f.0 w h)
    | inr first ↦ clash first.0 w
  ]
  dead b quiet (Did (Log line done) ∷ es) f w h = some-acts _ _ _ f.1.1 (dead b quiet es f.0 w h)
  dead b quiet (Did (Dict zone call answer) ∷ es) f w h = some-acts _ _ _ f.1.0 (dead b quiet es f.0 w h)
  dead b quiet (Did (Take key uses) ∷ es) f w h = some-acts _ _ _ f.1 (dead b quiet es f.0 w h)
  dead b quiet (Did (Dial host port done) ∷ es) f w h = some-acts _ _ _ f.1 (dead b quiet es f.0 w h)
  dead b quiet (Did (Keep k key idle size) ∷ es) f w h = some-acts _ _ _ f.1.0 (dead b quiet es f.0 w h)
  dead b quiet (Did (Timer at answer) ∷ es) f w h = some-acts _ _ _ f.1.1 (dead b quiet es f.0 w h)
  dead b quiet (Did Dropped ∷ es) f w h = clash refl w
  dead b quiet (Did (Run k) ∷ es) f w h = clash f.1.0.living h
  dead b quiet (Did (Offer q) ∷ es) f w h = clash f.1.0.living h
  dead b quiet (Did (Due n) ∷ es) f w h = clash f.1.0.living h
  dead b quiet (Did Halted ∷ es) f w h = clash f.1.0.living h
  dead b quiet (Did Gone ∷ es) f w h = rw (f.1, quiet (Did Gone) es refl) refl

  run-first : (c : Bool) (k : ℕ) (threads : List ℕ) (places : List Place) (next : Option (LocalAction J)) → (c ≡ true → places ≡ []) → by_lines c (k ∷ threads) places next ≡ Some (Did (Run k))
  run-first true k threads places next p = rw (p refl) refl
  run-first false k threads places next p = refl

  offer-first : (c : Bool) (threads : List ℕ) (q : Place) (places : List Place) (next : Option (LocalAction J)) → (c ≡ false → threads ≡ []) → by_lines c threads (q ∷ places) next ≡ Some (Did (Offer q))
  offer-first true threads q places next p = refl
  offer-first false threads q places next p = rw (p refl) refl

  none-in-line : (c : Bool) (next : Option (LocalAction J)) → by_lines c [] [] next ≡ next
  none-in-line true next = refl
  none-in-line false next = refl

  -- it is ended by Stop, or as a job that began after Stop
  ended : (stop : Bool) (next : Option (LocalAction J)) → next ≡ Some (Did Halted) → by_due None stop next ≡ Some (Did Halted)
  ended true next e = refl
  ended false next e = e

  -- what may come of the strand's own is this one
  pub own-is : (b : Behavior J) → IsQuiet b → (es : List (LocalAction J)) (a : LocalAction J) → IsExecution b es → was_dropped es ≡ false → Enabled b es a → is_own a ≡ true → own_step b es ≡ Some a
  own-is b quiet es (Did (Close q)) f w may own = elim may [
    | inl next ↦ rw next.0.1 refl
    | inr first ↦ clash first.0 w
  ]
  own-is b quiet es (Did (Run k)) f w may own = rw (may.0.no_act, may.0.no_offer, not-due b es may.3, may.4, ← may.1.1) (run-first (in_offers es) k may.1.0 (to_offer b es) _ may.2)
  own-is b quiet es (Did (Offer q)) f w may own = rw (may.0.no_act, may.0.no_offer, not-due b es may.3, may.4, ← may.1.1) (offer-first (in_offers es) (waiting b es) q may.1.0 _ may.2)
  own-is b quiet es (Did (Due n)) f w may own = rw (may.0.no_act, may.0.no_offer, is-due b es _ may.1 may.2.1) refl
  own-is b quiet es (Did Halted) f w may own = elim may.1 [
    | inl stop ↦ rw (may.0.no_act, may.0.no_offer, (stopping b quiet es f w stop).no_deadline, stop) refl
    | inr wind ↦ rw (may.0.no_act, may.0.no_offer, winding b es f wind.0, wind.0, wind.1.no_thread, wind.1.no_place) (ended (is_stopping es) _ (none-in-line (in_offers es) _))
  ]
  own-is b quiet es (Did Gone) f w may own = rw may refl
  own-is b quiet es a f w may own = clash own refl

  pub none-at-rest : (b : Behavior J) (es : List (LocalAction J)) → HasNoWork b es → own_step b es ≡ None
  none-at-rest b es idle = rw (idle.no_act, idle.no_offer, not-due b es idle.no_deadline, idle.no_stop, idle.no_end, idle.no_thread, idle.no_place) (none-in-line (in_offers es) None)

  none-offered : (b : Behavior J) (es : List (LocalAction J)) (q : Place) → todo b es ≡ [] → offering b es ≡ Some q → own_step b es ≡ None
  none-offered b es q p o = rw (p, o) refl

  -- where something may come from outside, nothing may come of the strand's own
  pub own-waits : (b : Behavior J) (es : List (LocalAction J)) (a : LocalAction J) → Enabled b es a → is_own a ≡ false → (a ≡ Did Dropped → ⊥) → (es ≡ []) ⊎ (own_step b es ≡ None)
  own-waits b es (Told w) may own whole = inr (none-at-rest b es may.1)
  own-waits b es (Did (Began now begin)) may own whole = inl may
  own-waits b es (Did (Bytes q bytes)) may own whole = inr (none-at-rest b es may.0.idle)
  own-waits b es (Did (Ended q)) may own whole = inr (none-at-rest b es may.idle)
  own-waits b es (Did (Broken q)) may own whole = inr (none-at-rest b es may.idle)
  own-waits b es (Did (Ready q)) may own whole = inr (none-at-rest b es may.idle)
  own-waits b es (Did (Dialled k)) may own whole = inr (none-at-rest b es may.idle)
  own-waits b es (Did (Refused k)) may own whole = inr (none-at-rest b es may.idle)
  own-waits b es (Did (Put q bytes)) may own whole = inr (none-offered b es q may.0.no_act may.0.offered)
  own-waits b es (Did (Later q)) may own whole = inr (none-offered b es q may.no_act may.offered)
  own-waits b es (Did (Lost q)) may own whole = inr (none-offered b es q may.no_act may.offered)
  own-waits b es (Did (Log line done)) may own whole = inr (rw may.1 refl)
  own-waits b es (Did (Dict zone call answer)) may own whole = inr (rw may.0 refl)
  own-waits b es (Did (Take key uses)) may own whole = inr (rw may refl)
  own-waits b es (Did (Dial host port done)) may own whole = inr (rw may refl)
  own-waits b es (Did (Keep k key idle size)) may own whole = inr (rw may.0 refl)
  own-waits b es (Did (Timer at answer)) may own whole = inr (rw may.1 refl)
  own-waits b es (Did Dropped) may own whole = absurd (whole refl)
  own-waits b es (Did (Close q)) may own whole = clash refl own
  own-waits b es (Did (Run k)) may own whole = clash refl own
  own-waits b es (Did (Offer q)) may own whole = clash refl own
  own-waits b es (Did (Due n)) may own whole = clash refl own
  own-waits b es (Did Halted) may own whole = clash refl own
  own-waits b es (Did Gone) may own whole = clash refl own

  -- nothing of its own may come
  abbrev pub IsStill : Behavior J → List (LocalAction J) → Type 0
  IsStill b es = (a : LocalAction J) → Enabled b es a → is_own a ≡ true → ⊥

  pub still-none : (b : Behavior J) → IsQuiet b → (es : List (LocalAction J)) → IsExecution b es → was_dropped es ≡ false → own_step b es ≡ None → IsStill b es
  still-none b quiet es f w none = λ a may own. some-none _ a (own-is b quiet es a f w may own) none

  pub still-offered : (b : Behavior J) → IsQuiet b → (es : List (LocalAction J)) (q : Place) → IsExecution b es → was_dropped es ≡ false → todo b es ≡ [] → offering b es ≡ Some q → IsStill b es
  still-offered b quiet es q f w p o = still-none b quiet es f w (none-offered b es q p o)

  -- a strand at rest does nothing by itself
  pub still-at-rest : (b : Behavior J) → IsQuiet b → (es : List (LocalAction J)) → IsExecution b es → was_dropped es ≡ false → IsQuiescent b es → IsStill b es
  still-at-rest b quiet es f w rests = λ a may own. by_test (lives es) (λ on. still-none b quiet es f w (none-at-rest b es (rests.idle on)) a may own) (λ off. over a may own off)
    where
      over : (a : LocalAction J) → Enabled b es a → is_own a ≡ true → lives es ≡ false → ⊥
      over (Did (Close q)) may own off = elim may [ inl next ↦ clash next.1 (no-place-open q es (rests.closed off)) | inr first ↦ clash first.0 w ]
      over (Did (Run k)) may own off = clash may.0.living off
      over (Did (Offer q)) may own off = clash may.0.living off
      over (Did (Due n)) may own off = clash may.0.living off
      over (Did Halted) may own off = clash may.0.living off
      over (Did Gone) may own off = some-acts _ _ _ may (dead b quiet es f w off)
      over a may own off = clash own refl

  -- nothing of its own comes before its beginning
  pub own-begins : (b : Behavior J) (a : LocalAction J) → Enabled b [] a → is_own a ≡ true → ⊥
  own-begins b (Did (Close q)) may own = elim may [ inl next ↦ some-acts _ _ _ next.0.1 refl | inr first ↦ clash first.0 refl ]
  own-begins b (Did (Run k)) may own = clash may.0.living refl
  own-begins b (Did (Offer q)) may own = clash may.0.living refl
  own-begins b (Did (Due n)) may own = clash may.0.living refl
  own-begins b (Did Halted) may own = clash may.0.living refl
  own-begins b (Did Gone) may own = some-acts _ _ _ may refl
  own-begins b a may own = clash own refl

  -- where something came from outside, nothing may come of the strand's own
  pub still-given : (b : Behavior J) → IsQuiet b → (es : List (LocalAction J)) (a : LocalAction J) → IsExecution b es → was_dropped es ≡ false → Enabled b es a → is_own a ≡ false → (a ≡ Did Dropped → ⊥) → IsStill b es
  still-given b quiet es a f w may own whole = elim (own-waits b es a may own whole) [
    | inl none ↦ λ x begins is. own-begins b x (subst (λ (l : List (LocalAction J)). Enabled b l x) none begins) is
    | inr none ↦ still-none b quiet es f w none
  ]
