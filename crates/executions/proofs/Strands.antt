-- Strands of an execution: those that are so, and which one's turn is under way.
use Rattle.std.specs.Prelude.{◌≡◌, ◌⊎◌, ℕ, Bool, true, false, ◌||◌, List, [], ◌∷◌, ◌++◌, drop, Option, Some, None, is_some, if◌then◌else◌, refl}
use Rattle.std.proofs.Common.{inl, inr, sym, ◌∙◌, ap, subst}
use Rattle.resty_base.specs.declared.names.StrandId.{StrandId}
use Rattle.resty_base.specs.declared.names.StrandId.TheVariants as strand
use Rattle.resty_base.specs.BoolLaws.{by_test}
use Rattle.resty_world.specs.Ids.{same_strand}
use Rattle.resty_world.specs.IdLaws.{same_strand-eq, same_strand-self}
use Rattle.strand_contract.specs.declared.turns.Place.{Place}
use Rattle.strand_contract.specs.declared.turns.Act.{Act}
use Rattle.strand_contract.specs.declared.turns.Start.TheVariants as start
use Rattle.strand_contract.specs.Actions.{Word, Action, Began, Bytes, Ended, Broken, Ready, Dialled, Refused, Put, Later, Lost, Close, Log, Dict, Take, Dial}
use Rattle.strand_contract.specs.Actions.{Keep, Timer, Dropped, Run, Offer, Due, Halted, Gone, LocalAction, Told, Did, is_given}
use Rattle.strand_contract.specs.Behaviors.{Behavior}
use Rattle.strand_contract.specs.Alone.{lives, was_dropped, todo, carried, offering, open_places, IsExecution, Enabled, IsOfferedAt}
use Rattle.strand_contract.specs.Laws.{IsQuiet}
use Rattle.executions.specs.Executions.{GlobalAction, Of, Everyone, TurnedAway, IdleGave, IdleClosed, projection, seen_by, Throughout}
use Rattle.executions.specs.Strands.{is_in, strands, first_in, first_that, has_some, is_under_way, under_way, NoneUnderWay}
use Rattle.executions.specs.Ordered.{MayTurn, MayTurnAt, MayDropLiving}
use Rattle.executions.specs.Lawful.{AllAtRest, IsGivenAtRest}

pub clash : {C : Type 0} (x : Bool) → x ≡ true → x ≡ false → C
clash x p q = absurd (let e : true ≡ false = sym p ∙ q in cc)

pub cons-nil : {A C : Type 0} (x : A) (xs : List A) → x ∷ xs ≡ [] → C
cons-nil x xs h = absurd (let f : x ∷ xs ≡ [] = h in cc)

-- what is true of none is true of none of the strands, and the other way round
in-append : (s t : StrandId) (ss : List StrandId) → is_in s (ss ++ t ∷ []) ≡ false → (is_in s ss ≡ false) × (same_strand s t ≡ false)
in-append s t [] h = (refl, by_test (same_strand s t) (λ on. clash _ (ap (λ c. c || false) on) h) (λ off. off))
in-append s t (r ∷ ss) h = put (same_strand s r) h (in-append s t ss)
  where
    put : (c : Bool) → (c || is_in s (ss ++ t ∷ [])) ≡ false → (is_in s (ss ++ t ∷ []) ≡ false → (is_in s ss ≡ false) × (same_strand s t ≡ false)) → ((c || is_in s ss) ≡ false) × (same_strand s t ≡ false)
    put true h ih = clash true refl h
    put false h ih = ih h

module _ {J : Type 0} where
  pub unnamed : (s : StrandId) (ms : List (GlobalAction J)) → is_in s (strands ms) ≡ false → projection s ms ≡ []
  unnamed s [] h = refl
  unnamed s (Of t x n ∷ ms) h = put (is_in t (strands ms)) refl h (unnamed s ms)
    where
      other : same_strand s t ≡ false → projection s ms ≡ [] → seen_by s (Of t x n) (projection s ms) ≡ []
      other off e = ap (λ c. if c then Did x ∷ projection s ms else projection s ms) off ∙ e

      put : (c : Bool) → is_in t (strands ms) ≡ c → is_in s (if c then strands ms else strands ms ++ t ∷ []) ≡ false → (is_in s (strands ms) ≡ false → projection s ms ≡ []) → seen_by s (Of t x n) (projection s ms) ≡ []
      put true e h ih = other (by_test (same_strand s t) (λ on. clash (is_in s (strands ms)) (subst (λ (r : StrandId). is_in r (strands ms) ≡ true) (sym (same_strand-eq s t on)) e) h) (λ off. off)) (ih h)
      put false e h ih = let g = in-append s t (strands ms) h in other g.1 (ih g.0)
  unnamed s (Everyone w ∷ ms) h = ap (λ es. seen_by s (Everyone w) es) (unnamed s ms h)
  unnamed s (TurnedAway c ∷ ms) h = unnamed s ms h
  unnamed s (IdleGave e ∷ ms) h = unnamed s ms h
  unnamed s (IdleClosed n ∷ ms) h = unnamed s ms h

  pub first-is-so : (is_so : List (LocalAction J) → Bool) (ss : List StrandId) (ms : List (GlobalAction J)) (t : StrandId) → first_in is_so ss ms ≡ Some t → is_so (projection t ms) ≡ true
  first-is-so is_so [] ms t h = absurd (let f : None ≡ Some t = h in cc)
  first-is-so is_so (s ∷ ss) ms t h = put (is_so (projection s ms)) refl h (first-is-so is_so ss ms t)
    where
      put : (c : Bool) → is_so (projection s ms) ≡ c → (if c then Some s else first_in is_so ss ms) ≡ Some t → (first_in is_so ss ms ≡ Some t → is_so (projection t ms) ≡ true) → is_so (projection t ms) ≡ true
      put true e h ih = subst (λ (r : StrandId). is_so (projection r ms) ≡ true) (let f : Some s ≡ Some t = h in cc) e
      put false e h ih = ih h

  none-in : (is_so : List (LocalAction J) → Bool) (ss : List StrandId) (ms : List (GlobalAction J)) (s : StrandId) → first_in is_so ss ms ≡ None → is_in s ss ≡ true → is_so (projection s ms) ≡ false
  none-in is_so [] ms s h i = clash false i refl
  none-in is_so (t ∷ ss) ms s h i = put (is_so (projection t ms)) refl h (none-in is_so ss ms s)
    where
      put : (c : Bool) → is_so (projection t ms) ≡ c → (if c then Some t else first_in is_so ss ms) ≡ None → (first_in is_so ss ms ≡ None → is_in s ss ≡ true → is_so (projection s ms) ≡ false) → is_so (projection s ms) ≡ false
      put true e h ih = absurd (let f : Some t ≡ None = h in cc)
      put false e h ih = by_test (same_strand s t) (λ on. subst (λ (r : StrandId). is_so (projection r ms) ≡ false) (sym (same_strand-eq s t on)) e) (λ off. ih h (ap (λ c. c || is_in s ss) (sym off) ∙ i))

  pub none-is-so : (is_so : List (LocalAction J) → Bool) (ms : List (GlobalAction J)) → is_so [] ≡ false → first_that is_so ms ≡ None → (s : StrandId) → is_so (projection s ms) ≡ false
  none-is-so is_so ms e h s = by_test (is_in s (strands ms)) (none-in is_so (strands ms) ms s h) (λ off. ap is_so (unnamed s ms off) ∙ e)

  none-found : (is_so : List (LocalAction J) → Bool) (ss : List StrandId) (ms : List (GlobalAction J)) → ((s : StrandId) → is_so (projection s ms) ≡ false) → first_in is_so ss ms ≡ None
  none-found is_so [] ms h = refl
  none-found is_so (s ∷ ss) ms h = ap (λ c. if c then Some s else first_in is_so ss ms) (h s) ∙ none-found is_so ss ms h

  pub none-that : (is_so : List (LocalAction J) → Bool) (ms : List (GlobalAction J)) → ((s : StrandId) → is_so (projection s ms) ≡ false) → first_that is_so ms ≡ None
  none-that is_so ms h = none-found is_so (strands ms) ms h

-- one strand
module _ {J : Type 0} (b : Behavior J) (quiet : IsQuiet b) where
  dead-todo : (es : List (LocalAction J)) → IsExecution b es → lives es ≡ false → todo b es ≡ []
  dead-todo [] f d = refl
  dead-todo (Told w ∷ es) f d = clash (lives es) f.1.0 d
  dead-todo (Did (Began now how) ∷ es) f d = clash true refl d
  dead-todo (Did (Bytes q bytes) ∷ es) f d = clash (lives es) f.1.0.living d
  dead-todo (Did (Ended q) ∷ es) f d = clash (lives es) f.1.living d
  dead-todo (Did (Broken q) ∷ es) f d = clash (lives es) f.1.living d
  dead-todo (Did (Ready q) ∷ es) f d = clash (lives es) f.1.living d
  dead-todo (Did (Dialled k) ∷ es) f d = clash (lives es) f.1.living d
  dead-todo (Did (Refused k) ∷ es) f d = clash (lives es) f.1.living d
  dead-todo (Did (Put q bytes) ∷ es) f d = clash (lives es) f.1.0.living d
  dead-todo (Did (Later q) ∷ es) f d = clash (lives es) f.1.living d
  dead-todo (Did (Lost q) ∷ es) f d = clash (lives es) f.1.living d
  dead-todo (Did (Close q) ∷ es) f d = ap (λ l. drop 1 l ++ carried (b.acts (Did (Close q) ∷ es))) (dead-todo es f.0 d) ∙ ap carried (quiet (Did (Close q)) es refl)
  dead-todo (Did (Log line done) ∷ es) f d = cons-nil _ _ (sym f.1.1 ∙ dead-todo es f.0 d)
  dead-todo (Did (Dict z call answer) ∷ es) f d = cons-nil _ _ (sym f.1.0 ∙ dead-todo es f.0 d)
  dead-todo (Did (Take key uses) ∷ es) f d = cons-nil _ _ (sym f.1 ∙ dead-todo es f.0 d)
  dead-todo (Did (Dial host port done) ∷ es) f d = cons-nil _ _ (sym f.1 ∙ dead-todo es f.0 d)
  dead-todo (Did (Keep k key idle size) ∷ es) f d = cons-nil _ _ (sym f.1.0 ∙ dead-todo es f.0 d)
  dead-todo (Did (Timer at answer) ∷ es) f d = cons-nil _ _ (sym f.1.1 ∙ dead-todo es f.0 d)
  dead-todo (Did Dropped ∷ es) f d = ap carried (quiet (Did Dropped) es refl)
  dead-todo (Did (Run k) ∷ es) f d = clash (lives es) f.1.0.living d
  dead-todo (Did (Offer q) ∷ es) f d = clash (lives es) f.1.0.living d
  dead-todo (Did (Due n) ∷ es) f d = clash (lives es) f.1.0.living d
  dead-todo (Did Halted ∷ es) f d = clash (lives es) f.1.0.living d
  dead-todo (Did Gone ∷ es) f d = ap (λ l. drop 1 l ++ carried (b.acts (Did Gone ∷ es))) f.1 ∙ ap carried (quiet (Did Gone) es refl)

  pub dropped-dead : (es : List (LocalAction J)) → IsExecution b es → was_dropped es ≡ true → lives es ≡ false
  dropped-dead [] f h = clash false h refl
  dropped-dead (Told w ∷ es) f h = dropped-dead es f.0 h
  dropped-dead (Did (Began now how) ∷ es) f h = clash (was_dropped es) h (ap was_dropped f.1)
  dropped-dead (Did Gone ∷ es) f h = refl
  dropped-dead (Did Dropped ∷ es) f h = refl
  dropped-dead (Did x ∷ es) f h = dropped-dead es f.0 h

  -- whose turn is under way
  abbrev pub way : Bool → List (Act J) → Option Place → List Place → Bool
  way c acts o ps = if c then has_some acts || is_some o else has_some ps

  pub acts-live : (es : List (LocalAction J)) (a : Act J) (acts : List (Act J)) → IsExecution b es → todo b es ≡ a ∷ acts → lives es ≡ true
  acts-live es a acts f e = by_test (lives es) (λ on. on) (λ off. cons-nil a acts (sym e ∙ dead-todo es f off))

  pub way-acts : (es : List (LocalAction J)) (a : Act J) (acts : List (Act J)) → IsExecution b es → todo b es ≡ a ∷ acts → is_under_way b es ≡ true
  way-acts es a acts f e = ap (λ c. way c (todo b es) (offering b es) (open_places es)) (acts-live es a acts f e) ∙ ap (λ l. way true l (offering b es) (open_places es)) e

  pub way-offer : (es : List (LocalAction J)) (q : Place) → IsOfferedAt b es q → is_under_way b es ≡ true
  way-offer es q o =
      ap (λ c. way c (todo b es) (offering b es) (open_places es)) o.living ∙ ap (λ l. way true l (offering b es) (open_places es)) o.no_act
      ∙ ap (λ p. way true [] p (open_places es)) o.offered

  pub way-open : (es : List (LocalAction J)) (q : Place) (qs : List Place) → lives es ≡ false → q ∷ qs ≡ open_places es → is_under_way b es ≡ true
  way-open es q qs off e = ap (λ c. way c (todo b es) (offering b es) (open_places es)) off ∙ ap (λ ps. has_some ps) (sym e)

  pub none-way : (ms : List (GlobalAction J)) → NoneUnderWay b ms → (s : StrandId) → is_under_way b (projection s ms) ≡ false
  none-way ms h s = none-is-so (is_under_way b) ms refl h s

  pub rest-way : (ms : List (GlobalAction J)) → AllAtRest b ms → (s : StrandId) → is_under_way b (projection s ms) ≡ false
  rest-way ms r s = let es = projection s ms in by_test (lives es)
      (λ on. let w = (r.each s).idle on in ap (λ c. way c (todo b es) (offering b es) (open_places es)) on ∙ ap (λ l. way true l (offering b es) (open_places es)) w.no_act ∙ ap (λ p. way true [] p (open_places es)) w.no_offer)
      (λ off. ap (λ c. way c (todo b es) (offering b es) (open_places es)) off ∙ ap (λ ps. has_some ps) ((r.each s).closed off))

  -- an action of a strand goes on with its turn, or comes where none is under way
  abbrev pub GoesOn : StrandId → List (GlobalAction J) → Type 0
  GoesOn r ms = (is_under_way b (projection r ms) ≡ true) ⊎ ((t : StrandId) → is_under_way b (projection t ms) ≡ false)

  drops : (r : StrandId) (ms : List (GlobalAction J)) (c : Bool) → MayDropLiving c b r ms → GoesOn r ms
  drops r ms true turn = elim turn.0 [
    | inl none ↦ inr (none-way ms none)
    | inr some ↦ inl (first-is-so (is_under_way b) (strands ms) ms r some)
  ]
  drops (strand.Job j) ms false turn = inr (none-way ms turn.0)
  drops (strand.Conn c) ms false turn = absurd turn

  pub goes-on : (r : StrandId) (x : Action J) (ms : List (GlobalAction J)) → IsExecution b (projection r ms) → Enabled b (projection r ms) (Did x)
      → (is_given x ≡ true → AllAtRest b ms) → MayTurnAt b r x ms → GoesOn r ms
  goes-on r (Began now (start.Client c)) ms f e given turn = inr (rest-way ms (given refl))
  goes-on r (Began now (start.Job j premature job)) ms f e given turn = inr (none-way ms turn.0)
  goes-on r (Bytes q bytes) ms f e given turn = inr (rest-way ms (given refl))
  goes-on r (Ended q) ms f e given turn = inr (rest-way ms (given refl))
  goes-on r (Broken q) ms f e given turn = inr (rest-way ms (given refl))
  goes-on r (Ready q) ms f e given turn = inr (rest-way ms (given refl))
  goes-on r (Dialled k) ms f e given turn = inr (rest-way ms (given refl))
  goes-on r (Refused k) ms f e given turn = inr (rest-way ms (given refl))
  goes-on r (Put q bytes) ms f e given turn = inl (way-offer (projection r ms) q e.0)
  goes-on r (Later q) ms f e given turn = inl (way-offer (projection r ms) q e)
  goes-on r (Lost q) ms f e given turn = inl (way-offer (projection r ms) q e)
  goes-on r (Close q) ms f e given turn = elim e [
    | inl w ↦ inl (way-acts (projection r ms) _ _ f w.0.1)
    | inr w ↦ inl (way-open (projection r ms) _ _ (dropped-dead (projection r ms) f w.0) w.1.1)
  ]
  goes-on r (Log line done) ms f e given turn = inl (way-acts (projection r ms) _ _ f e.1)
  goes-on r (Dict z call answer) ms f e given turn = inl (way-acts (projection r ms) _ _ f e.0)
  goes-on r (Take key uses) ms f e given turn = inl (way-acts (projection r ms) _ _ f e)
  goes-on r (Dial host port done) ms f e given turn = inl (way-acts (projection r ms) _ _ f e)
  goes-on r (Keep k key idle size) ms f e given turn = inl (way-acts (projection r ms) _ _ f e.0)
  goes-on r (Timer at answer) ms f e given turn = inl (way-acts (projection r ms) _ _ f e.1)
  goes-on r Dropped ms f e given turn = drops r ms (lives (projection r ms)) turn
  goes-on r (Run k) ms f e given turn = inr (none-way ms turn.0)
  goes-on r (Offer q) ms f e given turn = inr (none-way ms turn.0)
  goes-on r (Due n) ms f e given turn = inr (none-way ms turn.0)
  goes-on r Halted ms f e given turn = inr (none-way ms turn.0)
  goes-on r Gone ms f e given turn = inl (way-acts (projection r ms) _ _ f e)

  -- an execution so far
  pub record Comes (ms : List (GlobalAction J)) : Type 0 where
    pub alone : (s : StrandId) → IsExecution b (projection s ms)
    pub given : Throughout (IsGivenAtRest b) ms
    pub turns : Throughout (MayTurn b) ms

  tail-if : (c : Bool) (a : LocalAction J) (es : List (LocalAction J)) → IsExecution b (if c then a ∷ es else es) → IsExecution b es
  tail-if true a es f = f.0
  tail-if false a es f = f

  pub tail-of : (s : StrandId) (m : GlobalAction J) (ms : List (GlobalAction J)) → IsExecution b (projection s (m ∷ ms)) → IsExecution b (projection s ms)
  tail-of s (Of t x n) ms f = tail-if (same_strand s t) (Did x) (projection s ms) f
  tail-of s (Everyone w) ms f = tail-if (lives (projection s ms)) (Told w) (projection s ms) f
  tail-of s (TurnedAway c) ms f = f
  tail-of s (IdleGave e) ms f = f
  tail-of s (IdleClosed n) ms f = f

  pub before : (m : GlobalAction J) (ms : List (GlobalAction J)) → Comes (m ∷ ms) → Comes ms
  before m ms g = record { alone = λ s. tail-of s m ms (g.alone s); given = g.given.0; turns = g.turns.0 }

  head-if : (c : Bool) (x : Action J) (es : List (LocalAction J)) → c ≡ true → IsExecution b (if c then Did x ∷ es else es) → Enabled b es (Did x)
  head-if true x es e f = f.1
  head-if false x es e f = clash false e refl

  pub enabled : (r : StrandId) (x : Action J) (n : Option ℕ) (ms : List (GlobalAction J)) → Comes (Of r x n ∷ ms) → Enabled b (projection r ms) (Did x)
  enabled r x n ms g = head-if (same_strand r r) x (projection r ms) (same_strand-self r) (g.alone r)

  pub kind : (r : StrandId) (x : Action J) (n : Option ℕ) (ms : List (GlobalAction J)) → Comes (Of r x n ∷ ms) → GoesOn r ms
  kind r x n ms g = goes-on r x ms ((before (Of r x n) ms g).alone r) (enabled r x n ms g) g.given.1 g.turns.1

  told-way : (w : Word) (es : List (LocalAction J)) (c : Bool) → lives es ≡ c → todo b es ≡ [] → is_under_way b es ≡ false → is_under_way b (if c then Told w ∷ es else es) ≡ false
  told-way w es true on e h =
      ap (λ c. way c (todo b (Told w ∷ es)) (offering b (Told w ∷ es)) (open_places es)) on
      ∙ ap (λ l. has_some (l ++ carried (b.acts (Told w ∷ es))) || false) e ∙ ap (λ l. has_some (carried l) || false) (quiet (Told w) es refl)
  told-way w es false off e h = h

  -- one strand's turn is under way at a time
  abbrev pub OnlyOne : List (GlobalAction J) → Type 0
  OnlyOne ms = (s t : StrandId) → is_under_way b (projection s ms) ≡ true → is_under_way b (projection t ms) ≡ true → same_strand s t ≡ true

  of-one : (r : StrandId) (x : Action J) (n : Option ℕ) (ms : List (GlobalAction J)) → GoesOn r ms → OnlyOne ms → OnlyOne (Of r x n ∷ ms)
  of-one r x n ms k ih s t us ut = put (same_strand s r) refl (same_strand t r) refl us ut
    where
      others : (p : StrandId) → same_strand p r ≡ false → is_under_way b (projection p ms) ≡ true → same_strand s t ≡ true
      others p off u = elim k [
        | inl v ↦ clash (same_strand p r) (ih p r u v) off
        | inr none ↦ clash (is_under_way b (projection p ms)) u (none p)
      ]

      put : (c : Bool) → same_strand s r ≡ c → (d : Bool) → same_strand t r ≡ d → is_under_way b (if c then Did x ∷ projection s ms else projection s ms) ≡ true
          → is_under_way b (if d then Did x ∷ projection t ms else projection t ms) ≡ true → same_strand s t ≡ true
      put true e true f us ut = subst (λ (p : StrandId). same_strand s p ≡ true) (same_strand-eq s r e ∙ sym (same_strand-eq t r f)) (same_strand-self s)
      put true e false f us ut = others t f ut
      put false e true f us ut = others s e us
      put false e false f us ut = ih s t us ut

  pub only-one : (ms : List (GlobalAction J)) → Comes ms → OnlyOne ms
  only-one [] g s t us ut = clash false us refl
  only-one (Of r x n ∷ ms) g s t us ut = of-one r x n ms (kind r x n ms g) (only-one ms (before (Of r x n) ms g)) s t us ut
  only-one (Everyone w ∷ ms) g s t us ut = clash (is_under_way b (seen_by s (Everyone w) (projection s ms))) us (rests (g.given.1 refl))
    where
      rests : AllAtRest b ms → is_under_way b (seen_by s (Everyone w) (projection s ms)) ≡ false
      rests r = by_test (lives (projection s ms))
          (λ on. told-way w (projection s ms) (lives (projection s ms)) refl ((r.each s).idle on).no_act (rest-way ms r s))
          (λ off. ap (λ c. is_under_way b (if c then Told w ∷ projection s ms else projection s ms)) off ∙ rest-way ms r s)
  only-one (TurnedAway c ∷ ms) g s t us ut = only-one ms (before (TurnedAway c) ms g) s t us ut
  only-one (IdleGave e ∷ ms) g s t us ut = only-one ms (before (IdleGave e) ms g) s t us ut
  only-one (IdleClosed n ∷ ms) g s t us ut = only-one ms (before (IdleClosed n) ms g) s t us ut

  -- so the strand whose turn is under way is the one that is found
  pub found : (r : StrandId) (ms : List (GlobalAction J)) → OnlyOne ms → is_under_way b (projection r ms) ≡ true → under_way b ms ≡ Some r
  found r ms one u = put (under_way b ms) refl
    where
      put : (o : Option StrandId) → under_way b ms ≡ o → under_way b ms ≡ Some r
      put None e = clash (is_under_way b (projection r ms)) u (none-way ms e r)
      put (Some t) e = e ∙ ap Some (same_strand-eq t r (one t r (first-is-so (is_under_way b) (strands ms) ms t e) u))
