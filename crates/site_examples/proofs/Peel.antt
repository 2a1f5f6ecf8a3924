-- The newest entry of a history, and the action that left it.
use Rattle.std.proofs.Common.{◌≡◌, ◌⊎◌, ℕ, Bool, true, false, List, [], ◌∷◌, ◌++◌, Option, Some, None, if◌then◌else◌, refl, sym, ap, subst, ◌∙◌, inl, inr}
use Rattle.resty_base.specs.declared.names.StrandId.{StrandId}
use Rattle.resty_base.specs.declared.names.Id.TheVariants as id
use Rattle.resty_world.specs.declared.event.Event.{Event}
use Rattle.resty_world.specs.declared.event.Event.TheVariants as event
use Rattle.resty_world.specs.declared.entry.Entry.{Entry}
use Rattle.resty_world.specs.declared.entry.Entry.TheVariants as entry
use Rattle.resty_world.specs.Ids.{same_strand}
use Rattle.strand_contract.specs.Actions.{Moment, Stop, Action, Keep, Run, Offer, Due, Halted, Gone, LocalAction, Told, Did, is_internal}
use Rattle.executions.specs.Executions.{GlobalAction, Of, Everyone, TurnedAway, IdleGave, IdleClosed, projection, present, Throughout}
use Rattle.strand_contract.specs.Behaviors.{Behavior}
use Rattle.strand_contract.specs.Alone.{lives, IsExecution}
use Rattle.executions.specs.Histories.{part, without_internal, entries_at, word_entry, entries_of, external, closing}
use Rattle.executions.specs.Plain.{IsPlain, IsOfIdle}
use Rattle.executions.specs.Lawful.{BeginsRight, IsGivenAtRest}
use Rattle.shared_rules.specs.declared.sockets.Idle.{Idle}
use Rattle.executions.specs.Sockets.{pool, event_socket, closed_by}
use Rattle.resty_base.specs.BoolLaws.{clash, by_test}

-- what of the relations holds of every earlier part, too
pub record Fine {J : Type 0} (b : Behavior J) (ms : List (GlobalAction J)) : Type 0 where
  pub alone : (s : StrandId) → IsExecution b (projection s ms)
  pub begins : Throughout (BeginsRight b) ms
  pub given : Throughout (IsGivenAtRest b) ms
  pub plain : IsPlain b ms

abbrev pub IsInternal : {J : Type 0} → List (GlobalAction J) → Type 0
IsInternal [] = Unit {0}
IsInternal (Of s x n ∷ ms) = (is_internal x ≡ true) × IsInternal ms
IsInternal (m ∷ ms) = ⊥

-- the next entry isn't of one action with the newest: it isn't that of a connection that is turned away, of a socket that is kept, or
-- of an idle socket that is closed for what it gives
abbrev pub StandsAlone : List Entry → Type 0
StandsAlone (entry.Turned c ∷ h) = ⊥
StandsAlone (entry.Keep s n key idle size out ∷ h) = ⊥
StandsAlone (entry.Given (event.Bytes (id.Sock n) bytes) ∷ h) = ⊥
StandsAlone (entry.Given (event.Ended (id.Sock n)) ∷ h) = ⊥
StandsAlone (entry.Given (event.Broken (id.Sock n)) ∷ h) = ⊥
StandsAlone h = Unit {0}

pub record Peeled {J : Type 0} (b : Behavior J) (ms : List (GlobalAction J)) (e : Entry) (h : List Entry) : Type 0 where
  pub above : List (GlobalAction J)
  pub top : GlobalAction J
  pub older : List (GlobalAction J)
  pub whole : ms ≡ above ++ top ∷ older
  pub internal : IsInternal above
  pub left : entries_of b top older ≡ e ∷ []
  pub rest : external b older ≡ h

gives-some : (o : Option ℕ) (g : Event) (l : List Entry) → (closing o ++ entry.Given g ∷ []) ++ l ≡ [] → ⊥
gives-some None g l e = cc
gives-some (Some n) g l e = cc

both-none : (xs ys : List Entry) → xs ++ ys ≡ [] → ys ≡ []
both-none [] ys e = e
both-none (x ∷ xs) ys e = absurd (let f : x ∷ (xs ++ ys) ≡ [] = e in cc)

-- an idle socket that is closed for what it gives
idle-entry : (g : Event) (pool : List Idle) → IsOfIdle pool (event_socket g) → (closed_by g ≡ None) ⊎ ((n : ℕ) × (closed_by g ≡ Some n) × ((h : List Entry) → StandsAlone (entry.Given g ∷ h) → ⊥))
idle-entry (event.Bytes (id.Sock n) bytes) pool p = inr (n, refl, λ l w. w)
idle-entry (event.Ended (id.Sock n)) pool p = inr (n, refl, λ l w. w)
idle-entry (event.Broken (id.Sock n)) pool p = inr (n, refl, λ l w. w)
idle-entry (event.Ready (id.Sock n)) pool p = inl refl
idle-entry (event.Dialled n) pool p = inl refl
idle-entry (event.Refused n) pool p = inl refl
idle-entry (event.Bytes (id.Conn c) bytes) pool p = absurd p
idle-entry (event.Ended (id.Conn c)) pool p = absurd p
idle-entry (event.Broken (id.Conn c)) pool p = absurd p
idle-entry (event.Ready (id.Conn c)) pool p = absurd p
idle-entry g pool p = absurd p

module _ {J : Type 0} where
  tail-execution : (b : Behavior J) (c : Bool) (a : LocalAction J) (es : List (LocalAction J)) → IsExecution b (if c then a ∷ es else es) → IsExecution b es
  tail-execution b true a es f = f.0
  tail-execution b false a es f = f

  alone-tail : (b : Behavior J) (m : GlobalAction J) (ms : List (GlobalAction J)) (s : StrandId) → IsExecution b (projection s (m ∷ ms)) → IsExecution b (projection s ms)
  alone-tail b (Of t x n) ms s f = tail-execution b (same_strand s t) (Did x) (projection s ms) f
  alone-tail b (Everyone w) ms s f = tail-execution b (lives (projection s ms)) (Told w) (projection s ms) f
  alone-tail b (TurnedAway c) ms s f = f
  alone-tail b (IdleGave e) ms s f = f
  alone-tail b (IdleClosed n) ms s f = f

  pub fine-tail : (b : Behavior J) (m : GlobalAction J) (ms : List (GlobalAction J)) → Fine b (m ∷ ms) → Fine b ms
  fine-tail b m ms f = record {
    alone = λ s. alone-tail b m ms s (f.alone s);
    begins = f.begins.0;
    given = f.given.0;
    plain = f.plain.0;
  }

  pub fine-below : (b : Behavior J) (above ms : List (GlobalAction J)) → Fine b (above ++ ms) → Fine b ms
  fine-below b [] ms f = f
  fine-below b (m ∷ above) ms f = fine-below b above ms (fine-tail b m (above ++ ms) f)

  abbrev pub is_keep : Action J → Bool
  is_keep (Keep k key idle size) = true
  is_keep x = false

  -- an action that isn't internal leaves one entry; one that keeps a socket may close another before
  pub no-entry : (b : Behavior J) (s : StrandId) (x : Action J) (n : Option ℕ) (ms : List (GlobalAction J)) → is_internal x ≡ true → entries_at b s x n ms ≡ []
  no-entry b s (Run k) n ms h = refl
  no-entry b s (Offer q) n ms h = refl
  no-entry b s (Due k) n ms h = refl
  no-entry b s Halted n ms h = refl
  no-entry b s Gone n ms h = refl
  no-entry b s x n ms h = clash h refl

  pub an-entry : (b : Behavior J) (s : StrandId) (x : Action J) (n : Option ℕ) (ms : List (GlobalAction J)) → is_internal x ≡ false → is_keep x ≡ false → (e : Entry) × (entries_at b s x n ms ≡ e ∷ [])
  an-entry b s (Run k) n ms h g = clash refl h
  an-entry b s (Offer q) n ms h g = clash refl h
  an-entry b s (Due k) n ms h g = clash refl h
  an-entry b s Halted n ms h g = clash refl h
  an-entry b s Gone n ms h g = clash refl h
  an-entry b s (Keep k key idle size) n ms h g = clash refl g
  an-entry b s x n ms h g = (_, refl)

  keep-entry : (b : Behavior J) (s : StrandId) (x : Action J) (n : Option ℕ) (ms : List (GlobalAction J)) → is_keep x ≡ true
      → (k : Entry) × (entries_at b s x n ms ≡ closing n ++ k ∷ []) × ((h : List Entry) → StandsAlone (k ∷ h) → ⊥)
  keep-entry b s (Keep k key idle size) n ms h = (_, refl, λ l w. w)
  keep-entry b s x n ms h = clash h refl

  -- the newest action left one entry, and it is this
  one-left : (b : Behavior J) (m : GlobalAction J) (ms : List (GlobalAction J)) (k e : Entry) (h : List Entry) → entries_of b m ms ≡ k ∷ [] → external b (m ∷ ms) ≡ e ∷ h → Peeled b (m ∷ ms) e h
  one-left b m ms k e h v is =
      let lists : k ∷ external b ms ≡ e ∷ h = ap (λ l. l ++ external b ms) (sym v) ∙ is in
      let head : k ≡ e = cc in
      let tail : external b ms ≡ h = cc in
      record { above = []; top = m; older = ms; whole = refl; internal = tt; left = v ∙ ap (λ i. i ∷ []) head; rest = tail }

  two-left : (b : Behavior J) (m : GlobalAction J) (ms : List (GlobalAction J)) (c k e : Entry) (h : List Entry) → entries_of b m ms ≡ c ∷ k ∷ [] → ((l : List Entry) → StandsAlone (k ∷ l) → ⊥) → StandsAlone h
      → external b (m ∷ ms) ≡ e ∷ h → Peeled b (m ∷ ms) e h
  two-left b m ms c k e h v not-alone alone is =
      let lists : c ∷ k ∷ external b ms ≡ e ∷ h = ap (λ l. l ++ external b ms) (sym v) ∙ is in
      let tail : h ≡ k ∷ external b ms = cc in
      absurd (not-alone (external b ms) (subst StandsAlone tail alone))

  kept-left : (b : Behavior J) (m : GlobalAction J) (ms : List (GlobalAction J)) (n : Option ℕ) (k e : Entry) (h : List Entry) → entries_of b m ms ≡ closing n ++ k ∷ [] → ((l : List Entry) → StandsAlone (k ∷ l) → ⊥) → StandsAlone h
      → external b (m ∷ ms) ≡ e ∷ h → Peeled b (m ∷ ms) e h
  kept-left b m ms None k e h v not-alone alone is = one-left b m ms k e h v is
  kept-left b m ms (Some n) k e h v not-alone alone is = two-left b m ms (entry.Close (id.Sock n)) k e h v not-alone alone is

  pub peel : (b : Behavior J) (ms : List (GlobalAction J)) (e : Entry) (h : List Entry) → IsPlain b ms → StandsAlone h → external b ms ≡ e ∷ h → Peeled b ms e h
  peel b [] e h plain alone is = absurd (cc)
  peel b (Of s x n ∷ ms) e h plain alone is = by_test (is_internal x)
      (λ on.
      let p : Peeled b ms e h = peel b ms e h plain.0 alone (ap (λ l. l ++ external b ms) (sym (no-entry b s x n ms on)) ∙ is) in
      record { above = Of s x n ∷ p.above; top = p.top; older = p.older; whole = ap (λ l. Of s x n ∷ l) p.whole; internal = (on, p.internal); left = p.left; rest = p.rest })
      (λ off. by_test (is_keep x)
      (λ keep. let k = keep-entry b s x n ms keep in kept-left b (Of s x n) ms n k.0 e h k.1 k.2 alone is)
      (λ other. let v = an-entry b s x n ms off other in one-left b (Of s x n) ms v.0 e h v.1 is))
  peel b (Everyone w ∷ ms) e h plain alone is = one-left b (Everyone w) ms (word_entry w) e h refl is
  peel b (TurnedAway c ∷ ms) e h plain alone is = absurd (subst StandsAlone (let tail : h ≡ entry.Turned c ∷ entry.Given (event.Arrive c) ∷ external b ms = cc in tail) alone)
  peel b (IdleGave g ∷ ms) e h plain alone is = elim (idle-entry g (pool ms) plain.1) [
    | inl none ↦ one-left b (IdleGave g) ms (entry.Given g) e h (ap (λ o. closing o ++ entry.Given g ∷ []) none) is
    | inr w ↦ two-left b (IdleGave g) ms (entry.Close (id.Sock w.0)) (entry.Given g) e h (ap (λ o. closing o ++ entry.Given g ∷ []) w.1) w.2 alone is
  ]
  peel b (IdleClosed n ∷ ms) e h plain alone is = one-left b (IdleClosed n) ms (entry.Close (id.Sock n)) e h refl is

  -- internal actions don't show
  hidden : (c : Bool) (x : Action J) (es : List (LocalAction J)) → is_internal x ≡ true → without_internal (if c then Did x ∷ es else es) ≡ without_internal es
  hidden true x es h = rw h refl
  hidden false x es h = refl

  pub part-below : (s : StrandId) (above ms : List (GlobalAction J)) → IsInternal above → part s (above ++ ms) ≡ part s ms
  part-below s [] ms h = refl
  part-below s (Of t x n ∷ above) ms h = hidden (same_strand s t) x (projection s (above ++ ms)) h.0 ∙ part-below s above ms h.1
  part-below s (Everyone w ∷ above) ms h = absurd h
  part-below s (TurnedAway c ∷ above) ms h = absurd h
  part-below s (IdleGave e ∷ above) ms h = absurd h
  part-below s (IdleClosed n ∷ above) ms h = absurd h

  pub present-below : (above ms : List (GlobalAction J)) → IsInternal above → present (above ++ ms) ≡ present ms
  present-below [] ms h = refl
  present-below (Of t x n ∷ above) ms h = present-below above ms h.1
  present-below (Everyone w ∷ above) ms h = absurd h
  present-below (TurnedAway c ∷ above) ms h = absurd h
  present-below (IdleGave e ∷ above) ms h = absurd h
  present-below (IdleClosed n ∷ above) ms h = absurd h

  pub present-none : (b : Behavior J) (ms : List (GlobalAction J)) → external b ms ≡ [] → present ms ≡ 0
  present-none b [] h = refl
  present-none b (Of s x n ∷ ms) h = present-none b ms (both-none (entries_at b s x n ms) (external b ms) h)
  present-none b (Everyone Stop ∷ ms) h = absurd (cc)
  present-none b (Everyone (Moment t) ∷ ms) h = absurd (cc)
  present-none b (TurnedAway c ∷ ms) h = absurd (cc)
  present-none b (IdleGave e ∷ ms) h = absurd (gives-some (closed_by e) e (external b ms) h)
  present-none b (IdleClosed n ∷ ms) h = absurd (cc)
