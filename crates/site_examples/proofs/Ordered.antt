-- A strand that is dropped at an event that isn't its own.
use Rattle.std.proofs.Common.{◌≡◌, Bool, true, false, not, ◌&&◌, ◌||◌, List, [], ◌∷◌, ◌++◌, if◌then◌else◌, refl, sym, ap, subst, ◌∙◌}
use Rattle.resty_base.specs.declared.names.Id.TheVariants as id
use Rattle.resty_world.specs.declared.event.Event.TheVariants as event
use Rattle.resty_world.specs.declared.entry.Entry.{Entry}
use Rattle.resty_world.specs.declared.entry.Entry.TheVariants as entry
use Rattle.resty_world.specs.Ids.{same_strand}
use Rattle.strand_contract.specs.Actions.{Moment, Action, Dropped, Run, Offer, Due, Halted, Gone, LocalAction, Told, Did, is_internal, is_given}
use Rattle.executions.specs.Executions.{GlobalAction, Of, Everyone, TurnedAway, IdleGave, IdleClosed, projection}
use Rattle.strand_contract.specs.Behaviors.{Behavior}
use Rattle.strand_contract.specs.Alone.{lives, HasNoWork, Enabled, IsExecution}
use Rattle.executions.specs.Histories.{external}
use Rattle.executions.specs.Lawful.{IsLawful}
use Rattle.executions.specs.Plain.{IsPlain}
use Rattle.executions.specs.Ordered.{was_touched, MayDropLiving, IsOrdered}
use Rattle.resty_base.specs.BoolLaws.{clash, by_test}
use Rattle.execution_laws.proofs.OwnSteps.{is_own, none-at-rest, IsStill, still-none, still-at-rest}
use Rattle.run_contract.specs.declared.stored.NoJob.{NoJob}
use Rattle.site_examples.specs.Spoiled.{HasNoOrderedExecution}
use Rattle.site_examples.proofs.Computed.{behavior, behavior-is, quiet}
use Rattle.site_examples.specs.Exchange.{at_second_1, arrives}
use Rattle.site_examples.specs.Spoiled.{at_second_2, dropped_by_others}
use Rattle.site_examples.proofs.Leaves.{drops, ticks}
use Rattle.site_examples.proofs.Peel.{Fine, IsInternal, Peeled, fine-tail, peel}
use Rattle.site_examples.proofs.Run.{begun, idle, rests-begun}
use Rattle.site_examples.proofs.Seen.{client}
use Rattle.site_examples.proofs.Spoiled.{Global, fine, fine-at, begun-part, Before, same}

passes : (c given touched : Bool) → c ≡ false → given ≡ false → (c || (not given && touched)) ≡ touched
passes c given touched h g = rw (h, g) refl

module _ {J : Type 0} where
  turns-below : (b : Behavior J) (above ms : List (GlobalAction J)) → IsOrdered b (above ++ ms) → IsOrdered b ms
  turns-below b [] ms t = t
  turns-below b (m ∷ above) ms t = turns-below b above ms t.0

  own-internal : (x : Action J) → is_internal x ≡ true → is_own (Did x) ≡ true
  own-internal (Run k) h = refl
  own-internal (Offer q) h = refl
  own-internal (Due k) h = refl
  own-internal Halted h = refl
  own-internal Gone h = refl
  own-internal x h = clash h refl

  ungiven : (x : Action J) → is_internal x ≡ true → is_given x ≡ false
  ungiven (Run k) h = refl
  ungiven (Offer q) h = refl
  ungiven (Due k) h = refl
  ungiven Halted h = refl
  ungiven Gone h = refl
  ungiven x h = clash h refl

  acted : (b : Behavior J) (c : Bool) (a : LocalAction J) (es : List (LocalAction J)) → c ≡ true → IsExecution b (if c then a ∷ es else es) → Enabled b es a
  acted b true a es h f = f.1
  acted b false a es h f = clash h refl

  -- where the client does nothing by itself, the internal actions are of others
  pub untouched : (b : Behavior J) (above ms : List (GlobalAction J)) → Fine b (above ++ ms) → IsInternal above → IsStill b (projection client ms)
      → (projection client (above ++ ms) ≡ projection client ms) × (was_touched client (above ++ ms) ≡ was_touched client ms)
  untouched b [] ms f i still = (refl, refl)
  untouched b (Of t x n ∷ above) ms f i still =
      let w : (projection client (above ++ ms) ≡ projection client ms) × (was_touched client (above ++ ms) ≡ was_touched client ms) = untouched b above ms (fine-tail b (Of t x n) (above ++ ms) f) i.1 still in
      by_test (same_strand client t)
      (λ on. absurd (still (Did x) (subst (λ (es : List (LocalAction J)). Enabled b es (Did x)) w.0 (acted b (same_strand client t) (Did x) (projection client (above ++ ms)) on (f.alone client))) (own-internal x i.0)))
      (λ off. (
        ap (λ c. if c then Did x ∷ projection client (above ++ ms) else projection client (above ++ ms)) off ∙ w.0,
        passes (same_strand client t) (is_given x) (was_touched client (above ++ ms)) off (ungiven x i.0) ∙ w.1,
      ))
  untouched b (Everyone v ∷ above) ms f i still = absurd i
  untouched b (TurnedAway c ∷ above) ms f i still = absurd i
  untouched b (IdleGave e ∷ above) ms f i still = absurd i
  untouched b (IdleClosed n ∷ above) ms f i still = absurd i

is-begun : IsExecution behavior begun
is-begun = (tt, refl)

abbrev told : List (LocalAction NoJob)
told = Told (Moment 2_000) ∷ begun

told-idle : HasNoWork behavior told
told-idle = record { no_act = refl; no_thread = refl; no_place = refl; no_offer = refl; no_deadline = λ waking. refl; no_stop = refl; no_end = refl }

still-told : IsStill behavior told
still-told = still-none behavior quiet told (is-begun, (refl, idle)) refl (none-at-rest behavior told told-idle)

turns-at : (ms : List Global) (e : Entry) (h : List Entry) (p : Peeled behavior ms e h) → IsOrdered behavior ms → IsOrdered behavior (p.top ∷ p.older)
turns-at ms e h p t = turns-below behavior p.above (p.top ∷ p.older) (subst (IsOrdered behavior) p.whole t)

-- a connection's strand is dropped at an event of its own
drop-touched : (living : Bool) (ms : List Global) → MayDropLiving living behavior client ms → was_touched client ms ≡ true
drop-touched true ms t = t.1
drop-touched false ms t = absurd t

-- the moment's event doesn't touch the client
not-his : (ms : List Global) → Fine behavior ms → external behavior ms ≡ entry.Given at_second_2 ∷ entry.Given arrives ∷ entry.Given at_second_1 ∷ [] → was_touched client ms ≡ false
not-his ms f is =
    let p : Peeled behavior ms (entry.Given at_second_2) (entry.Given arrives ∷ entry.Given at_second_1 ∷ []) = peel behavior ms _ _ f.plain tt is in
    let g : Fine behavior (p.top ∷ p.older) = fine-at ms _ _ p f in
    let top : p.top ≡ Everyone (Moment 2_000) = ticks behavior p.top p.older 2_000 g.plain p.left in
    let k : Fine behavior (Everyone (Moment 2_000) ∷ p.older) = subst (λ m. Fine behavior (m ∷ p.older)) top g in
    let older : Fine behavior p.older = fine-tail behavior (Everyone (Moment 2_000)) p.older k in
    let w : Before (entry.Given arrives ∷ entry.Given at_second_1 ∷ []) = record { ms = p.older; fine = older; rests = k.given.1 refl; history = p.rest } in
    let seen : projection client p.older ≡ begun = same _ w begun begun (begun-part p.older older p.rest) refl is-begun refl (still-at-rest behavior quiet begun is-begun refl rests-begun) refl in
    let after : projection client (Everyone (Moment 2_000) ∷ p.older) ≡ told = ap (λ es. if lives es then Told (Moment 2_000) ∷ es else es) seen in
    let whole : ms ≡ p.above ++ Everyone (Moment 2_000) ∷ p.older = p.whole ∙ ap (λ m. p.above ++ m ∷ p.older) top in
    let u = untouched behavior p.above (Everyone (Moment 2_000) ∷ p.older) (subst (Fine behavior) whole f) p.internal (subst (IsStill behavior) (sym after) still-told) in
    ap (was_touched client) whole ∙ u.1

unordered-so : (ms : List Global) → IsLawful behavior ms → IsPlain behavior ms → IsOrdered behavior ms → external behavior ms ≡ dropped_by_others → ⊥
unordered-so ms lawful plain ordered is =
    let f : Fine behavior ms = fine ms lawful plain in
    let p : Peeled behavior ms (entry.Given event.Stop) (entry.Close (id.Conn 1) ∷ entry.Dropped client ∷ entry.Given at_second_2 ∷ entry.Given arrives ∷ entry.Given at_second_1 ∷ []) = peel behavior ms _ _ plain tt is in
    let g : Fine behavior p.older = fine-tail behavior p.top p.older (fine-at ms _ _ p f) in
    let q : Peeled behavior p.older (entry.Close (id.Conn 1)) (entry.Dropped client ∷ entry.Given at_second_2 ∷ entry.Given arrives ∷ entry.Given at_second_1 ∷ []) = peel behavior p.older _ _ g.plain tt p.rest in
    let k : Fine behavior q.older = fine-tail behavior q.top q.older (fine-at p.older _ _ q g) in
    let r : Peeled behavior q.older (entry.Dropped client) (entry.Given at_second_2 ∷ entry.Given arrives ∷ entry.Given at_second_1 ∷ []) = peel behavior q.older _ _ k.plain tt q.rest in
    let l : Fine behavior (r.top ∷ r.older) = fine-at q.older _ _ r k in
    let d = drops behavior r.top r.older l.plain r.left in
    let turns : IsOrdered behavior q.older = (turns-at p.older _ _ q (turns-at ms _ _ p ordered).0).0 in
    let touched : IsOrdered behavior (Of client Dropped d.0 ∷ r.older) = subst (λ m. IsOrdered behavior (m ∷ r.older)) {y = Of client Dropped d.0} d.1 (turns-at q.older _ _ r turns) in
    clash (drop-touched (lives (projection client r.older)) r.older touched.1) (not-his r.older (fine-tail behavior r.top r.older l) r.rest)

abbrev HasNone : Behavior NoJob → Type 0
HasNone b = (ms : List Global) → IsLawful b ms → IsPlain b ms → IsOrdered b ms → external b ms ≡ dropped_by_others → ⊥

pub unordered : HasNoOrderedExecution dropped_by_others
unordered = subst HasNone behavior-is unordered-so
