-- What an execution of connections alone has not, and which of its strands comes first.
use Rattle.std.proofs.Common.{◌≡◌, ℕ, ◌+◌, ◌<◌, ◌≤◌, Bool, true, false, ◌||◌, ◌==◌, List, [], ◌∷◌, ◌++◌, Option, Some, if◌then◌else◌, refl, sym, ap, subst, ◌∙◌, inl, inr, arith}
use Rattle.std.proofs.lemmas.Bool.{eqb-true}
use Rattle.resty_base.specs.declared.names.StrandId.{StrandId}
use Rattle.resty_base.specs.declared.names.StrandId.TheVariants as strand
use Rattle.resty_base.specs.BoolLaws.{by_test, clash}
use Rattle.resty_world.specs.Ids.{same_strand}
use Rattle.strand_contract.specs.declared.turns.Start.TheVariants as start
use Rattle.strand_contract.specs.declared.turns.Act.TheVariants as act
use Rattle.strand_contract.specs.Actions.{Action, Began, Bytes, Ended, Broken, Ready, Put, Later, Lost, Close, Log, Dropped, Run, Offer, Due, Halted, Gone, Take, Keep, Timer, LocalAction, Told, Did}
use Rattle.strand_contract.specs.Behaviors.{Behavior}
use Rattle.strand_contract.specs.Alone.{lives, Enabled, IsExecution}
use Rattle.executions.specs.Executions.{GlobalAction, Of, Everyone, TurnedAway, IdleGave, IdleClosed, projection, Throughout}
use Rattle.executions.specs.Strands.{is_in, strands, first_in, first_that}
use Rattle.executions.specs.Sockets.{pool}
use Rattle.executions.specs.Jobs.{pending}
use Rattle.executions.specs.Counts.{arrived, arrived_by}
use Rattle.executions.specs.Lawful.{BeginsRight}
use Rattle.executions.specs.Plain.{IsPlain, IsPlainAt}
use Rattle.executions.specs.Ordered.{MayTurnAt, MayDropLiving, IsOrdered}
use Rattle.executions.proofs.Strands.{unnamed}
use Rattle.engine_base.specs.Right.{IsServed}
use Rattle.engine_base.proofs.Lists.{same-true}

-- connections, in the order of their numbers, from above one number up to another
pub data Rising : ℕ → List StrandId → ℕ → Type 0 where
  over : {low high : ℕ} → low ≤ high → Rising low [] high
  more : {low high c : ℕ} {ss : List StrandId} → low < c → Rising c ss high → Rising low (strand.Conn c ∷ ss) high

rising-up : {low high : ℕ} {ss : List StrandId} (top : ℕ) → high ≤ top → Rising low ss high → Rising low ss top
rising-up top up (over h) = over (omega (arith, up, h))
rising-up top up (more less r) = more less (rising-up top up r)

rising-end : {low high : ℕ} {ss : List StrandId} (c : ℕ) → high < c → Rising low ss high → Rising low (ss ++ strand.Conn c ∷ []) c
rising-end c less (over h) = more (omega (arith, less, h)) (over (omega arith))
rising-end c less (more up r) = more up (rising-end c less r)

or-of : (v w : Bool) → (v || w) ≡ true → v ≡ false → w ≡ true
or-of true w h off = clash refl off
or-of false w h off = h

rising-low : {low high : ℕ} (c : ℕ) (ss : List StrandId) → Rising low ss high → is_in (strand.Conn c) ss ≡ true → low < c
rising-low c [] (over h) i = clash i refl
rising-low {low = low} c (strand.Conn d ∷ ss) (more less r) i = by_test (c == d)
    (λ on. let e = eqb-true c d on in omega (arith, e, less))
    (λ off. let up = rising-low c ss r (or-of (c == d) (is_in (strand.Conn c) ss) i off) in omega (arith, up, less))
rising-low c (strand.Job j ∷ ss) r i = elim r [ ]

module _ {J : Type 0} where
  pub pool-none : (ms : List (GlobalAction J)) → Throughout IsServed ms → pool ms ≡ []
  pool-none [] k = refl
  pool-none (Of (strand.Conn c) (Take key uses) n ∷ ms) k = clash k.1 refl
  pool-none (Of (strand.Conn c) (Keep i key idle size) n ∷ ms) k = clash k.1 refl
  pool-none (Of (strand.Conn c) x n ∷ ms) k = pool-none ms k.0
  pool-none (Of (strand.Job j) x n ∷ ms) k = absurd k.1
  pool-none (Everyone w ∷ ms) k = pool-none ms k.0
  pool-none (TurnedAway c ∷ ms) k = pool-none ms k.0
  pool-none (IdleGave e ∷ ms) k = absurd k.1
  pool-none (IdleClosed n ∷ ms) k = absurd k.1

  pub pending-none : (b : Behavior J) (ms : List (GlobalAction J)) → Throughout IsServed ms → pending b ms ≡ []
  pending-none b [] k = refl
  pending-none b (Of (strand.Conn c) (Timer at answer) n ∷ ms) k = clash k.1 refl
  pending-none b (Of (strand.Conn c) x n ∷ ms) k = pending-none b ms k.0
  pending-none b (Of (strand.Job j) x n ∷ ms) k = absurd k.1
  pending-none b (Everyone w ∷ ms) k = pending-none b ms k.0
  pending-none b (TurnedAway c ∷ ms) k = pending-none b ms k.0
  pending-none b (IdleGave e ∷ ms) k = absurd k.1
  pending-none b (IdleClosed n ∷ ms) k = absurd k.1

  -- a strand to which nothing has happened yet begins
  first-act : (b : Behavior J) (c : ℕ) (x : Action J) (n : Option ℕ) (ms : List (GlobalAction J)) → IsServed (Of (strand.Conn c) x n) ms → projection (strand.Conn c) ms ≡ [] → Enabled b [] (Did x)
      → BeginsRight b (Of (strand.Conn c) x n) ms → IsPlainAt b x n ms → MayTurnAt b (strand.Conn c) x ms → (c ≡ arrived ms + 1) × (arrived_by (Of (strand.Conn c) x n) ≡ 1)
  first-act b c (Began now (start.Client d)) n ms k nil e r p t = (r.0 ∙ p.1, refl)
  first-act b c (Began now (start.Job j premature job)) n ms k nil e r p t = absurd r.0
  first-act b c (Bytes q bytes) n ms k nil e r p t = clash e.0.living refl
  first-act b c (Ended q) n ms k nil e r p t = clash e.living refl
  first-act b c (Broken q) n ms k nil e r p t = clash e.living refl
  first-act b c (Ready q) n ms k nil e r p t = clash e.living refl
  first-act b c (Put q bytes) n ms k nil e r p t = clash e.0.living refl
  first-act b c (Later q) n ms k nil e r p t = clash e.living refl
  first-act b c (Lost q) n ms k nil e r p t = clash e.living refl
  first-act b c (Close q) n ms k nil e r p t = elim e [
    | inl w ↦ absurd (let f : [] ≡ act.HangUp q ∷ w.0.0 = w.0.1 in cc)
    | inr w ↦ clash w.0 refl
  ]
  first-act b c (Log line done) n ms k nil e r p t = absurd (let f : [] ≡ act.Log line ∷ e.0 = e.1 in cc)
  first-act b c Dropped n ms k nil e r p t = absurd (subst (λ (es : List (LocalAction J)). MayDropLiving (lives es) b (strand.Conn c) ms) nil t)
  first-act b c (Run i) n ms k nil e r p t = clash e.0.living refl
  first-act b c (Offer q) n ms k nil e r p t = clash e.0.living refl
  first-act b c (Due i) n ms k nil e r p t = clash e.0.living refl
  first-act b c Halted n ms k nil e r p t = clash e.0.living refl
  first-act b c Gone n ms k nil e r p t = absurd (let f : [] ≡ act.Gone ∷ [] = e in cc)
  first-act b c x n ms k nil e r p t = clash k refl

  head-of : (b : Behavior J) (v : Bool) (x : Action J) (es : List (LocalAction J)) → v ≡ true → IsExecution b (if v then Did x ∷ es else es) → Enabled b es (Did x)
  head-of b true x es e f = f.1
  head-of b false x es e f = clash e refl

  tail-if : (b : Behavior J) (v : Bool) (a : LocalAction J) (es : List (LocalAction J)) → IsExecution b (if v then a ∷ es else es) → IsExecution b es
  tail-if b true a es f = f.0
  tail-if b false a es f = f

  -- strands begin in the order of their numbers
  pub strands-rising : (b : Behavior J) (ms : List (GlobalAction J)) → Throughout IsServed ms → ((s : StrandId) → IsExecution b (projection s ms)) → Throughout (BeginsRight b) ms → IsPlain b ms → IsOrdered b ms → Rising 0 (strands ms) (arrived ms)
  strands-rising b [] k f r p t = over (omega arith)
  strands-rising b (Of (strand.Conn c) x n ∷ ms) k f r p t = put (strands-rising b ms k.0 (λ s. tail-if b (same_strand s (strand.Conn c)) (Did x) (projection s ms) (f s)) r.0 p.0 t.0)
    where
      put : Rising 0 (strands ms) (arrived ms) → Rising 0 (strands (Of (strand.Conn c) x n ∷ ms)) (arrived ms + arrived_by (Of (strand.Conn c) x n))
      put ih = by_test (is_in (strand.Conn c) (strands ms))
          (λ on. subst (λ v. Rising 0 (if v then strands ms else strands ms ++ strand.Conn c ∷ []) (arrived ms + arrived_by (Of (strand.Conn c) x n))) (sym on) (rising-up (arrived ms + arrived_by (Of (strand.Conn c) x n)) (omega arith) ih))
          (λ off. let nil = unnamed (strand.Conn c) ms off in
          let e = subst (λ (es : List (LocalAction J)). Enabled b es (Did x)) nil (head-of b (c == c) x (projection (strand.Conn c) ms) (same-true c) (f (strand.Conn c))) in
          let w = first-act b c x n ms k.1 nil e r.1 p.1 t.1 in
          subst (λ v. Rising 0 (if v then strands ms else strands ms ++ strand.Conn c ∷ []) (arrived ms + arrived_by (Of (strand.Conn c) x n))) (sym off)
          (rising-up (arrived ms + arrived_by (Of (strand.Conn c) x n)) (omega (arith, w.0, w.1)) (rising-end c (omega (arith, w.0)) ih)))
  strands-rising b (Of (strand.Job j) x n ∷ ms) k f r p t = absurd k.1
  strands-rising b (Everyone w ∷ ms) k f r p t = rising-up (arrived ms + 0) (omega arith) (strands-rising b ms k.0 (λ s. tail-if b (lives (projection s ms)) (Told w) (projection s ms) (f s)) r.0 p.0 t.0)
  strands-rising b (TurnedAway c ∷ ms) k f r p t = rising-up (arrived ms + 1) (omega arith) (strands-rising b ms k.0 f r.0 p.0 t.0)
  strands-rising b (IdleGave e ∷ ms) k f r p t = absurd k.1
  strands-rising b (IdleClosed n ∷ ms) k f r p t = absurd k.1

  -- the first that is so, where none of a lower number is
  first-rising : {low high : ℕ} (is_so : List (LocalAction J) → Bool) (ms : List (GlobalAction J)) (c : ℕ) (ss : List StrandId) → Rising low ss high → is_in (strand.Conn c) ss ≡ true → is_so (projection (strand.Conn c) ms) ≡ true
      → ((t : ℕ) → t < c → is_so (projection (strand.Conn t) ms) ≡ false) → first_in is_so ss ms ≡ Some (strand.Conn c)
  first-rising is_so ms c [] (over h) i on below = clash i refl
  first-rising is_so ms c (strand.Conn d ∷ ss) (more less r) i on below = by_test (c == d)
      (λ same. subst (λ (t : ℕ). (if is_so (projection (strand.Conn t) ms) then Some (strand.Conn t) else first_in is_so ss ms) ≡ Some (strand.Conn c)) (eqb-true c d same) (ap (λ v. if v then Some (strand.Conn c) else first_in is_so ss ms) on))
      (λ off. let inside = or-of (c == d) (is_in (strand.Conn c) ss) i off in
      ap (λ v. if v then Some (strand.Conn d) else first_in is_so ss ms) (below d (rising-low c ss r inside)) ∙ first-rising is_so ms c ss r inside on below)
  first-rising is_so ms c (strand.Job j ∷ ss) r i on below = elim r [ ]

  pub first-served : (b : Behavior J) (is_so : List (LocalAction J) → Bool) (ms : List (GlobalAction J)) (c : ℕ) → is_so [] ≡ false → Rising 0 (strands ms) (arrived ms) → is_so (projection (strand.Conn c) ms) ≡ true
      → ((t : ℕ) → t < c → is_so (projection (strand.Conn t) ms) ≡ false) → first_that is_so ms ≡ Some (strand.Conn c)
  first-served b is_so ms c none r on below = first-rising is_so ms c (strands ms) r (by_test (is_in (strand.Conn c) (strands ms)) (λ v. v) (λ off. clash (sym (ap is_so (unnamed (strand.Conn c) ms off)) ∙ on) none)) on below
