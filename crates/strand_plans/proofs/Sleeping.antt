-- The small plan meets its conditions.
use Rattle.strand_contract.specs.Actions.{LocalAction, Did, Began, Ready}
use Rattle.strand_contract.specs.Actions.{Put, Lost, Run, Due, Halted}
use Rattle.strand_contract.specs.Alone.{is_some_left}
use Rattle.strand_contract.specs.Laws.{is_still, IsEnding}
use Rattle.strand_plans.specs.Questions.{Question}
use Rattle.strand_plans.specs.Ledgers.{has_number, numbers, left_at, entered}
use Rattle.strand_plans.specs.Moves.{Move, Done, Cancel, End, State, perform}
use Rattle.strand_plans.specs.Moves as move
use Rattle.strand_plans.specs.Plans.{unborn_state, stepped}
use Rattle.strand_plans.specs.Conditions.{Fits, IsPlan}
use Rattle.std.proofs.Common.{◌≡◌, ℕ, Bool, true, false, [], Option, Some, None, if◌then◌else◌, sym, subst, lit<}
use Rattle.strand_contract.specs.declared.turns.Start.TheVariants as start
use Rattle.strand_plans.specs.Sleeper.{sleeper, sleeper_asks, SleeperHolds, idler}
use Rattle.strand_plans.proofs.Served.{send-serves, hang-up-serves}
use Rattle.strand_plans.proofs.Forms.{either, only-wakes, ends-life}

some-some : {A : Type 0} (x y : A) → Some x ≡ Some y → y ≡ x
some-some x y e = cc

asked-if : {A : Type 0} {C : Type 0} (c : Bool) (o : Option A) (x : A) → (o ≡ Some x → C) → (if c then o else None) ≡ Some x → C
asked-if true o x f e = f e
asked-if false o x f e = absurd (let g : None ≡ Some x = e in cc)

no-more : {A : Type 0} {C : Type 0} (x : A) → None ≡ Some x → C
no-more x e = absurd (let g : None ≡ Some x = e in cc)

stays : {J : Type 0} (now : ℕ) (a : LocalAction J) (st : State J ℕ) → SleeperHolds st → SleeperHolds (stepped sleeper now a st).state
stays now (Did (Run k)) st h q e = some-some _ _ e
stays {J = J} now (Did (Put p bytes)) st h q e = let b = entered (Did (Put p bytes)) st.ledger in
    either (λ (m : Move J ℕ). SleeperHolds (perform m b st.inner).state) (is_some_left (left_at p b)) Done End (λ q e. no-more q e) (λ q e. no-more q e) q e
stays {J = J} now (Did Halted) st h q e = let b = entered (Did Halted) st.ledger in
    either (λ (m : Move J ℕ). SleeperHolds (perform m b st.inner).state) (has_number 2 (numbers st.ledger.armed)) (Cancel 2 End) End (λ q e. no-more q e) (λ q e. no-more q e) q e
stays now (Did (Began at (start.Client c))) st h q e = no-more q e
stays now a st h q e = asked-if (is_still a) st.ledger.asked q (h q) e

fits : {J : Type 0} (x : Question J) → sleeper_asks x → Fits (sleeper {J = J}) x
fits x e = subst (Fits sleeper) (sym e) (lit< tt, tt)

pub sleeper-meets : (J : Type 0) → IsPlan {J = J} sleeper SleeperHolds sleeper_asks
sleeper-meets J = record {
  begins = λ x e. absurd (let g : None ≡ Some x = e in cc);
  stays = λ now a st h comes. stays now a st h;
  lost = λ now q st h comes. hang-up-serves {S = ℕ} q Done (entered (Did (Lost q)) st.ledger) st.inner;
  again = λ now q st h comes. send-serves {S = ℕ} q [] Done (entered (Did (Ready q)) st.ledger) st.inner;
  asks = λ st x h e. h x e;
  fits = λ x h. fits x h;
  due = λ now n st h comes. only-wakes {S = ℕ} (move.Ready 0 Done) (entered (Did (Due n)) st.ledger) st.inner tt;
  job = λ now at n premature job. tt;
  ends = λ now st h. let b = entered (Did Halted) st.ledger in
      either (λ (m : Move J ℕ). IsEnding (perform m b st.inner).acts) (has_number 2 (numbers st.ledger.armed)) (Cancel 2 End) End (ends-life {S = ℕ} (Cancel 2 End) b st.inner tt) (ends-life {S = ℕ} End b st.inner tt);
}

pub idler-fails : {J : Type 0} (holds : State J ℕ → Type 0) (may_ask : Question J → Type 0) → IsPlan idler holds may_ask → ⊥
idler-fails holds may_ask plan = plan.ends 0 (unborn_state idler) plan.begins
