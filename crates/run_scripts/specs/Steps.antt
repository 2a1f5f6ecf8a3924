-- What a step changes: nothing of the ledger, and nothing of what is waited for.
use Rattle.std.proofs.Common.{◌≡◌, ℕ, List, ◌++◌, Option, Some, None, refl, sym, ap, ◌∙◌, subst}
use Rattle.strand_plans.specs.Ledgers.{Ledger}
use Rattle.run_contract.specs.declared.stored.NoJob.{NoJob}
use Rattle.run_contract.specs.declared.turns.LocationTimes.{LocationTimes}
use Rattle.run_contract.specs.Conditions.{IsBlank, Leaves}
use Rattle.run_contract.specs.Deeds.{Deed, Asks, ledger_after, ledger_asking, made_after, says_over, within}
use Rattle.run_contract.specs.Runs.{Waits, waits_did}
use Rattle.run_scripts.specs.declared.run.ScriptedRun.{ScriptedRun}
use Rattle.run_scripts.specs.declared.script.Script.{Script}
use Rattle.run_scripts.specs.declared.script.Step.{Step}
use Rattle.run_scripts.specs.Scripted.{moves_on, logs, says, step, ScriptedHolds, scripted_plan}
use Rattle.run_scripts.specs.Turns.{moved, logged, sent, step_made}

-- what holds of these deeds, whatever is done before them by a step
module _ {A : Type 0} (f : List Deed → A) (times : (t : LocationTimes) (ds : List Deed) → f (moves_on (Some t) ds) ≡ f ds)
    (line : (x : List ℕ) (ds : List Deed) → f (logs (Some x) ds) ≡ f ds) (text : (x : List ℕ) (ds : List Deed) → f (says (Some x) ds) ≡ f ds) where
  by-times : (o : Option LocationTimes) (ds : List Deed) → f (moves_on o ds) ≡ f ds
  by-times None ds = refl
  by-times (Some t) ds = times t ds

  by-line : (o : Option (List ℕ)) (ds : List Deed) → f (logs o ds) ≡ f ds
  by-line None ds = refl
  by-line (Some x) ds = line x ds

  by-text : (o : Option (List ℕ)) (ds : List Deed) → f (says o ds) ≡ f ds
  by-text None ds = refl
  by-text (Some x) ds = text x ds

  by-step : (x : Step) (ds : List Deed) → f (step x ds) ≡ f ds
  by-step x ds = by-times x.moves_on (logs x.logs (says x.says ds)) ∙ by-line x.logs (says x.says ds) ∙ by-text x.says ds

pub step-ledger : {J : Type 0} (b : Ledger J) (x : Step) (ds : List Deed) → ledger_after (step x ds) b ≡ ledger_after ds b
step-ledger b x ds = by-step (λ ds. ledger_after ds b) (λ t ds. refl) (λ t ds. refl) (λ t ds. refl) x ds

pub step-waits : (w : Waits) (x : Step) (ds : List Deed) → waits_did (step x ds) w ≡ waits_did ds w
step-waits w x ds = by-step (λ ds. waits_did ds w) (λ t ds. refl) (λ t ds. refl) (λ t ds. refl) x ds

step-over : (x : Step) (ds : List Deed) → says_over (step x ds) ≡ says_over ds
step-over x ds = by-step says_over (λ t ds. refl) (λ t ds. refl) (λ t ds. refl) x ds

pub step-leaves : {J : Type 0} (script : Script) (x : Step) (ds : List Deed) (a : Asks J) (r : ScriptedRun) (w : Waits) (b : Ledger J)
    → Leaves (scripted_plan script) (ScriptedHolds script) w (record { does = ds; asks = a; run = r }) b
    → Leaves (scripted_plan script) (ScriptedHolds script) w (record { does = step x ds; asks = a; run = r }) b
step-leaves {J} script x ds a r w b l =
    let same = sym (step-ledger b x ds) in
    record {
      known = subst (λ (c : Ledger J). ScriptedHolds script (ledger_asking a c) r) same l.known;
      waits = l.waits ∙ ap (λ (v : Waits). record v { asks = within a }) (sym (step-waits w x ds));
      over = λ e. let f = l.over (sym (step-over x ds) ∙ e) in (subst (λ (c : Ledger J). IsBlank (ledger_asking a c)) same f.0, f.1);
    }

-- what the code returns for a step
made-of : (o : Option LocationTimes) (l t : Option (List ℕ)) (ds : List Deed) (b : Ledger NoJob)
    → made_after (moves_on o (logs l (says t ds))) b ≡ (moved o ++ logged l ++ sent t) ++ made_after ds b
made-of None None None ds b = refl
made-of None None (Some t) ds b = refl
made-of None (Some l) None ds b = refl
made-of None (Some l) (Some t) ds b = refl
made-of (Some o) None None ds b = refl
made-of (Some o) None (Some t) ds b = refl
made-of (Some o) (Some l) None ds b = refl
made-of (Some o) (Some l) (Some t) ds b = refl

pub step-made : (x : Step) (ds : List Deed) (b : Ledger NoJob) → made_after (step x ds) b ≡ step_made x ++ made_after ds b
step-made x ds b = made-of x.moves_on x.logs x.says ds b
