-- Runs that mind their own, by the form of their turns; and two that don't.
use Rattle.std.specs.Prelude.{◌≡◌, ℕ, Bool, true, [], ◌∷◌}
use Rattle.uri_args.specs.declared.targets.Target.{Target}
use Rattle.http_in.specs.declared.heads.Head.{Head}
use Rattle.strand_contract.specs.declared.turns.Place.TheVariants as place
use Rattle.strand_contract.specs.Actions.{Action}
use Rattle.strand_plans.specs.Questions as question
use Rattle.strand_plans.specs.Ledgers.{Ledger}
use Rattle.run_contract.specs.declared.turns.RunSeen.{RunSeen}
use Rattle.run_contract.specs.Deeds.{Ready, Log, Nothing, Outside}
use Rattle.run_contract.specs.Runs.{RunPlan}
use Rattle.connection_plan.specs.Recalls.{recalls_plan}

-- each turn is one and the same for all ledgers
pub record NeverLooks {J R : Type 0} (p : RunPlan J R) : Type 0 where
  pub begins : (now : ℕ) (head : Head) (target : Target) (b c : Ledger J) → p.begun now head target b ≡ p.begun now head target c
  pub begins_job : (now : ℕ) (premature : Bool) (job : J) (b c : Ledger J) → p.begun_job now premature job b ≡ p.begun_job now premature job c
  pub turns : (now : ℕ) (s : RunSeen) (b c : Ledger J) (r : R) → p.turn now s b r ≡ p.turn now s c r
  pub answers : (now : ℕ) (x : Action J) (b c : Ledger J) (r : R) → p.answered now x b r ≡ p.answered now x c r

-- As they begin, two tell of what was sent to their client before: one in a log line, the other in a question.
abbrev pub tells_in_a_line : {J : Type 0} → RunPlan J Bool
tells_in_a_line = record recalls_plan {
  begun = λ now head target b. record { does = Log (b.sent place.Client) ∷ Ready 0 ∷ []; asks = Nothing; run = true };
}

abbrev pub tells_in_a_question : {J : Type 0} → RunPlan J Bool
tells_in_a_question = record recalls_plan {
  begun = λ now head target b. record { does = []; asks = Outside (question.Take (b.sent place.Client)); run = true };
}
