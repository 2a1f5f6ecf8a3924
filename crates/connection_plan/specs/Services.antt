-- A site, as its connections see it.
use Rattle.std.specs.Prelude.{ℕ, List}
use Rattle.uri_args.specs.declared.targets.Target.{Target}
use Rattle.http_in.specs.declared.heads.Head.{Head}
use Rattle.run_contract.specs.Runs.{RunPlan}
use Rattle.connection_plan.specs.Clients.{Times, Client}

pub record Service (J R : Type 0) : Type 0 where
  -- what answers requests
  pub runs : RunPlan J R
  -- the times of the default server, and those of a request
  pub default_times : Times
  pub times_of : Head → Target → Times
  -- the reply to a head that is refused with a status, made at a moment
  pub refusal : (code now : ℕ) → List ℕ
  -- how many connections may be open at a time
  pub connections : ℕ

-- what a connection keeps beside its ledger: of its client, and of the run that answers the request
pub record Both (R : Type 0) : Type 0 where
  pub client : Client
  pub run : R
