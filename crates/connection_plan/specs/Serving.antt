-- What a site is to its connections.
use Rattle.std.specs.Prelude.{ℕ, List}
use Rattle.uri_args.specs.declared.targets.Target.{Target}
use Rattle.http_in.specs.declared.heads.Head.{Head}
use Rattle.run_contract.specs.Runs.{RunPlan}
use Rattle.connection_plan.specs.Clients.{Times}
use Rattle.connection_plan.specs.Services.{Service}
use Rattle.connection_plan.specs.declared.services.Times as declared

-- how long is waited, in milliseconds
abbrev pub times : declared.Times → Times
times t = record { header = t.header.0; keepalive = t.keepalive.0; body = t.body.0; send = t.send.0 }

-- beside its runs: the times of the default server and those of a request, the reply to a head that is refused with a status at a moment, and how many
-- connections may be open at a time
pub record Serving : Type 0 where
  pub default_times : Times
  pub times_of : Head → Target → Times
  pub refusal : (code now : ℕ) → List ℕ
  pub connections : ℕ

-- and with them
abbrev pub service_of : {J R : Type 0} → RunPlan J R → Serving → Service J R
service_of plan serving = record {
  runs = plan;
  default_times = serving.default_times;
  times_of = serving.times_of;
  refusal = serving.refusal;
  connections = serving.connections;
}
