-- What the site whose replies are kept in a dictionary is to its connections.
use Rattle.std.specs.Prelude.{ℕ, ◌≤◌, List}
use Rattle.std.proofs.Common.{arith}
use Rattle.connection_plan.specs.Clients.{Times}
use Rattle.connection_plan.specs.Serving.{Serving}

-- a minute for all
abbrev pub minute : Times
minute = record { header = 60_000; keepalive = 60_000; body = 60_000; send = 60_000 }

abbrev pub stored_serving : (otherwise : List ℕ) → Serving
stored_serving otherwise = record { default_times = minute; times_of = λ head target. minute; refusal = λ code now. otherwise; connections = 512 }

pub eight : 8 ≤ 8
eight = omega arith
