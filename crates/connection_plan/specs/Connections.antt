-- A strand that serves a client's requests, or is a timer job, as a plan: what each action makes it do.
-- Threads, and deadlines from 2 on, are the run's; the deadlines 0 and 1 are the timers' of the connection.
use Rattle.std.specs.Prelude.{ℕ, zero, suc, true, false, [], length, if◌then◌else◌}
use Rattle.strand_contract.specs.declared.turns.Place.TheVariants as place
use Rattle.strand_contract.specs.declared.turns.Start.TheVariants as start
use Rattle.strand_contract.specs.Actions.{Action, LocalAction, Did, Began, Bytes, Ended, Broken, Ready, Dialled, Refused}
use Rattle.strand_contract.specs.Actions.{Put, Later, Lost, Dict, Take, Dial, Keep, Timer, Run, Due, Halted}
use Rattle.strand_contract.specs.Behaviors.{Behavior}
use Rattle.strand_plans.specs.Ledgers.{Ledger}
use Rattle.strand_plans.specs.Moves.{Move, Done, Send}
use Rattle.strand_plans.specs.Plans.{Plan, behavior_of}
use Rattle.run_contract.specs.declared.turns.RunSeen.{RunSeen}
use Rattle.run_contract.specs.declared.turns.RunSeen.TheVariants as seen
use Rattle.run_contract.specs.declared.turns.SockSeen.{SockSeen}
use Rattle.run_contract.specs.declared.turns.SockSeen.TheVariants as at
use Rattle.client_line.specs.Feeding.{Fed, fed}
use Rattle.connection_plan.specs.Clients.{Stage, new_client}
use Rattle.connection_plan.specs.Clients as stage
use Rattle.connection_plan.specs.Services.{Service, Both}
use Rattle.connection_plan.specs.Timers as timer
use Rattle.connection_plan.specs.Turns.{change, begin_timer, end_timer, finish, await_body, waits_of, run_turn, tell, lose, heard, settle}

module _ {J R : Type 0} (site : Service J R) (now : ℕ) where
  abbrev Moves : Type 0
  Moves = Move J (Both R)

  -- a client comes, or a job begins
  abbrev pub starts : LocalAction J → Ledger J → Moves
  starts (Did (Began at (start.Job n premature job))) b =
      change (λ c. record c { stage = stage.Busy }) (run_turn site now (site.runs.begun_job now premature job b) Done)
  starts a b = begin_timer site now timer.Header Done

  -- the header timer of the first head runs from the beginning; each piece of a body that is waited for begins the timer anew
  abbrev pub came_at : Stage → Fed → Both R → Moves
  came_at stage.Busy f s = change (λ c. record c { came = f.after }) (await_body site now (settle site now))
  came_at stage.Head f s = heard site now false (settle site now) s.client.ended f
  came_at stage.Idle f s = heard site now true (settle site now) s.client.ended f
  came_at stage.Drop f s = heard site now true (settle site now) s.client.ended f
  came_at st f s = change (λ c. record c { came = f.after }) Done

  -- the client sends no more: a run that goes on is told, and what the client asked for is still answered
  abbrev pub ends_at : Stage → Both R → Moves
  ends_at stage.Busy s = change (λ c. record c { ended = true })
      (if (waits_of site now s).client then tell site now seen.ClientEnded (settle site now) else settle site now)
  ends_at stage.Flush s = change (λ c. record c { ended = true }) Done
  ends_at st s = finish

  -- a run that goes on is told this, and then these come
  abbrev pub to_run : Moves → Stage → RunSeen → Moves
  to_run rest stage.Busy s = tell site now s rest
  to_run rest st s = Done

  -- it gets the answer to what it asked
  abbrev pub answered : Stage → Action J → Ledger J → Both R → Moves
  answered stage.Busy x b s = run_turn site now (site.runs.answered now x b s.run) (settle site now)
  answered st x b s = Done

  -- one of the connection's own timers runs out, or a deadline of the run, which only wakes
  abbrev pub is_due : Stage → ℕ → Moves
  is_due st zero = lose site now
  is_due st (suc zero) = lose site now
  is_due st n = to_run Done st (seen.Due n)

  abbrev pub at_sock : Both R → ℕ → SockSeen → Moves
  at_sock s k x = to_run (settle site now) s.client.stage (seen.Sock k x)

  abbrev pub connection_turn : LocalAction J → Ledger J → Both R → Moves
  connection_turn (Did (Began at begin)) b s = starts (Did (Began at begin)) b
  connection_turn (Did (Bytes place.Client bytes)) b s = came_at s.client.stage (fed s.client.came bytes) s
  connection_turn (Did (Ended place.Client)) b s = ends_at s.client.stage s
  connection_turn (Did (Broken place.Client)) b s = lose site now
  connection_turn (Did (Ready place.Client)) b s = end_timer site now timer.Send (Send place.Client [] Done)
  connection_turn (Did (Put place.Client bytes)) b s = settle site now
  connection_turn (Did (Later place.Client)) b s = begin_timer site now timer.Send Done
  connection_turn (Did (Lost place.Client)) b s = lose site now
  connection_turn (Did (Bytes (place.Sock k) bytes)) b s = at_sock s k (at.Bytes bytes)
  connection_turn (Did (Ended (place.Sock k))) b s = at_sock s k at.Ended
  connection_turn (Did (Broken (place.Sock k))) b s = at_sock s k at.Broken
  connection_turn (Did (Ready (place.Sock k))) b s = at_sock s k at.Ready
  connection_turn (Did (Put (place.Sock k) bytes)) b s = at_sock s k (at.Took (length bytes))
  connection_turn (Did (Later (place.Sock k))) b s = at_sock s k at.Later
  connection_turn (Did (Lost (place.Sock k))) b s = at_sock s k at.Lost
  connection_turn (Did (Dialled k)) b s = at_sock s k at.Dialled
  connection_turn (Did (Refused k)) b s = at_sock s k at.Refused
  connection_turn (Did (Dict zone call answer)) b s = answered s.client.stage (Dict zone call answer) b s
  connection_turn (Did (Take key uses)) b s = answered s.client.stage (Take key uses) b s
  connection_turn (Did (Dial host port done)) b s = answered s.client.stage (Dial host port done) b s
  connection_turn (Did (Keep k key idle size)) b s = answered s.client.stage (Keep k key idle size) b s
  connection_turn (Did (Timer due answer)) b s = answered s.client.stage (Timer due answer) b s
  connection_turn (Did (Run k)) b s = to_run (settle site now) s.client.stage (seen.Run k)
  connection_turn (Did (Due n)) b s = is_due s.client.stage n
  connection_turn (Did Halted) b s = finish
  connection_turn a b s = Done

module _ {J R : Type 0} (site : Service J R) where
  abbrev pub connection_plan : Plan J (Both R)
  connection_plan = record {
    unborn = record { client = new_client site.default_times; run = site.runs.unborn };
    turn = connection_turn site;
    zones = site.runs.zones;
    zone_name = site.runs.zone_name;
    zone_size = site.runs.zone_size;
    connections = site.connections;
  }

  abbrev pub connection_behavior : Behavior J
  connection_behavior = behavior_of connection_plan
