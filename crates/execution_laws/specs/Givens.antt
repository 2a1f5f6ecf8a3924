-- What an event brings about, by who holds the id that it is of.
use Rattle.std.specs.Prelude.{ℕ, Bool, true, false, List, Option, Some, None, nat_lt}
use Rattle.resty_base.specs.declared.names.Id.{Id}
use Rattle.resty_base.specs.declared.names.Id.TheVariants as id
use Rattle.resty_base.specs.declared.names.StrandId.{StrandId}
use Rattle.resty_base.specs.declared.names.StrandId.TheVariants as strand
use Rattle.resty_world.specs.declared.event.Event.{Event}
use Rattle.resty_world.specs.declared.event.Event.TheVariants as event
use Rattle.strand_contract.specs.declared.turns.Place.{Place}
use Rattle.strand_contract.specs.declared.turns.Place.TheVariants as place
use Rattle.strand_contract.specs.declared.turns.Start.TheVariants as start
use Rattle.strand_contract.specs.Actions.{Moment, Stop, Action, Began, Bytes, Ended, Broken, Ready, Dialled, Refused}
use Rattle.strand_contract.specs.Behaviors.{Behavior}
use Rattle.executions.specs.Executions.{GlobalAction, Of, Everyone, TurnedAway, IdleGave, present}
use Rattle.executions.specs.Counts.{open_connections}
use Rattle.executions.specs.Sockets.{owner}

-- the strand that holds a socket is shown its event; where none does, an idle socket gives it
abbrev pub to_owner : {J : Type 0} → Event → (ℕ → Action J) → Option (StrandId × ℕ) → GlobalAction J
to_owner e x None = IdleGave e
to_owner e x (Some h) = Of h.0 (x h.1) None

-- the strand at an id
abbrev pub to_place : {J : Type 0} → Event → Id → (Place → Action J) → List (GlobalAction J) → GlobalAction J
to_place e (id.Conn c) x ms = Of (strand.Conn c) (x place.Client) None
to_place e (id.Sock n) x ms = to_owner e (λ k. x (place.Sock k)) (owner n ms)

-- a connection that arrives begins where there is room
abbrev pub arrives : {J : Type 0} → Bool → ℕ → List (GlobalAction J) → GlobalAction J
arrives true c ms = Of (strand.Conn c) (Began (present ms) (start.Client c)) None
arrives false c ms = TurnedAway c

-- the action that an event is
abbrev pub given : {J : Type 0} → Behavior J → Event → List (GlobalAction J) → GlobalAction J
given b (event.Arrive c) ms = arrives (nat_lt (open_connections ms) b.connections) c ms
given b (event.Bytes i bytes) ms = to_place (event.Bytes i bytes) i (λ q. Bytes q bytes) ms
given b (event.Ended i) ms = to_place (event.Ended i) i (λ q. Ended q) ms
given b (event.Broken i) ms = to_place (event.Broken i) i (λ q. Broken q) ms
given b (event.Ready i) ms = to_place (event.Ready i) i (λ q. Ready q) ms
given b (event.Dialled n) ms = to_owner (event.Dialled n) (λ k. Dialled k) (owner n ms)
given b (event.Refused n) ms = to_owner (event.Refused n) (λ k. Refused k) (owner n ms)
given b (event.Moment t) ms = Everyone (Moment t.0)
given b event.Stop ms = Everyone Stop
given b e ms = IdleGave e
