-- What strands share answers by plain rules: room for connections, dictionaries, the pool, timers and numbers.
use Rattle.std.specs.Prelude.{◌≡◌, ℕ, ◌+◌, ◌<◌, ◌≤◌, Bool, true, false, List, length, Option, Some, None, option_map}
use Rattle.shared_rules.specs.Dictionary.{dict}
use Rattle.shared_rules.specs.declared.sockets.Idle.{Idle}
use Rattle.shared_rules.specs.Pool.{take_answer, crowded_out, is_idle}
use Rattle.shared_rules.specs.Timers.{timer_answer}
use Rattle.strand_contract.specs.declared.turns.Start.TheVariants as start
use Rattle.strand_contract.specs.Actions.{Action, Began, Dict, Take, Dial, Keep, Timer}
use Rattle.strand_contract.specs.Behaviors.{Behavior}
use Rattle.executions.specs.Executions.{GlobalAction, Of, Everyone, TurnedAway, IdleGave, IdleClosed, present, has_stopped, Throughout}
use Rattle.executions.specs.Counts.{arrived, dialled, accepted, open_connections}
use Rattle.executions.specs.Sockets.{event_socket, pool}
use Rattle.executions.specs.Zones.{zone}
use Rattle.executions.specs.Jobs.{pending}

-- the number of the socket that is taken
abbrev pub taken_number : Option (ℕ × ℕ) → Option ℕ
taken_number given = option_map (λ g. g.0) given

-- and how often it was taken, with this time
abbrev pub taken_uses : Option (ℕ × ℕ) → Option ℕ
taken_uses given = option_map (λ g. g.1) given

-- sockets are numbered as they are dialled
abbrev pub dialled_as : {J : Type 0} → Bool → List (GlobalAction J) → Option ℕ
dialled_as true ms = Some (dialled ms + 1)
dialled_as false ms = None

-- a strand's call is answered by the plain rules, with the number of the socket that is taken, dialled or crowded out, and of no other; a
-- connection that begins is the next by number, and there is room for it
abbrev pub IsPlainAt : {J : Type 0} → Behavior J → Action J → Option ℕ → List (GlobalAction J) → Type 0
IsPlainAt b (Began now (start.Client c)) n ms = (n ≡ None) × (c ≡ arrived ms + 1) × (open_connections ms < b.connections)
IsPlainAt b (Dict z call answer) n ms = (n ≡ None) × (answer ≡ (dict (b.zone_size z) call (present ms) (zone b z ms)).0)
IsPlainAt b (Take key uses) n ms = (n ≡ taken_number (take_answer key (pool ms))) × (uses ≡ taken_uses (take_answer key (pool ms)))
IsPlainAt b (Dial host port done) n ms = n ≡ dialled_as done ms
IsPlainAt b (Keep k key idle size) n ms = n ≡ crowded_out key size (pool ms)
IsPlainAt b (Timer at answer) n ms = (n ≡ None) × (answer ≡ timer_answer (has_stopped ms) (length (pending b ms)) (accepted ms))
IsPlainAt b x n ms = n ≡ None

-- it is an event of a socket that is idle
abbrev pub IsOfIdle : List Idle → Option ℕ → Type 0
IsOfIdle idle None = ⊥
IsOfIdle idle (Some n) = is_idle n idle ≡ true

-- a connection is turned away where as many are open as may be; what gives something or is closed as idle is idle
abbrev pub IsPlainBy : {J : Type 0} → Behavior J → GlobalAction J → List (GlobalAction J) → Type 0
IsPlainBy b (Of s x n) ms = IsPlainAt b x n ms
IsPlainBy b (Everyone w) ms = Unit {0}
IsPlainBy b (TurnedAway c) ms = (c ≡ arrived ms + 1) × (b.connections ≤ open_connections ms)
IsPlainBy b (IdleGave e) ms = IsOfIdle (pool ms) (event_socket e)
IsPlainBy b (IdleClosed n) ms = is_idle n (pool ms) ≡ true

-- what strands share answers by the plain rules throughout
abbrev pub IsPlain : {J : Type 0} → Behavior J → List (GlobalAction J) → Type 0
IsPlain b ms = Throughout (IsPlainBy b) ms
