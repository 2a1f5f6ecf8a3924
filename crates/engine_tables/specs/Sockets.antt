-- A strand's sockets in the words of executions.
use Rattle.std.specs.Prelude.{ℕ, ◌==◌, find, List, Option}
use Rattle.resty_base.specs.declared.names.StrandId.{StrandId}
use Rattle.executions.specs.Queues.{only}
use Rattle.executions.specs.Sockets.{Socket}
use Rattle.engine_tables.specs.declared.sockets.Socket.{Socket as Own}

-- the socket that a value stands for
abbrev pub meant : Own → Socket
meant x = record { at = x.at; sock = x.sock; uses = x.uses }

-- of these sockets the one at a strand's place
abbrev pub held_at : StrandId → ℕ → List (StrandId × Socket) → Option Socket
held_at s k l = find (λ h. k == h.at) (only s l)
