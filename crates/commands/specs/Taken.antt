-- What connections take over a world that takes all.
use Rattle.std.specs.Prelude.{◌≡◌, ℕ, Bool, true, false, List, ◌++◌, Some}
use Rattle.std.specs.List.{list_any}
use Rattle.resty_base.specs.declared.names.StrandId.TheVariants as strand
use Rattle.resty_world.specs.declared.schedule_line.SchedLine.{SchedLine}
use Rattle.resty_world.specs.declared.schedule_line.SchedLine.TheVariants as line
use Rattle.strand_contract.specs.declared.turns.Place.TheVariants as place
use Rattle.strand_contract.specs.Alone.{lives, is_open, IsQuiescent}
use Rattle.strand_contract.specs.Behaviors.{Behavior}
use Rattle.executions.specs.Executions.{GlobalAction, projection}
use Rattle.execution_laws.specs.Taken.{took}

-- no line bounds what a connection or a socket takes
abbrev pub bounds : SchedLine → Bool
bounds (line.Room i (Some n)) = true
bounds l = false

abbrev pub TakesAllBytes : List SchedLine → Type 0
TakesAllBytes lines = list_any bounds lines ≡ false

-- at this point of an execution the connection is open and at rest
pub record IsOpenAtRest {J : Type 0} (b : Behavior J) (c : ℕ) (ms : List (GlobalAction J)) : Type 0 where
  pub living : lives (projection (strand.Conn c) ms) ≡ true
  pub opened : is_open place.Client (projection (strand.Conn c) ms) ≡ true
  pub rest : IsQuiescent b (projection (strand.Conn c) ms)

-- wherever a connection is open and at rest, it took every byte that was sent to it
abbrev pub TookAll : {J : Type 0} → Behavior J → List (GlobalAction J) → Type 0
TookAll {J} b all = (c : ℕ) (later ms : List (GlobalAction J)) → all ≡ later ++ ms → IsOpenAtRest b c ms
    → took place.Client (projection (strand.Conn c) ms) ≡ b.sent place.Client (projection (strand.Conn c) ms)
