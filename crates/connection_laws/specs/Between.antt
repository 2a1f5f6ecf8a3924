-- A connection between two requests.
use Rattle.std.specs.Prelude.{◌≡◌, Bool, true, false}
use Rattle.strand_contract.specs.declared.turns.Place.TheVariants as place
use Rattle.strand_plans.specs.Ledgers.{has}
use Rattle.strand_plans.specs.Moves.{State}
use Rattle.connection_plan.specs.Clients.{Stage}
use Rattle.connection_plan.specs.Clients as stage
use Rattle.connection_plan.specs.Services.{Both}

-- no run goes on and no reply is under way: the first byte of a head, the rest of one, or the rest of a body that is dropped is waited for
abbrev pub is_between : Stage → Bool
is_between stage.Idle = true
is_between stage.Head = true
is_between stage.Drop = true
is_between st = false

-- and the client is there
pub record IsBetweenRequests {J R : Type 0} (st : State J (Both R)) : Type 0 where
  pub there : has place.Client st.ledger.opened ≡ true
  pub waits : is_between st.inner.client.stage ≡ true
