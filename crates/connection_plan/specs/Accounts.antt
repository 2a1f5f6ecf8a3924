-- What a connection sent to its client, as the replies to what that asked.
use Rattle.std.specs.Prelude.{◌≡◌}
use Rattle.strand_contract.specs.declared.turns.Place.TheVariants as place
use Rattle.strand_plans.specs.Moves.{State}
use Rattle.connection_plan.specs.Clients.{replies_of}
use Rattle.connection_plan.specs.Services.{Both}

-- all that was sent is the replies in order, each whole before the next begins
abbrev pub Accounts : {J R : Type 0} → State J (Both R) → Type 0
Accounts st = replies_of st.inner.client.exchanges ≡ st.ledger.sent place.Client
