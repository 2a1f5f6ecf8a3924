-- To which executions of its own a connection may have come.
use Rattle.std.specs.Prelude.{◌≡◌, Bool, true, false, List, [], ◌∷◌, Option, None, if◌then◌else◌}
use Rattle.strand_contract.specs.declared.turns.Place.{Place}
use Rattle.strand_contract.specs.declared.turns.Place.TheVariants as place
use Rattle.strand_contract.specs.declared.turns.Start.{Start}
use Rattle.strand_contract.specs.declared.turns.Start.TheVariants as start
use Rattle.strand_contract.specs.Actions.{LocalAction}
use Rattle.strand_contract.specs.Alone.{begun_offer}
use Rattle.strand_contract.specs.Laws.{is_still}
use Rattle.strand_plans.specs.Ledgers.{is_place}
use Rattle.strand_plans.specs.Plans.{state_of}
use Rattle.run_contract.specs.Runs.{waits_at_first}
use Rattle.connection_plan.specs.Clients.{Times}
use Rattle.connection_plan.specs.Turns.{is_there}
use Rattle.connection_plan.specs.Connections.{connection_plan}
use Rattle.connection_strand.specs.declared.state.Connection.{Connection}
use Rattle.connection_strand.specs.Kept.{kept, fresh, waits_of}
use Rattle.connection_strand.specs.Standing.{Stays}
use Rattle.connection_strand.specs.Views.{View, service}

-- the place whose offer was begun as the newest turn began, or went on
abbrev pub turn_begun : {J : Type 0} → List (LocalAction J) → Option Place
turn_begun [] = None
turn_begun (a ∷ es) = if is_still a then turn_begun es else begun_offer (a ∷ es)

-- it begins for a client
abbrev pub is_client : {J : Type 0} → Start J → Bool
is_client (start.Client n) = true
is_client (start.Job n premature job) = false

-- as it begins, with or without a client
pub record IsNew {R : Type 0} (default_times : Times) (opened : Bool) (c : Connection R) : Type 0 where
  pub client : kept c.client ≡ fresh default_times opened
  pub waits : waits_of c.waits ≡ waits_at_first opened
  pub sockets : c.sockets.items ≡ []
  pub count : c.count ≡ 0
  pub keeping : c.keeping ≡ None
  pub taking : c.is_taking ≡ false

-- while the life goes on, it is as the plan has it after what happened to it; and it knows whether its client's offer goes on
pub record Follows {R J I : Type 0} (v : View R J I) (c : Connection R) (es : List (LocalAction J)) : Type 0 where
  pub stays : (state_of (connection_plan (service v)) es).ledger.ended ≡ false
      → Stays v c (state_of (connection_plan (service v)) es).ledger (state_of (connection_plan (service v)) es).inner
  pub taking : is_there (state_of (connection_plan (service v)) es).ledger ≡ true → c.is_taking ≡ is_place place.Client (turn_begun es)
