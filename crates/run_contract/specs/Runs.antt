-- A run as a plan: the turn that it takes with each thing that it is told, and what it waits for.
use Rattle.std.specs.Prelude.{ℕ, nat_lt, Bool, true, false, List, [], ◌∷◌, Option, Some, None, if◌then◌else◌}
use Rattle.uri_args.specs.declared.targets.Target.{Target}
use Rattle.http_in.specs.declared.heads.Head.{Head}
use Rattle.strand_contract.specs.Actions.{Action}
use Rattle.strand_plans.specs.Ledgers.{Ledger}
use Rattle.run_contract.specs.declared.turns.RunSeen.{RunSeen}
use Rattle.run_contract.specs.declared.turns.RunSeen.TheVariants as seen
use Rattle.run_contract.specs.declared.turns.Said.TheVariants as said
use Rattle.run_contract.specs.declared.turns.Asking.{Asking}
use Rattle.run_contract.specs.declared.turns.Asking.TheVariants as asking
use Rattle.run_contract.specs.Deeds.{Deed, Say, Turn, within}

-- whether a run waits for the body of its request, or until all that was sent is taken; whether it has a client; and what it asked its connection
-- without an answer yet: between two actions of the strand that is nothing
pub record Waits : Type 0 where
  pub body : Bool
  pub taken : Bool
  pub client : Bool
  pub asks : Option Asking

pub record RunPlan (J R : Type 0) : Type 0 where
  -- before it begins
  pub unborn : R
  -- what it waits for, and how often it can be told of its client, until it is told something else or is answered
  pub waits : R → Waits
  pub tells_left : R → ℕ
  -- it begins to answer a request, at once or by a thread, or as a timer job, which may be premature
  pub begun : (now : ℕ) → Head → Target → Ledger J → Turn J R
  pub begun_job : (now : ℕ) → (premature : Bool) → J → Ledger J → Turn J R
  -- it is told something; the ledger is that in which this was entered
  pub turn : (now : ℕ) → RunSeen → Ledger J → R → Turn J R
  -- it is given the answer to what it asked the outside: a dictionary's, the pool's, a dial's, a timer's
  pub answered : (now : ℕ) → Action J → Ledger J → R → Turn J R
  -- the dictionaries that it may call, by number: how many there are, and the name and the size in bytes of each
  pub zones : ℕ
  pub zone_name : ℕ → List ℕ
  pub zone_size : ℕ → ℕ

-- the name of the dictionary of that number, where there is one
abbrev pub name_at : {J R : Type 0} → RunPlan J R → ℕ → Option (List ℕ)
name_at p n = if nat_lt n p.zones then Some (p.zone_name n) else None

-- ---- what is waited for

-- as it begins, with or without a client
abbrev pub waits_at_first : Bool → Waits
waits_at_first client = record { body = false; taken = false; client = client; asks = None }

-- what it asked for isn't there yet: it waits for that
abbrev pub waits_longer : Option Asking → Waits → Waits
waits_longer None w = w
waits_longer (Some (asking.Body max)) w = record w { body = true; asks = None }
waits_longer (Some asking.AllTaken) w = record w { taken = true; asks = None }

-- once it was told this
abbrev pub waits_told : RunSeen → Waits → Waits
waits_told (seen.Body content waited) w = record w { body = false; asks = None }
waits_told (seen.BodyRefused code) w = record w { body = false; asks = None }
waits_told seen.AllTaken w = record w { taken = false; asks = None }
waits_told seen.NotYet w = waits_longer w.asks w
waits_told seen.ClientGone w = waits_at_first false
waits_told s w = w

-- once it did these; words alone change it
abbrev pub waits_did : List Deed → Waits → Waits
waits_did [] w = w
waits_did (Say said.WantsNoBody ∷ ds) w = waits_did ds (record w { body = false })
waits_did (Say said.Over ∷ ds) w = waits_did ds (record w { body = false; taken = false })
waits_did (d ∷ ds) w = waits_did ds w

-- once it took the turn
abbrev pub waits_after : {J R : Type 0} → Turn J R → Waits → Waits
waits_after t w = record (waits_did t.does w) { asks = within t.asks }

-- it is told of its client by a connection that settles, which does so a bounded number of times
abbrev pub is_of_client : RunSeen → Bool
is_of_client (seen.Body content waited) = true
is_of_client (seen.BodyRefused code) = true
is_of_client seen.AllTaken = true
is_of_client seen.NotYet = true
is_of_client seen.ClientGone = true
is_of_client s = false
