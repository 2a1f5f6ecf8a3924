-- Runs that mind their own: what one does, says and asks depends on what it is told, and on its own threads, deadlines and sockets alone.
use Rattle.std.specs.Prelude.{◌≡◌, ◌⊎◌, ℕ, ◌≤◌, Bool, true, List, [], ◌∷◌}
use Rattle.uri_args.specs.declared.targets.Target.{Target}
use Rattle.http_in.specs.declared.heads.Head.{Head}
use Rattle.strand_contract.specs.declared.turns.Place.{Place}
use Rattle.strand_contract.specs.declared.turns.Place.TheVariants as place
use Rattle.strand_contract.specs.declared.turns.Act.TheVariants as act
use Rattle.strand_contract.specs.Actions.{Action}
use Rattle.strand_plans.specs.Ledgers.{Ledger, has}
use Rattle.run_contract.specs.declared.turns.RunSeen.{RunSeen}
use Rattle.run_contract.specs.declared.turns.RunAct.{RunAct}
use Rattle.run_contract.specs.declared.turns.RunAct.TheVariants as made
use Rattle.run_contract.specs.Deeds.{Turn, taken, within}
use Rattle.run_contract.specs.Runs.{RunPlan}
use Rattle.run_contract.specs.Alike.{own_deadlines}

-- the socket is open, or still to come: one that was closed is nobody's
abbrev pub IsLive : {J : Type 0} → ℕ → Ledger J → Type 0
IsLive k b = (has (place.Sock k) b.opened ≡ true) ⊎ (b.count ≤ k)

-- as much was sent to the place and taken, and it takes none for now in both or in none
pub record SameAt {J : Type 0} (q : Place) (b c : Ledger J) : Type 0 where
  pub sent : b.sent q ≡ c.sent q
  pub taken : b.taken q ≡ c.taken q
  pub put_off : b.put_off q ≡ c.put_off q

-- two ledgers are the same in what is a run's own
pub record SameOwn {J : Type 0} (b c : Ledger J) : Type 0 where
  pub threads : b.threads ≡ c.threads
  pub armed : own_deadlines b.armed ≡ own_deadlines c.armed
  pub count : b.count ≡ c.count
  pub opened : (k : ℕ) → has (place.Sock k) b.opened ≡ has (place.Sock k) c.opened
  pub sockets : (k : ℕ) → IsLive k b → SameAt (place.Sock k) b c

-- what a turn makes known, but the offers of sockets: a socket may be in line for its offer already
abbrev pub but_offers : {J : Type 0} → List (RunAct J) → List (RunAct J)
but_offers [] = []
but_offers (made.Act (act.Offer q) ∷ rest) = but_offers rest
but_offers (a ∷ rest) = a ∷ but_offers rest

-- A turn from one ledger, and another from another, of the same run: in the same order they do and say the same, and ask the same of the outside; they
-- ask the same of the connection, and what is the run's own is the same after them.
pub record SameTurn {J R : Type 0} (t u : Turn J R) (b c : Ledger J) : Type 0 where
  pub made : but_offers (taken t b).made ≡ but_offers (taken u c).made
  pub asks : within t.asks ≡ within u.asks
  pub run : t.run ≡ u.run
  pub ledger : SameOwn (taken t b).ledger (taken u c).ledger

-- from ledgers that are the same in what is its own a run takes the same turns
pub record MindsItsOwn {J R : Type 0} (p : RunPlan J R) : Type 0 where
  pub begins : (now : ℕ) (head : Head) (target : Target) (b c : Ledger J) → SameOwn b c → SameTurn (p.begun now head target b) (p.begun now head target c) b c
  pub begins_job : (now : ℕ) (premature : Bool) (job : J) (b c : Ledger J) → SameOwn b c
      → SameTurn (p.begun_job now premature job b) (p.begun_job now premature job c) b c
  pub turns : (now : ℕ) (s : RunSeen) (b c : Ledger J) (r : R) → SameOwn b c → SameTurn (p.turn now s b r) (p.turn now s c r) b c
  pub answers : (now : ℕ) (x : Action J) (b c : Ledger J) (r : R) → SameOwn b c → SameTurn (p.answered now x b r) (p.answered now x c r) b c
