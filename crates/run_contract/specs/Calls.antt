-- What the calls of a run speak of.
use Rattle.std.specs.Prelude.{◌≡◌, ℕ, ◌+◌, Bool, true, false, List, [], length, is_some, Some, None, if◌then◌else◌}
use Rattle.uri_args.specs.declared.targets.Target.{Target}
use Rattle.http_in.specs.declared.heads.Head.{Head}
use Rattle.strand_contract.specs.declared.turns.Place.TheVariants as place
use Rattle.strand_contract.specs.declared.turns.Answer.{Answer}
use Rattle.strand_contract.specs.Actions.{Action, Did}
use Rattle.strand_contract.specs.Calls.{answered}
use Rattle.strand_plans.specs.Questions.{asking_if}
use Rattle.strand_plans.specs.Ledgers.{Ledger, has, entered}
use Rattle.run_contract.specs.declared.turns.RunSeen.{RunSeen}
use Rattle.run_contract.specs.declared.turns.RunSeen.TheVariants as seen
use Rattle.run_contract.specs.declared.turns.RunTurn.{RunTurn}
use Rattle.run_contract.specs.declared.turns.SockSeen.{SockSeen}
use Rattle.run_contract.specs.declared.turns.SockSeen.TheVariants as at
use Rattle.run_contract.specs.Deeds.{Turn, taken, within}
use Rattle.run_contract.specs.Runs.{RunPlan}
use Rattle.run_contract.specs.Conditions.{IsBlank, MayCome, entered_as, next_piece}

-- what the runs of a site do, what a run knows of the ledger and of itself, and to what it may have come, in which ledger
pub record Meaning (S J R : Type 0) : Type 1 where
  pub plan : RunPlan J R
  pub holds : Ledger J → R → Type 0
  pub stands : S → Ledger J → R → Type 0

-- the strand takes this turn by itself, and not for something that the world gave at a socket
abbrev pub is_own_at : SockSeen → Bool
is_own_at (at.Took n) = true
is_own_at at.Later = true
is_own_at at.Lost = true
is_own_at s = false

abbrev pub is_own_turn : RunSeen → Bool
is_own_turn (seen.Sock k s) = is_own_at s
is_own_turn seen.ClientEnded = false
is_own_turn s = true

-- how much a turn does: each act and word, and the question to the connection, counts as one
abbrev pub size_of : {J : Type 0} → RunTurn J → ℕ
size_of turn = length turn.does.items + (if is_some turn.asks then 1 else 0)

module _ {S J R : Type 0} (m : Meaning S J R) where
  -- the run took the turn: it came to what that leaves, and returned what it does, in order, and what it asks its connection
  abbrev pub Took : Turn J R → Ledger J → S → RunTurn J → Type 0
  Took t b run turn = m.stands run (taken t b).ledger t.run × (turn.does.items ≡ (taken t b).made) × (turn.asks ≡ within t.asks)

  -- a run begins so, after so many sockets
  abbrev pub Begins : (now sockets : ℕ) → Head → Target → S → RunTurn J → Type 0
  Begins now sockets head target run turn = (b : Ledger J) → IsBlank b → b.count ≡ sockets → Took (m.plan.begun now head target b) b run turn

  -- as a job, which is the first of its strand
  abbrev pub BeginsJob : ℕ → Bool → J → S → RunTurn J → Type 0
  BeginsJob now premature job run turn = (b : Ledger J) → IsBlank b → b.count ≡ 0 → Took (m.plan.begun_job now premature job b) b run turn

  -- it may be told this
  abbrev pub MayBeTold : ℕ → RunSeen → S → Type 0
  MayBeTold now s run = (b : Ledger J) × (r : R) × m.stands run b r × m.holds b r × MayCome m.plan now s b r

  -- it took the turn that begins with what it was told
  abbrev pub TakesTurn : ℕ → RunSeen → S → S → RunTurn J → Type 0
  TakesTurn now s old new turn = (b : Ledger J) (r : R) → m.stands old b r → m.holds b r → MayCome m.plan now s b r
      → Took (m.plan.turn now s (entered_as s b) r) (entered_as s b) new turn

  -- it may be given this answer: it answers what was asked
  abbrev pub MayBeAnswered : Answer → S → Type 0
  MayBeAnswered given run = (b : Ledger J) × (r : R) × (x : Action J) × m.stands run b r × m.holds b r × (answered (asking_if b.asked) given ≡ Some x)

  -- it took the turn that begins with the answer
  abbrev pub TakesAnswer : ℕ → Answer → S → S → RunTurn J → Type 0
  TakesAnswer now given old new turn = (b : Ledger J) (r : R) (x : Action J) → m.stands old b r → m.holds b r → answered (asking_if b.asked) given ≡ Some x
      → Took (m.plan.answered now x (entered (Did x) b) r) (entered (Did x) b) new turn

  -- while no question waits, the piece that is offered next at the socket
  abbrev pub HasPiece : S → ℕ → List ℕ → Type 0
  HasPiece run k bytes = (b : Ledger J) (r : R) → m.stands run b r → m.holds b r → b.asked ≡ None
      → bytes ≡ (if has (place.Sock k) b.opened then next_piece k b else [])
