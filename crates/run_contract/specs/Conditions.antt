-- What a run has to show of its plan, so that a connection over it keeps the laws of a strand.
use Rattle.std.specs.Prelude.{◌≡◌, ℕ, ◌<◌, ◌≤◌, ◌-◌, ◌%◌, Bool, true, false, List, [], ◌∷◌, length, take, is_some, Option, Some, None}
use Rattle.shared_rules.specs.Ranges.{IsInRange}
use Rattle.uri_args.specs.declared.targets.Target.{Target}
use Rattle.http_in.specs.declared.heads.Head.{Head}
use Rattle.strand_contract.specs.declared.turns.Place.{Place}
use Rattle.strand_contract.specs.declared.turns.Place.TheVariants as place
use Rattle.strand_contract.specs.declared.turns.Answer.{Answer}
use Rattle.strand_contract.specs.Actions.{Action, Did, Bytes, Ended, Broken, Ready, Dialled, Refused, Put, Later, Lost, Run, Due}
use Rattle.strand_contract.specs.Calls.{answered}
use Rattle.strand_contract.specs.Alone.{IsPrefixOf}
use Rattle.strand_plans.specs.Questions.{Question, asking_if}
use Rattle.strand_plans.specs.Questions as question
use Rattle.strand_plans.specs.Ledgers.{Ledger, has, left_at, entered}
use Rattle.strand_plans.specs.Turns.{IsFreeAt, IsTaking, IsDue}
use Rattle.strand_plans.specs.Conditions.{IsServed}
use Rattle.run_contract.specs.declared.turns.RunSeen.{RunSeen}
use Rattle.run_contract.specs.declared.turns.RunSeen.TheVariants as seen
use Rattle.run_contract.specs.declared.turns.SockSeen.{SockSeen}
use Rattle.run_contract.specs.declared.turns.SockSeen.TheVariants as at
use Rattle.run_contract.specs.declared.turns.Asking.{Asking}
use Rattle.run_contract.specs.declared.turns.Asking.TheVariants as asking
use Rattle.run_contract.specs.Deeds.{Turn, Nothing, taken, says_over, IsQuiet}
use Rattle.run_contract.specs.Runs.{Waits, RunPlan, waits_at_first, waits_told, waits_after, is_of_client}
use Rattle.run_contract.specs.Alike.{own_deadlines, AreAlike}

-- what comes at a socket, as an action: of a write, the bytes that were taken of the piece
abbrev pub sock_action : {J : Type 0} → ℕ → SockSeen → Ledger J → Action J
sock_action k (at.Bytes bytes) b = Bytes (place.Sock k) bytes
sock_action k at.Ended b = Ended (place.Sock k)
sock_action k at.Broken b = Broken (place.Sock k)
sock_action k at.Ready b = Ready (place.Sock k)
sock_action k (at.Took n) b = Put (place.Sock k) (take n (left_at (place.Sock k) b))
sock_action k at.Later b = Later (place.Sock k)
sock_action k at.Lost b = Lost (place.Sock k)
sock_action k at.Dialled b = Dialled k
sock_action k at.Refused b = Refused k

-- the ledger as the turn begins; what the connection tells of its client is entered by the connection
abbrev pub entered_as : {J : Type 0} → RunSeen → Ledger J → Ledger J
entered_as (seen.Run k) b = entered (Did (Run k)) b
entered_as (seen.Due n) b = entered (Did (Due n)) b
entered_as (seen.Sock k s) b = entered (Did (sock_action k s b)) b
entered_as s b = b

-- ---- when a run is told what

-- the next piece of what is left of a socket: it never crosses a multiple of 16,384 of the bytes sent to it
abbrev pub next_piece : {J : Type 0} → ℕ → Ledger J → List ℕ
next_piece k b = take (16_384 - b.taken (place.Sock k) % 16_384) (left_at (place.Sock k) b)

-- so many bytes of the next piece
pub record IsTakenOf {J : Type 0} (b : Ledger J) (k n : ℕ) : Type 0 where
  pub taking : IsTaking b (place.Sock k)
  pub some : 0 < n
  pub piece : n ≤ length (next_piece k b)

-- this may come at the socket now
abbrev pub MayComeAt : {J : Type 0} → ℕ → SockSeen → Ledger J → Type 0
MayComeAt k (at.Took n) b = IsTakenOf b k n
MayComeAt k at.Later b = IsTaking b (place.Sock k)
MayComeAt k at.Lost b = IsTaking b (place.Sock k)
MayComeAt k (at.Bytes bytes) b = IsFreeAt b (place.Sock k) × (0 < length bytes)
MayComeAt k s b = IsFreeAt b (place.Sock k)

-- it asked for the body, or whether all is taken, and has no answer yet
abbrev pub asks_body : Option Asking → Bool
asks_body (Some (asking.Body max)) = true
asks_body q = false

abbrev pub asks_taken : Option Asking → Bool
asks_taken (Some asking.AllTaken) = true
asks_taken q = false

-- it is told what answers its question; else it asks nothing, and waits for this
abbrev pub MayHear : (answers waits : Bool) → Option Asking → Type 0
MayHear true waits q = Unit {0}
MayHear false waits q = (waits ≡ true) × (q ≡ None)

-- no question waits, to the outside or to the connection
pub record IsUnasked {J R : Type 0} (p : RunPlan J R) (b : Ledger J) (r : R) : Type 0 where
  pub outside : b.asked ≡ None
  pub within : (p.waits r).asks ≡ None

-- The run may be told this now. While it has no answer of its connection, only that comes. A thread that runs is the first of its queue, a deadline is
-- its own and due, and of its client it is told only what it asked or waits for, that the client ends, and once that it is gone.
abbrev pub MayCome : {J R : Type 0} → RunPlan J R → ℕ → RunSeen → Ledger J → R → Type 0
MayCome p now (seen.Run k) b r = IsPrefixOf (k ∷ []) b.threads × IsUnasked p b r
MayCome p now (seen.Due n) b r = IsDue now b n × (2 ≤ n) × ((p.waits r).asks ≡ None)
MayCome p now (seen.Sock k s) b r = MayComeAt k s b × ((p.waits r).asks ≡ None)
MayCome p now (seen.Body content waited) b r = (b.asked ≡ None) × MayHear (asks_body (p.waits r).asks) (p.waits r).body (p.waits r).asks
MayCome p now (seen.BodyRefused code) b r = (b.asked ≡ None) × MayHear (asks_body (p.waits r).asks) (p.waits r).body (p.waits r).asks
MayCome p now seen.AllTaken b r = (b.asked ≡ None) × MayHear (asks_taken (p.waits r).asks) (p.waits r).taken (p.waits r).asks
MayCome p now seen.NotYet b r = (b.asked ≡ None) × (is_some (p.waits r).asks ≡ true)
MayCome p now seen.ClientEnded b r = IsUnasked p b r × ((p.waits r).client ≡ true)
MayCome p now seen.ClientGone b r = IsUnasked p b r × ((p.waits r).client ≡ true)

-- ---- what it leaves

-- nothing was ever sent to the place
abbrev pub IsUnused : {J : Type 0} → Place → Ledger J → Type 0
IsUnused q b = (b.sent q ≡ []) × (b.taken q ≡ 0) × (b.put_off q ≡ false)

-- before a run begins, and once it is over: no thread, no deadline from 2 on and no open socket, no question waits, and the sockets that are
-- still to come are unused
pub record IsBlank {J : Type 0} (b : Ledger J) : Type 0 where
  pub no_thread : b.threads ≡ []
  pub no_deadline : own_deadlines b.armed ≡ []
  pub no_socket : (k : ℕ) → has (place.Sock k) b.opened ≡ false
  pub none_asked : b.asked ≡ None
  pub unused : (k : ℕ) → b.count ≤ k → IsUnused (place.Sock k) b

-- `holds` is what the run knows of its ledger and of itself. After a turn, before which it waited so: it waits for what it said and asked, and where
-- it says that it is over nothing of it is left, and it asks nothing.
pub record IsLeft {J R : Type 0} (p : RunPlan J R) (holds : Ledger J → R → Type 0) (w : Waits) (t : Turn J R) (b : Ledger J) : Type 0 where
  pub known : holds b t.run
  pub waits : p.waits t.run ≡ waits_after t w
  pub over : says_over t.does ≡ true → IsBlank b × (t.asks ≡ Nothing)

abbrev pub Leaves : {J R : Type 0} → RunPlan J R → (Ledger J → R → Type 0) → Waits → Turn J R → Ledger J → Type 0
Leaves p holds w t b = IsLeft p holds w t (taken t b).ledger

-- the question fits: the dictionary is there and the call in range, and a socket is kept for 99,999,999,999 milliseconds at most
abbrev pub Fits : {J R : Type 0} → RunPlan J R → Question J → Type 0
Fits p (question.Dict zone call) = (zone < p.zones) × IsInRange call
Fits p (question.Keep k key idle size) = idle.0 ≤ 99_999_999_999
Fits p x = Unit {0}

pub record IsRun {J R : Type 0} (p : RunPlan J R) (holds : Ledger J → R → Type 0) : Type 0 where
  pub begins : (now : ℕ) (head : Head) (target : Target) (b : Ledger J) → IsBlank b
      → Leaves p holds (waits_at_first true) (p.begun now head target b) b
  pub begins_job : (now : ℕ) (premature : Bool) (job : J) (b : Ledger J) → IsBlank b
      → Leaves p holds (waits_at_first false) (p.begun_job now premature job b) b
  pub stays : (now : ℕ) (s : RunSeen) (b : Ledger J) (r : R) → holds b r → MayCome p now s b r
      → Leaves p holds (waits_told s (p.waits r)) (p.turn now s (entered_as s b) r) (entered_as s b)
  pub answers : (now : ℕ) (x : Action J) (given : Answer) (b : Ledger J) (r : R) → holds b r → answered (asking_if b.asked) given ≡ Some x
      → Leaves p holds (p.waits r) (p.answered now x (entered (Did x) b) r) (entered (Did x) b)
  -- told of its client as its connection settles, it can be told so less often
  pub falls : (now : ℕ) (s : RunSeen) (b : Ledger J) (r : R) → holds b r → MayCome p now s b r → is_of_client s ≡ true
      → p.tells_left (p.turn now s (entered_as s b) r).run < p.tells_left r
  -- it knows nothing of what is the client's, and nothing of what is offered
  pub apart : (b c : Ledger J) (r : R) → AreAlike b c → holds b r → holds c r
  -- its questions to the outside fit
  pub asks : (b : Ledger J) (r : R) (x : Question J) → holds b r → b.asked ≡ Some x → Fits p x
  -- as a job begins, a deadline comes due or the client is hung up, it only wakes
  pub job : (now : ℕ) (premature : Bool) (job : J) (b : Ledger J) → IsQuiet (p.begun_job now premature job b)
  pub due : (now n : ℕ) (b : Ledger J) (r : R) → IsQuiet (p.turn now (seen.Due n) b r)
  pub gone : (now : ℕ) (b : Ledger J) (r : R) → IsQuiet (p.turn now seen.ClientGone b r)
  -- a socket of which a write broke, or that takes bytes again, is hung up, or offered again
  pub lost : (now k : ℕ) (b : Ledger J) (r : R) → holds b r → MayCome p now (seen.Sock k at.Lost) b r → let c = entered_as (seen.Sock k at.Lost) b in
      IsServed (place.Sock k) (taken (p.turn now (seen.Sock k at.Lost) c r) c).ledger
  pub again : (now k : ℕ) (b : Ledger J) (r : R) → holds b r → MayCome p now (seen.Sock k at.Ready) b r → let c = entered_as (seen.Sock k at.Ready) b in
      IsServed (place.Sock k) (taken (p.turn now (seen.Sock k at.Ready) c r) c).ledger
