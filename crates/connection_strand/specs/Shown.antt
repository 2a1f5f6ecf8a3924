-- What a connection knows as it is shown something, and to what its turn comes.
use Rattle.std.specs.Prelude.{◌≡◌, ℕ, ◌-◌, ◌%◌, ◌≤◌, Bool, true, false, List, [], length, take, None, if◌then◌else◌}
use Rattle.strand_contract.specs.declared.turns.Place.TheVariants as place
use Rattle.strand_contract.specs.declared.turns.Seen.{Seen}
use Rattle.strand_contract.specs.declared.turns.Seen.TheVariants as seen
use Rattle.strand_contract.specs.Actions.{Action, Did, Bytes, Ended, Broken, Ready, Dialled, Refused, Put, Later, Lost, Run, Due, Halted}
use Rattle.strand_plans.specs.Ledgers.{Ledger, has, numbers, is_place, left_at, has_offer, entered}
use Rattle.strand_plans.specs.Moves.{Move, Done, Performed, perform}
use Rattle.strand_plans.specs.Tidiness.{NumbersOnce}
use Rattle.strand_plans.specs.Turns.{Comes}
use Rattle.run_contract.specs.declared.turns.RunSeen.{RunSeen}
use Rattle.run_contract.specs.declared.turns.SockSeen.{SockSeen}
use Rattle.run_contract.specs.declared.turns.SockSeen.TheVariants as at
use Rattle.run_contract.specs.Calls.{is_own_turn}
use Rattle.run_contract.specs.Runs.{is_of_client}
use Rattle.run_contract.specs.Conditions.{MayCome, entered_as, next_piece}
use Rattle.connection_plan.specs.Services.{Service, Both}
use Rattle.client_line.specs.declared.requests.LineOut.{LineOut}
use Rattle.client_line.specs.Records as line
use Rattle.connection_plan.specs.Clients.{Stage}
use Rattle.connection_plan.specs.Clients as stage
use Rattle.connection_plan.specs.Turns.{is_there, await_body, heard_by, settle}
use Rattle.connection_plan.specs.Connections.{connection_plan, connection_turn, to_run}
use Rattle.connection_plan.specs.Conditions.{Agrees, AgreesWithin}
use Rattle.connection_strand.specs.declared.sights.Taking.{Taking}
use Rattle.connection_strand.specs.declared.sights.Taking.TheVariants as taking
use Rattle.connection_strand.specs.declared.sights.Event.{Event}
use Rattle.connection_strand.specs.declared.sights.Event.TheVariants as event
use Rattle.connection_strand.specs.declared.sights.Sight.{Sight}
use Rattle.connection_strand.specs.declared.sights.Sight.TheVariants as sight
use Rattle.connection_strand.specs.declared.state.Connection.{Connection}
use Rattle.connection_strand.specs.declared.state.Progress.{Progress}
use Rattle.connection_strand.specs.Kept.{Kept, kept, kept_of, waits_of, wants_offer}
use Rattle.connection_strand.specs.Standing.{IsOn, HasRun, Serves, Came, Went, before, places}
use Rattle.connection_strand.specs.Views.{View, service}

-- what comes at a socket, as it is shown
abbrev pub sock_seen : ℕ → SockSeen → Seen
sock_seen k (at.Bytes bytes) = seen.Bytes (place.Sock k) bytes
sock_seen k at.Ended = seen.Ended (place.Sock k)
sock_seen k at.Broken = seen.Broken (place.Sock k)
sock_seen k at.Ready = seen.Ready (place.Sock k)
sock_seen k (at.Took n) = seen.Took (place.Sock k) n
sock_seen k at.Later = seen.Later (place.Sock k)
sock_seen k at.Lost = seen.Lost (place.Sock k)
sock_seen k at.Dialled = seen.Dialled k
sock_seen k at.Refused = seen.Refused k

-- what is shown, by the code's words for it
abbrev pub seen_of_taking : Taking → Seen
seen_of_taking taking.Ready = seen.Ready place.Client
seen_of_taking (taking.Took n) = seen.Took place.Client n
seen_of_taking taking.Later = seen.Later place.Client
seen_of_taking taking.Lost = seen.Lost place.Client

abbrev pub seen_of_event : Event → Seen
seen_of_event event.Ended = seen.Ended place.Client
seen_of_event event.Broken = seen.Broken place.Client
seen_of_event (event.Due n) = seen.Due n
seen_of_event (event.Run k) = seen.Run k
seen_of_event event.Stop = seen.Stop

abbrev pub seen_of : Sight → Seen
seen_of (sight.Sock k shown) = sock_seen k shown
seen_of (sight.Bytes bytes) = seen.Bytes place.Client bytes
seen_of (sight.Taking of_client) = seen_of_taking of_client
seen_of (sight.Event other) = seen_of_event other

-- the action that is shown: of a write, the bytes that were taken of the next piece
abbrev pub action_by : {J : Type 0} → Ledger J → Seen → Action J
action_by b (seen.Bytes q bytes) = Bytes q bytes
action_by b (seen.Ended q) = Ended q
action_by b (seen.Broken q) = Broken q
action_by b (seen.Ready q) = Ready q
action_by b (seen.Took q n) = Put q (take n (take (16_384 - b.taken q % 16_384) (left_at q b)))
action_by b (seen.Later q) = Later q
action_by b (seen.Lost q) = Lost q
action_by b (seen.Dialled k) = Dialled k
action_by b (seen.Refused k) = Refused k
action_by b (seen.Due n) = Due n
action_by b (seen.Run k) = Run k
action_by b seen.Stop = Halted

-- whether an offer of the client is queued or goes on as the turn begins, by what is kept
abbrev pub offered_as : Seen → Kept → Bool
offered_as (seen.Took place.Client n) k = true
offered_as (seen.Ready place.Client) k = false
offered_as (seen.Later place.Client) k = false
offered_as (seen.Lost place.Client) k = false
offered_as s k = wants_offer k

-- the turn began as the client took bytes
abbrev pub takes_as : Seen → Bool
takes_as (seen.Took place.Client n) = true
takes_as s = false

module _ {R J I : Type 0} (v : View R J I) where
  -- while no question waits, the next piece of what is left of an open socket
  abbrev pub HasPieceAt : Connection R → ℕ → List ℕ → Type 0
  HasPieceAt c k bytes = (b : Ledger J) (s : Both I) → (kept c.client).stage ≡ s.client.stage → HasRun v s.client.stage c.run (waits_of c.waits) b s.run
      → Agrees v.meaning.plan v.meaning.holds s.client.stage b s.run → b.asked ≡ None → bytes ≡ (if has (place.Sock k) b.opened then next_piece k b else [])

module _ {R J I : Type 0} (v : View R J I) (now : ℕ) where
  -- a turn that begins with what it is shown; the ledger is that before this was entered
  pub record Shown (x : Seen) (did : Performed J (Both I)) (c : Connection R) (u : Progress J) : Type 0 where
    pub ledger : Ledger J
    pub inner : Both I
    pub client : kept c.client ≡ kept_of ledger inner.client
    pub sockets : ledger.opened ≡ places (is_there ledger) c.sockets.items
    pub count : c.count ≡ ledger.count
    pub keeping : c.keeping ≡ None
    pub offered : is_there ledger ≡ true → u.is_offered ≡ has_offer place.Client (entered (Did (action_by ledger x)) ledger)
    pub taking : is_there ledger ≡ true → c.is_taking ≡ is_place place.Client (entered (Did (action_by ledger x)) ledger).begun
    pub takes : is_place place.Client ledger.begun ≡ true → ledger.put_off place.Client ≡ false
    pub counted : ledger.taken place.Client ≤ length (ledger.sent place.Client)
    pub once : NumbersOnce (numbers ledger.armed)
    pub none_asked : ledger.asked ≡ None
    pub on : IsOn inner.client.stage
    pub run : HasRun v inner.client.stage c.run (waits_of c.waits) ledger inner.run
    pub known : Agrees v.meaning.plan v.meaning.holds inner.client.stage ledger inner.run
    pub comes : Comes (connection_plan (service v)) now (Did (action_by ledger x)) (record { ledger = ledger; inner = inner })
    pub leads : did ≡ before u.acts.items
        (let b = entered (Did (action_by ledger x)) ledger in perform (connection_turn (service v) now (Did (action_by ledger x)) b inner) b inner)

  abbrev pub MayShow : Seen → Connection R → Progress J → Type 0
  MayShow x c u = (did : Performed J (Both I)) × Shown x did c u

  -- its turn comes to its end
  abbrev pub Shows : Seen → Connection R → Progress J → Connection R → Progress J → Type 0
  Shows x c u c' u' = (did : Performed J (Both I)) → Shown x did c u → Came v did c' u'

  -- a turn in which a run that goes on is told this, and then these moves come
  pub record ToRun (x : RunSeen) (did : Performed J (Both I)) (c : Connection R) (u : Progress J) (m : Move J (Both I)) : Type 0 where
    pub ledger : Ledger J
    pub inner : Both I
    pub serves : Serves c u (entered_as x ledger) inner
    pub run : HasRun v inner.client.stage c.run (waits_of c.waits) ledger inner.run
    pub known : AgreesWithin v.meaning.holds inner.client.stage ledger inner.run
    pub comes : inner.client.stage ≡ stage.Busy → MayCome v.meaning.plan now x ledger inner.run
    pub goes_on : is_of_client x ≡ false → is_own_turn x ≡ true → inner.client.stage ≡ stage.Busy
    pub leads : did ≡ before u.acts.items (perform (to_run (service v) now m inner.client.stage x) (entered_as x ledger) inner)

  abbrev pub MayTellRun : RunSeen → Connection R → Progress J → Type 0
  MayTellRun x c u = (did : Performed J (Both I)) × (m : Move J (Both I)) × ToRun x did c u m

  abbrev pub TellsRun : RunSeen → Bool → Connection R → Progress J → Connection R → Progress J → Type 0
  TellsRun x on c u c' u' = (did : Performed J (Both I)) (m : Move J (Both I)) → ToRun x did c u m → Went v on did c' u' m

  -- and then what is there is settled
  abbrev pub MayGoOn : RunSeen → Connection R → Progress J → Type 0
  MayGoOn x c u = (did : Performed J (Both I)) × ToRun x did c u (settle (service v) now)

  abbrev pub GoesOn : RunSeen → Connection R → Progress J → Connection R → Progress J → Type 0
  GoesOn x c u c' u' = (did : Performed J (Both I)) → ToRun x did c u (settle (service v) now) → Came v did c' u'

module _ {J I : Type 0} (site : Service J I) (now : ℕ) where
  -- at a stage, after bytes that were answered so: a run that waits for more of the body may get it, else the answer is heard; and what is there is settled
  abbrev pub heard_at : Stage → LineOut → line.Came → Bool → Move J (Both I)
  heard_at stage.Busy out came ended = await_body site now (settle site now)
  heard_at stage.Head out came ended = heard_by site now false (settle site now) came ended out
  heard_at stage.Idle out came ended = heard_by site now true (settle site now) came ended out
  heard_at stage.Drop out came ended = heard_by site now true (settle site now) came ended out
  heard_at st out came ended = Done
