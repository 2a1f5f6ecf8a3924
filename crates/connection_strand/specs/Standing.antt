-- How a connection in code stands to a state of its plan, between turns and within one.
use Rattle.std.specs.Prelude.{◌≡◌, ℕ, ◌≤◌, Bool, true, false, map, List, [], ◌∷◌, ◌++◌, length, Option, Some, None, if◌then◌else◌}
use Rattle.strand_contract.specs.declared.turns.Act.{Act}
use Rattle.strand_contract.specs.declared.turns.Place.{Place}
use Rattle.strand_contract.specs.declared.turns.Place.TheVariants as place
use Rattle.strand_plans.specs.Questions.{Question}
use Rattle.strand_plans.specs.Questions as question
use Rattle.strand_plans.specs.Ledgers.{Ledger, numbers, is_place, has_offer}
use Rattle.strand_plans.specs.Moves.{Move, Performed, perform}
use Rattle.strand_plans.specs.Tidiness.{NumbersOnce}
use Rattle.run_contract.specs.declared.turns.RunAct.{RunAct}
use Rattle.run_contract.specs.Deeds.{Deed, Asks, Nothing, ledger_after, ledger_asking, made_after, made_asking, says_over}
use Rattle.run_contract.specs.Runs.{Waits, waits_did}
use Rattle.run_contract.specs.Conditions.{IsBlank}
use Rattle.connection_plan.specs.Clients.{Stage}
use Rattle.connection_plan.specs.Clients as stage
use Rattle.connection_plan.specs.Services.{Both}
use Rattle.connection_plan.specs.Turns.{is_there}
use Rattle.connection_plan.specs.Conditions.{AgreesWithin}
use Rattle.connection_strand.specs.declared.state.Connection.{Connection}
use Rattle.connection_strand.specs.declared.state.Progress.{Progress}
use Rattle.connection_strand.specs.Kept.{kept, kept_of, waits_of}
use Rattle.connection_strand.specs.Views.{View}

-- what is open: the client's place first, then the run's sockets as it got them
abbrev pub places : Bool → List ℕ → List Place
places opened socks = (if opened then place.Client ∷ [] else []) ++ map place.Sock socks

-- the socket that is given to the pool
abbrev pub kept_sock : {J : Type 0} → Option (Question J) → Option ℕ
kept_sock (Some (question.Keep k key idle size)) = Some k
kept_sock x = None

-- the life goes on
abbrev pub IsOn : Stage → Type 0
IsOn stage.Over = ⊥
IsOn st = Unit {0}

-- and no run is there
abbrev pub IsFree : Stage → Type 0
IsFree stage.Busy = ⊥
IsFree stage.Over = ⊥
IsFree st = Unit {0}

-- How far a turn is: the stage; and of the turn of the run that is being taken what is still to be done, with what it ends, and what is left of it in code.
pub record Moment (J : Type 0) : Type 0 where
  pub stage : Stage
  pub does : List Deed
  pub asks : Asks J
  pub rest : List (RunAct J)

-- the run takes no turn, or all of it is done
abbrev pub plain : {J : Type 0} → Stage → Moment J
plain st = record { stage = st; does = []; asks = Nothing; rest = [] }

abbrev pub taking : {J : Type 0} → Stage → List Deed → Asks J → List (RunAct J) → Moment J
taking st ds a rest = record { stage = st; does = ds; asks = a; rest = rest }

-- the ledger with which the run's turn ends
abbrev pub at_end : {J : Type 0} → Moment J → Ledger J → Ledger J
at_end e b = ledger_asking e.asks (ledger_after e.does b)

-- what the code returns of what is still to be done
abbrev pub made_of : {J : Type 0} → Moment J → Ledger J → List (RunAct J)
made_of e b = made_after e.does b ++ made_asking e.asks (ledger_after e.does b)

module _ {R J I : Type 0} (v : View R J I) where
  -- a busy connection has a run, which stands for the plan's, and waits as it does
  abbrev pub HasRun : Stage → Option R → Waits → Ledger J → I → Type 0
  HasRun stage.Busy o w b r = (run : R) × (o ≡ Some run) × v.meaning.stands run b r × (w ≡ v.meaning.plan.waits r)
  HasRun st o w b r = Unit {0}

  -- between turns: the client, the open sockets and the run are as the plan has them
  pub record Stays (c : Connection R) (b : Ledger J) (s : Both I) : Type 0 where
    pub client : kept c.client ≡ kept_of b s.client
    pub sockets : b.opened ≡ places (is_there b) c.sockets.items
    pub count : c.count ≡ b.count
    pub keeping : c.keeping ≡ kept_sock b.asked
    pub on : IsOn s.client.stage
    pub run : HasRun s.client.stage c.run (waits_of c.waits) b s.run

-- within a turn: the client and the sockets are as the plan has them, and so is whether the client's offer is queued or begun
pub record Serves {R J I : Type 0} (c : Connection R) (u : Progress J) (b : Ledger J) (s : Both I) : Type 0 where
  pub client : kept c.client ≡ kept_of b s.client
  pub sockets : b.opened ≡ places (is_there b) c.sockets.items
  pub count : c.count ≡ b.count
  pub keeping : c.keeping ≡ None
  pub offered : is_there b ≡ true → u.is_offered ≡ has_offer place.Client b
  pub taking : is_there b ≡ true → c.is_taking ≡ is_place place.Client b.begun
  pub counted : b.taken place.Client ≤ length (b.sent place.Client)
  pub once : NumbersOnce (numbers b.armed)
  pub none_asked : b.asked ≡ None
  pub on : IsOn s.client.stage

-- a run that goes on has the answer to whatever it asked its connection
abbrev pub IsUnasked : {R : Type 0} → Connection R → Type 0
IsUnasked c = (kept c.client).stage ≡ stage.Busy → c.waits.asks ≡ None

-- the acts so far come before those that are still to be performed
abbrev pub before : {J S : Type 0} → List (Act J) → Performed J S → Performed J S
before acts did = record { state = did.state; acts = acts ++ did.acts }

module _ {R J I : Type 0} (v : View R J I) where
  -- and the run
  pub record Within (e : Moment J) (c : Connection R) (u : Progress J) (b : Ledger J) (s : Both I) : Type 0 where
    pub serves : Serves c u b s
    pub at : s.client.stage ≡ e.stage
    pub run : HasRun v e.stage c.run (waits_did e.does (waits_of c.waits)) (at_end e b) s.run
    pub known : AgreesWithin v.meaning.holds e.stage (at_end e b) s.run
    pub blank : says_over e.does ≡ true → IsBlank (at_end e b)
    pub made : e.rest ≡ made_of e b

  -- at some moment of a turn, at this stage or another
  abbrev pub IsAt : Stage → Connection R → Progress J → Type 0
  IsAt st c u = (b : Ledger J) × (s : Both I) × Within (plain st) c u b s

  abbrev pub IsWithin : Connection R → Progress J → Type 0
  IsWithin c u = (st : Stage) × IsAt st c u

  -- while no run is there
  abbrev pub IsFreeAt : Connection R → Progress J → Type 0
  IsFreeAt c u = (st : Stage) × IsFree st × IsAt st c u

  -- a turn that comes to `did`: its acts so far, and then these moves
  pub record Toward (e : Moment J) (did : Performed J (Both I)) (c : Connection R) (u : Progress J) (m : Move J (Both I)) : Type 0 where
    pub ledger : Ledger J
    pub inner : Both I
    pub within : Within e c u ledger inner
    pub leads : did ≡ before u.acts.items (perform m ledger inner)

  -- a turn that came to it: nothing is left of it
  pub record Came (did : Performed J (Both I)) (c : Connection R) (u : Progress J) : Type 0 where
    pub acts : did.acts ≡ u.acts.items
    pub stays : did.state.ledger.ended ≡ false → Stays v c did.state.ledger did.state.inner
    pub taking : is_there did.state.ledger ≡ true → c.is_taking ≡ is_place place.Client did.state.ledger.begun

  -- a turn that goes on with these moves, or came to its end
  abbrev pub Went : Bool → Performed J (Both I) → Connection R → Progress J → Move J (Both I) → Type 0
  Went true did c u m = (st : Stage) × Toward (plain st) did c u m
  Went false did c u m = Came did c u

  -- ---- what a call does

  -- it makes these moves, whatever comes after them
  abbrev pub Goes : (Move J (Both I) → Move J (Both I)) → Connection R → Progress J → Connection R → Progress J → Type 0
  Goes f c u c' u' = (e : Moment J) (did : Performed J (Both I)) (m : Move J (Both I)) → Toward e did c u (f m) → Toward e did c' u' m

  -- it makes them at this stage, between the run's turns
  abbrev pub GoesAt : Stage → (Move J (Both I) → Move J (Both I)) → Connection R → Progress J → Connection R → Progress J → Type 0
  GoesAt st f c u c' u' = (did : Performed J (Both I)) (m : Move J (Both I)) → Toward (plain st) did c u (f m) → Toward (plain st) did c' u' m

  -- its turn ends with them
  abbrev pub Ends : Move J (Both I) → Connection R → Progress J → Connection R → Progress J → Type 0
  Ends m c u c' u' = (st : Stage) (did : Performed J (Both I)) → Toward (plain st) did c u m → Came did c' u'

  -- it makes them at this stage, and goes on with what comes after them, or its turn ends
  abbrev pub GoesOn : Stage → Bool → (Move J (Both I) → Move J (Both I)) → Connection R → Progress J → Connection R → Progress J → Type 0
  GoesOn st on f c u c' u' = (did : Performed J (Both I)) (m : Move J (Both I)) → Toward (plain st) did c u (f m) → Went on did c' u' m

  -- the same where no run is
  abbrev pub Hears : Bool → (Move J (Both I) → Move J (Both I)) → Connection R → Progress J → Connection R → Progress J → Type 0
  Hears on f c u c' u' = (st : Stage) → IsFree st → GoesOn st on f c u c' u'

  -- it makes some of these moves, and goes on with them, or its turn ends
  abbrev pub Steps : Bool → Move J (Both I) → Connection R → Progress J → Connection R → Progress J → Type 0
  Steps on m c u c' u' = (st : Stage) (did : Performed J (Both I)) → Toward (plain st) did c u m → Went on did c' u' m
