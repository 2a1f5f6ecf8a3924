-- What turns of a run come to within those of their connection.
use Rattle.std.specs.Prelude.{Result, Ok, ◌≡◌, ℕ, Bool, true, false, Option, Some, None, List, [], ◌∷◌}
use Rattle.std.specs.declared.alloc.AllocError.{AllocError}
use Rattle.client_line.specs.declared.requests.LineOut.{LineOut}
use Rattle.client_line.specs.declared.requests.LineOut.TheVariants as out
use Rattle.client_line.specs.Records.{At}
use Rattle.client_line.specs.Records as line
use Rattle.strand_contract.specs.declared.turns.Answer.{Answer}
use Rattle.strand_contract.specs.Actions.{Action, Did}
use Rattle.strand_contract.specs.Calls.{answered}
use Rattle.strand_plans.specs.Questions.{asking_if}
use Rattle.strand_plans.specs.Ledgers.{Ledger, entered}
use Rattle.strand_plans.specs.Moves.{Move, Performed, perform}
use Rattle.run_contract.specs.declared.turns.RunSeen.{RunSeen}
use Rattle.run_contract.specs.declared.turns.RunAct.{RunAct}
use Rattle.run_contract.specs.declared.turns.RunAct.TheVariants as made
use Rattle.run_contract.specs.declared.turns.RunTurn.{RunTurn}
use Rattle.run_contract.specs.declared.turns.Said.{Said}
use Rattle.run_contract.specs.declared.turns.Said.TheVariants as said
use Rattle.run_contract.specs.declared.turns.Asking.{Asking}
use Rattle.run_contract.specs.Deeds.{Deed, Say, Asks}
use Rattle.run_contract.specs.Conditions.{entered_as, MayCome}
use Rattle.connection_plan.specs.Clients.{Stage}
use Rattle.connection_plan.specs.Clients as stage
use Rattle.connection_plan.specs.Services.{Both}
use Rattle.connection_plan.specs.Lifts.{lifted}
use Rattle.connection_plan.specs.Turns.{says, asks_then, run_turn, tell, settle}
use Rattle.connection_strand.specs.declared.state.Connection.{Connection}
use Rattle.connection_strand.specs.declared.state.Progress.{Progress}
use Rattle.connection_strand.specs.Acts.{sockets_with, count_with}
use Rattle.connection_strand.specs.Kept.{waits_of}
use Rattle.connection_strand.specs.Standing.{taking, Serves, Toward, Came, Went, before}
use Rattle.connection_strand.specs.Views.{View, service}

-- a refusal leads to the end of what is read, or to a fault in a body that is dropped
abbrev pub IsRefusedAt : At → Type 0
IsRefusedAt (line.Over code) = Unit {0}
IsRefusedAt (line.Dropping far) = Unit {0}
IsRefusedAt at = ⊥

abbrev pub IsAnswered : LineOut → At → Type 0
IsAnswered (out.Refused code) at = IsRefusedAt at
IsAnswered answer at = Unit {0}

-- the run asks this of its connection, or nothing
abbrev pub with_asks : {R : Type 0} → Option Asking → Connection R → Connection R
with_asks q c = record c { waits = record c.waits { asks = q } }

-- the stage after a run said a word
abbrev pub stage_after : Said → Stage → Stage
stage_after said.Over st = stage.Flush
stage_after w st = st

-- it is as before, but for what the answer does to its sockets
pub record TookIn {R : Type 0} (given : Answer) (c d : Connection R) : Type 0 where
  pub sockets : d.sockets.items ≡ sockets_with given c.keeping c.count c.sockets.items
  pub count : d.count ≡ count_with given c.count
  pub kept : d ≡ record c { sockets = d.sockets; count = d.count; keeping = None }

module _ {R J I : Type 0} (v : View R J I) (now : ℕ) where
  -- a turn of the connection in which its run is told this; the ledger is that before it was entered
  pub record Told (x : RunSeen) (did : Performed J (Both I)) (c : Connection R) (u : Progress J) (m : Move J (Both I)) : Type 0 where
    pub ledger : Ledger J
    pub inner : Both I
    pub serves : Serves c u (entered_as x ledger) inner
    pub busy : inner.client.stage ≡ stage.Busy
    pub run : R
    pub is : c.run ≡ Some run
    pub standing : v.meaning.stands run ledger inner.run
    pub waits : waits_of c.waits ≡ v.meaning.plan.waits inner.run
    pub known : v.meaning.holds ledger inner.run
    pub comes : MayCome v.meaning.plan now x ledger inner.run
    pub leads : did ≡ before u.acts.items (perform (tell (service v) now x m) (entered_as x ledger) inner)

  -- a turn in which it is given this answer
  pub record Answered (given : Answer) (did : Performed J (Both I)) (c : Connection R) (u : Progress J) (m : Move J (Both I)) : Type 0 where
    pub ledger : Ledger J
    pub inner : Both I
    pub action : Action J
    pub answers : answered (asking_if ledger.asked) given ≡ Some action
    pub serves : Serves c u (entered (Did action) ledger) inner
    pub busy : inner.client.stage ≡ stage.Busy
    pub run : R
    pub is : c.run ≡ Some run
    pub standing : v.meaning.stands run ledger inner.run
    pub waits : waits_of c.waits ≡ v.meaning.plan.waits inner.run
    pub known : v.meaning.holds ledger inner.run
    pub leads : did ≡ before u.acts.items
        (perform (run_turn (service v) now (v.meaning.plan.answered now action (entered (Did action) ledger) inner.run) m) (entered (Did action) ledger) inner)

  -- ---- while the run's turn is taken

  -- at this stage these deeds are still to be done, then the run asks this, and then come these moves; `rest` is what is left of its turn in code
  abbrev pub TowardBy : Stage → List Deed → Asks J → List (RunAct J) → Performed J (Both I) → Connection R → Progress J → Move J (Both I) → Type 0
  TowardBy st ds a rest did c u m = Toward v (taking st ds a rest) did c u (lifted (says (service v) now) ds (asks_then (service v) now a m))

  -- what is left of the run's turn is still to be taken; or a question to the outside, which is the last of it, ended the turn
  abbrev pub Takes : Bool → List (RunAct J) → Performed J (Both I) → Connection R → Progress J → Move J (Both I) → Type 0
  Takes true rest did c u m = (st : Stage) × (ds : List Deed) × (a : Asks J) × TowardBy st ds a rest did c u m
  Takes false rest did c u m = (rest ≡ []) × Came v did c u

  -- the run took this turn, of which nothing is done yet
  abbrev pub Took : RunTurn J → Performed J (Both I) → Connection R → Progress J → Move J (Both I) → Type 0
  Took next did c u m = Takes true next.does.items did (with_asks next.asks c) u m

  -- a call takes this turn of the run
  abbrev pub TakesTurn : Bool → RunTurn J → Connection R → Progress J → Connection R → Progress J → Type 0
  TakesTurn on next c u c' u' = (did : Performed J (Both I)) (m : Move J (Both I)) → Took next did c u m → Went v on did c' u' m

  -- it tells the run this, or gives it this answer, and takes its turn
  abbrev pub Tells : RunSeen → Bool → Connection R → Progress J → Connection R → Progress J → Type 0
  Tells x on c u c' u' = (did : Performed J (Both I)) (m : Move J (Both I)) → Told x did c u m → Went v on did c' u' m

  abbrev pub Gives : Answer → Bool → Connection R → Progress J → Connection R → Progress J → Type 0
  Gives given on c u c' u' = (did : Performed J (Both I)) (m : Move J (Both I)) → Answered given did c u m → Went v on did c' u' m

  -- it takes this part of one
  abbrev pub TakesPart : Bool → RunAct J → Connection R → Progress J → Connection R → Progress J → Type 0
  TakesPart on x c u c' u' = (rest : List (RunAct J)) (did : Performed J (Both I)) (m : Move J (Both I))
      → Takes true (x ∷ rest) did c u m → Takes on rest did c' u' m

  -- it hears this word
  abbrev pub HearsWord : Said → Connection R → Progress J → Connection R → Progress J → Type 0
  HearsWord w c u c' u' = (st : Stage) (ds : List Deed) (a : Asks J) (rest : List (RunAct J)) (did : Performed J (Both I)) (m : Move J (Both I))
      → Toward v (taking st (Say w ∷ ds) a (made.Say w ∷ rest)) did c u (says (service v) now w m) → Toward v (taking (stage_after w st) ds a rest) did c' u' m

  -- where a call went on, what is there is settled; so its turn comes to its end
  abbrev pub SettlesOn : Result Bool AllocError → Connection R → Progress J → Connection R → Progress J → Type 0
  SettlesOn went c u c' u' = (on : Bool) × (went ≡ Ok on) × ((did : Performed J (Both I)) → Went v on did c u (settle (service v) now) → Came v did c' u')

  -- ---- an answer from the outside

  -- its turn begins with this answer, and comes to its end: the run is given it once the sockets are as the answer has them, and what is there is settled
  abbrev pub IsGiven : Answer → Performed J (Both I) → Connection R → Progress J → Type 0
  IsGiven given did c u = (d : Connection R) → TookIn given c d → Answered given did d u (settle (service v) now)

  abbrev pub MayTakeAnswer : Answer → Connection R → Progress J → Type 0
  MayTakeAnswer given c u = (did : Performed J (Both I)) × IsGiven given did c u

  abbrev pub TakesAnswer : Answer → Connection R → Progress J → Connection R → Progress J → Type 0
  TakesAnswer given c u c' u' = (did : Performed J (Both I)) → IsGiven given did c u → Came v did c' u'
