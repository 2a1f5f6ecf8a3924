-- The order of the turns of all strands.
use Rattle.std.specs.Prelude.{◌≡◌, ◌⊎◌, ℕ, Bool, true, false, not, ◌||◌, ◌&&◌, List, [], ◌∷◌, Some, None}
use Rattle.resty_base.specs.declared.names.StrandId.{StrandId}
use Rattle.resty_base.specs.declared.names.StrandId.TheVariants as strand
use Rattle.resty_world.specs.Ids.{same_strand}
use Rattle.strand_contract.specs.declared.turns.Place.{Place}
use Rattle.shared_rules.specs.Pool.{last_idle}
use Rattle.strand_contract.specs.declared.turns.Start.TheVariants as start
use Rattle.strand_contract.specs.Actions.{Action, Began, Run, Offer, Due, Halted, Dropped, is_event, is_given}
use Rattle.strand_contract.specs.Behaviors.{Behavior}
use Rattle.strand_contract.specs.Alone.{lives}
use Rattle.executions.specs.Executions.{GlobalAction, Of, IdleClosed, projection, has_given, Throughout}
use Rattle.executions.specs.Phases.{Phase, Waking, Stopping, Running, phase}
use Rattle.executions.specs.Queues.{run_queue, offer_queue}
use Rattle.executions.specs.Sockets.{pool}
use Rattle.executions.specs.Agenda.{OfStrand, OfJob, OfIdle, next_due}
use Rattle.executions.specs.Jobs.{pending, next_job}
use Rattle.executions.specs.Strands.{NoneUnderWay, next_to_stop, next_to_wind_up, under_way}

-- all that the phase brings about by itself has come: what is due; or the endings, closings and starts at Stop
abbrev pub HasSettledIn : {J : Type 0} → Phase → Behavior J → List (GlobalAction J) → Type 0
HasSettledIn Waking b ms = next_due b ms ≡ None
HasSettledIn Stopping b ms = (next_to_stop ms ≡ None) × (pool ms ≡ []) × (pending b ms ≡ [])
HasSettledIn Running b ms = Unit {0}

-- all that a moment, or Stop, brings about by itself has come
abbrev pub HasSettled : {J : Type 0} → Behavior J → List (GlobalAction J) → Type 0
HasSettled b ms = HasSettledIn (phase ms) b ms

-- nothing is in line, and nothing is to come by itself
pub record NothingWaits {J : Type 0} (b : Behavior J) (ms : List (GlobalAction J)) : Type 0 where
  pub settled : HasSettled b ms
  pub no_thread : run_queue b ms ≡ []
  pub no_place : offer_queue b ms ≡ []

-- an action that begins a turn is an offer or isn't
abbrev pub offers_at : {J : Type 0} → Action J → Bool → Bool
offers_at (Offer q) last = true
offers_at (Run k) last = false
offers_at x last = not (is_event x) && last

abbrev pub offers_by : {J : Type 0} → GlobalAction J → Bool → Bool
offers_by (Of s x n) last = offers_at x last
offers_by m last = false

-- the newest turn of all is an offer
abbrev pub offers_last : {J : Type 0} → List (GlobalAction J) → Bool
offers_last [] = false
offers_last (m ∷ ms) = offers_by m (offers_last ms)

-- a strand's own action touches it, and a given event touches no other
abbrev pub touches : {J : Type 0} → StrandId → GlobalAction J → Bool → Bool
touches s (Of t x n) touched = same_strand s t || (not (is_given x) && touched)
touches s m touched = not (has_given m) && touched

-- the strand had a part in what the newest given event began
abbrev pub was_touched : {J : Type 0} → StrandId → List (GlobalAction J) → Bool
was_touched s [] = false
was_touched s (m ∷ ms) = touches s m (was_touched s ms)

-- an idle socket is closed at the moment at which it expires, or at Stop once no strand is left to be ended, the last of the pool first
abbrev pub MayCloseIn : {J : Type 0} → Phase → Behavior J → ℕ → List (GlobalAction J) → Type 0
MayCloseIn Waking b n ms = next_due b ms ≡ Some (OfIdle n)
MayCloseIn Stopping b n ms = (next_to_stop ms ≡ None) × (last_idle (pool ms) ≡ Some n)
MayCloseIn Running b n ms = ⊥

-- and no turn is under way
abbrev pub MayClose : {J : Type 0} → Behavior J → ℕ → List (GlobalAction J) → Type 0
MayClose b n ms = NoneUnderWay b ms × MayCloseIn (phase ms) b n ms

-- a job starts at the moment at which it is due, or at Stop once no idle socket is left either, by the moment at which it is due
abbrev pub MayStartIn : {J : Type 0} → Phase → Behavior J → ℕ → List (GlobalAction J) → Type 0
MayStartIn Waking b j ms = next_due b ms ≡ Some (OfJob j)
MayStartIn Stopping b j ms = (next_to_stop ms ≡ None) × (pool ms ≡ []) × (next_job b ms ≡ Some j)
MayStartIn Running b j ms = ⊥

-- and no turn is under way
abbrev pub MayStart : {J : Type 0} → Behavior J → ℕ → List (GlobalAction J) → Type 0
MayStart b j ms = NoneUnderWay b ms × MayStartIn (phase ms) b j ms

-- the thread is the first in line; after offers it runs only where no place is left in line
abbrev pub MayRun : {J : Type 0} → Behavior J → StrandId → ℕ → List (GlobalAction J) → Type 0
MayRun b s k ms =
    NoneUnderWay b ms × HasSettled b ms × (offers_last ms ≡ true → offer_queue b ms ≡ [])
    × ((rest : List (StrandId × ℕ)) × (run_queue b ms ≡ (s, k) ∷ rest))

-- the place is the first in line; after runs and events it is offered only where no thread is left in line
abbrev pub MayOffer : {J : Type 0} → Behavior J → StrandId → Place → List (GlobalAction J) → Type 0
MayOffer b s q ms =
    NoneUnderWay b ms × HasSettled b ms × (offers_last ms ≡ false → run_queue b ms ≡ [])
    × ((rest : List (StrandId × Place)) × (offer_queue b ms ≡ (s, q) ∷ rest))

-- the deadline is the next that is due at the moment
abbrev pub MayBeDue : {J : Type 0} → Behavior J → StrandId → ℕ → List (GlobalAction J) → Type 0
MayBeDue b s k ms = NoneUnderWay b ms × (phase ms ≡ Waking) × (next_due b ms ≡ Some (OfStrand s k))

-- Stop ends strands in the order of their beginning, and at last, when nothing waits, the jobs that began after it
abbrev pub MayEnd : {J : Type 0} → Behavior J → StrandId → List (GlobalAction J) → Type 0
MayEnd b s ms = NoneUnderWay b ms × (((phase ms ≡ Stopping) × (next_to_stop ms ≡ Some s)) ⊎ (NothingWaits b ms × (next_to_wind_up ms ≡ Some s)))

-- a strand that lives is dropped at an event of its own, and while no turn of another is under way; a job also in the place of its start
abbrev pub MayDropLiving : {J : Type 0} → Bool → Behavior J → StrandId → List (GlobalAction J) → Type 0
MayDropLiving true b s ms = ((under_way b ms ≡ None) ⊎ (under_way b ms ≡ Some s)) × (was_touched s ms ≡ true)
MayDropLiving false b (strand.Job j) ms = MayStart b j ms
MayDropLiving false b (strand.Conn c) ms = ⊥

-- the strand may be dropped
abbrev pub MayDrop : {J : Type 0} → Behavior J → StrandId → List (GlobalAction J) → Type 0
MayDrop b s ms = MayDropLiving (lives (projection s ms)) b s ms

-- an action of a strand that begins a turn is the one that is next
abbrev pub MayTurnAt : {J : Type 0} → Behavior J → StrandId → Action J → List (GlobalAction J) → Type 0
MayTurnAt b s (Run k) ms = MayRun b s k ms
MayTurnAt b s (Offer q) ms = MayOffer b s q ms
MayTurnAt b s (Due k) ms = MayBeDue b s k ms
MayTurnAt b s (Began now (start.Job j premature job)) ms = MayStart b j ms
MayTurnAt b s Halted ms = MayEnd b s ms
MayTurnAt b s Dropped ms = MayDrop b s ms
MayTurnAt b s x ms = Unit {0}

-- and so is the closing of an idle socket
abbrev pub MayTurn : {J : Type 0} → Behavior J → GlobalAction J → List (GlobalAction J) → Type 0
MayTurn b (Of s x n) ms = MayTurnAt b s x ms
MayTurn b (IdleClosed n) ms = MayClose b n ms
MayTurn b m ms = Unit {0}

-- turns don't interleave, and each is the one that is next
abbrev pub IsOrdered : {J : Type 0} → Behavior J → List (GlobalAction J) → Type 0
IsOrdered b ms = Throughout (MayTurn b) ms
