-- What comes next: one action alone, or what the world is asked.
use Rattle.std.specs.Prelude.{◌≡◌, ℕ, Bool, true, false, List, [], ◌∷◌, length, Option, Some, None, if◌then◌else◌}
use Rattle.resty_base.specs.declared.names.StrandId.{StrandId}
use Rattle.resty_base.specs.declared.names.StrandId.TheVariants as strand
use Rattle.strand_contract.specs.declared.turns.Place.{Place}
use Rattle.strand_contract.specs.declared.turns.Act.{Act}
use Rattle.strand_contract.specs.declared.turns.Act.TheVariants as act
use Rattle.shared_rules.specs.Dictionary.{dict}
use Rattle.shared_rules.specs.Pool.{take_answer, crowded_out, last_idle}
use Rattle.shared_rules.specs.Timers.{timer_answer}
use Rattle.strand_contract.specs.declared.turns.Start.TheVariants as start
use Rattle.strand_contract.specs.Actions.{Began, Put, Later, Lost, Close, Log, Dict, Take, Dial, Keep, Timer, Dropped, Run, Offer, Due, Halted, Gone}
use Rattle.strand_contract.specs.Actions.{LocalAction}
use Rattle.strand_contract.specs.Behaviors.{Behavior}
use Rattle.strand_contract.specs.Alone.{lives, todo, offering, open_places}
use Rattle.executions.specs.Executions.{GlobalAction, Of, IdleClosed, projection, has_given, present, has_stopped}
use Rattle.executions.specs.Counts.{accepted}
use Rattle.executions.specs.Phases.{Phase, Waking, Stopping, Running, phase}
use Rattle.executions.specs.Queues.{run_queue, offer_queue}
use Rattle.executions.specs.Sockets.{pool}
use Rattle.executions.specs.Zones.{zone}
use Rattle.executions.specs.Agenda.{Whose, OfStrand, OfJob, OfIdle, next_due}
use Rattle.executions.specs.Jobs.{pending, job_of, next_job}
use Rattle.executions.specs.Strands.{under_way, next_to_stop, next_to_wind_up}
use Rattle.executions.specs.Ordered.{offers_last}
use Rattle.executions.specs.Plain.{taken_number, taken_uses}

pub data Next (J : Type 0) : Type 0 where
  -- this action, and no other
  Does : (m : GlobalAction J) → Next J
  -- the world is asked to write, to log, to dial; or for an event
  Writes : (s : StrandId) (q : Place) → Next J
  Logs : (s : StrandId) (line : List ℕ) → Next J
  Dials : (s : StrandId) (host : List ℕ) (port : ℕ) → Next J
  Asks : Next J

-- the next act of a strand
abbrev pub act_of : {J : Type 0} → Behavior J → StrandId → List (GlobalAction J) → Act J → Next J
act_of b s ms (act.HangUp q) = Does (Of s (Close q) None)
act_of b s ms (act.Log line) = Logs s line
act_of b s ms (act.Dict z call) = Does (Of s (Dict z call (dict (b.zone_size z) call (present ms) (zone b z ms)).0) None)
act_of b s ms (act.Take key) = Does (Of s (Take key (taken_uses (take_answer key (pool ms)))) (taken_number (take_answer key (pool ms))))
act_of b s ms (act.Dial host port) = Dials s host port
act_of b s ms (act.Keep k key idle size) = Does (Of s (Keep k key idle size) (crowded_out key size (pool ms)))
act_of b s ms (act.Timer at job) = Does (Of s (Timer at (timer_answer (has_stopped ms) (length (pending b ms)) (accepted ms))) None)
act_of b s ms (act.Gone) = Does (Of s Gone None)
act_of b s ms other = Asks

-- its turn goes on: acts come before the offer, and one that was dropped closes what is open
abbrev pub offers_on : {J : Type 0} → StrandId → Option Place → Next J
offers_on s None = Asks
offers_on s (Some q) = Writes s q

abbrev pub acts_on : {J : Type 0} → Behavior J → StrandId → List (GlobalAction J) → List (Act J) → Option Place → Next J
acts_on b s ms [] place = offers_on s place
acts_on b s ms (a ∷ acts) place = act_of b s ms a

abbrev pub closes_on : {J : Type 0} → StrandId → List Place → Next J
closes_on s [] = Asks
closes_on s (q ∷ qs) = Does (Of s (Close q) None)

abbrev pub goes_on : {J : Type 0} → Behavior J → StrandId → List (GlobalAction J) → List (LocalAction J) → Next J
goes_on b s ms es = if lives es then acts_on b s ms (todo b es) (offering b es) else closes_on s (open_places es)

-- a job starts
abbrev pub starts_as : {J : Type 0} → ℕ → List (GlobalAction J) → Option J → Next J
starts_as j ms None = Asks
starts_as j ms (Some job) = Does (Of (strand.Job j) (Began (present ms) (start.Job j (has_stopped ms) job)) None)

abbrev pub starts : {J : Type 0} → Behavior J → ℕ → List (GlobalAction J) → Next J
starts b j ms = starts_as j ms (job_of j (pending b ms))

-- the turns in line: threads run until none is left, then all places are offered, and so on
abbrev pub winds_up : {J : Type 0} → Option StrandId → Next J
winds_up None = Asks
winds_up (Some s) = Does (Of s Halted None)

abbrev pub runs_else : {J : Type 0} → List (StrandId × ℕ) → Next J → Next J
runs_else [] other = other
runs_else (e ∷ l) other = Does (Of e.0 (Run e.1) None)

abbrev pub offers_else : {J : Type 0} → List (StrandId × Place) → Next J → Next J
offers_else [] other = other
offers_else (e ∷ l) other = Does (Of e.0 (Offer e.1) None)

abbrev pub in_line : {J : Type 0} → Bool → List (StrandId × ℕ) → List (StrandId × Place) → Next J → Next J
in_line true threads places other = offers_else places (runs_else threads other)
in_line false threads places other = runs_else threads (offers_else places other)

abbrev pub turns : {J : Type 0} → Behavior J → List (GlobalAction J) → Next J
turns b ms = in_line (offers_last ms) (run_queue b ms) (offer_queue b ms) (winds_up (next_to_wind_up ms))

-- what comes by itself at a moment, and at Stop
abbrev pub due_else : {J : Type 0} → Behavior J → List (GlobalAction J) → Option Whose → Next J → Next J
due_else b ms None other = other
due_else b ms (Some (OfStrand s k)) other = Does (Of s (Due k) None)
due_else b ms (Some (OfJob j)) other = starts b j ms
due_else b ms (Some (OfIdle n)) other = Does (IdleClosed n)

abbrev pub job_else : {J : Type 0} → Behavior J → List (GlobalAction J) → Option ℕ → Next J → Next J
job_else b ms None other = other
job_else b ms (Some j) other = starts b j ms

abbrev pub closes_else : {J : Type 0} → Option ℕ → Next J → Next J
closes_else None other = other
closes_else (Some n) other = Does (IdleClosed n)

abbrev pub ends_else : {J : Type 0} → Option StrandId → Next J → Next J
ends_else None other = other
ends_else (Some s) other = Does (Of s Halted None)

abbrev pub next_in : {J : Type 0} → Phase → Behavior J → List (GlobalAction J) → Next J
next_in Waking b ms = due_else b ms (next_due b ms) (turns b ms)
next_in Stopping b ms = ends_else (next_to_stop ms) (closes_else (last_idle (pool ms)) (job_else b ms (next_job b ms) (turns b ms)))
next_in Running b ms = turns b ms

abbrev pub next_for : {J : Type 0} → Behavior J → Option StrandId → List (GlobalAction J) → Next J
next_for b None ms = next_in (phase ms) b ms
next_for b (Some s) ms = goes_on b s ms (projection s ms)

-- what comes next
abbrev pub next : {J : Type 0} → Behavior J → List (GlobalAction J) → Next J
next b ms = next_for b (under_way b ms) ms

-- the action is of that kind; a strand may be dropped in place of any
abbrev pub IsAnswer : {J : Type 0} → GlobalAction J → Next J → Type 0
IsAnswer m (Does x) = m ≡ x
IsAnswer m Asks = has_given m ≡ true
IsAnswer (Of t (Put p bytes) n) (Writes s q) = (t ≡ s) × (p ≡ q)
IsAnswer (Of t (Later p) n) (Writes s q) = (t ≡ s) × (p ≡ q)
IsAnswer (Of t (Lost p) n) (Writes s q) = (t ≡ s) × (p ≡ q)
IsAnswer (Of t (Log text done) n) (Logs s line) = (t ≡ s) × (text ≡ line)
IsAnswer (Of t (Dial h p done) n) (Dials s host port) = (t ≡ s) × (h ≡ host) × (p ≡ port)
IsAnswer m x = ⊥

abbrev pub is_drop : {J : Type 0} → GlobalAction J → Bool
is_drop (Of s Dropped n) = true
is_drop m = false
