-- What the newest event has brought about so far.
use Rattle.std.specs.Prelude.{List, [], ◌∷◌, if◌then◌else◌}
use Rattle.strand_contract.specs.Actions.{Moment, Stop, Action, Run, Offer, is_given}
use Rattle.executions.specs.Executions.{Everyone, GlobalAction, IdleClosed, IdleGave, Of, TurnedAway}

-- what the newest event has brought about so far: it is a moment at which still only what is due has come, Stop at which still only
-- strands have ended, sockets were closed and jobs began, or anything else
pub data Phase : Type 0 where
  Waking : Phase
  Stopping : Phase
  Running : Phase

-- an action of a strand ends the phase where it runs a thread, begins an offer, or is given
abbrev pub phase_at : {J : Type 0} → Action J → Phase → Phase
phase_at (Run k) p = Running
phase_at (Offer q) p = Running
phase_at x p = if is_given x then Running else p

-- an action, and the phase after it
abbrev pub phase_by : {J : Type 0} → GlobalAction J → Phase → Phase
phase_by (Of s x n) p = phase_at x p
phase_by (Everyone (Moment t)) p = Waking
phase_by (Everyone Stop) p = Stopping
phase_by (TurnedAway c) p = Running
phase_by (IdleGave e) p = Running
phase_by (IdleClosed n) p = p

-- the phase of an execution
abbrev pub phase : {J : Type 0} → List (GlobalAction J) → Phase
phase [] = Running
phase (m ∷ ms) = phase_by m (phase ms)
