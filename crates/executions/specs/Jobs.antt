-- The timer jobs that were accepted and haven't started.
use Rattle.std.specs.Prelude.{ℕ, ◌==◌, nat_le, List, [], ◌∷◌, ◌++◌, Option, Some, None, if◌then◌else◌}
use Rattle.resty_base.specs.declared.names.Ms.{Ms}
use Rattle.resty_base.specs.declared.names.StrandId.{StrandId}
use Rattle.resty_base.specs.declared.names.StrandId.TheVariants as strand
use Rattle.resty_world.specs.declared.answers.TimerAnswer.TheVariants as timer
use Rattle.strand_contract.specs.declared.turns.Act.{Act}
use Rattle.strand_contract.specs.declared.turns.Act.TheVariants as act
use Rattle.strand_contract.specs.Actions.{Action, Began, Timer, Dropped}
use Rattle.strand_contract.specs.Behaviors.{Behavior}
use Rattle.strand_contract.specs.Alone.{todo}
use Rattle.executions.specs.Executions.{GlobalAction, Of, projection}

-- a job that was accepted and hasn't started: its number, when it is due, and what it starts with
pub record Pending (J : Type 0) : Type 0 where
  pub number : ℕ
  pub due : ℕ
  pub job : J

-- pending jobs without that of a number
abbrev pub without_job : {J : Type 0} → ℕ → List (Pending J) → List (Pending J)
without_job j [] = []
without_job j (p ∷ ps) = if j == p.number then ps else p ∷ without_job j ps

-- the job that the act asks for, by the number that it got
abbrev pub asked_for : {J : Type 0} → ℕ → Ms → List (Act J) → List (Pending J)
asked_for j at (act.Timer due job ∷ acts) = record { number = j; due = at.0; job = job } ∷ []
asked_for j at acts = []

-- a timer call that is accepted adds its job, which leaves as it begins or is dropped in the place of its start
abbrev pub pending_at : {J : Type 0} → StrandId → Action J → List (Act J) → List (Pending J) → List (Pending J)
pending_at s (Timer at (timer.Job j)) acts ps = ps ++ asked_for j at acts
pending_at (strand.Job j) (Began now how) acts ps = without_job j ps
pending_at (strand.Job j) Dropped acts ps = without_job j ps
pending_at s x acts ps = ps

-- the same of any action
abbrev pub pending_by : {J : Type 0} → Behavior J → GlobalAction J → List (GlobalAction J) → List (Pending J) → List (Pending J)
pending_by b (Of s x n) ms ps = pending_at s x (todo b (projection s ms)) ps
pending_by b m ms ps = ps

-- the pending jobs, in the order of their numbers
abbrev pub pending : {J : Type 0} → Behavior J → List (GlobalAction J) → List (Pending J)
pending b [] = []
pending b (m ∷ ms) = pending_by b m ms (pending b ms)

-- what the pending job of a number starts with
abbrev pub job_of : {J : Type 0} → ℕ → List (Pending J) → Option J
job_of j [] = None
job_of j (p ∷ ps) = if j == p.number then Some p.job else job_of j ps

-- of a job and the earliest of those with higher numbers, the one that is due earlier; among equals the first
abbrev pub earlier : {J : Type 0} → Pending J → Option (Pending J) → Pending J
earlier p None = p
earlier p (Some r) = if nat_le p.due r.due then p else r

-- the job that is due first
abbrev pub earliest : {J : Type 0} → List (Pending J) → Option (Pending J)
earliest [] = None
earliest (p ∷ ps) = Some (earlier p (earliest ps))

-- its number
abbrev pub job_number : {J : Type 0} → Option (Pending J) → Option ℕ
job_number None = None
job_number (Some p) = Some p.number

-- the job that starts next after Stop
abbrev pub next_job : {J : Type 0} → Behavior J → List (GlobalAction J) → Option ℕ
next_job b ms = job_number (earliest (pending b ms))
