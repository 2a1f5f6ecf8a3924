use Rattle.std.proofs.Common.{sym, ap, ◌∙◌, inl, inr}
use Rattle.connection_strand.specs.Kept.{kept, stage_waiting, timer_waiting}
use Rattle.connection_strand.proofs.client.Client.wait.Goals as goal

pub returns-in-Body-clause-stage : goal.returns-in-Body-clause-stage
returns-in-Body-clause-stage c = ap (λ x. record (kept c.args.self.now) { stage = stage_waiting x }) (sym c.in-Body.is ∙ c.held.ensures)

pub returns-in-Body-clause-timer : goal.returns-in-Body-clause-timer
returns-in-Body-clause-timer c = ap timer_waiting (sym c.in-Body.is ∙ c.held.ensures)

pub returns-in-Nothing-clause-stage : goal.returns-in-Nothing-clause-stage
returns-in-Nothing-clause-stage c = ap (λ x. record (kept c.args.self.now) { stage = stage_waiting x }) (sym c.in-Nothing.is ∙ c.held.ensures)

pub returns-in-Nothing-clause-timer : goal.returns-in-Nothing-clause-timer
returns-in-Nothing-clause-timer c = ap timer_waiting (sym c.in-Nothing.is ∙ c.held.ensures)

pub returns-in-Request-clause-stage : goal.returns-in-Request-clause-stage
returns-in-Request-clause-stage c = elim c.in-Request.is [
  | inl e ↦ ap (λ x. record (kept c.args.self.now) { stage = stage_waiting x }) (sym e ∙ c.held.ensures)
  | inr e ↦ ap (λ x. record (kept c.args.self.now) { stage = stage_waiting x }) (sym e ∙ c.held.ensures)
]

pub returns-in-Request-clause-timer : goal.returns-in-Request-clause-timer
returns-in-Request-clause-timer c = elim c.in-Request.is [
  | inl e ↦ ap timer_waiting (sym e ∙ c.held.ensures)
  | inr e ↦ ap timer_waiting (sym e ∙ c.held.ensures)
]
