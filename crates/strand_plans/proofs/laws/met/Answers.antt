use Rattle.strand_plans.proofs.PlanLaws.{asks-fit, hangs-up-open, leaves-nothing-open, keeps, wakes-quietly, ends-at-stop}
use Rattle.strand_plans.proofs.laws.met.Goals as goal

pub returns-clause-asks_fit : goal.returns-clause-asks_fit
returns-clause-asks_fit g c = asks-fit g.P.Planned.plan g.P.Planned.holds g.P.Planned.may_ask g.P.Planned.meets

pub returns-clause-hangs_up_open : goal.returns-clause-hangs_up_open
returns-clause-hangs_up_open g c = hangs-up-open g.P.Planned.plan g.P.Planned.holds g.P.Planned.may_ask g.P.Planned.meets

pub returns-clause-leaves_nothing_open : goal.returns-clause-leaves_nothing_open
returns-clause-leaves_nothing_open g c = leaves-nothing-open g.P.Planned.plan g.P.Planned.holds g.P.Planned.may_ask g.P.Planned.meets

pub returns-clause-keeps : goal.returns-clause-keeps
returns-clause-keeps g c = keeps g.P.Planned.plan g.P.Planned.holds g.P.Planned.may_ask g.P.Planned.meets

pub returns-clause-wakes_quietly : goal.returns-clause-wakes_quietly
returns-clause-wakes_quietly g c = wakes-quietly g.P.Planned.plan g.P.Planned.holds g.P.Planned.may_ask g.P.Planned.meets

pub returns-clause-ends_at_stop : goal.returns-clause-ends_at_stop
returns-clause-ends_at_stop g c = ends-at-stop g.P.Planned.plan g.P.Planned.holds g.P.Planned.may_ask g.P.Planned.meets
