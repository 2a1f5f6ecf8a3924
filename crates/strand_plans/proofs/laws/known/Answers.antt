use Rattle.strand_plans.proofs.Executions.{agrees, comes}
use Rattle.strand_plans.proofs.PlanLaws.{is-opened, may-be-asked}
use Rattle.strand_plans.proofs.Tidy.{tidy}
use Rattle.strand_plans.proofs.laws.known.Goals as goal

pub returns-clause-comes : goal.returns-clause-comes
returns-clause-comes g c = λ a es f d. comes g.P.Planned.plan g.P.Planned.holds g.P.Planned.may_ask g.P.Planned.meets a es (agrees g.P.Planned.plan g.P.Planned.holds g.P.Planned.may_ask g.P.Planned.meets es f.0 d) f.1

pub returns-clause-holds : goal.returns-clause-holds
returns-clause-holds g c = λ es f d. (agrees g.P.Planned.plan g.P.Planned.holds g.P.Planned.may_ask g.P.Planned.meets es f d).inner

pub returns-clause-tidy : goal.returns-clause-tidy
returns-clause-tidy g c = tidy g.P.Planned.plan g.P.Planned.holds g.P.Planned.may_ask g.P.Planned.meets

pub returns-clause-opened : goal.returns-clause-opened
returns-clause-opened g c = is-opened g.P.Planned.plan g.P.Planned.holds g.P.Planned.may_ask g.P.Planned.meets

pub returns-clause-asked : goal.returns-clause-asked
returns-clause-asked g c = may-be-asked g.P.Planned.plan g.P.Planned.holds g.P.Planned.may_ask g.P.Planned.meets
