use Rattle.strand_plans.proofs.PlanLaws.{asks-fit, hangs-up-open, leaves-nothing-open, keeps, wakes-quietly, ends-at-stop}
use Rattle.connection_plan.specs.Connections.{connection_plan}
use Rattle.connection_plan.specs.Conditions.{Knows, MayAsk}
use Rattle.connection_plan.proofs.Meets.{meets}
use Rattle.connection_plan.proofs.laws.connections_are_strands.Goals as goal

pub returns-clause-asks_fit : goal.returns-clause-asks_fit
returns-clause-asks_fit g c =
    let s = g.S.Lawful.service in asks-fit (connection_plan s) (Knows s.runs g.S.Lawful.holds) (MayAsk s) (meets s g.S.Lawful.holds g.S.Lawful.runs)

pub returns-clause-hangs_up_open : goal.returns-clause-hangs_up_open
returns-clause-hangs_up_open g c =
    let s = g.S.Lawful.service in hangs-up-open (connection_plan s) (Knows s.runs g.S.Lawful.holds) (MayAsk s) (meets s g.S.Lawful.holds g.S.Lawful.runs)

pub returns-clause-leaves_nothing_open : goal.returns-clause-leaves_nothing_open
returns-clause-leaves_nothing_open g c =
    let s = g.S.Lawful.service in leaves-nothing-open (connection_plan s) (Knows s.runs g.S.Lawful.holds) (MayAsk s) (meets s g.S.Lawful.holds g.S.Lawful.runs)

pub returns-clause-keeps : goal.returns-clause-keeps
returns-clause-keeps g c =
    let s = g.S.Lawful.service in keeps (connection_plan s) (Knows s.runs g.S.Lawful.holds) (MayAsk s) (meets s g.S.Lawful.holds g.S.Lawful.runs)

pub returns-clause-wakes_quietly : goal.returns-clause-wakes_quietly
returns-clause-wakes_quietly g c =
    let s = g.S.Lawful.service in wakes-quietly (connection_plan s) (Knows s.runs g.S.Lawful.holds) (MayAsk s) (meets s g.S.Lawful.holds g.S.Lawful.runs)

pub returns-clause-ends_at_stop : goal.returns-clause-ends_at_stop
returns-clause-ends_at_stop g c =
    let s = g.S.Lawful.service in ends-at-stop (connection_plan s) (Knows s.runs g.S.Lawful.holds) (MayAsk s) (meets s g.S.Lawful.holds g.S.Lawful.runs)
