use Rattle.std.proofs.Common.{refl, ap, ◌∙◌, ◌++◌, ◌∷◌, []}
use Rattle.strand_contract.specs.declared.turns.Act.TheVariants as act
use Rattle.connection_plan.specs.Timers.{time_of}
use Rattle.connection_strand.specs.Kept.{timer_of}
use Rattle.connection_plan.specs.Serving.{times}
use Rattle.connection_strand.proofs.Ends.{ok-map}
use Rattle.connection_strand.proofs.Moving.{begins}
use Rattle.connection_strand.proofs.Costing.{begins-costs}
use Rattle.connection_strand.specs.Views.{view_of}
use Rattle.connection_strand.proofs.state.Connection.begin_timer.Goals as goal

pub returns-clause-moves : goal.returns-clause-moves
returns-clause-moves g c =
    let site = c.args.site.now in
    let v = view_of (g.R.RunContract.meaning site) (g.R.ServiceContract.serving site) in
    let met = g.met.R.RunContract in
    ok-map c.put.result _ _ (λ done acts. λ e did m h. begins v (met.meets site) (met.apart site)
    c.args.turn.now.moment.0 (timer_of c.args.timer) e did c.args.self.now _ c.args.progress.now _ m c.time-time.result.0
    (record { run = refl; waits = refl; sockets = refl; count = refl; keeping = refl; taking = refl }) c.set_armed.ensures refl
    (c.time-time.ensures ∙ ap (λ x. time_of x (times c.args.self.now.client.times) (timer_of c.args.timer)) c.default_times.ensures)
    (acts ∙ (λ i. c.args.progress.now.acts.items ++ act.Arm (c.number.ensures i) (c.later.ensures i) ∷ [])) h) c.put.ensures

pub returns-clause-costs : goal.returns-clause-costs
returns-clause-costs g c =
    ok-map c.put.result _ _ (λ done acts. begins-costs g.R.RunContract.left g.R.ServiceContract.bound (timer_of c.args.timer) c.args.self.now (record c.args.self.now { client = c.set_armed.new.self }) c.args.progress.now
    (record { acts = c.put.new.acts; is_offered = c.args.progress.now.is_offered }) _ c.set_armed.ensures refl refl acts) c.put.ensures
