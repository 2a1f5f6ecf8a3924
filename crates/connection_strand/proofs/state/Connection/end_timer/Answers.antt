use Rattle.std.proofs.Common.{refl, sym, ap, ◌∙◌, ◌++◌, ◌∷◌, [], if◌then◌else◌}
use Rattle.strand_contract.specs.declared.turns.Act.TheVariants as act
use Rattle.connection_strand.specs.Kept.{timer_of}
use Rattle.connection_strand.specs.Views.{view_of}
use Rattle.connection_strand.proofs.Costing.{ends-costs-if}
use Rattle.connection_strand.proofs.Ends.{ok-map}
use Rattle.connection_strand.proofs.Moving.{ends-if}
use Rattle.connection_strand.proofs.state.Connection.end_timer.Goals as goal

pub returns-clause-moves : goal.returns-clause-moves
returns-clause-moves g c =
    let site = c.args._site.now in
    let v = view_of (g.R.RunContract.meaning site) (g.R.ServiceContract.serving site) in
    let met = g.met.R.RunContract in
    ok-map c.put_if.result _ _ (λ done acts. λ e did m h. ends-if v (met.meets site) (met.apart site)
    c.is_armed-is_armed.result 0 (timer_of c.args.timer) e did c.args.self.now _ c.args.progress.now _ m
    (record { run = refl; waits = refl; sockets = refl; count = refl; keeping = refl; taking = refl })
    (sym c.is_armed-is_armed.ensures) c.set_armed.ensures refl
    (acts ∙ ap (λ n. c.args.progress.now.acts.items ++ (if c.is_armed-is_armed.result then act.Cancel n ∷ [] else [])) c.number.ensures) h) c.put_if.ensures

pub returns-clause-costs : goal.returns-clause-costs
returns-clause-costs g c =
    ok-map c.put_if.result _ _ (λ done acts. ends-costs-if g.R.RunContract.left g.R.ServiceContract.bound c.is_armed-is_armed.result (timer_of c.args.timer) c.args.self.now
    (record c.args.self.now { client = c.set_armed.new.self }) c.args.progress.now (record { acts = c.put_if.new.acts; is_offered = c.args.progress.now.is_offered }) _
    (sym c.is_armed-is_armed.ensures) c.set_armed.ensures refl refl acts) c.put_if.ensures
