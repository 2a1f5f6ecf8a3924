use Rattle.connection_plan.specs.Timers as timer
use Rattle.connection_plan.specs.Turns.{begin_timer}
use Rattle.connection_strand.specs.Views.{view_of, service}
use Rattle.connection_strand.proofs.Costing.{spends-after}
use Rattle.connection_strand.proofs.Ends.{ok-map, of-ok}
use Rattle.connection_strand.proofs.state.Connection.wait_more.Goals as goal

pub returns-clause-moves : goal.returns-clause-moves
returns-clause-moves g c =
    let site = c.args.site.now in
    let v = view_of (g.R.RunContract.meaning site) (g.R.ServiceContract.serving site) in
    ok-map c.both.result _ _ (λ done x. λ e did m h.
    of-ok c.begin_timer.result done _ x.1 c.begin_timer.ensures.moves e did m (of-ok c.let_send-sent.result tt _ x.0 c.let_send-sent.ensures.moves e did (begin_timer (service v) c.args.turn.now.moment.0 timer.Body m) h)) c.both.ensures

pub returns-clause-costs : goal.returns-clause-costs
returns-clause-costs g c =
    ok-map c.both.result _ _ (λ done x.
    spends-after g.R.RunContract.left g.R.ServiceContract.bound 401 5 c.args.self.now c.let_send-sent.new.self c.begin_timer.new.self c.args.progress.now c.let_send-sent.new.progress c.begin_timer.new.progress
    (of-ok c.let_send-sent.result tt _ x.0 c.let_send-sent.ensures.costs) (of-ok c.begin_timer.result done _ x.1 c.begin_timer.ensures.costs)) c.both.ensures
