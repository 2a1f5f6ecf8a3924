use Rattle.std.proofs.Common.{Bool, ◌++◌, refl, ap, ◌∙◌, if◌then◌else◌, false}
use Rattle.send_queue.specs.Queues as queues
use Rattle.connection_plan.specs.Timers as timer
use Rattle.connection_plan.specs.Turns.{end_timer}
use Rattle.connection_strand.specs.declared.state.Connection.{Connection}
use Rattle.connection_strand.specs.declared.state.Progress.{Progress}
use Rattle.connection_strand.specs.Kept.{kept}
use Rattle.connection_strand.specs.Views.{view_of, service}
use Rattle.connection_strand.proofs.Costing.{one-longer, spends-after}
use Rattle.connection_strand.proofs.Ends.{ok-map, of-ok}
use Rattle.connection_strand.proofs.Falling.{hung-pays, hung-spends, pays-on}
use Rattle.connection_strand.proofs.Losing.{client_act, hangs-up-if}
use Rattle.connection_strand.proofs.state.Connection.let_client_go.Goals as goal

pub returns-clause-moves : goal.returns-clause-moves
returns-clause-moves g c =
    let site = c.args.site.now in
    let v = view_of (g.R.RunContract.meaning site) (g.R.ServiceContract.serving site) in
    let met = g.met.R.RunContract in
    let old = c.args.self.now in
    ok-map c.both-2.result _ _ (λ done x. λ e did m h.
    let y = of-ok c.both.result done _ x.1 c.both.ensures in
    of-ok c.end_timer-send.result done _ y.1 c.end_timer-send.ensures.moves e did m
    (of-ok c.end_timer-body.result tt _ y.0 c.end_timer-body.ensures.moves e did (end_timer (service v) 0 timer.Send m)
    (hangs-up-if v (met.meets site) (met.apart site) old.client.is_open e did old _ c.args.progress.now _ (end_timer (service v) 0 timer.Body (end_timer (service v) 0 timer.Send m))
    (record { run = refl; waits = refl; sockets = refl; count = refl; keeping = refl; taking = refl }) refl c.hang_up.ensures refl
    (of-ok c.put_if-client.result tt _ x.0 c.put_if-client.ensures) h))) c.both-2.ensures

pub returns-clause-costs : goal.returns-clause-costs
returns-clause-costs g c =
    let old = c.args.self.now in
    let d : Connection g.row.R.Denot = record old { client = c.hang_up.new.self } in
    let w : Progress g.row.R-Job.Denot = record { acts = c.put_if-client.new.acts; is_offered = c.args.progress.now.is_offered } in
    ok-map c.both-2.result _ _ (λ done x.
    let y = of-ok c.both.result done _ x.1 c.both.ensures in
    spends-after g.R.RunContract.left g.R.ServiceContract.bound 0 0 old c.end_timer-body.new.self c.end_timer-send.new.self c.args.progress.now c.end_timer-body.new.progress c.end_timer-send.new.progress
    (spends-after g.R.RunContract.left g.R.ServiceContract.bound 0 0 old d c.end_timer-body.new.self c.args.progress.now w c.end_timer-body.new.progress
    (hung-spends g.R.RunContract.left g.R.ServiceContract.bound old.client.is_open old d c.args.progress.now w refl refl refl c.hang_up.ensures
    (of-ok c.put_if-client.result tt _ x.0 c.put_if-client.ensures)) (of-ok c.end_timer-body.result tt _ y.0 c.end_timer-body.ensures.costs))
    (of-ok c.end_timer-send.result done _ y.1 c.end_timer-send.ensures.costs)) c.both-2.ensures

pub returns-clause-pays : goal.returns-clause-pays
returns-clause-pays g c there =
    let old = c.args.self.now in
    let k = kept old.client in
    let d : Connection g.row.R.Denot = record old { client = c.hang_up.new.self } in
    let w : Progress g.row.R-Job.Denot = record { acts = c.put_if-client.new.acts; is_offered = c.args.progress.now.is_offered } in
    ok-map c.both-2.result _ _ (λ done x.
    let y = of-ok c.both.result done _ x.1 c.both.ensures in
    pays-on g.R.RunContract.left g.R.ServiceContract.bound old d c.end_timer-body.new.self c.end_timer-send.new.self c.args.progress.now w c.end_timer-body.new.progress c.end_timer-send.new.progress
    (hung-pays g.R.RunContract.left g.R.ServiceContract.bound old d c.args.progress.now w there refl refl
    (c.hang_up.ensures ∙ ap (λ (o : Bool). if o then record k { opened = false; sending = queues.dropped k.sending } else k) there)
    (one-longer c.args.progress.now.acts.items w.acts.items _ (of-ok c.put_if-client.result tt _ x.0 c.put_if-client.ensures ∙ ap (λ (o : Bool). c.args.progress.now.acts.items ++ client_act o) there)))
    (of-ok c.end_timer-body.result tt _ y.0 c.end_timer-body.ensures.costs) (of-ok c.end_timer-send.result done _ y.1 c.end_timer-send.ensures.costs)) c.both-2.ensures
