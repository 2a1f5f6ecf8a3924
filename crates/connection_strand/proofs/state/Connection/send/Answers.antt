use Rattle.std.proofs.Common.{refl, ap}
use Rattle.client_line.specs.Records.{Connection as Line}
use Rattle.connection_strand.specs.Kept.{kept}
use Rattle.connection_strand.proofs.Ends.{ok-map, of-ok}
use Rattle.connection_strand.proofs.Offering.{queues-more, queues-not}
use Rattle.connection_strand.specs.Views.{view_of}
use Rattle.connection_strand.proofs.Costing.{queues-costs, spends-none}
use Rattle.std.proofs.Common.{length, ◌*◌, ◌+◌}
use Rattle.connection_strand.proofs.state.Connection.send.Goals as goal

pub returns-clause-moves : goal.returns-clause-moves
returns-clause-moves g c =
    let site = c.args.site.now in
    let v = view_of (g.R.RunContract.meaning site) (g.R.ServiceContract.serving site) in
    let met = g.met.R.RunContract in
    ok-map c.both.result _ _ (λ done x. λ e did m h. of-ok c.ask_for_offer.result done _ x.1 c.ask_for_offer.ensures.moves e did m (queues-more v (met.meets site) (met.apart site)
    e did c.args.self.now _ c.args.progress.now c.args.bytes.now m (record { run = refl; waits = refl; sockets = refl; count = refl; keeping = refl; taking = refl }) c.if-not-self.false
    (ap (λ (l : Line). kept (record c.args.self.now.client { line = l })) (of-ok c.queue-queued.result tt _ x.0 c.queue-queued.ensures.done)) h)) c.both.ensures

pub returns-then-not-self-clause-moves : goal.returns-then-not-self-clause-moves
returns-then-not-self-clause-moves g c = λ e did m h.
    let site = c.args.site.now in
    let v = view_of (g.R.RunContract.meaning site) (g.R.ServiceContract.serving site) in
    let met = g.met.R.RunContract in
    queues-not v (met.meets site) (met.apart site)
    e did c.args.self.now c.args.progress.now c.args.bytes.now m c.if-not-self.true h

pub returns-clause-costs : goal.returns-clause-costs
returns-clause-costs g c =
    let now = record c.args.self.now { client = record c.args.self.now.client { line = c.queue-queued.new.self } } in
    ok-map c.both.result _ _ (λ done x. queues-costs g.R.RunContract.left g.R.ServiceContract.bound c.args.bytes.now c.args.self.now now c.ask_for_offer.new.self c.args.progress.now c.ask_for_offer.new.progress
    (ap (λ (l : Line). kept (record c.args.self.now.client { line = l })) (of-ok c.queue-queued.result tt _ x.0 c.queue-queued.ensures.done)) refl refl
    (of-ok c.ask_for_offer.result done _ x.1 c.ask_for_offer.ensures.costs)) c.both.ensures

pub returns-then-not-self-clause-costs : goal.returns-then-not-self-clause-costs
returns-then-not-self-clause-costs g c = spends-none g.R.RunContract.left g.R.ServiceContract.bound (16 * length c.args.bytes.now + 1) c.args.self.now c.args.progress.now
