use Rattle.std.proofs.Common.{◌*◌, ◌+◌, length, arith, not}
use Rattle.connection_strand.specs.Kept.{kept}
use Rattle.connection_strand.specs.Costs.{unit, units, whole, weight_if}
use Rattle.connection_strand.specs.Views.{view_of}
use Rattle.connection_strand.proofs.Ends.{ok-map, of-ok, closing, closing-costs}
use Rattle.connection_strand.proofs.Falling.{closing-falls}
use Rattle.connection_strand.proofs.Losing.{finishes}
use Rattle.connection_strand.proofs.state.Connection.finish.Goals as goal

pub returns-clause-moves : goal.returns-clause-moves
returns-clause-moves g c =
    let site = c.args._site.now in
    let v = view_of (g.R.RunContract.meaning site) (g.R.ServiceContract.serving site) in
    ok-map c.both-2.result _ _ (λ done x. λ st did h.
    let y = of-ok c.both.result done _ x.1 c.both.ensures in
    finishes v st did c.args.self.now _ c.args.progress.now _ c.put_if-client.new.acts.items c.hang_up_sockets-sockets.new.progress.acts.items
    (of-ok c.put_if-client.result tt _ x.0 c.put_if-client.ensures) (of-ok c.hang_up_sockets-sockets.result tt _ y.0 c.hang_up_sockets-sockets.ensures.acts)
    (of-ok c.put-gone.result done _ y.1 c.put-gone.ensures) h) c.both-2.ensures

pub returns-clause-costs : goal.returns-clause-costs
returns-clause-costs g c =
    let self = c.args.self.now in
    let old = c.args.progress.now.acts.items in
    let others = unit * units g.R.RunContract.left g.R.ServiceContract.bound (kept self.client) self.run + 16 * length (kept self.client).sending.bytes + weight_if (not self.client.is_put_off) 16
    + weight_if self.client.is_waiting 4 + weight_if self.client.is_sending 4 in
    ok-map c.both-2.result _ _ (λ done x.
    let y = of-ok c.both.result done _ x.1 c.both.ensures in
    closing-costs self.client.is_open others (whole g.R.RunContract.left g.R.ServiceContract.bound self) old c.put-gone.new.acts.items self.sockets.items
    (closing self.client.is_open old c.put_if-client.new.acts.items c.hang_up_sockets-sockets.new.progress.acts.items c.put-gone.new.acts.items self.sockets.items
    (of-ok c.put_if-client.result tt _ x.0 c.put_if-client.ensures) (of-ok c.hang_up_sockets-sockets.result tt _ y.0 c.hang_up_sockets-sockets.ensures.acts)
    (of-ok c.put-gone.result done _ y.1 c.put-gone.ensures)) (omega arith)) c.both-2.ensures

pub returns-clause-falls : goal.returns-clause-falls
returns-clause-falls g c =
    let self = c.args.self.now in
    let old = c.args.progress.now.acts.items in
    let others = unit * units g.R.RunContract.left g.R.ServiceContract.bound (kept self.client) self.run + 16 * length (kept self.client).sending.bytes + weight_if (not self.client.is_put_off) 16
    + weight_if self.client.is_waiting 4 + weight_if self.client.is_sending 4 in
    ok-map c.both-2.result _ _ (λ done x.
    let y = of-ok c.both.result done _ x.1 c.both.ensures in
    closing-falls g.R.RunContract.left g.R.ServiceContract.bound self.client.is_open others (whole g.R.RunContract.left g.R.ServiceContract.bound self) old c.put-gone.new.acts.items self.sockets.items
    (closing self.client.is_open old c.put_if-client.new.acts.items c.hang_up_sockets-sockets.new.progress.acts.items c.put-gone.new.acts.items self.sockets.items
    (of-ok c.put_if-client.result tt _ x.0 c.put_if-client.ensures) (of-ok c.hang_up_sockets-sockets.result tt _ y.0 c.hang_up_sockets-sockets.ensures.acts)
    (of-ok c.put-gone.result done _ y.1 c.put-gone.ensures)) (omega arith)) c.both-2.ensures
