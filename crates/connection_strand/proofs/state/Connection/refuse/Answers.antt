use Rattle.std.proofs.Common.{ap, ◌∙◌}
use Rattle.strand_contract.proofs.Results.{if-ok}
use Rattle.client_line.specs.Records as line
use Rattle.connection_plan.specs.Turns.{refuse, finish}
use Rattle.connection_strand.specs.Standing.{plain}
use Rattle.connection_strand.proofs.Hearing.{refuses-head, refuses-body, not-begun}
use Rattle.connection_strand.specs.Views.{view_of, service}
use Rattle.connection_plan.specs.Clients.{is_last}
use Rattle.connection_strand.specs.Kept.{reply_of}
use Rattle.connection_strand.proofs.Costing.{costs-after}
use Rattle.connection_strand.proofs.Ends.{of-ok}
use Rattle.connection_strand.proofs.state.Connection.refuse.Goals as goal

pub returns-in-Begun-clause-moves : goal.returns-in-Begun-clause-moves
returns-in-Begun-clause-moves g c =
    let site = c.args.site.now in
    let v = view_of (g.R.RunContract.meaning site) (g.R.ServiceContract.serving site) in
    let met = g.met.R.RunContract in
    if-ok c.both.result _ _ c.both.ensures (λ done x at st free did m h. of-ok c.refuse_head.result done _ x.1 c.refuse_head.ensures.moves st free did m
    (of-ok c.end_timer-header.result tt _ x.0 c.end_timer-header.ensures.moves (plain st) did (refuse (service v) c.args.turn.now.moment.0 (line.Over c.args.code) c.args.code)
    (refuses-head v c.args.turn.now.moment.0 c.args.code (plain st) did c.args.self.now c.args.progress.now c.held-held.result at c.held-held.ensures c.in-Begun.is h)))

pub returns-in-Request-clause-moves : goal.returns-in-Request-clause-moves
returns-in-Request-clause-moves g c =
    let site = c.args.site.now in
    let v = view_of (g.R.RunContract.meaning site) (g.R.ServiceContract.serving site) in
    let met = g.met.R.RunContract in
    if-ok c.both-in-Request.result _ _ c.both-in-Request.ensures (λ done x at st free did m h. of-ok c.finish.result done _ x.1 c.finish.ensures.moves st did
    (of-ok c.end_timer-header.result tt _ x.0 c.end_timer-header.ensures.moves (plain st) did finish
    (refuses-body v c.args.turn.now.moment.0 c.args.code (plain st) did c.args.self.now c.args.progress.now c.held-held.result at c.held-held.ensures (not-begun v c.held-held.result c.in-Request.is) h)))

pub returns-in-Begun-clause-costs : goal.returns-in-Begun-clause-costs
returns-in-Begun-clause-costs g c last =
    if-ok c.both.result _ _ c.both.ensures (λ done x.
    costs-after g.R.RunContract.left g.R.ServiceContract.bound 0 0 c.args.self.now c.end_timer-header.new.self c.refuse_head.new.self c.args.progress.now c.end_timer-header.new.progress c.refuse_head.new.progress
    (of-ok c.end_timer-header.result tt _ x.0 c.end_timer-header.ensures.costs)
    (of-ok c.refuse_head.result done _ x.1 (c.refuse_head.ensures.costs (ap (λ y. is_last (reply_of y)) c.end_timer-header.ensures.reply ∙ last))))

pub returns-in-Request-clause-costs : goal.returns-in-Request-clause-costs
returns-in-Request-clause-costs g c last =
    if-ok c.both-in-Request.result _ _ c.both-in-Request.ensures (λ done x.
    costs-after g.R.RunContract.left g.R.ServiceContract.bound 0 0 c.args.self.now c.end_timer-header.new.self c.finish.new.self c.args.progress.now c.end_timer-header.new.progress c.finish.new.progress
    (of-ok c.end_timer-header.result tt _ x.0 c.end_timer-header.ensures.costs) (of-ok c.finish.result done _ x.1 c.finish.ensures.costs))
