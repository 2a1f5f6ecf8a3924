use Rattle.std.proofs.Common.{◌+◌, ◌*◌, Some, false, refl, sym, ap, ◌∙◌, subst, arith}
use Rattle.run_contract.specs.Calls as calls
use Rattle.run_contract.specs.Calls.{size_of}
use Rattle.connection_plan.specs.Clients as stage
use Rattle.connection_plan.specs.Serving.{times}
use Rattle.connection_strand.specs.Views.{view_of, service}
use Rattle.connection_plan.specs.Turns.{begin}
use Rattle.connection_strand.specs.Costs.{unit}
use Rattle.connection_strand.specs.Kept.{kept}
use Rattle.connection_strand.specs.Standing.{plain}
use Rattle.connection_strand.proofs.Costing.{spends-then}
use Rattle.connection_strand.proofs.Ends.{ok-map, of-ok}
use Rattle.connection_strand.proofs.Hearing.{begins-request}
use Rattle.connection_strand.proofs.Paying as paying
use Rattle.connection_strand.proofs.state.Connection.begin_request.Goals as goal

pub returns-clause-moves : goal.returns-clause-moves
returns-clause-moves g c =
    let site = c.args.site.now in
    let v = view_of (g.R.RunContract.meaning site) (g.R.ServiceContract.serving site) in
    let met = g.met.R.RunContract in
    let old = c.end_timer-header.new.self in
    ok-map c.both.result _ _ (λ on w. λ st free did m h.
    let x = of-ok c.take_run-went.result on _ w.1 c.take_run-went.ensures in
    x.3 did m
    (begins-request v (met.meets site) c.args.turn.now.moment.0 st c.args.head c.args.target x.1 did old _ c.end_timer-header.new.progress m x.0 free
    (subst (λ count. calls.Begins v.meaning c.args.turn.now.moment.0 count c.args.head c.args.target x.0 x.1) (sym c.end_timer-header.ensures.count) (of-ok c.begin-begun.result (x.0, x.1) _ x.2 c.begin-begun.ensures.turn)) refl
    c.at_first-self.ensures refl refl refl refl
    (c.begin_request.ensures ∙ ap (λ t. record (kept old.client) { stage = stage.Busy; times = t; reply = stage.Unsent; expects = c.args.head.expects; waited = false }) c.times_of-times.ensures)
    (of-ok c.end_timer-header.result tt _ w.0 c.end_timer-header.ensures.moves (plain st) did (begin (service v) c.args.turn.now.moment.0 m c.args.head c.args.target) h))) c.both.ensures

pub returns-clause-costs : goal.returns-clause-costs
returns-clause-costs g c =
    let bound = g.R.ServiceContract.bound in
    let old = c.end_timer-header.new.self in
    ok-map c.both.result _ _ (λ on w.
    let x = of-ok c.take_run-went.result on _ w.1 c.take_run-went.ensures in
    spends-then g.R.RunContract.left bound (unit * (bound + 1)) c.args.self.now old c.take_run-went.new.self c.args.progress.now c.end_timer-header.new.progress c.take_run-went.new.progress (of-ok c.end_timer-header.result tt _ w.0 c.end_timer-header.ensures.costs)
    (paying.begins-costs g.R.RunContract.left bound (size_of x.1) x.0 (times c.times_of-times.result) c.args.head.expects old
    (record old { client = c.begin_request.new.self; run = Some x.0; waits = c.at_first-self.result })
    c.take_run-went.new.self c.end_timer-header.new.progress c.take_run-went.new.progress c.begin_request.ensures refl refl
    (let e = of-ok c.begin-begun.result (x.0, x.1) _ x.2 c.begin-begun.ensures.left in let f = g.met.R.ServiceContract.bounded c.args.site.now in omega arith) x.4)) c.both.ensures
