use Rattle.std.proofs.Common.{sym, ap, subst}
use Rattle.run_contract.specs.Conditions.{MayHear, asks_body}
use Rattle.connection_plan.specs.Clients as stage
use Rattle.connection_plan.specs.Timers as timer
use Rattle.connection_plan.specs.Turns.{end_timer, tell}
use Rattle.connection_strand.specs.Views.{view_of, service}
use Rattle.connection_strand.specs.Costs.{unit}
use Rattle.connection_strand.specs.Kept.{waits_of}
use Rattle.connection_strand.specs.Standing.{plain}
use Rattle.connection_strand.proofs.Losing.{goes-at, may-tell, tells, has-run}
use Rattle.connection_strand.proofs.Costing.{pays-after}
use Rattle.connection_strand.proofs.Asking.{is-own, may-be-asked}
use Rattle.connection_strand.proofs.Ends.{ok-map}
use Rattle.connection_strand.proofs.state.Connection.tell_body.Goals as goal

pub tell-requires : goal.tell-requires
tell-requires g c =
    let site = c.args.site.now in
    let v = view_of (g.R.RunContract.meaning site) (g.R.ServiceContract.serving site) in
    may-tell v c.args.turn.now.moment.0 c.args.seen c.end_timer.new.self c.end_timer.new.progress
    (may-be-asked v c.args.turn.now.moment.0 c.requires.seen.0 c.args.seen c.end_timer.new.self c.requires.seen.1 (subst (λ w. MayHear (asks_body w.asks) w.body w.asks) (sym (ap waits_of c.in-Ok.ensures.waits)) c.requires.body))
    (goes-at v (end_timer (service v) 0 timer.Body) stage.Busy _ _ _ _ c.in-Ok.ensures.moves c.requires.within)

pub returns-in-Ok-clause-moves : goal.returns-in-Ok-clause-moves
returns-in-Ok-clause-moves g c =
    let site = c.args.site.now in
    let v = view_of (g.R.RunContract.meaning site) (g.R.ServiceContract.serving site) in
    ok-map c.tell.result _ _ (λ on told. λ did m h. told did m
    (tells v c.args.turn.now.moment.0 c.args.seen did c.end_timer.new.self c.end_timer.new.progress m
    (may-be-asked v c.args.turn.now.moment.0 c.requires.seen.0 c.args.seen c.end_timer.new.self c.requires.seen.1 (subst (λ w. MayHear (asks_body w.asks) w.body w.asks) (sym (ap waits_of c.in-Ok.ensures.waits)) c.requires.body))
    (c.in-Ok.ensures.moves (plain stage.Busy) did (tell (service v) c.args.turn.now.moment.0 c.args.seen m) h))) c.tell.ensures.moves

pub returns-in-Ok-clause-costs : goal.returns-in-Ok-clause-costs
returns-in-Ok-clause-costs g c =
    let site = c.args.site.now in
    let v = view_of (g.R.RunContract.meaning site) (g.R.ServiceContract.serving site) in
    ok-map c.tell.result _ _ (λ on paid. pays-after g.R.RunContract.left g.R.ServiceContract.bound unit c.args.self.now c.end_timer.new.self c.tell.new.self c.args.progress.now c.end_timer.new.progress c.tell.new.progress
    c.in-Ok.ensures.costs paid)
    (c.tell.ensures.costs (is-own c.requires.seen.0 c.args.seen c.requires.seen.1) (has-run v c.end_timer.new.self c.end_timer.new.progress
    (goes-at v (end_timer (service v) 0 timer.Body) stage.Busy _ _ _ _ c.in-Ok.ensures.moves c.requires.within)))
