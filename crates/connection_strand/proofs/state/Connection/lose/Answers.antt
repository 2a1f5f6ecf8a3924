use Rattle.std.proofs.Common.{refl, true, false, ap, ◌∙◌}
use Rattle.strand_contract.proofs.Results.{if-ok}
use Rattle.strand_contract.specs.declared.turns.Place.TheVariants as place
use Rattle.strand_plans.specs.Moves.{Done, HangUp}
use Rattle.run_contract.specs.declared.turns.RunSeen.TheVariants as seen
use Rattle.connection_plan.specs.Clients as stage
use Rattle.connection_plan.specs.Timers as timer
use Rattle.connection_plan.specs.Turns.{end_timer}
use Rattle.connection_strand.specs.Views.{view_of, service}
use Rattle.connection_strand.specs.Costs.{unit}
use Rattle.connection_strand.specs.Kept.{stage_of}
use Rattle.connection_strand.specs.Standing.{plain}
use Rattle.connection_strand.proofs.Losing.{has-run, tells, may-tell, loses-busy, may-be-gone, goes-at, tells_gone, tells-gone, busy-at, loses-free, free-stage}
use Rattle.connection_strand.proofs.Ends.{ok-map, of-ok, done-came, went-came}
use Rattle.connection_strand.proofs.Costing.{loses-costs, ends-within}
use Rattle.connection_strand.proofs.Falling.{lost-falls, lost-alone, paid-spends}
use Rattle.connection_strand.proofs.state.Connection.lose.Goals as goal

pub tell-requires : goal.tell-requires
tell-requires g c =
    let site = c.args.site.now in
    let v = view_of (g.R.RunContract.meaning site) (g.R.ServiceContract.serving site) in
    may-tell v c.args.turn.now.moment.0 seen.ClientGone c.let_client_go.new.self c.let_client_go.new.progress
    (may-be-gone v c.args.turn.now.moment.0 c.let_client_go.new.self c.if-self.true (ap (λ w. w.asks) c.in-Ok.ensures.waits ∙ c.requires.unasked (ap stage_of c.in-Busy.is)))
    (goes-at v (λ m. HangUp place.Client (end_timer (service v) 0 timer.Body (end_timer (service v) 0 timer.Send m))) stage.Busy _ _ _ _ c.in-Ok.ensures.moves (busy-at v c.requires.within.0 c.args.self.now c.args.progress.now (ap stage_of c.in-Busy.is) c.requires.within.1))

pub returns-then-self-clause-moves : goal.returns-then-self-clause-moves
returns-then-self-clause-moves g c =
    let site = c.args.site.now in
    let v = view_of (g.R.RunContract.meaning site) (g.R.ServiceContract.serving site) in
    ok-map c.ended.result _ _ (λ done e. λ st did h.
    let gone = tells_gone v c.args.turn.now.moment.0 in
    let left = c.in-Ok.ensures.moves (plain stage.Busy) did gone
    (loses-busy v c.args.turn.now.moment.0 st did c.args.self.now c.args.progress.now (ap stage_of c.in-Busy.is) h) in
    went-came v e.0 did c.tell.new.self c.tell.new.progress
    (of-ok c.tell.result e.0 _ e.1 c.tell.ensures.moves did Done (tells v c.args.turn.now.moment.0 seen.ClientGone did c.let_client_go.new.self c.let_client_go.new.progress Done
    (may-be-gone v c.args.turn.now.moment.0 c.let_client_go.new.self c.if-self.true (ap (λ w. w.asks) c.in-Ok.ensures.waits ∙ c.requires.unasked (ap stage_of c.in-Busy.is)))
    (tells-gone v c.args.turn.now.moment.0 did c.let_client_go.new.self c.let_client_go.new.progress true c.if-self.true left)))) c.ended.ensures

pub returns-else-self-clause-moves : goal.returns-else-self-clause-moves
returns-else-self-clause-moves g c = λ st did h.
    let site = c.args.site.now in
    let v = view_of (g.R.RunContract.meaning site) (g.R.ServiceContract.serving site) in
    let gone = tells_gone v c.args.turn.now.moment.0 in
    let left = c.in-Ok.ensures.moves (plain stage.Busy) did gone
    (loses-busy v c.args.turn.now.moment.0 st did c.args.self.now c.args.progress.now (ap stage_of c.in-Busy.is) h) in
    done-came v stage.Busy did c.let_client_go.new.self c.let_client_go.new.progress
    (tells-gone v c.args.turn.now.moment.0 did c.let_client_go.new.self c.let_client_go.new.progress false c.if-self.false left)

pub returns-then-self-clause-costs : goal.returns-then-self-clause-costs
returns-then-self-clause-costs g c =
    let site = c.args.site.now in
    let v = view_of (g.R.RunContract.meaning site) (g.R.ServiceContract.serving site) in
    ok-map c.ended.result _ _ (λ done e.
    loses-costs g.R.RunContract.left g.R.ServiceContract.bound c.args.self.now c.let_client_go.new.self c.tell.new.self c.args.progress.now c.let_client_go.new.progress c.tell.new.progress
    c.in-Ok.ensures.costs (of-ok c.tell.result e.0 _ e.1 (c.tell.ensures.costs refl (has-run v c.let_client_go.new.self c.let_client_go.new.progress
    (goes-at v (λ m. HangUp place.Client (end_timer (service v) 0 timer.Body (end_timer (service v) 0 timer.Send m))) stage.Busy _ _ _ _ c.in-Ok.ensures.moves (busy-at v c.requires.within.0 c.args.self.now c.args.progress.now (ap stage_of c.in-Busy.is) c.requires.within.1)))))) c.ended.ensures

pub returns-else-self-clause-costs : goal.returns-else-self-clause-costs
returns-else-self-clause-costs g c =
    ends-within g.R.RunContract.left g.R.ServiceContract.bound 0 c.args.self.now c.let_client_go.new.self c.args.progress.now c.let_client_go.new.progress c.in-Ok.ensures.costs

pub returns-then-self-clause-falls : goal.returns-then-self-clause-falls
returns-then-self-clause-falls g c there =
    let site = c.args.site.now in
    let v = view_of (g.R.RunContract.meaning site) (g.R.ServiceContract.serving site) in
    ok-map c.ended.result _ _ (λ done e.
    lost-falls g.R.RunContract.left g.R.ServiceContract.bound c.args.self.now c.let_client_go.new.self c.tell.new.self c.args.progress.now c.let_client_go.new.progress c.tell.new.progress
    (c.in-Ok.ensures.pays there)
    (paid-spends g.R.RunContract.left g.R.ServiceContract.bound unit c.let_client_go.new.self c.tell.new.self c.let_client_go.new.progress c.tell.new.progress (of-ok c.tell.result e.0 _ e.1 (c.tell.ensures.costs refl
    (has-run v c.let_client_go.new.self c.let_client_go.new.progress
    (goes-at v (λ m. HangUp place.Client (end_timer (service v) 0 timer.Body (end_timer (service v) 0 timer.Send m))) stage.Busy _ _ _ _ c.in-Ok.ensures.moves (busy-at v c.requires.within.0 c.args.self.now c.args.progress.now (ap stage_of c.in-Busy.is) c.requires.within.1))))))) c.ended.ensures

pub returns-else-self-clause-falls : goal.returns-else-self-clause-falls
returns-else-self-clause-falls g c there =
    lost-alone g.R.RunContract.left g.R.ServiceContract.bound c.args.self.now c.let_client_go.new.self c.args.progress.now c.let_client_go.new.progress (c.in-Ok.ensures.pays there)

pub returns-in-Idle-clause-moves : goal.returns-in-Idle-clause-moves
returns-in-Idle-clause-moves g c =
    let site = c.args.site.now in
    let v = view_of (g.R.RunContract.meaning site) (g.R.ServiceContract.serving site) in
    let met = g.met.R.RunContract in
    if-ok c.finish.result _ _ c.finish.ensures.moves (λ done ends st did h. ends st did
    (loses-free v c.args.turn.now.moment.0 st did c.args.self.now c.args.progress.now (free-stage c.args.self.now.client.stage c.in-Idle.is) h))
