use Rattle.std.proofs.Common.{refl, ap, ◌∙◌}
use Rattle.std.specs.Prelude.{is_some}
use Rattle.strand_plans.specs.Moves.{Look}
use Rattle.run_contract.specs.declared.turns.RunSeen.TheVariants as seen
use Rattle.connection_plan.specs.Clients as stage
use Rattle.connection_plan.specs.Turns.{wait_more, tell}
use Rattle.connection_strand.specs.Views.{view_of, service}
use Rattle.connection_strand.specs.Standing.{plain}
use Rattle.connection_strand.proofs.Asking.{may-be-put-off}
use Rattle.connection_strand.proofs.Costing.{waits-settles}
use Rattle.connection_strand.proofs.Ends.{ok-map}
use Rattle.connection_strand.proofs.Losing.{goes-at, may-tell, tells, has-run}
use Rattle.connection_strand.proofs.state.Connection.put_off_body.Goals as goal

pub tell-requires : goal.tell-requires
tell-requires g c =
    let site = c.args.site.now in
    let v = view_of (g.R.RunContract.meaning site) (g.R.ServiceContract.serving site) in
    may-tell v c.args.turn.now.moment.0 seen.NotYet c.wait_more.new.self c.wait_more.new.progress
    (may-be-put-off v c.args.turn.now.moment.0 c.wait_more.new.self (ap (λ w. is_some w.asks) c.in-Ok.ensures.waits ∙ c.requires.asks))
    (goes-at v (λ m. Look (λ b s. wait_more (service v) c.args.turn.now.moment.0 s.client m)) stage.Busy _ _ _ _ c.in-Ok.ensures.moves c.requires.within)

pub returns-in-Ok-clause-moves : goal.returns-in-Ok-clause-moves
returns-in-Ok-clause-moves g c =
    let site = c.args.site.now in
    let v = view_of (g.R.RunContract.meaning site) (g.R.ServiceContract.serving site) in
    ok-map c.tell.result _ _ (λ on told. λ did m h. told did m
    (tells v c.args.turn.now.moment.0 seen.NotYet did c.wait_more.new.self c.wait_more.new.progress m
    (may-be-put-off v c.args.turn.now.moment.0 c.wait_more.new.self (ap (λ w. is_some w.asks) c.in-Ok.ensures.waits ∙ c.requires.asks))
    (c.in-Ok.ensures.moves (plain stage.Busy) did (tell (service v) c.args.turn.now.moment.0 seen.NotYet m) h))) c.tell.ensures.moves

pub returns-in-Ok-clause-costs : goal.returns-in-Ok-clause-costs
returns-in-Ok-clause-costs g c =
    let site = c.args.site.now in
    let v = view_of (g.R.RunContract.meaning site) (g.R.ServiceContract.serving site) in
    ok-map c.tell.result _ _ (λ on paid. waits-settles g.R.RunContract.left g.R.ServiceContract.bound on c.args.self.now c.wait_more.new.self c.tell.new.self c.args.progress.now c.wait_more.new.progress c.tell.new.progress
    c.in-Ok.ensures.costs paid)
    (c.tell.ensures.costs refl (has-run v c.wait_more.new.self c.wait_more.new.progress
    (goes-at v (λ m. Look (λ b s. wait_more (service v) c.args.turn.now.moment.0 s.client m)) stage.Busy _ _ _ _ c.in-Ok.ensures.moves c.requires.within)))
