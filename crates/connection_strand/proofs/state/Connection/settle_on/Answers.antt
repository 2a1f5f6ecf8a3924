use Rattle.std.proofs.Common.{Bool, subst}
use Rattle.connection_plan.specs.Turns.{settle}
use Rattle.connection_strand.specs.Standing.{Went}
use Rattle.connection_strand.specs.Views.{view_of, service}
use Rattle.connection_strand.proofs.Costing.{settles-nothing}
use Rattle.connection_strand.proofs.Ends.{ok-map, of-ok}
use Rattle.connection_strand.proofs.state.Connection.settle_on.Goals as goal

pub settle_all-requires : goal.settle_all-requires
settle_all-requires g c = of-ok c.args.went c.in-Ok.goes_on _ c.in-Ok.is c.requires c.if-goes_on.true

pub returns-then-goes_on-clause-moves : goal.returns-then-goes_on-clause-moves
returns-then-goes_on-clause-moves g c =
    let site = c.args.site.now in
    let v = view_of (g.R.RunContract.meaning site) (g.R.ServiceContract.serving site) in
    ok-map c.settle_all.result _ _ (λ done ends. (
      c.in-Ok.goes_on,
      c.in-Ok.is,
      λ did w.
          let t = subst (λ (on : Bool). Went v on did c.args.self.now c.args.progress.now (settle (service v) c.args.turn.now.moment.0)) c.if-goes_on.true w in ends t.0 did t.1,
    )) c.settle_all.ensures.moves

pub returns-else-goes_on-clause-moves : goal.returns-else-goes_on-clause-moves
returns-else-goes_on-clause-moves g c =
    let site = c.args.site.now in
    let v = view_of (g.R.RunContract.meaning site) (g.R.ServiceContract.serving site) in
    (c.in-Ok.goes_on, c.in-Ok.is, λ did w. subst (λ (on : Bool). Went v on did c.args.self.now c.args.progress.now (settle (service v) c.args.turn.now.moment.0)) c.if-goes_on.false w)

pub returns-else-goes_on-clause-costs : goal.returns-else-goes_on-clause-costs
returns-else-goes_on-clause-costs g c = settles-nothing g.R.RunContract.left g.R.ServiceContract.bound c.args.self.now c.args.progress.now
