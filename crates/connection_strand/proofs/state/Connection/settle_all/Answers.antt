use Rattle.std.proofs.Common.{◌<◌, sym, subst}
use Rattle.connection_strand.specs.Views.{view_of}
use Rattle.connection_strand.proofs.Costing.{spends-nothing}
use Rattle.connection_strand.proofs.Loops.{IsSettling, Spent, rounds, begins, goes-on, settled, spends-on, fewer}
use Rattle.connection_strand.proofs.state.Connection.settle_all.Goals as goal

pub settle_once-requires : goal.settle_once-requires
settle_once-requires g c = c.loop-goes_on.invariant.0.within c.loop-goes_on-test.true

pub loop-goes_on-init : goal.loop-goes_on-init
loop-goes_on-init g c =
    let site = c.args.site.now in
    let v = view_of (g.R.RunContract.meaning site) (g.R.ServiceContract.serving site) in
    (begins v c.args.turn.now.moment.0 c.args.self.now c.args.progress.now c.requires, spends-nothing g.R.RunContract.left g.R.ServiceContract.bound c.args.self.now c.args.progress.now)

pub loop-goes_on-preserved : goal.loop-goes_on-preserved
loop-goes_on-preserved g c =
    let site = c.args.site.now in
    let v = view_of (g.R.RunContract.meaning site) (g.R.ServiceContract.serving site) in (
      goes-on v c.args.turn.now.moment.0 c.in_ok-goes_on.goes_on c.args.self.now c.args.progress.now c.loop-goes_on.self c.loop-goes_on.progress c.settle_once.new.self c.settle_once.new.progress
          (subst (λ o. IsSettling v c.args.turn.now.moment.0 o c.args.self.now c.args.progress.now c.loop-goes_on.self c.loop-goes_on.progress) c.loop-goes_on-test.true c.loop-goes_on.invariant.0) c.in_ok-goes_on.ensures.moves,
      spends-on g.R.RunContract.left g.R.ServiceContract.bound c.in_ok-goes_on.goes_on c.args.self.now c.args.progress.now c.loop-goes_on.self c.loop-goes_on.progress c.settle_once.new.self c.settle_once.new.progress
          (subst (λ o. Spent g.R.RunContract.left g.R.ServiceContract.bound o c.args.self.now c.args.progress.now c.loop-goes_on.self c.loop-goes_on.progress) c.loop-goes_on-test.true c.loop-goes_on.invariant.1) c.in_ok-goes_on.ensures.costs,
    )

pub loop-goes_on-smaller : goal.loop-goes_on-smaller
loop-goes_on-smaller g c =
    subst (λ o. rounds g.R.RunContract.left g.R.ServiceContract.bound c.in_ok-goes_on.goes_on c.settle_once.new.self c.settle_once.new.progress < rounds g.R.RunContract.left g.R.ServiceContract.bound o c.loop-goes_on.self c.loop-goes_on.progress) (sym c.loop-goes_on-test.true)
    (fewer g.R.RunContract.left g.R.ServiceContract.bound c.in_ok-goes_on.goes_on c.loop-goes_on.self c.loop-goes_on.progress c.settle_once.new.self c.settle_once.new.progress c.in_ok-goes_on.ensures.costs)

pub returns-clause-moves : goal.returns-clause-moves
returns-clause-moves g c = λ st did h.
    let site = c.args.site.now in
    let v = view_of (g.R.RunContract.meaning site) (g.R.ServiceContract.serving site) in
    settled v c.args.turn.now.moment.0 c.args.self.now c.args.progress.now c.loop-goes_on.self c.loop-goes_on.progress st did
    (subst (λ o. IsSettling v c.args.turn.now.moment.0 o c.args.self.now c.args.progress.now c.loop-goes_on.self c.loop-goes_on.progress) c.loop-goes_on-test.false c.loop-goes_on.invariant.0) h

pub returns-clause-costs : goal.returns-clause-costs
returns-clause-costs g c = subst (λ o. Spent g.R.RunContract.left g.R.ServiceContract.bound o c.args.self.now c.args.progress.now c.loop-goes_on.self c.loop-goes_on.progress) c.loop-goes_on-test.false c.loop-goes_on.invariant.1
