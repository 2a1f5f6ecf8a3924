use Rattle.std.proofs.Common.{refl}
use Rattle.connection_strand.proofs.Telling.{told-takes, no-run}
use Rattle.connection_strand.specs.Views.{view_of}
use Rattle.std.proofs.Common.{Some}
use Rattle.run_contract.specs.Calls.{size_of}
use Rattle.connection_strand.proofs.Ends.{ok-map, of-ok}
use Rattle.connection_strand.proofs.Paying.{tells-costs}
use Rattle.connection_strand.proofs.state.Connection.tell.Goals as goal

pub returns-in-Some-clause-moves : goal.returns-in-Some-clause-moves
returns-in-Some-clause-moves g c =
    let site = c.args.site.now in
    let v = view_of (g.R.RunContract.meaning site) (g.R.ServiceContract.serving site) in
    let met = g.met.R.RunContract in
    ok-map c.take_next.result _ _ (λ on x. λ did m h. x.2 did m
    (told-takes v (met.meets site) c.args.turn.now.moment.0 c.args.seen x.0 did c.args.self.now _ c.args.progress.now m c.in-Some.run' c.given-next.new.self
    c.in-Some.is refl (of-ok c.given-next.result x.0 _ x.1 c.given-next.ensures.turn) (record { client = refl; sockets = refl; count = refl; keeping = refl; taking = refl })
    c.told-self.ensures h)) c.take_next.ensures

pub returns-in-None-clause-moves : goal.returns-in-None-clause-moves
returns-in-None-clause-moves g c = λ did m h. no-run c.args.self.now.run h.run c.in-None.is h.is

pub returns-in-Some-clause-costs : goal.returns-in-Some-clause-costs
returns-in-Some-clause-costs g c own has = ok-map c.take_next.result _ _ (λ on x.
    tells-costs g.R.RunContract.left g.R.ServiceContract.bound (size_of x.0) c.in-Some.run' c.given-next.new.self c.args.self.now (record c.args.self.now { run = Some c.given-next.new.self; waits = c.told-self.result }) c.take_next.new.self c.args.progress.now c.take_next.new.progress
    c.in-Some.is refl refl refl (of-ok c.given-next.result x.0 _ x.1 (c.given-next.ensures.left own)) x.3) c.take_next.ensures
