use Rattle.connection_strand.specs.Views.{view_of}
use Rattle.connection_strand.proofs.Ends.{ok-map}
use Rattle.connection_strand.proofs.Showing.{at-busy, not-going, own-goes, no-run-none, may-tell}
use Rattle.connection_strand.proofs.state.Connection.to_run.Goals as goal

pub tell-requires : goal.tell-requires
tell-requires g c = λ run is.
    let site = c.args.site.now in
    let v = view_of (g.R.RunContract.meaning site) (g.R.ServiceContract.serving site) in
    let met = g.met.R.RunContract in
    let now = c.args.turn.now.moment.0 in
    may-tell v (met.meets site) (met.apart site) now c.args.seen c.requires.0 c.args.self.now c.args.progress.now c.requires.1
    (at-busy v (met.meets site) (met.apart site) now c.args.seen c.requires.0 c.args.self.now c.args.progress.now c.requires.1 c.requires.2 c.in-Busy.is) run is

pub returns-in-Busy-clause-moves : goal.returns-in-Busy-clause-moves
returns-in-Busy-clause-moves g c =
    let site = c.args.site.now in
    let v = view_of (g.R.RunContract.meaning site) (g.R.ServiceContract.serving site) in
    let met = g.met.R.RunContract in
    let now = c.args.turn.now.moment.0 in
    ok-map c.tell.result _ _ (λ on goes. λ did m h. goes did m (at-busy v (met.meets site) (met.apart site) now c.args.seen did c.args.self.now c.args.progress.now m h c.in-Busy.is)) c.tell.ensures.moves

pub returns-in-Busy-clause-costs : goal.returns-in-Busy-clause-costs
returns-in-Busy-clause-costs g c other own =
    let site = c.args.site.now in
    let v = view_of (g.R.RunContract.meaning site) (g.R.ServiceContract.serving site) in
    let met = g.met.R.RunContract in
    let now = c.args.turn.now.moment.0 in
    c.tell.ensures.costs own (no-run-none v (met.meets site) (met.apart site) now c.args.seen c.requires.0 c.args.self.now c.args.progress.now c.requires.1
    (at-busy v (met.meets site) (met.apart site) now c.args.seen c.requires.0 c.args.self.now c.args.progress.now c.requires.1 c.requires.2 c.in-Busy.is))

pub returns-in_default-clause-moves : goal.returns-in_default-clause-moves
returns-in_default-clause-moves g c = λ did m h.
    let site = c.args.site.now in
    let v = view_of (g.R.RunContract.meaning site) (g.R.ServiceContract.serving site) in
    let met = g.met.R.RunContract in
    let now = c.args.turn.now.moment.0 in
    not-going v (met.meets site) (met.apart site) now c.args.seen did c.args.self.now c.args.progress.now m c.in_default.not-Busy h

pub returns-in_default-clause-costs : goal.returns-in_default-clause-costs
returns-in_default-clause-costs g c other own =
    let site = c.args.site.now in
    let v = view_of (g.R.RunContract.meaning site) (g.R.ServiceContract.serving site) in
    let met = g.met.R.RunContract in
    let now = c.args.turn.now.moment.0 in
    absurd (own-goes v (met.meets site) (met.apart site) now c.args.seen other own c.requires.0 c.args.self.now c.args.progress.now c.requires.1 c.requires.2 c.in_default.not-Busy)
