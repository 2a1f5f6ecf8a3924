use Rattle.connection_plan.specs.Turns.{settle}
use Rattle.connection_strand.specs.Views.{view_of, service}
use Rattle.connection_strand.proofs.Ends.{ok-map, ok-both, of-ok}
use Rattle.connection_strand.proofs.Falling.{told-settled}
use Rattle.connection_strand.proofs.Loops.{within-on}
use Rattle.connection_strand.proofs.state.Connection.go_on.Goals as goal

pub to_run-went-requires : goal.to_run-went-requires
to_run-went-requires g c =
    let site = c.args.site.now in
    let v = view_of (g.R.RunContract.meaning site) (g.R.ServiceContract.serving site) in
    (c.requires.0, settle (service v) c.args.turn.now.moment.0, c.requires.1)

pub settle_on-requires : goal.settle_on-requires
settle_on-requires g c =
    let site = c.args.site.now in
    let v = view_of (g.R.RunContract.meaning site) (g.R.ServiceContract.serving site) in
    let now = c.args.turn.now.moment.0 in
    ok-map c.to_run-went.result _ _ (λ on tells. within-on v now on c.requires.0 c.to_run-went.new.self c.to_run-went.new.progress (settle (service v) now)
    (tells c.requires.0 (settle (service v) now) c.requires.1)) c.to_run-went.ensures.moves

pub returns-clause-moves : goal.returns-clause-moves
returns-clause-moves g c =
    let site = c.args.site.now in
    let v = view_of (g.R.RunContract.meaning site) (g.R.ServiceContract.serving site) in
    let now = c.args.turn.now.moment.0 in
    ok-map c.settle_on.result _ _ (λ done s. λ did h. s.2 did (of-ok c.to_run-went.result s.0 _ s.1 c.to_run-went.ensures.moves did (settle (service v) now) h)) c.settle_on.ensures.moves

pub returns-clause-falls : goal.returns-clause-falls
returns-clause-falls g c other own =
    ok-both c.settle_on.result _ _ _ (λ done s costs.
    told-settled g.R.RunContract.left g.R.ServiceContract.bound c.args.self.now c.to_run-went.new.self c.settle_on.new.self c.args.progress.now c.to_run-went.new.progress c.settle_on.new.progress
    (of-ok c.to_run-went.result s.0 _ s.1 (c.to_run-went.ensures.costs other own)) costs) c.settle_on.ensures.moves c.settle_on.ensures.costs
