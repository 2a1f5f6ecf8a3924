use Rattle.strand_plans.specs.Moves.{Look}
use Rattle.connection_plan.specs.Turns.{heard_by, settle}
use Rattle.connection_strand.specs.Views.{view_of, service}
use Rattle.connection_strand.proofs.Ends.{ok-map, of-ok}
use Rattle.connection_strand.proofs.Facing.{from-here}
use Rattle.connection_strand.proofs.Loops.{within-on}
use Rattle.connection_strand.proofs.state.Connection.hear.Goals as goal

pub settle_on-requires : goal.settle_on-requires
settle_on-requires g c =
    let site = c.args.site.now in
    let v = view_of (g.R.RunContract.meaning site) (g.R.ServiceContract.serving site) in
    let met = g.met.R.RunContract in
    let now = c.args.turn.now.moment.0 in
    let x = from-here v (met.meets site) (met.apart site) c.requires.within.0 c.args.self.now c.args.progress.now c.requires.within.2
    (Look (λ b s. heard_by (service v) now c.args.anew (settle (service v) now) s.client.came s.client.ended c.args.out)) in
    ok-map c.heard-went.result _ _ (λ on hears. within-on v now on x.0 c.heard-went.new.self c.heard-went.new.progress (settle (service v) now)
    (hears c.requires.answered c.requires.within.0 c.requires.within.1 x.0 (settle (service v) now) x.1)) c.heard-went.ensures.moves

pub returns : goal.returns
returns g c =
    let site = c.args.site.now in
    let v = view_of (g.R.RunContract.meaning site) (g.R.ServiceContract.serving site) in
    let now = c.args.turn.now.moment.0 in
    ok-map c.settle_on.result _ _ (λ done s. λ st free did m h.
    s.2 did (of-ok c.heard-went.result s.0 _ s.1 c.heard-went.ensures.moves c.requires.answered st free did (settle (service v) now) h)) c.settle_on.ensures.moves
