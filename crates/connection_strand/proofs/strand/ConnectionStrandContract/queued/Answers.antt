use Rattle.std.proofs.Common.{◌≡◌, sym, subst}
use Rattle.strand_contract.specs.declared.turns.Place.{Place}
use Rattle.strand_contract.specs.Alone.{piece}
use Rattle.connection_plan.specs.Connections.{connection_behavior}
use Rattle.connection_strand.proofs.Bridge.{client-piece, sock-piece}
use Rattle.connection_strand.specs.Views.{view_of, service}
use Rattle.connection_strand.proofs.strand.ConnectionStrandContract.queued.Goals as goal

pub returns-in-Client : goal.returns-in-Client
returns-in-Client g c = λ es follows execution lives rests.
    let site = c.args.site.now in
    let v = view_of (g.R.RunContract.meaning site) (g.R.ServiceContract.serving site) in
    let met = g.met.R.RunContract in
    subst (λ (q : Place). c.queued.result.now ≡ piece (connection_behavior (service v)) q es) (sym c.in-Client.is)
    (client-piece v (met.meets site) c.args.self.now es c.queued.result.now c.queued.ensures follows execution lives rests)

pub returns-in-Sock : goal.returns-in-Sock
returns-in-Sock g c = λ es follows execution lives rests.
    let site = c.args.site.now in
    let v = view_of (g.R.RunContract.meaning site) (g.R.ServiceContract.serving site) in
    let met = g.met.R.RunContract in
    subst (λ (q : Place). c.piece_at.result.now ≡ piece (connection_behavior (service v)) q es) (sym c.in-Sock.is)
    (sock-piece v (met.meets site) c.args.self.now es c.in-Sock.socket c.piece_at.result.now c.piece_at.ensures follows execution lives rests)
