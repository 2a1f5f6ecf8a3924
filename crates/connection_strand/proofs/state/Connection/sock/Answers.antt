use Rattle.std.proofs.Common.{refl, ap, subst}
use Rattle.run_contract.specs.declared.turns.SockSeen.{SockSeen}
use Rattle.connection_strand.specs.Views.{view_of}
use Rattle.connection_strand.specs.Kept.{Kept}
use Rattle.connection_strand.specs.Shown.{Shown, sock_seen}
use Rattle.connection_strand.proofs.Ends.{ok-map}
use Rattle.connection_strand.proofs.Showing.{shown-sock, shown-took}
use Rattle.connection_strand.proofs.state.Connection.sock.Goals as goal

pub go_on-requires : goal.go_on-requires
go_on-requires g c =
    let site = c.args.site.now in
    let v = view_of (g.R.RunContract.meaning site) (g.R.ServiceContract.serving site) in
    let met = g.met.R.RunContract in
    let now = c.args.turn.now.moment.0 in
    let t = (subst (λ (s : SockSeen). Shown v now (sock_seen c.args.socket s) c.requires.0 c.args.self.now c.args.progress.now) c.in-Took.is c.requires.1) in (
      c.requires.0,
      shown-took v (met.meets site) (met.apart site) now c.args.socket c.in-Took.count c.min-count.result c.piece_at.result.now c.requires.0 c.args.self.now c.args.progress.now t
          (c.piece_at.ensures t.ledger t.inner (ap (λ (k : Kept). k.stage) t.client) t.run t.known t.none_asked) c.min-count.ensures,
    )

pub go_on-requires-in_default : goal.go_on-requires-in_default
go_on-requires-in_default g c =
    let site = c.args.site.now in
    let v = view_of (g.R.RunContract.meaning site) (g.R.ServiceContract.serving site) in
    let met = g.met.R.RunContract in
    let now = c.args.turn.now.moment.0 in
    (c.requires.0, shown-sock v (met.meets site) (met.apart site) now c.args.socket c.args.seen c.in_default.not-Took c.requires.0 c.args.self.now c.args.progress.now c.requires.1)

pub returns-in-Took-clause-moves : goal.returns-in-Took-clause-moves
returns-in-Took-clause-moves g c =
    let site = c.args.site.now in
    let v = view_of (g.R.RunContract.meaning site) (g.R.ServiceContract.serving site) in
    let met = g.met.R.RunContract in
    let now = c.args.turn.now.moment.0 in
    ok-map c.go_on.result _ _ (λ done goes. λ did h.
    let t = (subst (λ (s : SockSeen). Shown v now (sock_seen c.args.socket s) did c.args.self.now c.args.progress.now) c.in-Took.is h) in
    goes did (shown-took v (met.meets site) (met.apart site) now c.args.socket c.in-Took.count c.min-count.result c.piece_at.result.now did c.args.self.now c.args.progress.now t
    (c.piece_at.ensures t.ledger t.inner (ap (λ (k : Kept). k.stage) t.client) t.run t.known t.none_asked) c.min-count.ensures)) c.go_on.ensures.moves

pub returns-in_default : goal.returns-in_default
returns-in_default g c =
    let site = c.args.site.now in
    let v = view_of (g.R.RunContract.meaning site) (g.R.ServiceContract.serving site) in
    let met = g.met.R.RunContract in
    let now = c.args.turn.now.moment.0 in
    record {
      moves = ok-map c.go_on-in_default.result _ _ (λ done goes. λ did h. goes did
          (shown-sock v (met.meets site) (met.apart site) now c.args.socket c.args.seen c.in_default.not-Took did c.args.self.now c.args.progress.now h)) c.go_on-in_default.ensures.moves;
      falls = λ own. c.go_on-in_default.ensures.falls refl own;
    }
