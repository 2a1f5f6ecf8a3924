use Rattle.std.proofs.Common.{refl, ap, inl, inr, false}
use Rattle.connection_strand.specs.Kept.{reply_of}
use Rattle.connection_strand.proofs.Ends.{ok-map}
use Rattle.connection_strand.proofs.Speaking.{lets, lets-reply, lets-begun, lets-waited, begun-is, whole-is}
use Rattle.connection_strand.specs.Views.{view_of}
use Rattle.connection_strand.proofs.state.Connection.let_send.Goals as goal

pub returns-then-self-2-clause-moves : goal.returns-then-self-2-clause-moves
returns-then-self-2-clause-moves g c =
    let site = c.args.site.now in
    let v = view_of (g.R.RunContract.meaning site) (g.R.ServiceContract.serving site) in
    let met = g.met.R.RunContract in
    ok-map c.send-sent.result _ _ (λ done sends. λ e did m h. sends e did m (lets-reply v (met.meets site) (met.apart site) c.continue_reply-reply.result
    e did c.args.self.now _ c.args.progress.now m c.continue_reply-reply.ensures (ap reply_of c.in-Unsent.is) c.if-self.false c.if-self-2.true (record { run = refl; waits = refl; sockets = refl; count = refl; keeping = refl; taking = refl }) refl h)) c.send-sent.ensures.moves

pub returns-else-self-2-clause-moves : goal.returns-else-self-2-clause-moves
returns-else-self-2-clause-moves g c = λ e did m h.
    let site = c.args.site.now in
    let v = view_of (g.R.RunContract.meaning site) (g.R.ServiceContract.serving site) in
    let met = g.met.R.RunContract in
    lets v (met.meets site) (met.apart site)
    e did c.args.self.now _ c.args.progress.now m false (ap reply_of c.in-Unsent.is) c.if-self.false c.if-self-2.false (record { run = refl; waits = refl; sockets = refl; count = refl; keeping = refl; taking = refl }) refl h

pub returns-then-self-clause-moves : goal.returns-then-self-clause-moves
returns-then-self-clause-moves g c = λ e did m h.
    let site = c.args.site.now in
    let v = view_of (g.R.RunContract.meaning site) (g.R.ServiceContract.serving site) in
    let met = g.met.R.RunContract in
    lets-waited v (met.meets site) (met.apart site)
    e did c.args.self.now c.args.progress.now m c.if-self.true h

pub returns-in-Begun-clause-moves : goal.returns-in-Begun-clause-moves
returns-in-Begun-clause-moves g c = λ e did m h.
    let site = c.args.site.now in
    let v = view_of (g.R.RunContract.meaning site) (g.R.ServiceContract.serving site) in
    let met = g.met.R.RunContract in
    lets-begun v (met.meets site) (met.apart site)
    e did c.args.self.now c.args.progress.now m (elim c.in-Begun.is [ inl x ↦ begun-is c.args.self.now.client.reply x | inr x ↦ whole-is c.args.self.now.client.reply x.0 x.1 ]) h
