use Rattle.std.proofs.Common.{refl, sym, ap, subst}
use Rattle.send_queue.specs.Records.{Sending}
use Rattle.strand_plans.specs.Moves.{Look}
use Rattle.client_line.specs.Feeding.{fed}
use Rattle.connection_plan.specs.Connections.{came_at}
use Rattle.connection_strand.specs.Kept.{kept}
use Rattle.connection_strand.proofs.Ends.{ok-map}
use Rattle.connection_strand.proofs.Facing.{from-here}
use Rattle.connection_strand.specs.Standing.{plain}
use Rattle.connection_strand.proofs.Losing.{To}
use Rattle.connection_strand.proofs.Nexts.{fed-answered}
use Rattle.connection_strand.proofs.Coming.{comes}
use Rattle.connection_strand.specs.Views.{view_of, service}
use Rattle.connection_strand.proofs.state.Connection.came.Goals as goal

pub hear_at-requires-clause-answered : goal.hear_at-requires-clause-answered
hear_at-requires-clause-answered g c = fed-answered c.args.self.now.client.line.came c.fed-answer.new.self.came c.deref.result.now c.fed-answer.result (c.fed-answer.ensures.led c.in_default.not-Memory)

pub hear_at-requires-clause-within : goal.hear_at-requires-clause-within
hear_at-requires-clause-within g c =
    let site = c.args.site.now in
    let v = view_of (g.R.RunContract.meaning site) (g.R.ServiceContract.serving site) in
    let met = g.met.R.RunContract in
    let now = c.args.turn.now.moment.0 in
    let old = c.args.self.now.client in
    let new = c.fed-answer.new.self.came in
    let x = from-here v (met.meets site) (met.apart site) c.requires.0 c.args.self.now c.args.progress.now c.requires.1
    (Look (λ b s. came_at (service v) now s.client.stage (fed s.client.came c.deref.result.now) s)) in
    let t = comes v (met.meets site) (met.apart site) now c.deref.result.now c.fed-answer.result c.requires.0 x.0 c.args.self.now (record c.args.self.now { client = record old { line = c.fed-answer.new.self } }) c.args.progress.now (record { run = refl; waits = refl; sockets = refl; count = refl; keeping = refl; taking = refl })
    (c.fed-answer.ensures.led c.in_default.not-Memory) (ap (λ (q : Sending). record (kept old) { came = new; sending = q }) c.fed-answer.ensures.sending) x.1 in
    (c.requires.0, (t.ledger, t.inner, t.within))

pub returns-in_default : goal.returns-in_default
returns-in_default g c =
    let site = c.args.site.now in
    let v = view_of (g.R.RunContract.meaning site) (g.R.ServiceContract.serving site) in
    let met = g.met.R.RunContract in
    let now = c.args.turn.now.moment.0 in
    let old = c.args.self.now.client in
    let new = c.fed-answer.new.self.came in
    ok-map c.hear_at.result _ _ (λ done ends. λ st did h. ends st did
    (comes v (met.meets site) (met.apart site) now c.deref.result.now c.fed-answer.result st did c.args.self.now (record c.args.self.now { client = record old { line = c.fed-answer.new.self } }) c.args.progress.now (record { run = refl; waits = refl; sockets = refl; count = refl; keeping = refl; taking = refl })
    (c.fed-answer.ensures.led c.in_default.not-Memory) (ap (λ (q : Sending). record (kept old) { came = new; sending = q }) c.fed-answer.ensures.sending)
    (subst (λ bytes. To v (plain st) did c.args.self.now c.args.progress.now (Look (λ b s. came_at (service v) now s.client.stage (fed s.client.came bytes) s))) (sym c.deref.ensures) h))) c.hear_at.ensures
