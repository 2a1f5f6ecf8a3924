use Rattle.std.proofs.Common.{refl, ap, subst, ◌∙◌, []}
use Rattle.send_queue.specs.Records.{Sending}
use Rattle.client_line.specs.Records.{Came, Connection as Line}
use Rattle.client_line.specs.Lines.{IsFed, done}
use Rattle.strand_contract.proofs.Results.{if-ok}
use Rattle.connection_strand.specs.Kept.{kept}
use Rattle.connection_strand.proofs.Nexts.{nexts, fed-answered}
use Rattle.connection_strand.specs.Views.{view_of}
use Rattle.connection_strand.proofs.Reading.{next-pays}
use Rattle.connection_strand.proofs.state.Connection.next.Goals as goal

pub returns-in_default-clause-moves : goal.returns-in_default-clause-moves
returns-in_default-clause-moves g c =
    let site = c.args.site.now in
    let v = view_of (g.R.RunContract.meaning site) (g.R.ServiceContract.serving site) in
    let met = g.met.R.RunContract in
    let old = c.args.self.now.client in
    let new = c.fed.new.self.came in
    let fed-is : IsFed (done old.line.came) [] c.fed.result new =
    subst (λ (k : Came). IsFed k [] c.fed.result new) (ap (λ (l : Line). l.came) c.done.ensures)
    (c.fed.ensures.led c.in_default.not-Memory) in
    if-ok c.heard.result _ _ c.heard.ensures.moves (λ on hears st free did m h.
    hears (fed-answered (done old.line.came) new [] c.fed.result fed-is) st free did m
    (nexts v (met.meets site) (met.apart site)
    c.args.turn.now.moment.0 c.fed.result st did c.args.self.now _ c.args.progress.now m (record { run = refl; waits = refl; sockets = refl; count = refl; keeping = refl; taking = refl }) fed-is
    (ap (λ (q : Sending). record (kept old) { came = new; sending = q }) (c.fed.ensures.sending ∙ ap (λ (l : Line). l.sending) c.done.ensures)) h))

pub returns-in_default-clause-costs : goal.returns-in_default-clause-costs
returns-in_default-clause-costs g c last =
    let old = c.args.self.now.client in
    let new = c.fed.new.self.came in
    let fed-is : IsFed (done old.line.came) [] c.fed.result new =
    subst (λ (k : Came). IsFed k [] c.fed.result new) (ap (λ (l : Line). l.came) c.done.ensures)
    (c.fed.ensures.led c.in_default.not-Memory) in
    if-ok c.heard.result _ _ (c.heard.ensures.costs last) (λ on paid.
    next-pays g.R.RunContract.left g.R.ServiceContract.bound c.fed.result on c.args.self.now (record c.args.self.now { client = record old { line = c.fed.new.self } }) c.heard.new.self c.args.progress.now c.heard.new.progress fed-is
    (ap (λ (q : Sending). record (kept old) { came = new; sending = q }) (c.fed.ensures.sending ∙ ap (λ (l : Line). l.sending) c.done.ensures)) refl refl paid)
