use Rattle.std.proofs.Common.{ℕ, List, length, min, refl, ap, ◌∙◌}
use Rattle.client_line.specs.Records.{Connection as Line}
use Rattle.connection_strand.specs.Views.{view_of}
use Rattle.connection_strand.specs.Kept.{kept}
use Rattle.connection_strand.proofs.Ends.{ok-map}
use Rattle.connection_strand.proofs.Showing.{shown-taken, took-are}
use Rattle.connection_strand.proofs.Falling.{took-falls, took-few}
use Rattle.connection_strand.proofs.state.Connection.took.Goals as goal

pub settle_all-requires : goal.settle_all-requires
settle_all-requires g c =
    let site = c.args.site.now in
    let v = view_of (g.R.RunContract.meaning site) (g.R.ServiceContract.serving site) in
    let met = g.met.R.RunContract in
    let now = c.args.turn.now.moment.0 in
    let h = c.requires.1 in
    let t = shown-taken v (met.meets site) (met.apart site) now c.args.count c.min-count.result c.requires.0 c.args.self.now _ c.args.progress.now h (record { run = refl; waits = refl; sockets = refl; count = refl; keeping = refl; taking = refl })
    (c.min-count.ensures ∙ ap (λ (xs : List ℕ). min (length xs) c.args.count) c.queued.ensures) (ap (λ (l : Line). kept (record c.args.self.now.client { line = l })) c.took.ensures) in
    (h.inner.client.stage, (t.ledger, t.inner, t.within))

pub returns-clause-moves : goal.returns-clause-moves
returns-clause-moves g c =
    let site = c.args.site.now in
    let v = view_of (g.R.RunContract.meaning site) (g.R.ServiceContract.serving site) in
    let met = g.met.R.RunContract in
    let now = c.args.turn.now.moment.0 in
    ok-map c.settle_all.result _ _ (λ done ends. λ did h. ends h.inner.client.stage did
    (shown-taken v (met.meets site) (met.apart site) now c.args.count c.min-count.result did c.args.self.now _ c.args.progress.now h (record { run = refl; waits = refl; sockets = refl; count = refl; keeping = refl; taking = refl })
    (c.min-count.ensures ∙ ap (λ (xs : List ℕ). min (length xs) c.args.count) c.queued.ensures) (ap (λ (l : Line). kept (record c.args.self.now.client { line = l })) c.took.ensures))) c.settle_all.ensures.moves

pub returns-clause-falls : goal.returns-clause-falls
returns-clause-falls g c =
    let site = c.args.site.now in
    let v = view_of (g.R.RunContract.meaning site) (g.R.ServiceContract.serving site) in
    let met = g.met.R.RunContract in
    let now = c.args.turn.now.moment.0 in
    ok-map c.settle_all.result _ _ (λ done costs. took-falls g.R.RunContract.left g.R.ServiceContract.bound c.min-count.result c.args.self.now (record c.args.self.now { client = record c.args.self.now.client { line = c.took.new.self } }) c.settle_all.new.self c.args.progress.now c.settle_all.new.progress refl refl
    (ap (λ (l : Line). kept (record c.args.self.now.client { line = l })) c.took.ensures)
    (took-are v (met.meets site) (met.apart site) now c.args.count c.min-count.result c.requires.0 c.args.self.now c.args.progress.now c.requires.1 (c.min-count.ensures ∙ ap (λ (xs : List ℕ). min (length xs) c.args.count) c.queued.ensures))
    (took-few c.min-count.result c.args.count c.args.self.now (c.min-count.ensures ∙ ap (λ (xs : List ℕ). min (length xs) c.args.count) c.queued.ensures)) costs) c.settle_all.ensures.costs
