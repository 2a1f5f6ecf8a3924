use Rattle.std.proofs.Common.{[], refl}
use Rattle.strand_contract.specs.declared.turns.Place.TheVariants as place
use Rattle.strand_plans.specs.Moves.{Done, Send}
use Rattle.connection_strand.specs.Standing.{plain}
use Rattle.connection_strand.specs.Views.{view_of}
use Rattle.connection_strand.proofs.Ends.{ok-map, of-ok, done-came}
use Rattle.connection_strand.proofs.Showing.{shown-ready}
use Rattle.connection_strand.proofs.state.Connection.resume.Goals as goal

pub returns : goal.returns
returns g c =
    let site = c.args.site.now in
    let v = view_of (g.R.RunContract.meaning site) (g.R.ServiceContract.serving site) in
    let met = g.met.R.RunContract in
    let now = c.args._turn.now.moment.0 in
    ok-map c.both.result _ _ (λ done x. λ did h.
    done-came v h.inner.client.stage did c.ask_for_offer.new.self c.ask_for_offer.new.progress
    (of-ok c.ask_for_offer.result done _ x.1 c.ask_for_offer.ensures.moves (plain h.inner.client.stage) did Done (of-ok c.end_timer-send.result tt _ x.0 c.end_timer-send.ensures.moves (plain h.inner.client.stage) did (Send place.Client [] Done)
    (shown-ready v (met.meets site) (met.apart site) now did c.args.self.now _ c.args.progress.now h (record { run = refl; waits = refl; sockets = refl; count = refl; keeping = refl; taking = refl }) refl)))) c.both.ensures
