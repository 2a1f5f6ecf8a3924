use Rattle.std.proofs.Common.{refl, ap, ◌∙◌}
use Rattle.strand_contract.specs.declared.turns.Place.TheVariants as place
use Rattle.strand_plans.specs.Ledgers.{is_place}
use Rattle.connection_strand.specs.Kept.{Kept}
use Rattle.strand_plans.specs.Moves.{Done}
use Rattle.connection_strand.specs.Standing.{plain}
use Rattle.connection_strand.specs.Views.{view_of}
use Rattle.connection_strand.proofs.Ends.{ok-map, done-came}
use Rattle.connection_strand.proofs.Showing.{shown-later}
use Rattle.connection_strand.proofs.Falling.{later-falls}
use Rattle.connection_strand.proofs.state.Connection.put_off.Goals as goal

pub returns-clause-moves : goal.returns-clause-moves
returns-clause-moves g c =
    let site = c.args.site.now in
    let v = view_of (g.R.RunContract.meaning site) (g.R.ServiceContract.serving site) in
    let met = g.met.R.RunContract in
    let now = c.args.turn.now.moment.0 in
    ok-map c.begin_timer.result _ _ (λ done goes. λ did h.
    done-came v h.inner.client.stage did c.begin_timer.new.self c.begin_timer.new.progress
    (goes (plain h.inner.client.stage) did Done
    (shown-later v (met.meets site) (met.apart site) now did c.args.self.now _ c.args.progress.now h (record { run = refl; waits = refl; sockets = refl; count = refl; keeping = refl; taking = refl }) refl))) c.begin_timer.ensures.moves

pub returns-clause-falls : goal.returns-clause-falls
returns-clause-falls g c =
    let h = c.requires.1 in
    ok-map c.begin_timer.result _ _ (λ done costs. later-falls g.R.RunContract.left g.R.ServiceContract.bound c.args.self.now c.begin_timer.new.self c.args.progress.now c.begin_timer.new.progress
    (ap (λ (k : Kept). k.off) h.client ∙ h.takes (ap (is_place place.Client) h.comes.begun)) costs) c.begin_timer.ensures.costs
