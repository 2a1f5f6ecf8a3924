use Rattle.std.proofs.Common.{refl, sym, ap, ◌∙◌, not, ◌&&◌}
use Rattle.connection_strand.specs.Kept.{kept, wants_offer}
use Rattle.connection_strand.proofs.Ends.{ok-map}
use Rattle.connection_strand.proofs.Offering.{offers, offers-not, and-none}
use Rattle.connection_strand.proofs.state.Connection.ask_for_offer.Goals.{else-wants_offer-via-then-wants_offer+else-not-progress, else-wants_offer-via-else-wants_offer}
use Rattle.connection_strand.specs.Views.{view_of}
use Rattle.connection_strand.proofs.state.Connection.ask_for_offer.Goals as goal

pub returns-then-not-progress-clause-moves : goal.returns-then-not-progress-clause-moves
returns-then-not-progress-clause-moves g c =
    let site = c.args._site.now in
    let v = view_of (g.R.RunContract.meaning site) (g.R.ServiceContract.serving site) in
    let met = g.met.R.RunContract in
    ok-map c.put.result _ _ (λ done acts. λ e did m h. offers v (met.meets site) (met.apart site)
    e did c.args.self.now _ c.args.progress.now _ m (record { run = refl; waits = refl; sockets = refl; count = refl; keeping = refl; taking = refl }) refl
    (ap (λ x. x && not c.args.progress.now.is_offered) (sym c.wants_offer.ensures ∙ c.if-wants_offer.true) ∙ ap not c.if-not-progress.true) refl acts h) c.put.ensures

pub returns-else-wants_offer-clause-moves : goal.returns-else-wants_offer-clause-moves
returns-else-wants_offer-clause-moves g c = λ e did m h.
    let site = c.args._site.now in
    let v = view_of (g.R.RunContract.meaning site) (g.R.ServiceContract.serving site) in
    let met = g.met.R.RunContract in
    offers-not v (met.meets site) (met.apart site)
    e did c.args.self.now c.args.progress.now m
    (elim c.else-wants_offer.branch [
      | else-wants_offer-via-then-wants_offer+else-not-progress w ↦ and-none (wants_offer (kept c.args.self.now.client)) (not c.args.progress.now.is_offered) (ap not w.if-not-progress.false)
      | else-wants_offer-via-else-wants_offer w ↦ ap (λ x. x && not c.args.progress.now.is_offered) (sym c.wants_offer.ensures ∙ w.if-wants_offer.false)
    ]) h
