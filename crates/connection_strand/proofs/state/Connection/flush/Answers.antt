use Rattle.std.proofs.Common.{◌≡◌, Bool, true, false, not, ◌||◌, sym, ap, ◌∙◌, subst}
use Rattle.connection_plan.specs.Clients.{closes_after}
use Rattle.connection_strand.specs.Views.{view_of}
use Rattle.connection_strand.specs.Kept.{kept}
use Rattle.connection_strand.specs.Costs.{Settles}
use Rattle.connection_strand.specs.Standing.{Went}
use Rattle.connection_strand.proofs.Costing.{costs-more}
use Rattle.connection_strand.proofs.Ends.{ok-map, of-ok, done-came}
use Rattle.connection_strand.proofs.Settled.{flush-sends, flush-ends, flush-goes-on}
use Rattle.connection_strand.proofs.state.Connection.flush.Goals.{then-not-self-via-then-not-self, then-not-self-via-else-not-self+then-closes_after}
use Rattle.connection_strand.proofs.state.Connection.flush.Goals as goal

pub returns-then-not-self-clause-moves : goal.returns-then-not-self-clause-moves
returns-then-not-self-clause-moves g c =
    let site = c.args.site.now in
    let v = view_of (g.R.RunContract.meaning site) (g.R.ServiceContract.serving site) in
    let met = g.met.R.RunContract in
    let k = kept c.args.self.now.client in
    let ends : (not k.opened || closes_after k.reply) ≡ true = elim c.then-not-self.branch [
      | then-not-self-via-then-not-self w ↦ ap (λ o. not o || closes_after k.reply) w.if-not-self.true
      | then-not-self-via-else-not-self+then-closes_after w ↦ ap (λ o. not o || closes_after k.reply) w.if-not-self.false ∙ sym w.closes_after.ensures ∙ w.if-closes_after.true
    ] in
    ok-map c.going.result _ _ (λ on e. λ st free did m h. subst (λ (o : Bool). Went v o did c.finish.new.self c.finish.new.progress m) (sym e.0)
    (of-ok c.finish.result tt _ e.1 c.finish.ensures.moves st did
    (flush-ends v (met.meets site) (met.apart site) c.args.turn.now.moment.0 m _ did c.args.self.now c.args.progress.now
    (sym c.if-not-is_all_taken.ensures) ends h))) c.going.ensures

pub returns-then-not-self-clause-costs : goal.returns-then-not-self-clause-costs
returns-then-not-self-clause-costs g c = ok-map c.going.result _ _ (λ on e.
    subst (λ (o : Bool). Settles g.R.RunContract.left g.R.ServiceContract.bound o c.args.self.now c.args.progress.now c.finish.new.self c.finish.new.progress) (sym e.0)
    (costs-more g.R.RunContract.left g.R.ServiceContract.bound c.args.self.now c.finish.new.self c.args.progress.now c.finish.new.progress (of-ok c.finish.result tt _ e.1 c.finish.ensures.costs))) c.going.ensures

pub returns-clause-moves : goal.returns-clause-moves
returns-clause-moves g c =
    let site = c.args.site.now in
    let v = view_of (g.R.RunContract.meaning site) (g.R.ServiceContract.serving site) in
    let met = g.met.R.RunContract in
    let k = kept c.args.self.now.client in
    let goes : (not k.opened || closes_after k.reply) ≡ false = ap (λ o. not o || closes_after k.reply) c.if-not-self.false ∙ sym c.closes_after.ensures ∙ c.if-closes_after.false in
    ok-map c.next.result _ _ (λ on follows. λ st free did m h. follows st free did m
    (flush-goes-on v (met.meets site) (met.apart site) c.args.turn.now.moment.0 m _ did c.args.self.now c.args.progress.now
    (sym c.if-not-is_all_taken.ensures) goes h)) c.next.ensures.moves

pub returns-then-not-is_all_taken-clause-moves : goal.returns-then-not-is_all_taken-clause-moves
returns-then-not-is_all_taken-clause-moves g c = λ st free did m h.
    let site = c.args.site.now in
    let v = view_of (g.R.RunContract.meaning site) (g.R.ServiceContract.serving site) in
    let met = g.met.R.RunContract in
    done-came v st did c.args.self.now c.args.progress.now
    (flush-sends v (met.meets site) (met.apart site) c.args.turn.now.moment.0 m _ did c.args.self.now c.args.progress.now
    (sym c.if-not-is_all_taken.ensures) h)
