use Rattle.std.proofs.Common.{◌≡◌, ◌&&◌, Bool, false, refl, sym, ap, ◌∙◌, subst}
use Rattle.run_contract.specs.declared.turns.RunSeen.TheVariants as seen
use Rattle.connection_plan.specs.Clients as stage
use Rattle.connection_strand.specs.Views.{view_of}
use Rattle.connection_strand.specs.Kept.{kept, all_taken}
use Rattle.connection_strand.specs.Costs.{Settles}
use Rattle.connection_strand.specs.Standing.{Went}
use Rattle.connection_strand.proofs.Asking.{may-be-taken-by}
use Rattle.connection_strand.proofs.Costing.{pays-settles, costs-more}
use Rattle.connection_strand.proofs.Ends.{ok-map, of-ok, done-came}
use Rattle.connection_strand.proofs.Losing.{may-tell, tells, has-run}
use Rattle.connection_strand.proofs.Settled.{waits-taken, waits-closes, waits-asks, waits-not}
use Rattle.connection_strand.proofs.state.Connection.waiting.Goals.{else-is_all_taken-via-then-is_all_taken+else-self, else-is_all_taken-via-else-is_all_taken}
use Rattle.connection_strand.proofs.state.Connection.waiting.Goals as goal

pub tell-requires : goal.tell-requires
tell-requires g c =
    let site = c.args.site.now in
    let v = view_of (g.R.RunContract.meaning site) (g.R.ServiceContract.serving site) in
    may-tell v c.args.turn.now.moment.0 seen.AllTaken c.args.self.now c.args.progress.now (may-be-taken-by v c.args.turn.now.moment.0 c.args.self.now c.if-self.true c.requires.unasked) c.requires.within

pub returns-then-self-clause-moves : goal.returns-then-self-clause-moves
returns-then-self-clause-moves g c =
    let site = c.args.site.now in
    let v = view_of (g.R.RunContract.meaning site) (g.R.ServiceContract.serving site) in
    let met = g.met.R.RunContract in
    let now = c.args.turn.now.moment.0 in
    let self = c.args.self.now in
    let progress = c.args.progress.now in
    ok-map c.tell.result _ _ (λ on goes. λ did m h. goes did m
    (tells v now seen.AllTaken did self progress m (may-be-taken-by v now self c.if-self.true c.requires.unasked)
    (waits-taken v (met.meets site) (met.apart site) now m did self progress h (ap (λ x. x && self.waits.taken) (sym c.if-is_all_taken.ensures) ∙ c.if-self.true)))) c.tell.ensures.moves

pub returns-then-self-clause-costs : goal.returns-then-self-clause-costs
returns-then-self-clause-costs g c =
    let site = c.args.site.now in
    let v = view_of (g.R.RunContract.meaning site) (g.R.ServiceContract.serving site) in
    let self = c.args.self.now in
    let progress = c.args.progress.now in
    ok-map c.tell.result _ _ (λ on paid. pays-settles g.R.RunContract.left g.R.ServiceContract.bound on self c.tell.new.self progress c.tell.new.progress paid) (c.tell.ensures.costs refl (has-run v self progress c.requires.within))

pub lose-requires-clause-within : goal.lose-requires-clause-within
lose-requires-clause-within g c = (stage.Busy, c.requires.within)

pub lose-requires-clause-unasked : goal.lose-requires-clause-unasked
lose-requires-clause-unasked g c = λ at. c.requires.unasked

pub returns-then-is_to_close-clause-moves : goal.returns-then-is_to_close-clause-moves
returns-then-is_to_close-clause-moves g c =
    let site = c.args.site.now in
    let v = view_of (g.R.RunContract.meaning site) (g.R.ServiceContract.serving site) in
    let met = g.met.R.RunContract in
    let now = c.args.turn.now.moment.0 in
    let self = c.args.self.now in
    let progress = c.args.progress.now in
    let not : (all_taken (kept self.client) && self.waits.taken) ≡ false = elim c.else-is_all_taken.branch [
      | else-is_all_taken-via-then-is_all_taken+else-self w ↦ ap (λ x. x && self.waits.taken) (sym w.if-is_all_taken.ensures) ∙ w.if-self.false
      | else-is_all_taken-via-else-is_all_taken w ↦ ap (λ x. x && self.waits.taken) (sym w.if-is_all_taken.ensures)
    ] in
    ok-map c.going.result _ _ (λ on e. λ did m h. subst (λ (o : Bool). Went v o did c.lose.new.self c.lose.new.progress m) (sym e.0)
    (of-ok c.lose.result tt _ e.1 c.lose.ensures.moves stage.Busy did (waits-closes v (met.meets site) (met.apart site) now m did self progress h not (sym c.if-is_to_close.ensures)))) c.going.ensures

pub returns-then-is_to_close-clause-costs : goal.returns-then-is_to_close-clause-costs
returns-then-is_to_close-clause-costs g c = ok-map c.going.result _ _ (λ on e.
    let self = c.args.self.now in
    let progress = c.args.progress.now in
    subst (λ (o : Bool). Settles g.R.RunContract.left g.R.ServiceContract.bound o self progress c.lose.new.self c.lose.new.progress) (sym e.0)
    (costs-more g.R.RunContract.left g.R.ServiceContract.bound self c.lose.new.self progress c.lose.new.progress (of-ok c.lose.result tt _ e.1 c.lose.ensures.costs))) c.going.ensures

pub returns-then-self-2-clause-moves : goal.returns-then-self-2-clause-moves
returns-then-self-2-clause-moves g c =
    let site = c.args.site.now in
    let v = view_of (g.R.RunContract.meaning site) (g.R.ServiceContract.serving site) in
    let met = g.met.R.RunContract in
    let now = c.args.turn.now.moment.0 in
    let self = c.args.self.now in
    let progress = c.args.progress.now in
    let not : (all_taken (kept self.client) && self.waits.taken) ≡ false = elim c.else-is_all_taken.branch [
      | else-is_all_taken-via-then-is_all_taken+else-self w ↦ ap (λ x. x && self.waits.taken) (sym w.if-is_all_taken.ensures) ∙ w.if-self.false
      | else-is_all_taken-via-else-is_all_taken w ↦ ap (λ x. x && self.waits.taken) (sym w.if-is_all_taken.ensures)
    ] in
    ok-map c.ask_body.result _ _ (λ on goes. λ did m h. goes did m (waits-asks v (met.meets site) (met.apart site) now m did self progress h not (sym c.if-is_to_close.ensures) c.if-self-2.true)) c.ask_body.ensures.moves

pub returns-clause-moves : goal.returns-clause-moves
returns-clause-moves g c = λ did m h.
    let site = c.args.site.now in
    let v = view_of (g.R.RunContract.meaning site) (g.R.ServiceContract.serving site) in
    let met = g.met.R.RunContract in
    let now = c.args.turn.now.moment.0 in
    let self = c.args.self.now in
    let progress = c.args.progress.now in
    let not : (all_taken (kept self.client) && self.waits.taken) ≡ false = elim c.else-is_all_taken.branch [
      | else-is_all_taken-via-then-is_all_taken+else-self w ↦ ap (λ x. x && self.waits.taken) (sym w.if-is_all_taken.ensures) ∙ w.if-self.false
      | else-is_all_taken-via-else-is_all_taken w ↦ ap (λ x. x && self.waits.taken) (sym w.if-is_all_taken.ensures)
    ] in
    done-came v stage.Busy did self progress (waits-not v (met.meets site) (met.apart site) now m did self progress h not (sym c.if-is_to_close.ensures) c.if-self-2.false)
