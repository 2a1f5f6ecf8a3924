use Rattle.std.proofs.Common.{sym, ap, ◌∙◌, ◌&&◌}
use Rattle.connection_strand.specs.Kept.{kept}
use Rattle.connection_strand.specs.Standing.{plain}
use Rattle.connection_strand.specs.Views.{view_of}
use Rattle.connection_plan.specs.Clients as stage
use Rattle.connection_strand.proofs.Ends.{ok-map}
use Rattle.connection_strand.proofs.Offering.{and-none}
use Rattle.connection_strand.proofs.Speaking.{awaits-body, awaits-none, may_come}
use Rattle.connection_strand.proofs.state.Connection.await_body.Goals.{else-self-via-then-self+else-awaits_body, else-self-via-else-self}
use Rattle.connection_strand.proofs.state.Connection.await_body.Goals as goal

pub returns-then-awaits_body : goal.returns-then-awaits_body
returns-then-awaits_body g c =
    let site = c.args.site.now in
    let v = view_of (g.R.RunContract.meaning site) (g.R.ServiceContract.serving site) in
    let met = g.met.R.RunContract in
    ok-map c.wait_more.result _ _ (λ done goes. λ did m h. goes (plain stage.Busy) did m
    (awaits-body v (met.meets site) (met.apart site) c.args.turn.now.moment.0 did c.args.self.now c.args.progress.now m
    (ap (λ x. x && may_come (kept c.args.self.now.client)) c.if-self.true ∙ sym c.awaits_body.ensures ∙ c.if-awaits_body.true) h)) c.wait_more.ensures.moves

pub returns-else-self : goal.returns-else-self
returns-else-self g c = λ did m h.
    let site = c.args.site.now in
    let v = view_of (g.R.RunContract.meaning site) (g.R.ServiceContract.serving site) in
    let met = g.met.R.RunContract in
    awaits-none v (met.meets site) (met.apart site) c.args.turn.now.moment.0 did c.args.self.now c.args.progress.now m
    (elim c.else-self.branch [
      | else-self-via-then-self+else-awaits_body w ↦ and-none c.args.self.now.waits.body (may_come (kept c.args.self.now.client)) (sym w.awaits_body.ensures ∙ w.if-awaits_body.false)
      | else-self-via-else-self w ↦ ap (λ x. x && may_come (kept c.args.self.now.client)) w.if-self.false
    ]) h
