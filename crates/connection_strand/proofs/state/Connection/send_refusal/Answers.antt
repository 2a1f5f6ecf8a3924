use Rattle.std.proofs.Common.{length, ◌+◌, ◌*◌, sym, subst, arith}
use Rattle.connection_plan.specs.Turns.{send}
use Rattle.connection_strand.specs.Views.{view_of, service}
use Rattle.connection_strand.specs.Costs.{unit}
use Rattle.connection_strand.proofs.Ends.{ok-map}
use Rattle.connection_strand.proofs.Losing.{To}
use Rattle.connection_strand.proofs.Paying.{spends-more, unit-holds}
use Rattle.connection_strand.proofs.state.Connection.send_refusal.Goals as goal

pub returns-clause-moves : goal.returns-clause-moves
returns-clause-moves g c =
    let site = c.args.site.now in
    let v = view_of (g.R.RunContract.meaning site) (g.R.ServiceContract.serving site) in
    ok-map c.send.result _ _ (λ done goes. λ e did m h. goes e did m
    (subst (λ bytes. To v e did c.args.self.now c.args.progress.now (send (service v) 0 bytes m)) (sym c.in_ok-reply.ensures) h)) c.send.ensures.moves

pub returns-clause-costs : goal.returns-clause-costs
returns-clause-costs g c =
    let size = length c.in_ok-reply.reply in
    ok-map c.send.result _ _ (λ done spends.
    spends-more g.R.RunContract.left g.R.ServiceContract.bound (16 * size + 1) unit c.args.self.now c.send.new.self c.args.progress.now c.send.new.progress
    (unit-holds size (let e = c.len.ensures.value in let l = c.len.ensures.bound in omega arith)) spends) c.send.ensures.costs
