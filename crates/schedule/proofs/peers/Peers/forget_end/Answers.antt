use Rattle.std.proofs.Common.{sym, ap, ◌∙◌}
use Rattle.std.specs.Bool.{if◌then◌else◌}
use Rattle.resty_world.specs.Ids.{same_id}
use Rattle.schedule.specs.Peers.{peer_at, unended}
use Rattle.schedule.proofs.peers.Peers.forget_end.Goals as goal

pub returns-in-Some-clause-forgotten : goal.returns-in-Some-clause-forgotten
returns-in-Some-clause-forgotten c =
    let roll = c.args.self.now in
    λ x. c.set.ensures.set x ∙ ap (λ p. if same_id x c.args.id then unended p else peer_at roll x) (sym (sym c.get.ensures ∙ c.in-Some.is))
