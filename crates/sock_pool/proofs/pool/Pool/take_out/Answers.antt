-- The socket leaves with its number, its key and its deadline.
use Rattle.std.proofs.Common.{ap, ◌∙◌, sym, Some, None, find}
use Rattle.shared_rules.specs.Pool.{without_socket}
use Rattle.sock_pool.specs.Kept.{idle_of}
use Rattle.sock_pool.proofs.Entries.{is_of, removed-is}
use Rattle.sock_pool.proofs.Pooled.{stays, leaves, found-idle, disarmed-all, disarmed-last}
use Rattle.sock_pool.proofs.pool.Pool.take_out.Goals as goal

pub invariant_of-self : goal.invariant_of-self
invariant_of-self c = stays c.args.sock c.self.inside.recent c.take_out.new.self c.self.inside.keys c.self.inside.deadlines c.self.invariant (sym c.in_err-idle.ensures.value) c.take_out.ensures.rest

pub returns-in_err-idle-clause-idle : goal.returns-in_err-idle-clause-idle
returns-in_err-idle-clause-idle c = let f = found-idle c.args.sock c.self.inside.recent None c.self.invariant.each c.in_err-idle.ensures.value in c.from_residual.ensures ∙ f ∙ ap (find (is_of c.args.sock)) c.self.view_is

pub returns-in_err-idle-clause-left : goal.returns-in_err-idle-clause-left
returns-in_err-idle-clause-left c = ap idle_of c.take_out.ensures.rest ∙ removed-is c.args.sock c.self.inside.recent c.self.invariant.each ∙ ap (without_socket c.args.sock) c.self.view_is

pub invariant_of-self-2 : goal.invariant_of-self-2
invariant_of-self-2 c =
    let h = sym c.in_ok-idle.ensures.value in
    let d = c.disarm.ensures in
    leaves c.args.sock c.in_ok-idle.field-0 c.self.inside.recent c.take_out.new.self c.self.inside.keys c.take_out-2.new.self c.self.inside.deadlines c.disarm.new.deadlines c.self.invariant h c.take_out.ensures.rest
    c.take_out-2.ensures (ap (λ v. v.armed) d ∙ disarmed-all c.args.sock c.in_ok-idle.field-0 c.self.inside.recent c.self.inside.keys c.self.inside.deadlines c.self.invariant h)
    (ap (λ v. v.last) d ∙ disarmed-last c.in_ok-idle.field-0.deadline c.self.inside.deadlines)

pub returns-clause-idle : goal.returns-clause-idle
returns-clause-idle c = let f = found-idle c.args.sock c.self.inside.recent (Some c.in_ok-idle.field-0) c.self.invariant.each c.in_ok-idle.ensures.value in rw (← c.self.view_is) f

pub returns-clause-left : goal.returns-clause-left
returns-clause-left c = ap idle_of c.take_out.ensures.rest ∙ removed-is c.args.sock c.self.inside.recent c.self.invariant.each ∙ ap (without_socket c.args.sock) c.self.view_is
