-- The first of the key's sockets is the first of its key.
use Rattle.std.proofs.Common.{ap, ◌∙◌, sym, Option, Some, option_map, ℕ}
use Rattle.shared_rules.specs.Pool.{given, without_any}
use Rattle.sock_pool.proofs.Pooled.{taken-is}
use Rattle.sock_pool.proofs.pool.Pool.take.Goals as goal

pub returns-in_err-idle-clause-socket : goal.returns-in_err-idle-clause-socket
returns-in_err-idle-clause-socket c =
    let t = taken-is c.in_ok-sock.sock c.args.key.now c.self.inside.recent c.self.inside.keys c.self.inside.deadlines c.args.self.now c.self.invariant c.self.view_is c.in_ok-sock.ensures in
    c.from_residual-in_err-idle.ensures ∙ ap (option_map given) (c.in_err-idle.ensures.idle ∙ t.0)

pub returns-in_err-idle-clause-left : goal.returns-in_err-idle-clause-left
returns-in_err-idle-clause-left c =
    let t = taken-is c.in_ok-sock.sock c.args.key.now c.self.inside.recent c.self.inside.keys c.self.inside.deadlines c.args.self.now c.self.invariant c.self.view_is c.in_ok-sock.ensures in
    c.take_out.ensures.left ∙ ap (λ (o : Option ℕ). without_any o c.args.self.now) (sym t.1)

pub returns-clause-socket : goal.returns-clause-socket
returns-clause-socket c =
    let t = taken-is c.in_ok-sock.sock c.args.key.now c.self.inside.recent c.self.inside.keys c.self.inside.deadlines c.args.self.now c.self.invariant c.self.view_is c.in_ok-sock.ensures in
    ap Some c.taken.ensures ∙ ap (option_map given) (c.in_ok-idle.ensures.idle ∙ t.0)

pub returns-clause-left : goal.returns-clause-left
returns-clause-left c =
    let t = taken-is c.in_ok-sock.sock c.args.key.now c.self.inside.recent c.self.inside.keys c.self.inside.deadlines c.args.self.now c.self.invariant c.self.view_is c.in_ok-sock.ensures in
    c.take_out.ensures.left ∙ ap (λ (o : Option ℕ). without_any o c.args.self.now) (sym t.1)
