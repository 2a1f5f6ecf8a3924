-- The last of the key is crowded out, where there are too many.
use Rattle.std.proofs.Common.{◌≡◌, ℕ, List, max, map, nat_eq, Option, ap, ◌∙◌, subst, arith, rules}
use Rattle.std.specs.List.{IsDistinct}
use Rattle.shared_rules.specs.declared.sockets.Idle.{Idle}
use Rattle.shared_rules.specs.Pool.{without_socket, without_any, crowded_out}
use Rattle.sock_pool.proofs.Crowded.{crowded-is, crowded-after}
use Rattle.sock_pool.proofs.Pooled.{once-idle}
use Rattle.sock_pool.proofs.pool.Pool.keep.Goals as goal

pub returns-clause-closed : goal.returns-clause-closed
returns-clause-closed c =
    let i = c.args.idle in
    let others = without_socket i.sock c.args.self.now in
    let k : c.in_ok-key.key ≡ i.key = search rules in
    let m : c.max.result ≡ max 1 c.args.size = omega (arith, c.max.ensures) in
    c.last_above-crowded.ensures ∙ crowded-is i c.args.size c.max.result c.in_ok-key.key others c.self.inside.recent c.self.inside.keys c.self.inside.deadlines c.self.invariant (c.self.view_is ∙ c.in_ok-put_first.ensures.done) k m

pub returns-clause-done : goal.returns-clause-done
returns-clause-done c =
    let i = c.args.idle in
    let others = without_socket i.sock c.args.self.now in
    let k : c.in_ok-key.key ≡ i.key = search rules in
    let m : c.max.result ≡ max 1 c.args.size = omega (arith, c.max.ensures) in
    let v = c.self.view_is ∙ c.in_ok-put_first.ensures.done in
    let closed = c.last_above-crowded.ensures ∙ crowded-is i c.args.size c.max.result c.in_ok-key.key others c.self.inside.recent c.self.inside.keys c.self.inside.deadlines c.self.invariant v k m in
    let once = subst (λ (l : List Idle). IsDistinct nat_eq (map (λ x. x.sock) l)) v (once-idle c.self.inside.recent c.self.inside.keys c.self.inside.deadlines c.self.invariant) in
    c.take_out_any.ensures ∙ ap (λ (o : Option ℕ). without_any o c.put_first.new.self) closed ∙ ap (λ (l : List Idle). without_any (crowded_out i.key c.args.size others) l) c.in_ok-put_first.ensures.done
    ∙ crowded-after i i.key c.args.size others once
