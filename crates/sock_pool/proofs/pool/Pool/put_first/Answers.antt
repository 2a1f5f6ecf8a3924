-- The socket is put first, with its key and its deadline, or all stays.
use Rattle.std.proofs.Common.{ap, ◌∙◌, refl, ◌∷◌}
use Rattle.shared_rules.specs.Pool.{without_socket}
use Rattle.sock_pool.specs.Keys.{left_out}
use Rattle.sock_pool.specs.Kept.{idle_of}
use Rattle.sock_pool.specs.Changes.{disarmed, forgotten_deadline}
use Rattle.sock_pool.proofs.Entries.{removed-is}
use Rattle.sock_pool.proofs.Put.{puts, undone, undone-keys}
use Rattle.sock_pool.proofs.pool.Pool.put_first.Goals as goal

pub invariant_of-self-in_default : goal.invariant_of-self-in_default
invariant_of-self-in_default c =
    let d = c.in_ok-deadline.deadline in
    undone c.args.idle.until c.args.idle.sock d c.self.inside.recent c.self.inside.recent c.self.inside.keys c.put.new.self c.self.inside.deadlines c.disarm.new.deadlines c.self.invariant refl
    c.in_default.ensures.kept c.in_ok-deadline.ensures.number (c.disarm.ensures ∙ ap (disarmed d) c.in_ok-deadline.ensures.done)

pub invariant_of-self-in_default-put : goal.invariant_of-self-in_default-put
invariant_of-self-in_default-put c =
    let d = c.in_ok-deadline.deadline in
    let n = c.args.idle.sock in
    let key = c.args.key.now in
    undone c.args.idle.until n d c.self.inside.recent c.put-2.new.self c.self.inside.keys c.take_out.new.self c.self.inside.deadlines c.disarm-in_default-put.new.deadlines c.self.invariant c.in_default-put.ensures.kept
    (λ k. c.take_out.ensures k ∙ ap (left_out key n k) (c.in-Ok.ensures.done k) ∙ undone-keys n key k c.self.inside.recent c.self.inside.keys c.self.inside.deadlines c.self.invariant c.in_default-put.ensures.absent)
    c.in_ok-deadline.ensures.number (c.disarm-in_default-put.ensures ∙ ap (disarmed d) c.in_ok-deadline.ensures.done)

pub invariant_of-self-2 : goal.invariant_of-self-2
invariant_of-self-2 c =
    let r = c.in-Ok-put.replaced in
    puts c.args.idle c.args.key.now c.in_ok-deadline.deadline c.self.inside.recent c.put-2.new.self c.self.inside.keys c.put.new.self c.forget.new.keys c.self.inside.deadlines c.forget.new.deadlines r c.self.invariant
    c.requires c.in-Ok-put.ensures.old c.in-Ok-put.ensures.done c.in-Ok.ensures.done c.forget.ensures.keys c.in_ok-deadline.ensures.number
    (c.forget.ensures.deadlines ∙ ap (forgotten_deadline r) c.in_ok-deadline.ensures.done)

pub returns-clause-done : goal.returns-clause-done
returns-clause-done c =
    ap idle_of c.in-Ok-put.ensures.done ∙ ap (λ l. c.args.idle ∷ l) (removed-is c.args.idle.sock c.self.inside.recent c.self.invariant.each ∙ ap (without_socket c.args.idle.sock) c.self.view_is)
