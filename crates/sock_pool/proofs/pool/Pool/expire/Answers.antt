-- The socket of the deadline that is due leaves.
use Rattle.std.proofs.Common.{◌≡◌, ap, ◌∙◌, sym, subst, refl, Option, Some, None, option_map, ℕ, List}
use Rattle.shared_rules.specs.declared.sockets.Idle.{Idle}
use Rattle.shared_rules.specs.Pool.{without_any, over_first}
use Rattle.wakes.specs.Times.{DeadlinesView}
use Rattle.sock_pool.specs.Kept.{idle_of, IsPooled}
use Rattle.sock_pool.proofs.Entries.{removed-is}
use Rattle.sock_pool.proofs.Due.{none-over, one-over}
use Rattle.sock_pool.proofs.Pooled.{leaves}
use Rattle.sock_pool.proofs.pool.Pool.expire.Goals as goal

pub invariant_of-self : goal.invariant_of-self
invariant_of-self c =
    let n = none-over c.args.now.0 c.self.inside.recent c.self.inside.keys c.self.inside.deadlines c.self.invariant c.in_err-sock.ensures.socket in
    subst (λ (v : DeadlinesView). IsPooled c.self.inside.recent c.self.inside.keys v) (sym (c.due_socket.ensures.left ∙ n.1)) c.self.invariant

pub returns-in_err-sock-clause-socket : goal.returns-in_err-sock-clause-socket
returns-in_err-sock-clause-socket c =
    let n = none-over c.args.now.0 c.self.inside.recent c.self.inside.keys c.self.inside.deadlines c.self.invariant c.in_err-sock.ensures.socket in
    c.from_residual.ensures ∙ sym (ap (option_map (λ (i : Idle). i.sock)) n.0) ∙ ap (λ (l : List Idle). option_map (λ i. i.sock) (over_first c.args.now.0 l)) c.self.view_is

pub returns-in_err-sock-clause-left : goal.returns-in_err-sock-clause-left
returns-in_err-sock-clause-left c =
    let n = none-over c.args.now.0 c.self.inside.recent c.self.inside.keys c.self.inside.deadlines c.self.invariant c.in_err-sock.ensures.socket in
    rw (← c.self.view_is, n.0) refl

pub invariant_of-self-in_err-parked : goal.invariant_of-self-in_err-parked
invariant_of-self-in_err-parked c =
    let o = one-over c.args.now.0 c.in_ok-sock.sock c.self.inside.recent c.self.inside.keys c.self.inside.deadlines c.self.invariant c.in_ok-sock.ensures.socket in
    absurd (let f : None ≡ Some o.parked = c.in_err-parked.ensures.value ∙ o.found in cc)

pub returns-in_err-parked-clause-socket : goal.returns-in_err-parked-clause-socket
returns-in_err-parked-clause-socket c =
    let o = one-over c.args.now.0 c.in_ok-sock.sock c.self.inside.recent c.self.inside.keys c.self.inside.deadlines c.self.invariant c.in_ok-sock.ensures.socket in
    absurd (let f : None ≡ Some o.parked = c.in_err-parked.ensures.value ∙ o.found in cc)

pub returns-in_err-parked-clause-left : goal.returns-in_err-parked-clause-left
returns-in_err-parked-clause-left c =
    let o = one-over c.args.now.0 c.in_ok-sock.sock c.self.inside.recent c.self.inside.keys c.self.inside.deadlines c.self.invariant c.in_ok-sock.ensures.socket in
    absurd (let f : None ≡ Some o.parked = c.in_err-parked.ensures.value ∙ o.found in cc)

pub invariant_of-self-2 : goal.invariant_of-self-2
invariant_of-self-2 c =
    let o = one-over c.args.now.0 c.in_ok-sock.sock c.self.inside.recent c.self.inside.keys c.self.inside.deadlines c.self.invariant c.in_ok-sock.ensures.socket in
    leaves c.in_ok-sock.sock c.in_ok-parked.parked c.self.inside.recent c.take_out.new.self c.self.inside.keys c.take_out-2.new.self c.self.inside.deadlines c.due_socket.new.deadlines c.self.invariant
    (sym c.in_ok-parked.ensures.value) c.take_out.ensures.rest c.take_out-2.ensures (ap (λ v. v.armed) c.due_socket.ensures.left ∙ o.armed) (ap (λ v. v.last) c.due_socket.ensures.left)

pub returns-clause-socket : goal.returns-clause-socket
returns-clause-socket c =
    let o = one-over c.args.now.0 c.in_ok-sock.sock c.self.inside.recent c.self.inside.keys c.self.inside.deadlines c.self.invariant c.in_ok-sock.ensures.socket in
    sym o.first ∙ ap (λ (l : List Idle). option_map (λ i. i.sock) (over_first c.args.now.0 l)) c.self.view_is

pub returns-clause-left : goal.returns-clause-left
returns-clause-left c =
    let o = one-over c.args.now.0 c.in_ok-sock.sock c.self.inside.recent c.self.inside.keys c.self.inside.deadlines c.self.invariant c.in_ok-sock.ensures.socket in
    ap idle_of c.take_out.ensures.rest ∙ removed-is c.in_ok-sock.sock c.self.inside.recent c.self.invariant.each ∙ sym (ap (λ (s : Option ℕ). without_any s (idle_of c.self.inside.recent)) o.first)
    ∙ ap (λ (l : List Idle). without_any (option_map (λ i. i.sock) (over_first c.args.now.0 l)) l) c.self.view_is
