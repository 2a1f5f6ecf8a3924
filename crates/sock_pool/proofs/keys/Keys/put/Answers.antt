-- The sockets of the key are those that were written.
use Rattle.std.proofs.Common.{sym, ap, ◌∙◌, cond, Some, rules}
use Rattle.std.specs.Map.{lookup}
use Rattle.shared_rules.specs.Keys.{same_key}
use Rattle.sock_pool.specs.Keys.{numbers_in}
use Rattle.sock_pool.proofs.Socks.{puts-first}
use Rattle.sock_pool.proofs.keys.Keys.put.Goals as goal

pub returns-in-Some-clause-done : goal.returns-in-Some-clause-done
returns-in-Some-clause-done c k =
    let es = c.args.self.now.by_key.entries in
    let key = c.args.key.now in
    let written = ((c.get_mut.follows.holds c.put.new.self).3 (search rules)).0 k in
    ap numbers_in written ∙ ap (λ w. numbers_in (cond (same_key key k) (Some w) (lookup (same_key k) es))) c.in_ok-put.ensures.done
    ∙ puts-first es key c.args.sock k c.in-Some.socks.now tt (sym c.in-Some.ensures.value)
