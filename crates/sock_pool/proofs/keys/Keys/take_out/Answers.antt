-- The sockets of the key are those that were written, or the key is gone with its last one.
use Rattle.std.proofs.Common.{◌≡◌, sym, ap, ◌∙◌, cond, Bool, true, false, Option, Some, None, refl, length, rules}
use Rattle.std.specs.Map.{lookup}
use Rattle.shared_rules.specs.Keys.{same_key}
use Rattle.sock_pool.specs.Keys.{numbers_in}
use Rattle.sock_pool.proofs.Socks.{takes-out, takes-last}
use Rattle.sock_pool.proofs.keys.Keys.take_out.Goals as goal

-- what is taken away needn't be written before
twice : {A : Type 0} (b : Bool) (w : Option A) (o : Option A) → cond b None (cond b w o) ≡ cond b None o
twice true w o = refl
twice false w o = refl

pub returns-then-len-eq0 : goal.returns-then-len-eq0
returns-then-len-eq0 c k =
    let es = c.args.self.now.by_key.entries in
    let key = c.args.key.now in
    let new = c.take_out-was_there.new.self in
    let written = ((c.get_mut.follows.holds new).3 (search rules)).0 k in
    let gone = c.swap_remove-empty.ensures.updates.0 k in
    let none = ap length (sym c.take_out-was_there.ensures.rest) ∙ sym c.len.ensures ∙ c.if-len-eq0.true in
    ap numbers_in (gone ∙ ap (cond (same_key key k) None) written ∙ twice (same_key key k) (Some new) (lookup (same_key k) es))
    ∙ takes-last es key c.args.sock k c.in-Some.socks.now (sym c.in-Some.ensures.value) none

pub returns-else-len-eq0 : goal.returns-else-len-eq0
returns-else-len-eq0 c k =
    let es = c.args.self.now.by_key.entries in
    let key = c.args.key.now in
    let written = ((c.get_mut.follows.holds c.take_out-was_there.new.self).3 (search rules)).0 k in
    ap numbers_in written ∙ ap (λ w. numbers_in (cond (same_key key k) (Some w) (lookup (same_key k) es))) c.take_out-was_there.ensures.rest
    ∙ takes-out es key c.args.sock k c.in-Some.socks.now (sym c.in-Some.ensures.value)
