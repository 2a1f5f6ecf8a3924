use Rattle.std.proofs.Common.{◌≡◌, ◌-◌, length, sym, ap, ◌∙◌, arith}
use Rattle.lru.specs.LruCache.{last_entry}
use Rattle.shared_dict.specs.Kept.{bytes_of}
use Rattle.shared_dict.proofs.Entries.{popped-used, take-numbered, last-is}
use Rattle.shared_dict.proofs.items.Items.pop_last.Goals as goal

pub overflow_sub-self : goal.overflow_sub-self
overflow_sub-self c =
    let u = popped-used c.self.inside.flush c.self.inside.recent in
    let b : c.bytes_of.result ≡ bytes_of (last_entry c.self.inside.recent) = c.bytes_of.ensures ∙ ap bytes_of c.pop.ensures.taken in
    omega (arith, c.self.invariant.counted)

pub invariant_of-self : goal.invariant_of-self
invariant_of-self c =
    let u = popped-used c.self.inside.flush c.self.inside.recent in
    let b : c.bytes_of.result ≡ bytes_of (last_entry c.self.inside.recent) = c.bytes_of.ensures ∙ ap bytes_of c.pop.ensures.taken in
    rw c.pop.ensures.left (record {
      counted = omega (arith, c.self.invariant.counted);
      numbers = take-numbered c.self.inside.last (length c.self.inside.recent - 1) c.self.inside.recent c.self.invariant.numbers;
      flushed = c.self.invariant.flushed;
    })

pub returns : goal.returns
returns c = rw (← c.self.view_is, c.pop.ensures.left) (sym (last-is c.self.inside.flush c.self.inside.recent))
