use Rattle.std.proofs.Common.{◌≡◌, sym, ap, ◌∙◌, arith}
use Rattle.std.specs.Map.{lookup_entry}
use Rattle.shared_rules.specs.Keys.{same_key}
use Rattle.shared_dict.specs.Kept.{bytes_of}
use Rattle.shared_dict.proofs.Entries.{taken-used, out-numbered, without-is}
use Rattle.shared_dict.proofs.items.Items.take_out.Goals as goal

pub overflow_sub-self : goal.overflow_sub-self
overflow_sub-self c =
    let u = taken-used c.self.inside.flush c.args.key.now c.self.inside.recent in
    let b : c.bytes_of.result ≡ bytes_of (lookup_entry (same_key c.args.key.now) c.self.inside.recent) = c.bytes_of.ensures ∙ ap bytes_of c.take.ensures.taken in
    omega (arith, c.self.invariant.counted)

pub invariant_of-self : goal.invariant_of-self
invariant_of-self c =
    let u = taken-used c.self.inside.flush c.args.key.now c.self.inside.recent in
    let b : c.bytes_of.result ≡ bytes_of (lookup_entry (same_key c.args.key.now) c.self.inside.recent) = c.bytes_of.ensures ∙ ap bytes_of c.take.ensures.taken in
    rw c.take.ensures.left (record {
      counted = omega (arith, c.self.invariant.counted);
      numbers = out-numbered c.self.inside.last c.args.key.now c.self.inside.recent c.self.invariant.numbers;
      flushed = c.self.invariant.flushed;
    })

pub returns : goal.returns
returns c = rw (← c.self.view_is, c.take.ensures.left) (sym (without-is c.self.inside.flush c.args.key.now c.self.inside.recent))
