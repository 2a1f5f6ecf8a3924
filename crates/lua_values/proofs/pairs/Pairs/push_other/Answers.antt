use Rattle.std.proofs.Common.{◌≡◌, ◌+◌, ◌<◌, false, length, ap, ◌∙◌, arith}
use Rattle.lua_values.specs.Pairs.{has_entry}
use Rattle.lua_values.proofs.NumberedLemmas.{length-all, few-insert, link-put, push-other}
use Rattle.lua_values.proofs.pairs.Pairs.push_other.Goals as goal

pub invariant_of-self : goal.invariant_of-self
invariant_of-self c =
    let room : length c.self.inside.numbered.items + length c.self.inside.others.entries < 32_768 =
    omega (arith, length-all c.self.inside.numbered.items c.self.inside.others.entries, ap length c.self.view_is, c.requires.few) in
    let absent : has_entry c.args.self.now c.args.key ≡ false = c.requires.absent in (
      rw c.in-Ok.ensures.entries (few-insert (length c.self.inside.numbered.items) c.self.inside.others.entries c.args.key c.args.value room),
      rw (c.in-Ok.ensures.entries, link-put c.self.inside.numbered.items c.self.inside.others.entries c.args.key c.args.value (ap (λ ps. has_entry ps c.args.key) c.self.view_is ∙ absent), ← c.self.invariant.1, ← c.len.ensures.len) c.link_with-link.ensures,
    )

pub returns-in-Ok-clause-done : goal.returns-in-Ok-clause-done
returns-in-Ok-clause-done c =
    let absent : has_entry c.args.self.now c.args.key ≡ false = c.requires.absent in
    rw (c.in-Ok.ensures.entries, ← c.self.view_is)
    (push-other c.self.inside.numbered.items c.self.inside.others.entries c.args.key c.args.value (ap (λ ps. has_entry ps c.args.key) c.self.view_is ∙ absent))
