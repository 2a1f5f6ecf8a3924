use Rattle.std.proofs.Common.{◌≡◌, ◌+◌, ap, ◌∙◌, arith, refl}
use Rattle.shared_dict.specs.Kept.{kept_of, put_first}
use Rattle.shared_dict.proofs.Entries.{taken-used, put-counted, put-items}
use Rattle.shared_dict.proofs.items.Items.put.Goals as goal

pub overflow_sub-self : goal.overflow_sub-self
overflow_sub-self c = let u = taken-used c.self.inside.flush c.args.item.key c.self.inside.recent in omega (arith, c.bytes_at-freed.ensures, c.self.invariant.counted)

pub invariant_of-self-2 : goal.invariant_of-self-2
invariant_of-self-2 c =
    let n = c.self.inside.last + 1 in
    let e : c.put.new.self ≡ put_first c.args.item.key (kept_of n c.args.item).1 c.self.inside.recent = c.in_ok-put.ensures.done ∙ ap (λ e. put_first e.0 e.1 c.self.inside.recent) c.numbered-key.ensures in
    rw e (put-counted c.self.inside.flush n c.self.inside.last c.self.inside.bytes c.bytes_at-freed.result c.size_of-added.result c.args.item c.self.inside.recent c.self.invariant refl c.bytes_at-freed.ensures c.size_of-added.ensures.size)

pub returns-clause-done : goal.returns-clause-done
returns-clause-done c =
    let n = c.self.inside.last + 1 in
    let e : c.put.new.self ≡ put_first c.args.item.key (kept_of n c.args.item).1 c.self.inside.recent = c.in_ok-put.ensures.done ∙ ap (λ e. put_first e.0 e.1 c.self.inside.recent) c.numbered-key.ensures in
    rw (← c.self.view_is, e) (put-items c.self.inside.flush n c.args.item c.self.inside.recent (omega (arith, c.self.invariant.flushed)))
