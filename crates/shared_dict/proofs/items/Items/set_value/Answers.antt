use Rattle.std.proofs.Common.{ap, ◌∙◌, sym, List}
use Rattle.std.specs.List.{find}
use Rattle.shared_rules.specs.declared.items.Item.{Item}
use Rattle.shared_rules.specs.Items.{value_size, has_key, first}
use Rattle.shared_dict.specs.Kept.{items_of}
use Rattle.shared_dict.proofs.Entries.{entry-of, set-counted, set-items}
use Rattle.shared_dict.proofs.items.Items.set_value.Goals as goal

pub invariant_of-self : goal.invariant_of-self
invariant_of-self c =
    let r = c.requires in
    let v = ap (find (has_key c.args.key.now)) c.self.view_is in
    let e = entry-of c.self.inside.flush c.args.key.now c.self.inside.recent r.0 (v ∙ r.1) in
    rw (c.set_value.ensures e.0 e.1)
    (set-counted c.self.inside.flush c.self.inside.last c.self.inside.bytes c.args.value e.0 c.args.key.now c.self.inside.recent c.self.invariant e.1 (r.2 ∙ ap (λ (i : Item). value_size i.value) (sym e.2)))

pub returns : goal.returns
returns c i h =
    let v = ap (find (has_key c.args.key.now)) c.self.view_is in
    let f = c.self.inside.flush in
    let e = entry-of f c.args.key.now c.self.inside.recent i (v ∙ h) in
    ap (items_of f) (c.set_value.ensures e.0 e.1)
    ∙ set-items f c.args.value e.0 c.args.key.now c.self.inside.recent e.1
    ∙ ap (λ (i : Item). first (record i { value = c.args.value }) (items_of f c.self.inside.recent)) e.2
    ∙ ap (λ (l : List Item). first (record i { value = c.args.value }) l) c.self.view_is
