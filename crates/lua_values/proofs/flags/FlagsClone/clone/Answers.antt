use Rattle.std.proofs.Common.{◌≡◌, ◌∙◌}
use Rattle.std.proofs.lemmas.List.Elements.{same_from_all_zip}
use Rattle.lua_values.proofs.flags.FlagsClone.clone.Goals as goal

pub invariant_of-result : goal.invariant_of-result
invariant_of-result c =
    let flags : c.in_ok-clone.field-0.items ≡ c.self.inside.flags.items = same_from_all_zip _ _ _ c.in_ok-clone.ensures.cases.0 (λ x y same. same) in
    let blocks : c.in_ok-clone-2.field-0.items ≡ c.self.inside.blocks.items = same_from_all_zip _ _ _ c.in_ok-clone-2.ensures.cases.0 (λ x y same. same) in
    let groups : c.in_ok-clone-3.field-0.items ≡ c.self.inside.groups.items = same_from_all_zip _ _ _ c.in_ok-clone-3.ensures.cases.0 (λ x y same. same) in
    rw (flags, blocks, groups) c.self.invariant

pub returns : goal.returns
returns c = record { cases = same_from_all_zip _ _ _ c.in_ok-clone.ensures.cases.0 (λ x y same. same) ∙ c.self.view_is }
