use Rattle.std.proofs.Common.{◌≡◌, ◌+◌, ◌/◌, ◌<◌, false, [], ◌∷◌, ◌++◌, length, refl, sym, inl, inr, ◌∙◌, arith}
use Rattle.std.proofs.lemmas.Grind.{common_steps}
use Rattle.std.proofs.lemmas.List.{length_push}
use Rattle.std.proofs.lemmas.Bool.{cases_lt}
use Rattle.lua_values.proofs.FlagLemmas.{flag_at-grown, front-blocks, Covered, grown-blocks, grown-groups, standing-grown}
use Rattle.lua_values.proofs.flags.Flags.grow.Goals as goal

pub invariant_of-self-in_err-cover-2 : goal.invariant_of-self-in_err-cover-2
invariant_of-self-in_err-cover-2 c =
    let s = c.self.inside in
    let index = c.len-index.result in
    let fronts = front-blocks s.flags.items s.blocks.items s.groups.items c.self.invariant.0 c.self.invariant.1 in
    let groups : Covered s.groups.items c.cover.new.blocks.items (index / 32 / 32) = record { same = c.cover.ensures.same; longer = c.cover.ensures.longer; few = c.cover.ensures.few } in
    let blocks : Covered s.blocks.items c.cover-2.new.blocks.items (index / 32) = record { same = c.cover-2.ensures.same; longer = c.cover-2.ensures.longer; few = c.cover-2.ensures.few } in
    let group_there : index / 32 / 32 < length c.cover.new.blocks.items = c.in_ok-cover.ensures.covered (omega arith) in (
      grown-blocks s.flags.items s.flags.items s.blocks.items c.cover-2.new.blocks.items (index / 32) c.self.invariant.0 blocks (λ k. refl) (λ k lt. inl lt),
      grown-groups s.blocks.items c.cover-2.new.blocks.items s.groups.items c.cover.new.blocks.items (index / 32) c.self.invariant.1 blocks groups group_there,
      c.self.invariant.2,
      c.self.invariant.3,
    )

pub invariant_of-self-in_err-push : goal.invariant_of-self-in_err-push
invariant_of-self-in_err-push c =
    let s = c.self.inside in
    let index = c.len-index.result in
    let fronts = front-blocks s.flags.items s.blocks.items s.groups.items c.self.invariant.0 c.self.invariant.1 in
    let groups : Covered s.groups.items c.cover.new.blocks.items (index / 32 / 32) = record { same = c.cover.ensures.same; longer = c.cover.ensures.longer; few = c.cover.ensures.few } in
    let blocks : Covered s.blocks.items c.cover-2.new.blocks.items (index / 32) = record { same = c.cover-2.ensures.same; longer = c.cover-2.ensures.longer; few = c.cover-2.ensures.few } in
    let group_there : index / 32 / 32 < length c.cover.new.blocks.items = c.in_ok-cover.ensures.covered (omega arith) in
    rw c.in_err-push.ensures.items (
      grown-blocks s.flags.items s.flags.items s.blocks.items c.cover-2.new.blocks.items (index / 32) c.self.invariant.0 blocks (λ k. refl) (λ k lt. inl lt),
      grown-groups s.blocks.items c.cover-2.new.blocks.items s.groups.items c.cover.new.blocks.items (index / 32) c.self.invariant.1 blocks groups group_there,
      c.self.invariant.2,
      c.self.invariant.3,
    )

pub invariant_of-self-2 : goal.invariant_of-self-2
invariant_of-self-2 c =
    let s = c.self.inside in
    let index = c.len-index.result in
    let fronts = front-blocks s.flags.items s.blocks.items s.groups.items c.self.invariant.0 c.self.invariant.1 in
    let groups : Covered s.groups.items c.cover.new.blocks.items (index / 32 / 32) = record { same = c.cover.ensures.same; longer = c.cover.ensures.longer; few = c.cover.ensures.few } in
    let blocks : Covered s.blocks.items c.cover-2.new.blocks.items (index / 32) = record { same = c.cover-2.ensures.same; longer = c.cover-2.ensures.longer; few = c.cover-2.ensures.few } in
    let group_there : index / 32 / 32 < length c.cover.new.blocks.items = c.in_ok-cover.ensures.covered (omega arith) in
    let block_there : index / 32 < length c.cover-2.new.blocks.items = c.in_ok-cover-2.ensures.covered (omega arith) in
    let more : length (s.flags.items ++ false ∷ []) ≡ length s.flags.items + 1 = length_push s.flags.items false in
    rw c.in_ok-push.ensures.items (
      grown-blocks s.flags.items (s.flags.items ++ false ∷ []) s.blocks.items c.cover-2.new.blocks.items (index / 32) c.self.invariant.0 blocks (flag_at-grown s.flags.items)
          (λ k lt. elim (cases_lt k (length s.flags.items)) [ inl old ↦ inl old | inr new ↦ let at : k ≡ index = omega arith in inr (omega arith) ]),
      grown-groups s.blocks.items c.cover-2.new.blocks.items s.groups.items c.cover.new.blocks.items (index / 32) c.self.invariant.1 blocks groups group_there,
      omega arith,
      c.self.invariant.3 ∙ sym (standing-grown s.flags.items),
    )

pub returns-clause-done : goal.returns-clause-done
returns-clause-done c = grind (arith, common_steps)

pub returns-clause-few : goal.returns-clause-few
returns-clause-few c = grind (arith, common_steps)

pub returns-in_err-push : goal.returns-in_err-push
returns-in_err-push c = grind (arith, common_steps)

pub returns-in_err-cover : goal.returns-in_err-cover
returns-in_err-cover c = grind (arith, common_steps)

pub returns-in_err-cover-2 : goal.returns-in_err-cover-2
returns-in_err-cover-2 c = grind (arith, common_steps)

pub invariant_of-self : goal.invariant_of-self
invariant_of-self c = grind (arith, common_steps)
