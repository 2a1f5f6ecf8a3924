use Rattle.std.proofs.Common.{◌≡◌, ◌+◌, ◌/◌, ◌<◌, true, false, length, slice_set, sym, ap, subst, ◌∙◌, arith}
use Rattle.std.proofs.lemmas.List.{get_or_read, length-set}
use Rattle.lua_values.specs.Flags.{flag_at, IsBlank}
use Rattle.lua_values.proofs.FlagLemmas.{summary-set, standing-most, standing-set, standing-some, unlike}
use Rattle.lua_values.proofs.flags.Flags.set.Goals as goal

pub count_with-self-inside-requires-clause-few : goal.count_with-self-inside-requires-clause-few
count_with-self-inside-requires-clause-few c = omega (arith, standing-most c.self.inside.flags.items, c.self.invariant.2, c.self.invariant.3)

pub count_with-self-inside-requires-clause-some : goal.count_with-self-inside-requires-clause-some
count_with-self-inside-requires-clause-some c = λ off.
    let s = c.self.inside in
    let there : c.args.index < length s.flags.items = subst (λ xs. c.args.index < length xs) (sym c.self.view_is) c.requires in
    let turned : flag_at s.flags.items c.args.index ≡ c.args.flag → ⊥ = λ e. unlike c.index.result.now c.args.flag c.if-index-flag.false (get_or_read s.flags.items c.args.index c.index.result.now there c.index.ensures false ∙ e) in
    let some = standing-some s.flags.items c.args.index (λ e. turned (e ∙ sym off)) in
    omega (arith, some, c.self.invariant.3)

pub invariant_of-self : goal.invariant_of-self
invariant_of-self c =
    let s = c.self.inside in
    let index = c.args.index in
    let same : length (slice_set s.flags.items index c.args.flag) ≡ length s.flags.items = length-set s.flags.items index c.args.flag in
    let there : index < length s.flags.items = subst (λ xs. index < length xs) (sym c.self.view_is) c.requires in
    let turned : flag_at s.flags.items index ≡ c.args.flag → ⊥ = λ e. unlike c.index.result.now c.args.flag c.if-index-flag.false (get_or_read s.flags.items index c.index.result.now there c.index.ensures false ∙ e) in (
      summary-set s.flags.items s.blocks.items index c.args.flag c.any_in.result c.self.invariant.0 there
          (subst (λ xs. c.any_in.result ≡ false → IsBlank xs (index / 32)) c.as_slice.ensures.value c.any_in.ensures.none)
          (subst (λ xs. c.any_in.result ≡ true → IsBlank xs (index / 32) → ⊥) c.as_slice.ensures.value c.any_in.ensures.some),
      summary-set s.blocks.items s.groups.items (index / 32) c.any_in.result c.any_in-2.result c.self.invariant.1 (c.self.invariant.0.covers index there)
          (subst (λ xs. c.any_in-2.result ≡ false → IsBlank xs (index / 32 / 32)) c.as_slice-2.ensures.value c.any_in-2.ensures.none)
          (subst (λ xs. c.any_in-2.result ≡ true → IsBlank xs (index / 32 / 32) → ⊥) c.as_slice-2.ensures.value c.any_in-2.ensures.some),
      omega (arith, c.self.invariant.2),
      standing-set s.flags.items index c.args.flag c.count_with-self-inside.result there turned
          (λ on. c.count_with-self-inside.ensures.more on ∙ ap (λ n. n + 1) c.self.invariant.3) (λ off. c.count_with-self-inside.ensures.less off ∙ c.self.invariant.3),
    )
