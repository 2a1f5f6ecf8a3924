-- Items of a freezable list after those that it shares.
use Rattle.std.proofs.Common.{◌≡◌, ℕ, ◌-◌, ◌++◌, ◌∷◌, ◌<◌, ◌≤◌, arith, List, [], length, Option, None, Some, option_copied, slice_get, slice_set, suc, zero, refl, sym, ap, ◌∙◌}
use Rattle.std.proofs.lemmas.List.{set-append_right, set-get_or}
use Rattle.std.proofs.lemmas.Option.{get_or_from_slice_get, slice_get_past, slice_get_read}
use Rattle.std.specs.Slice.{IsItemAt}
use denote.Ref.{Bor}
use Rattle.lua_values.specs.Freezable.{with_item}

module _ {T : Type 0} where
  -- writing one of them
  pub set-after : (base own : List T) (n frozen index : ℕ) (item : T) → length base ≡ n → n ≤ index
      → with_item {T = T} (record { items = base ++ own; frozen = frozen }) index item ≡ record { items = base ++ slice_set own (index - n) item; frozen = frozen }
  set-after base own n frozen index item e h = λ i. record { items = set-append_right base own n index item e h i; frozen = frozen }

  -- reading one of them
  pub get-after : (base own : List T) (n index : ℕ) → length base ≡ n → n ≤ index → slice_get (base ++ own) index ≡ slice_get own (index - n)
  get-after [] own n index e h = ap (slice_get own) (omega (arith, e))
  get-after (x ∷ base) own n zero e h = absurd (omega (arith, e, h))
  get-after (x ∷ base) own n (suc index) e h =
      let same : index - length base ≡ suc index - n = omega (arith, e) in
      get-after base own (length base) index refl (omega (arith, e, h)) ∙ ap (slice_get own) same

  -- reading one that it shares
  pub get-before : (base own : List T) (n index : ℕ) → length base ≡ n → index < n → slice_get (base ++ own) index ≡ slice_get base index
  get-before [] own n index e h = absurd (omega (arith, e, h))
  get-before (x ∷ base) own n zero e h = refl
  get-before (x ∷ base) own n (suc index) e h = get-before base own (length base) index refl (omega (arith, e, h))

  -- what is lent of a list by an index stands there
  pub lent : (items : List T) (index : ℕ) (item : Option (Bor T)) → IsItemAt items index item → option_copied item ≡ slice_get items index
  lent items index None is = sym (slice_get_past items index is.3)
  lent items index (Some item) is = sym (slice_get_read items (length items) index item.now refl is.3.0 is.1)

  -- writing what is there already
  pub set_same_item : (items : List T) (index : ℕ) (item : T) → slice_get items index ≡ Some item → slice_set items index item ≡ items
  set_same_item items index item e = ap (slice_set items index) (sym (get_or_from_slice_get items index item item e)) ∙ set-get_or items index item
