-- The index of a key in the map that keeps a table's pairs.
use Rattle.std.proofs.Common.{◌≡◌, ℕ, true, List, Some, slice_get, position, is_some, IfSome, sym, ap, subst, inl, inr, ◌∙◌, rules}
use Rattle.std.specs.Map.{keys_of, values_of}
use Rattle.std.proofs.lemmas.Bool.{cases_Bool}
use Rattle.indexmap.specs.IndexMap.{insert_entry, set_value_at}
use Rattle.indexmap.proofs.MapLemmas.{Found-position, insert_entry-first, some_index}
use Rattle.lua_values.specs.declared.values.Value.{Value}
use Rattle.lua_values.specs.Values.{same}
use Rattle.lua_values.specs.Pairs.{value_at, has_entry}
use Rattle.lua_values.proofs.BorderLemmas.{same-true}
use Rattle.lua_values.proofs.PairLemmas.{lookup-has, lookup-value}

-- equality of values is an equivalence
pub same-refl : (a : Value) → same a a ≡ true
same-refl a = search rules

pub same-symm : (a b : Value) → same a b ≡ same b a
same-symm a b = elim (cases_Bool (same a b)) [
  | inl e ↦ ap (λ k. same k b) (same-true a b e) ∙ sym (ap (same b) (same-true a b e))
  | inr e ↦ elim (cases_Bool (same b a)) [
    | inl f ↦ ap (same a) (same-true b a f) ∙ sym (ap (λ k. same k a) (same-true b a f))
    | inr f ↦ e ∙ sym f
  ]
]

-- a key has an entry exactly where one is found
pub index-there : (ps : List (Value × Value)) (k : Value) → is_some (position (same k) (keys_of ps)) ≡ has_entry ps k
index-there ps k = some_index (same k) ps ∙ lookup-has ps k

pub index-has : (ps : List (Value × Value)) (k : Value) (i : ℕ) → position (same k) (keys_of ps) ≡ Some i → has_entry ps k ≡ true
index-has ps k i e = sym (index-there ps k) ∙ ap is_some e

-- the value there is the key's
pub index-value : (ps : List (Value × Value)) (k v : Value) (i : ℕ) → position (same k) (keys_of ps) ≡ Some i → slice_get (values_of ps) i ≡ Some v → v ≡ value_at ps k
index-value ps k v i e at = subst (λ r. IfSome r (λ w. w ≡ value_at ps k)) ((Found-position (same k) ps i e).value ∙ at) (lookup-value ps k)

-- a write there is one at the key
pub index-write : (ps : List (Value × Value)) (k v : Value) (i : ℕ) → position (same k) (keys_of ps) ≡ Some i → set_value_at ps i v ≡ insert_entry same ps k v
index-write ps k v i e = sym (insert_entry-first same k v ps i (Found-position (same k) ps i e).first)
