-- Pairs at the numbers 1, 2, .., the array part of a table (Lua 5.1 Reference Manual, section 2.5.5), and what a look through pairs finds.
use Rattle.std.specs.Prelude.{◌≡◌, ℕ, ◌+◌, Bool, false, List, [], ◌∷◌, Some, slice_get, unwrap_or}
use Rattle.std.specs.Option.{option_map}
use Rattle.std.specs.Map.{keys_of, values_of}
use Rattle.indexmap.specs.IndexMap.{set_value_at}
use Rattle.lua_values.specs.declared.values.Value.{Value}
use Rattle.lua_values.specs.Values.{is_nil, number}

-- values at the numbers from n on
abbrev pub numbered_from : ℕ → List Value → List (Value × Value)
numbered_from n [] = []
numbered_from n (v ∷ vs) = (number n, v) ∷ numbered_from (n + 1) vs

-- the key at an index is there and passes a test
abbrev pub passes_at : (Value → Bool) → List (Value × Value) → ℕ → Bool
passes_at test ps i = unwrap_or (option_map test (slice_get (keys_of ps) i)) false

-- the value at an index was written, where something was
pub record IsRenewed (ps qs : List (Value × Value)) (v : Value) : Type 0 where
  pub index : ℕ
  pub before : Value
  pub there : slice_get (values_of ps) index ≡ Some before
  pub live : is_nil before ≡ false
  pub is : qs ≡ set_value_at ps index v
