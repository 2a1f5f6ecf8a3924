-- Header fields that are set: in place of those of their name, and after all others (RFC 9110, 5.3).
use Rattle.std.specs.Prelude.{ℕ, ◌+◌, Bool, ◌&&◌, ◌||◌, not, List, ◌++◌, map, length, nat_lt}
use Rattle.std.specs.List.{list_all}
use Rattle.resty_base.specs.declared.names.Pair2.{Pair2}
use Rattle.http_base.specs.FieldLists.{without}
use Rattle.request_api.specs.Names.{is_name, is_value}

-- so many fields there may be after some were set
abbrev pub field_limit : ℕ
field_limit = 1_000

-- a field of this name for each value
abbrev pub fields_of : List ℕ → List (List ℕ) → List Pair2
fields_of name values = map (λ value. record { name = name; value = value }) values

-- the fields after those of this name were set to these values
abbrev pub with_values : List Pair2 → List ℕ → List (List ℕ) → List Pair2
with_values fields name values = without fields name ++ fields_of name values

-- with these values there would be too many fields
abbrev pub is_past_limit : List Pair2 → List ℕ → List (List ℕ) → Bool
is_past_limit fields name values = nat_lt field_limit (length (without fields name) + length values)

-- no field may have the name, or one of the values, or there would be too many
abbrev pub is_refused : List Pair2 → List ℕ → List (List ℕ) → Bool
is_refused fields name values = not (is_name name && list_all is_value values) || is_past_limit fields name values
