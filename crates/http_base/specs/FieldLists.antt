-- Header fields in the order in which they stand (RFC 9110, 5.2 and 5.3).
use Rattle.std.specs.Prelude.{ℕ, not, List, map, filter}
use Rattle.resty_base.specs.declared.names.Pair2.{Pair2}
use Rattle.http_base.specs.Names.{same_name}

-- the values of the fields that have this name
abbrev pub values_of : List Pair2 → List ℕ → List (List ℕ)
values_of fields name = map (λ field. field.value) (filter (λ field. same_name field.name name) fields)

-- the fields that have another name
abbrev pub without : List Pair2 → List ℕ → List Pair2
without fields name = filter (λ field. not (same_name field.name name)) fields
