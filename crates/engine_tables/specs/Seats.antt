-- Seats of strands that live, by strand.
use Rattle.std.specs.Prelude.{ℕ, ◌+◌, nat_lt, Bool, true, List, [], ◌∷◌, Option, Some, None, is_some}
use Rattle.std.specs.Ordering.{nat_cmp}
use Rattle.std.specs.BTreeMap.{get}
use Rattle.resty_base.specs.declared.names.StrandId.{StrandId}
use Rattle.resty_base.specs.declared.names.StrandId.TheVariants as strand
use Rattle.engine_tables.specs.declared.seats.Seats.{Seats}

-- what is in a seat, if there is one
abbrev pub content : {X : Type 0} → Option (Option X) → Option X
content None = None
content (Some x) = x

-- what the seat of a strand holds
abbrev pub seat_at : {X : Type 0} → Seats X → StrandId → Option X
seat_at seats (strand.Conn c) = content (get nat_cmp seats.by_connection c)
seat_at seats (strand.Job n) = None

-- a connection's strand has a seat, be it vacant
abbrev pub has_seat : {X : Type 0} → Seats X → ℕ → Bool
has_seat seats c = is_some (get nat_cmp seats.by_connection c)

-- the sum over all that is held
abbrev pub value_of : {X : Type 0} → (X → ℕ) → Option X → ℕ
value_of f None = 0
value_of f (Some x) = f x

abbrev pub entries_total : {X : Type 0} → (X → ℕ) → List (ℕ × Option X) → ℕ
entries_total f [] = 0
entries_total f (e ∷ es) = value_of f e.1 + entries_total f es

abbrev pub total : {X : Type 0} → (X → ℕ) → Seats X → ℕ
total f seats = entries_total f seats.by_connection.entries

-- a connection came after another, or after none
abbrev pub is_after : Option ℕ → ℕ → Bool
is_after None c = true
is_after (Some last) c = nat_lt last c
