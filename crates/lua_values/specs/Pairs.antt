-- A table's pairs of key and value, in the order in which the keys were set first (Lua 5.1 Reference Manual, section 2.2,
-- and `next` of section 5.1). A key that was set to nil keeps its entry, with nil.
use Rattle.std.specs.Prelude.{ℕ, Bool, false, not, ◌||◌, List, [], ◌∷◌, Option, Some, None, if◌then◌else◌, codes, position}
use Rattle.std.specs.Map.{keys_of}
use Rattle.lua_values.specs.declared.values.Value.{Value}
use Rattle.lua_values.specs.declared.values.Value.TheVariants.{Nil, Text}
use Rattle.lua_values.specs.Values.{same, is_nil}

-- the value at a key, nil where the key has no entry
abbrev pub value_at : List (Value × Value) → Value → Value
value_at [] key = Nil
value_at (p ∷ ps) key = if same key p.0 then p.1 else value_at ps key

-- the key has an entry
abbrev pub has_entry : List (Value × Value) → Value → Bool
has_entry [] key = false
has_entry (p ∷ ps) key = same key p.0 || has_entry ps key

-- A value at a key: a key that has an entry keeps it, whatever the value. Any other goes last, but for nil, which needs
-- no entry.
abbrev pub with_value : List (Value × Value) → Value → Value → List (Value × Value)
with_value [] key value = if is_nil value then [] else (key, value) ∷ []
with_value (p ∷ ps) key value = if same key p.0 then (p.0, value) ∷ ps else p ∷ with_value ps key value

-- a value at the key needs a new entry
abbrev pub needs_entry : List (Value × Value) → Value → Value → Bool
needs_entry ps key value = not (is_nil value || has_entry ps key)

-- the first pair whose value isn't nil
abbrev pub first_live : List (Value × Value) → Option (Value × Value)
first_live [] = None
first_live (p ∷ ps) = if is_nil p.1 then first_live ps else Some p

-- the pairs after that of a key, none where it has no entry
abbrev pub pairs_after : List (Value × Value) → Value → List (Value × Value)
pairs_after [] key = []
pairs_after (p ∷ ps) key = if same key p.0 then ps else pairs_after ps key

-- the pair that comes next after a key, and for the key nil the first
abbrev pub next_pair : List (Value × Value) → Value → Option (Value × Value)
next_pair ps key = first_live (if is_nil key then ps else pairs_after ps key)

-- the key of a metatable at which a table is, or a function, that is asked for what another table lacks (section 2.8)
abbrev pub link_key : Value
link_key = Text (codes "__index")

-- where that key stands among the pairs
abbrev pub link_of : List (Value × Value) → Option ℕ
link_of ps = position (same link_key) (keys_of ps)
