-- How items are kept: by their keys, each with the number of its storing. What was stored up to the last flush of all expires
-- at the moment of that flush.
use Rattle.std.specs.Prelude.{◌≡◌, ℕ, ◌+◌, ◌^◌, ◌-◌, ◌≤◌, nat_le, List, length, [], ◌∷◌, map, Option, Some, None, IfSome, option_map, if◌then◌else◌}
use Rattle.std.specs.List.{AllByRecursion}
use Rattle.std.specs.Map.{remove_entry}
use Rattle.lru.specs.LruCache.{LruCache}
use Rattle.resty_base.specs.declared.dictionary.DictValue.{DictValue}
use Rattle.resty_base.specs.declared.names.Ms.{Ms}
use Rattle.shared_rules.specs.declared.items.Item.{Item}
use Rattle.shared_rules.specs.Keys.{same_key}
use Rattle.shared_rules.specs.Items.{used, value_size}
use Rattle.shared_dict.specs.declared.kept.Kept.{Kept}
use Rattle.shared_dict.specs.declared.kept.Flush.{Flush}

-- a key with what is kept of its item
abbrev pub Entry : Type 0
Entry = List ℕ × Kept

abbrev pub expiry_of : Flush → Kept → Option Ms
expiry_of flush kept = if nat_le kept.number flush.last then Some flush.at else kept.expiry

abbrev pub item_of : Flush → Entry → Item
item_of flush e = record { key = e.0; value = e.1.value; flags = e.1.flags; expiry = expiry_of flush e.1 }

abbrev pub items_of : Flush → List Entry → List Item
items_of flush es = map (item_of flush) es

-- the entries of a map that may not be made yet
abbrev pub entries_of : Option (LruCache (List ℕ) Kept) → List Entry
entries_of None = []
entries_of (Some recent) = recent.entries

-- the entries of a list, if there is one
abbrev pub listed : Option (List Entry) → List Entry
listed None = []
listed (Some es) = es

-- nothing leaves the map by itself
abbrev pub HasRoom : Option (LruCache (List ℕ) Kept) → Type 0
HasRoom recent = IfSome recent (λ r. r.cap ≡ 2 ^ 64 - 1)

-- a map that was made gives its entries, and one that is made now none; it has room
abbrev pub IsMade : Option (LruCache (List ℕ) Kept) → LruCache (List ℕ) Kept → Type 0
IsMade made map = HasRoom made → (map.entries ≡ entries_of made) × (map.cap ≡ 2 ^ 64 - 1)

-- no entry has a number above the last
abbrev pub IsNumberedTo : ℕ → List Entry → Type 0
IsNumberedTo last es = AllByRecursion (λ e. e.1.number ≤ last) es

-- an entry comes first, in the place of that of its key
abbrev pub put_first : List ℕ → Kept → List Entry → List Entry
put_first key kept es = (key, kept) ∷ remove_entry (same_key key) es

-- an item as it is kept
abbrev pub kept_of : ℕ → Item → Entry
kept_of n item = (item.key, record { value = item.value; flags = item.flags; expiry = item.expiry; number = n })

-- an entry with another value
abbrev pub with_value : DictValue → Entry → Entry
with_value v e = (e.0, record e.1 { value = v })

-- the bytes are counted, and the numbers known
pub record IsCounted (entries : List Entry) (count last : ℕ) (flush : Flush) : Type 0 where
  pub counted : count ≡ used (items_of flush entries)
  pub numbers : IsNumberedTo last entries
  pub flushed : flush.last ≤ last

-- the bytes that an entry counts, if there is one
abbrev pub bytes_of : Option Entry → ℕ
bytes_of None = 0
bytes_of (Some e) = length e.0 + value_size e.1.value + 64

-- the value and the flags of what is kept, and of an item
abbrev pub content : Option Kept → Option (DictValue × ℕ)
content kept = option_map (λ k. (k.value, k.flags)) kept

abbrev pub content_of : Option Item → Option (DictValue × ℕ)
content_of item = option_map (λ i. (i.value, i.flags)) item
