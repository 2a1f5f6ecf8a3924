-- A zone, as its size and its items.
use Rattle.std.specs.Prelude.{ℕ, ◌+◌, List, [], ◌∷◌, ◌++◌, find, length, Bool, not, ◌&&◌, ◌||◌, nat_le, nat_lt, Option, Some, None, if◌then◌else◌}
use Rattle.shared_rules.specs.declared.items.Item.{Item}
use Rattle.shared_rules.specs.Items.{size_of, used, is_there, has_key, first, without, evicted}

-- how many bytes a zone may count, and its items, the most recent first
pub record ZoneView : Type 0 where
  pub size : ℕ
  pub items : List Item

-- the item, if there is one, comes first
abbrev pub brought : Option Item → List Item → List Item
brought None items = items
brought (Some item) items = first item items

-- the item of the key comes first
abbrev pub promoted : List ℕ → List Item → List Item
promoted key items = brought (find (has_key key) items) items

-- items with the most recent one, for which at most so many of the others are evicted
abbrev pub trimmed : ℕ → ℕ → List Item → List Item
trimmed most size [] = []
trimmed most size (item ∷ items) = item ∷ evicted most size (size_of item) items

-- nothing is evicted of items: all count no more bytes than the size, or there is one at most
abbrev pub is_trim : ℕ → List Item → Bool
is_trim size items = nat_le (used items) size || nat_lt (length items) 2

-- something is evicted of items that count so many bytes, for so many more
abbrev pub is_crowded : ℕ → ℕ → ℕ → Bool
is_crowded size rest more = nat_lt 0 rest && nat_lt size (rest + more)

-- so many bytes more fit after at most so many of the last are evicted
abbrev pub fits_after : ℕ → ℕ → ℕ → List Item → Bool
fits_after most size more items = nat_le (used (evicted most size more items) + more) size

-- one more is taken out: an item that isn't there, where so many are taken out already
abbrev pub is_doomed : ℕ → ℕ → ℕ → Item → Bool
is_doomed now most count item = not (is_there now item) && nat_lt count most

-- the keys of items that aren't there, the last first, at most so many
abbrev pub doomed : ℕ → ℕ → List Item → List (List ℕ)
doomed now most [] = []
doomed now most (item ∷ items) =
    let keys = doomed now most items in
    if is_doomed now most (length keys) item then keys ++ item.key ∷ [] else keys

-- the items without those of some keys
abbrev pub without_all : List (List ℕ) → List Item → List Item
without_all [] items = items
without_all (key ∷ keys) items = without_all keys (without key items)
