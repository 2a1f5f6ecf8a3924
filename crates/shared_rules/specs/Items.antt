-- The items of a shared dictionary, as a list, the most recent first (lua-nginx-module, ngx.shared.DICT). An item that has
-- expired stays in the list until it is taken out.
use Rattle.std.specs.Prelude.{ℕ, zero, suc, ◌+◌, ◌-◌, Bool, true, nat_lt, nat_le, List, [], ◌∷◌, length, take, sum_by, find, Option, Some, None, if◌then◌else◌}
use Rattle.resty_base.specs.declared.dictionary.DictValue.{DictValue}
use Rattle.resty_base.specs.declared.dictionary.DictValue.TheVariants.{Text, Number, Truth}
use Rattle.resty_base.specs.declared.names.Ms.{Ms}
use Rattle.shared_rules.specs.declared.items.Item.{Item}
use Rattle.shared_rules.specs.Keys.{same_key}

-- how many bytes a value counts, an item, and all items
abbrev pub value_size : DictValue → ℕ
value_size (Text text) = length text
value_size (Number n) = 8
value_size (Truth b) = 1

abbrev pub size_of : Item → ℕ
size_of item = length item.key + value_size item.value + 64

abbrev pub used : List Item → ℕ
used items = sum_by size_of items

-- the moment comes before the expiry, if there is one
abbrev pub is_before : ℕ → Option Ms → Bool
is_before now None = true
is_before now (Some expiry) = nat_lt now expiry.0

-- the item is there at the moment
abbrev pub is_there : ℕ → Item → Bool
is_there now item = is_before now item.expiry

abbrev pub has_key : List ℕ → Item → Bool
has_key key item = same_key key item.key

-- the item, where it is there
abbrev pub if_there : ℕ → Option Item → Option Item
if_there now None = None
if_there now (Some item) = if is_there now item then Some item else None

-- the item of the key, where it is there
abbrev pub found : ℕ → List ℕ → List Item → Option Item
found now key items = if_there now (find (has_key key) items)

-- the items without that of the key
abbrev pub without : List ℕ → List Item → List Item
without key [] = []
without key (item ∷ items) = if has_key key item then items else item ∷ without key items

-- the item comes first, in the place of that of its key
abbrev pub first : Item → List Item → List Item
first item items = item ∷ without item.key items

-- the last is evicted
abbrev pub but_last : List Item → List Item
but_last items = take (length items - 1) items

-- the last are evicted, at most so many, while the others and `more` bytes together are above the size
abbrev pub evicted : ℕ → ℕ → ℕ → List Item → List Item
evicted zero size more items = items
evicted (suc most) size more items = if nat_le (used items + more) size then items else evicted most size more (but_last items)

-- what isn't there is taken out, the last first, at most so many
abbrev pub swept : ℕ → ℕ → List Item → List Item
swept now most [] = []
swept now most (item ∷ items) =
    let rest = swept now most items in
    if is_there now item then item ∷ rest else if nat_lt (length items - length rest) most then rest else item ∷ rest
