-- The plain dictionary: what each call of a shared dictionary answers, and the items that it leaves (lua-nginx-module,
-- ngx.shared.DICT; that incr tells of evictions is a choice of this server).
use Rattle.std.specs.Prelude.{ℕ, ◌+◌, ◌-◌, ◌==◌, nat_le, nat_lt, Bool, false, ◌&&◌, ℤ, pos, negsuc, ◌+ℤ◌, int_le, List}
use Rattle.std.specs.Prelude.{◌∷◌, length, map, filter, take, Option, Some, None}
use Rattle.std.specs.Prelude.{if◌then◌else◌}
use Rattle.resty_base.specs.declared.dictionary.DictValue.{DictValue}
use Rattle.resty_base.specs.declared.dictionary.DictValue.TheVariants as value
use Rattle.resty_base.specs.declared.dictionary.DictCall.{DictCall}
use Rattle.resty_base.specs.declared.dictionary.DictCall.TheVariants as call
use Rattle.resty_base.specs.declared.dictionary.DictAnswer.{DictAnswer}
use Rattle.resty_base.specs.declared.dictionary.DictAnswer.TheVariants as answer
use Rattle.resty_base.specs.declared.dictionary.How.{How}
use Rattle.resty_base.specs.declared.dictionary.How.TheVariants as how
use Rattle.resty_base.specs.declared.names.Ms.{Ms}
use Rattle.resty_base.specs.WholeNumber.{greatest_whole}
use Rattle.shared_rules.specs.declared.items.Item.{Item}
use Rattle.shared_rules.specs.Items.{size_of, used, is_there, found, without, first, evicted, swept}

-- an answer, and the items that the call leaves
abbrev pub Outcome : Type 0
Outcome = DictAnswer × List Item

-- get: an item that is found comes first
abbrev pub get : Option Item → List Item → Outcome
get None items = (answer.Nothing, items)
get (Some item) items = (answer.Found item.value item.flags, first item items)

-- an item that fits comes first; `any` says that others were evicted for it
abbrev pub put_in : ℕ → Item → Bool → List Item → Outcome
put_in size item any left =
    if nat_le (used left + size_of item) size then (answer.Done any, item ∷ left) else (answer.NoMemory any, left)

-- an item is stored: that of its key is taken out, and at most 30 others are evicted for it
abbrev pub store : ℕ → Item → List Item → Outcome
store size item items =
    let rest = without item.key items in
    let left = evicted 30 size (size_of item) rest in
    put_in size item (nat_lt (length left) (length rest)) left

-- when an item expires that is stored now with a time to live, where 0 is never
abbrev pub expiry_at : ℕ → ℕ → Option Ms
expiry_at now ttl = if ttl == 0 then None else Some (record { 0 = now + ttl })

-- set, add and replace, where the item of the key is there or isn't
abbrev pub stored : ℕ → How → Option Item → Item → List Item → Outcome
stored size how.Add (Some old) item items = (answer.Exists, items)
stored size how.Replace None item items = (answer.Missing, items)
stored size h old item items = store size item items

-- the number is within 99,999,999,999,999 either way
abbrev pub is_whole : ℤ → Bool
is_whole n = int_le (negsuc 99_999_999_999_998) n && int_le n (pos greatest_whole)

-- incr of a number that is there: its item gets the sum and comes first
abbrev pub raised : ℤ → Item → List Item → Outcome
raised sum item items =
    if is_whole sum then (answer.Number sum false, first (record item { value = value.Number sum }) items) else (answer.OutOfRange, items)

-- incr of an item that is there
abbrev pub increased : ℤ → DictValue → Item → List Item → Outcome
increased by (value.Number n) item items = raised (n +ℤ by) item items
increased by v item items = (answer.NotNumber, items)

-- the answer of an incr that stored its number
abbrev pub as_number : ℤ → Outcome → Outcome
as_number n (answer.Done any, items) = (answer.Number n any, items)
as_number n other = other

-- incr without an item, which begins with this number
abbrev pub begun : ℕ → ℕ → List ℕ → ℤ → ℕ → List Item → Outcome
begun size now key n ttl items =
    if is_whole n then as_number n (store size (record { key = key; value = value.Number n; flags = 0; expiry = expiry_at now ttl }) items)
    else (answer.OutOfRange, items)

abbrev pub incr : ℕ → ℕ → List ℕ → ℤ → Option ℤ → ℕ → Option Item → List Item → Outcome
incr size now key by init ttl (Some item) items = increased by item.value item items
incr size now key by None ttl None items = (answer.Missing, items)
incr size now key by (Some n) ttl None items = begun size now key (n +ℤ by) ttl items

-- flush_all: every item expires now
abbrev pub expiring : ℕ → Item → Item
expiring now item = record item { expiry = Some (record { 0 = now }) }

abbrev pub expired : ℕ → List Item → List Item
expired now items = map (expiring now) items

-- at most how many a call is for; 0 is for all, of which 4,294,967,295 are counted
abbrev pub limit : ℕ → ℕ
limit n = if n == 0 then 4_294_967_295 else n

-- flush_expired: how many were taken out
abbrev pub flushed : ℕ → ℕ → List Item → Outcome
flushed now n items =
    let rest = swept now (limit n) items in
    (answer.Count (length items - length rest), rest)

-- get_keys: the keys of the items that are there, in their order
abbrev pub keys_there : ℕ → List Item → List (List ℕ)
keys_there now items = map (λ item. item.key) (filter (is_there now) items)

-- what a dictionary of a size answers a call at a moment, and the items that the call leaves
abbrev pub dict : ℕ → DictCall → ℕ → List Item → Outcome
dict size (call.Get key) now items = get (found now key items) items
dict size (call.Store h key v ttl flags) now items =
    stored size h (found now key items) (record { key = key; value = v; flags = flags; expiry = expiry_at now ttl }) items
dict size (call.Delete key) now items = (answer.Done false, without key items)
dict size (call.Incr key by init ttl) now items = incr size now key by init ttl (found now key items) items
dict size call.FlushAll now items = (answer.Done false, expired now items)
dict size (call.FlushExpired n) now items = flushed now n items
dict size (call.Keys n) now items = (answer.Names (take (limit n) (keys_there now items)), items)
