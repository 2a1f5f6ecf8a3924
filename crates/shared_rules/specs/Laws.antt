-- Laws of the plain rules.
use Rattle.std.specs.Prelude.{◌≡◌, ℕ, ◌+◌, ◌≤◌, max, List, find, Some}
use Rattle.resty_base.specs.declared.dictionary.DictCall.{DictCall}
use Rattle.shared_rules.specs.declared.items.Item.{Item}
use Rattle.shared_rules.specs.declared.sockets.Idle.{Idle}
use Rattle.shared_rules.specs.Items.{size_of, used, has_key, without, first}
use Rattle.shared_rules.specs.Dictionary.{dict, store, expired}
use Rattle.shared_rules.specs.Ranges.{IsInRange, IsKept, IsWithin}
use Rattle.shared_rules.specs.Pool.{count_of, kept_in, IsOnce}

-- Whatever a dictionary is asked at a moment, each key stays once in it, its bytes stay within its size, and its numbers and
-- expiries stay in their ranges. The same of one item that is stored, or that takes the place of one of its key and size.
pub record StaysWithin : Type 0 where
  pub dict : (size now : ℕ) (c : DictCall) (items : List Item) → now ≤ 99_999_999_999_999 → IsInRange c → IsWithin size items
      → IsWithin size (dict size c now items).1
  pub store : (size : ℕ) (item : Item) (items : List Item) → IsKept item → IsWithin size items → IsWithin size (store size item items).1
  pub first : (size : ℕ) (item old : Item) (items : List Item) → IsKept item → find (has_key item.key) items ≡ Some old → size_of item ≡ size_of old
      → IsWithin size items → IsWithin size (first item items)

-- how many bytes are used after a change of the items
pub record CountsUsed : Type 0 where
  pub without : (key : List ℕ) (old : Item) (items : List Item) → find (has_key key) items ≡ Some old → used (without key items) + size_of old ≡ used items
  pub first : (item old : Item) (items : List Item) → find (has_key item.key) items ≡ Some old → size_of item ≡ size_of old
      → used (first item items) ≡ used items
  pub expired : (now : ℕ) (items : List Item) → used (expired now items) ≡ used items

-- A pool in which each socket is idle once stays so. Where it has at most so many sockets of a key, it has at most so many
-- after a keep with that size, where a size of 0 counts as 1.
pub record StaysSmall : Type 0 where
  pub once : (size : ℕ) (i : Idle) (pool : List Idle) → IsOnce pool → IsOnce (kept_in i size pool)
  pub few : (size : ℕ) (i : Idle) (pool : List Idle) (key : List ℕ) → IsOnce pool → count_of key pool ≤ max 1 size
      → count_of key (kept_in i size pool) ≤ max 1 size
