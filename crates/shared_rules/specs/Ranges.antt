-- The ranges of a dictionary: of its calls, and of its items.
use Rattle.std.specs.Prelude.{◌≡◌, ℕ, ◌≤◌, List, map, Option, IfSome, All}
use Rattle.std.specs.List.{IsDistinct}
use Rattle.resty_base.specs.WholeNumber.{IsWhole}
use Rattle.resty_base.specs.declared.dictionary.DictValue.{DictValue}
use Rattle.resty_base.specs.declared.dictionary.DictValue.TheVariants.{Number}
use Rattle.resty_base.specs.declared.dictionary.DictCall.{DictCall}
use Rattle.resty_base.specs.declared.dictionary.DictCall.TheVariants as call
use Rattle.resty_base.specs.declared.dictionary.DictAnswer.{DictAnswer}
use Rattle.resty_base.specs.declared.names.Ms.{Ms}
use Rattle.shared_rules.specs.declared.items.Item.{Item}
use Rattle.shared_rules.specs.Keys.{same_key}
use Rattle.shared_rules.specs.Items.{used}
use Rattle.shared_rules.specs.Dictionary.{dict}

-- a value that is a number is a whole one
abbrev pub IsNumbered : DictValue → Type 0
IsNumbered (Number n) = IsWhole n
IsNumbered v = Unit {0}

-- a time to live of at most 99,999,999,999,999 milliseconds
abbrev pub IsTtl : ℕ → Type 0
IsTtl ttl = ttl ≤ 99_999_999_999_999

-- the call's numbers and its time to live are in their ranges
abbrev pub IsInRange : DictCall → Type 0
IsInRange (call.Store h key v ttl flags) = IsNumbered v × IsTtl ttl
IsInRange (call.Incr key by init ttl) = IsWhole by × IfSome init IsWhole × IsTtl ttl
IsInRange c = Unit {0}

-- an expiry is at most the last moment with the longest time to live
abbrev pub IsInTime : Option Ms → Type 0
IsInTime expiry = IfSome expiry (λ e. e.0 ≤ 199_999_999_999_998)

-- an item whose number is whole, and that expires in time
pub record IsKept (item : Item) : Type 0 where
  pub number : IsNumbered item.value
  pub time : IsInTime item.expiry

-- what a dictionary of a size always keeps: each key once, the bytes within the size, and the ranges
pub record IsWithin (size : ℕ) (items : List Item) : Type 0 where
  pub distinct : IsDistinct same_key (map (λ item. item.key) items)
  pub bytes : used items ≤ size
  pub kept : All IsKept items

-- a dictionary may answer the call so: one of at most 64 MiB
pub record MayAnswer (c : DictCall) (given : DictAnswer) : Type 0 where
  pub size : ℕ
  pub now : ℕ
  pub items : List Item
  pub small : size ≤ 67_108_864
  pub moment : now ≤ 99_999_999_999_999
  pub within : IsWithin size items
  pub answered : given ≡ (dict size c now items).0
