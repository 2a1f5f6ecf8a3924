-- The calls of a zone by parts: what refuses a store, and what an increment does.
use Rattle.std.specs.Prelude.{◌≡◌, ℕ, ℤ, ◌+ℤ◌, Bool, true, false, List, All, Option, Some, None, if◌then◌else◌}
use Rattle.resty_base.specs.declared.dictionary.DictValue.{DictValue}
use Rattle.resty_base.specs.declared.dictionary.DictValue.TheVariants.{Number}
use Rattle.resty_base.specs.declared.dictionary.DictCall.{DictCall}
use Rattle.resty_base.specs.declared.dictionary.DictCall.TheVariants as call
use Rattle.resty_base.specs.declared.dictionary.DictAnswer.{DictAnswer}
use Rattle.resty_base.specs.declared.dictionary.DictAnswer.TheVariants as answer
use Rattle.resty_base.specs.declared.dictionary.How.{How}
use Rattle.resty_base.specs.declared.dictionary.How.TheVariants as how
use Rattle.shared_rules.specs.declared.items.Item.{Item}
use Rattle.shared_rules.specs.Items.{found}
use Rattle.shared_rules.specs.Dictionary.{is_whole}
use Rattle.shared_rules.specs.Ranges.{IsNumbered}
use Rattle.shared_dict.specs.Values.{IsPlain}
use Rattle.shared_dict.specs.declared.calls.Increment.{Increment}
use Rattle.shared_dict.specs.declared.calls.Increment.TheVariants.{Refused, Raised, Begun}

-- the answer of a get that found a value
abbrev pub is_found : DictAnswer → Bool
is_found (answer.Found v flags) = true
is_found given = false

-- why nothing is stored, where the item of the key is there or isn't
abbrev pub refused : How → Bool → Option DictAnswer
refused how.Add true = Some answer.Exists
refused how.Replace false = Some answer.Missing
refused h is_there = None

-- a number within the range
abbrev pub if_whole : ℤ → Option ℤ
if_whole n = if is_whole n then Some n else None

abbrev pub raised_to : Option ℤ → Increment
raised_to (Some n) = Raised n
raised_to None = Refused answer.OutOfRange

abbrev pub begun_with : Option ℤ → Increment
begun_with (Some n) = Begun n
begun_with None = Refused answer.OutOfRange

-- what an increment of a value that is there does
abbrev pub increment_of : ℤ → DictValue → Increment
increment_of by (Number n) = raised_to (if_whole (n +ℤ by))
increment_of by v = Refused answer.NotNumber

-- and one without an item
abbrev pub begin_with : ℤ → Option ℤ → Increment
begin_with by (Some n) = begun_with (if_whole (n +ℤ by))
begin_with by None = Refused answer.Missing

abbrev pub increment : ℤ → Option ℤ → Option Item → Increment
increment by init (Some item) = increment_of by item.value
increment by init None = begin_with by init

-- the increment begins an item
abbrev pub is_beginning : Increment → Bool
is_beginning (Begun n) = true
is_beginning step = false

-- no item is found, or one whose value is no text
abbrev pub FindsNoText : Option Item → Type 0
FindsNoText None = Unit {0}
FindsNoText (Some item) = IsPlain item.value

-- the call is answered without memory: a get that finds no text, a delete, an incr that begins no item, a flush of all
abbrev pub AnswersWithoutMemory : DictCall → ℕ → List Item → Type 0
AnswersWithoutMemory (call.Get key) now items = FindsNoText (found now key items)
AnswersWithoutMemory (call.Delete key) now items = Unit {0}
AnswersWithoutMemory (call.Incr key by init ttl) now items = is_beginning (increment by init (found now key items)) ≡ false
AnswersWithoutMemory call.FlushAll now items = Unit {0}
AnswersWithoutMemory c now items = ⊥

-- the answer is foreseen without memory: it is neither a text nor keys
abbrev pub ForeseesWithoutMemory : DictCall → ℕ → List Item → Type 0
ForeseesWithoutMemory (call.Get key) now items = FindsNoText (found now key items)
ForeseesWithoutMemory (call.Keys n) now items = ⊥
ForeseesWithoutMemory c now items = Unit {0}

-- the numbers of all items are whole
abbrev pub HasWholeNumbers : List Item → Type 0
HasWholeNumbers items = All (λ item. IsNumbered item.value) items
