-- The text of a history.
use Rattle.std.specs.Prelude.{ℕ, ℤ, Bool, true, false, List, [], ◌∷◌, ◌++◌, codes, decimal, Option, Some, None}
use Rattle.std.specs.Fmt.{signed_decimal}
use Rattle.std.specs.List.{flat_map, slice_index}
use Rattle.resty_base.specs.declared.dictionary.DictAnswer.{DictAnswer}
use Rattle.resty_base.specs.declared.dictionary.DictAnswer.TheVariants as answer
use Rattle.resty_base.specs.declared.dictionary.DictCall.{DictCall}
use Rattle.resty_base.specs.declared.dictionary.DictCall.TheVariants as call
use Rattle.resty_base.specs.declared.dictionary.DictValue.{DictValue}
use Rattle.resty_base.specs.declared.dictionary.DictValue.TheVariants as value
use Rattle.resty_base.specs.declared.dictionary.How.{How}
use Rattle.resty_base.specs.declared.dictionary.How.TheVariants as how
use Rattle.resty_world.specs.declared.answers.TimerAnswer.{TimerAnswer}
use Rattle.resty_world.specs.declared.answers.TimerAnswer.TheVariants as timer
use Rattle.resty_world.specs.declared.entry.Entry.{Entry}
use Rattle.resty_world.specs.declared.entry.Entry.TheVariants as entry
use Rattle.schedule_text.specs.LineTexts.{event_text}
use Rattle.schedule_text.specs.Words.{id_text, strand_text, quoted}

-- four numbers with dots
abbrev pub host_text : List ℕ → List ℕ
host_text host =
    decimal (slice_index host 0) ++ codes "." ++ decimal (slice_index host 1) ++ codes "." ++ decimal (slice_index host 2)
    ++ codes "." ++ decimal (slice_index host 3)

-- a socket, and what is written where there is none
abbrev pub socket_or : List ℕ → Option ℕ → List ℕ
socket_or none None = none
socket_or none (Some n) = codes "s" ++ decimal n

-- a value that a dictionary keeps
abbrev pub value_text : DictValue → List ℕ
value_text (value.Text bytes) = quoted bytes
value_text (value.Number n) = signed_decimal n
value_text (value.Truth true) = codes "true"
value_text (value.Truth false) = codes "false"

-- how a value is stored, and a space
abbrev pub how_text : How → List ℕ
how_text how.Set = codes "set "
how_text how.Add = codes "add "
how_text how.Replace = codes "replace "

-- the value with which a key that isn't there begins to count, and its time to live
abbrev pub init_text : Option ℤ → ℕ → List ℕ
init_text None ttl = codes " none"
init_text (Some n) ttl = codes " " ++ signed_decimal n ++ codes " " ++ decimal ttl

-- a call of a dictionary
abbrev pub call_text : DictCall → List ℕ
call_text (call.Get key) = codes "get " ++ quoted key
call_text (call.Store how key value ttl flags) =
    how_text how ++ quoted key ++ codes " " ++ value_text value ++ codes " " ++ decimal ttl ++ codes " " ++ decimal flags
call_text (call.Delete key) = codes "delete " ++ quoted key
call_text (call.Incr key by init ttl) = codes "incr " ++ quoted key ++ codes " " ++ signed_decimal by ++ init_text init ttl
call_text call.FlushAll = codes "flush_all"
call_text (call.FlushExpired most) = codes "flush_expired " ++ decimal most
call_text (call.Keys most) = codes "get_keys " ++ decimal most

-- whether valid items were evicted
abbrev pub forcible_text : Bool → List ℕ
forcible_text true = codes " forcible"
forcible_text false = []

-- a space and a key
abbrev pub name_text : List ℕ → List ℕ
name_text name = codes " " ++ quoted name

-- the answer of a dictionary
abbrev pub answer_text : DictAnswer → List ℕ
answer_text (answer.Found v flags) = codes "found " ++ value_text v ++ codes " " ++ decimal flags
answer_text answer.Nothing = codes "none"
answer_text (answer.Done forcible) = codes "done" ++ forcible_text forcible
answer_text answer.Exists = codes "exists"
answer_text answer.Missing = codes "missing"
answer_text (answer.NoMemory forcible) = codes "no memory" ++ forcible_text forcible
answer_text answer.NotNumber = codes "not a number"
answer_text answer.OutOfRange = codes "range"
answer_text (answer.Number n forcible) = codes "number " ++ signed_decimal n ++ forcible_text forcible
answer_text (answer.Count n) = codes "count " ++ decimal n
answer_text (answer.Names names) = codes "keys" ++ flat_map name_text names

-- whether the line of the log was written
abbrev pub failed_text : Bool → List ℕ
failed_text true = []
failed_text false = codes "failed "

-- the socket that was taken from the pool, and how often it was used
abbrev pub taken_text : Option (ℕ × ℕ) → List ℕ
taken_text None = codes "none"
taken_text (Some taken) = codes "s" ++ decimal taken.0 ++ codes " " ++ decimal taken.1

-- the socket that was closed for one that was kept
abbrev pub closed_text : Option ℕ → List ℕ
closed_text None = []
closed_text (Some n) = codes " s" ++ decimal n

-- how long a socket may be idle, the size of its pool, and the socket that was closed for it
abbrev pub pool_text : ℕ → ℕ → Option ℕ → List ℕ
pool_text idle size closed = decimal idle ++ codes " " ++ decimal size ++ codes " = kept" ++ closed_text closed

-- what was returned where a timer was asked for
abbrev pub timer_text : TimerAnswer → List ℕ
timer_text (timer.Job n) = codes "t" ++ decimal n
timer_text timer.Full = codes "full"
timer_text timer.Exiting = codes "exiting"

-- an entry that isn't of what a strand did, without the end of its line; those that are have no text here
abbrev pub plain_text : Entry → List ℕ
plain_text (entry.Given e) = event_text e
plain_text (entry.Put i bytes) = codes "put " ++ id_text i ++ codes " " ++ quoted bytes
plain_text (entry.Later i) = codes "later " ++ id_text i
plain_text (entry.Lost i) = codes "lost " ++ id_text i
plain_text (entry.Close i) = codes "close " ++ id_text i
plain_text (entry.Start n) = codes "start t" ++ decimal n
plain_text (entry.Turned c) = codes "turned c" ++ decimal c
plain_text (entry.Dropped who) = codes "dropped " ++ strand_text who
plain_text e = []

-- an entry, without the end of its line
abbrev pub entry_text : Entry → List ℕ
entry_text (entry.Dial who host port n) =
    codes "dial " ++ strand_text who ++ codes " " ++ host_text host ++ codes " " ++ decimal port ++ codes " " ++ socket_or (codes "failed") n
entry_text (entry.Log who text written) = codes "log " ++ strand_text who ++ codes " " ++ failed_text written ++ quoted text
entry_text (entry.Dict who zone call answer) =
    codes "dict " ++ strand_text who ++ codes " " ++ zone ++ codes " " ++ call_text call ++ codes " = " ++ answer_text answer
entry_text (entry.Take who key got) = codes "take " ++ strand_text who ++ codes " " ++ quoted key ++ codes " = " ++ taken_text got
entry_text (entry.Keep who n key idle size closed) =
    codes "keep " ++ strand_text who ++ codes " s" ++ decimal n ++ codes " " ++ quoted key ++ codes " " ++ pool_text idle.0 size closed
entry_text (entry.Timer who due answer) = codes "timer " ++ strand_text who ++ codes " " ++ decimal due.0 ++ codes " = " ++ timer_text answer
entry_text e = plain_text e

-- an entry with the end of its line
abbrev pub entry_line : Entry → List ℕ
entry_line e = entry_text e ++ codes "\n"

-- a history, the newest entry first, as its lines in order
abbrev pub history_text : List Entry → List ℕ
history_text [] = []
history_text (e ∷ history) = history_text history ++ entry_line e
