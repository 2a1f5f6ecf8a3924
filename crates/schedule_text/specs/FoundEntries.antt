-- The entry of a history that a text is, if it is one.
use Rattle.std.specs.Prelude.{ℕ, zero, suc, Bool, true, false, not, List, [], ◌∷◌, length, Option, Some, None, codes, if◌then◌else◌}
use Rattle.resty_base.specs.Ascii.{dot, double_quote, letter_f, letter_n, letter_s, letter_t}
use Rattle.resty_base.specs.declared.dictionary.DictAnswer.{DictAnswer}
use Rattle.resty_base.specs.declared.dictionary.DictAnswer.TheVariants as answer
use Rattle.resty_base.specs.declared.dictionary.DictCall.{DictCall}
use Rattle.resty_base.specs.declared.dictionary.DictCall.TheVariants as call
use Rattle.resty_base.specs.declared.dictionary.DictValue.{DictValue}
use Rattle.resty_base.specs.declared.dictionary.DictValue.TheVariants as value
use Rattle.resty_base.specs.declared.dictionary.How.{How}
use Rattle.resty_base.specs.declared.dictionary.How.TheVariants as how
use Rattle.resty_base.specs.declared.names.StrandId.{StrandId}
use Rattle.resty_world.specs.declared.answers.TimerAnswer.{TimerAnswer}
use Rattle.resty_world.specs.declared.answers.TimerAnswer.TheVariants as timer
use Rattle.resty_world.specs.declared.entry.Entry.{Entry}
use Rattle.resty_world.specs.declared.entry.Entry.TheVariants as entry
use Rattle.schedule_text.specs.Found.{after, after_quoted, before, begins, is, rest_of, unquoted, word_of}
use Rattle.schedule_text.specs.Found.{id_in, integer_in, number_in, numbered, octet_in, port_in, small_in, socket_in, strand_in}
use Rattle.schedule_text.specs.FoundLines.{event_in}

-- four numbers with dots
abbrev pub host_in : List ℕ → List ℕ
host_in text =
    octet_in (before dot text) ∷ octet_in (before dot (after dot text)) ∷ octet_in (before dot (after dot (after dot text)))
    ∷ octet_in (after dot (after dot (after dot text))) ∷ []

-- whether the text is empty
abbrev pub empty : List ℕ → Bool
empty [] = true
empty (b ∷ text) = false

-- a value that isn't quoted
abbrev pub plain_value : List ℕ → DictValue
plain_value text =
    if begins letter_t text then value.Truth true else if begins letter_f text then value.Truth false else value.Number (integer_in text)

-- the value that begins a text
abbrev pub value_in : List ℕ → DictValue
value_in text = if begins double_quote text then value.Text (unquoted text) else plain_value (word_of text)

-- what stands after that value and a space
abbrev pub after_value : List ℕ → List ℕ
after_value text = if begins double_quote text then after_quoted text else rest_of text

-- a call that stores, of which the text begins after the key: a value, a time to live and flags
abbrev pub store_in : How → List ℕ → List ℕ → DictCall
store_in how key text =
    call.Store how key (value_in text) (number_in (word_of (after_value text))) (small_in (word_of (rest_of (after_value text))))

-- what stands after that call and a space
abbrev pub after_store : List ℕ → List ℕ
after_store text = rest_of (rest_of (after_value text))

-- a call that adds, of which the text begins after the key: a number, and `none` or a first value with its time to live
abbrev pub incr_in : List ℕ → List ℕ → DictCall
incr_in key text =
    if begins letter_n (rest_of text) then call.Incr key (integer_in (word_of text)) None 0
    else call.Incr key (integer_in (word_of text)) (Some (integer_in (word_of (rest_of text)))) (number_in (word_of (rest_of (rest_of text))))

-- what stands after that call and a space
abbrev pub after_incr : List ℕ → List ℕ
after_incr text = if begins letter_n (rest_of text) then rest_of (rest_of text) else rest_of (rest_of (rest_of text))

-- a call without a key, by its first word and what stands after that
abbrev pub plain_call : List ℕ → List ℕ → DictCall
plain_call word rest =
    if is word (codes "flush_expired") then call.FlushExpired (small_in (word_of rest))
    else if is word (codes "get_keys") then call.Keys (small_in (word_of rest))
    else call.FlushAll

-- what stands after that call and a space
abbrev pub after_plain : List ℕ → List ℕ → List ℕ
after_plain word rest = if is word (codes "flush_all") then rest else rest_of rest

-- a call with a key, by its first word, the key, and what stands after that
abbrev pub keyed_call : List ℕ → List ℕ → List ℕ → DictCall
keyed_call word key text =
    if is word (codes "get") then call.Get key
    else if is word (codes "set") then store_in how.Set key text
    else if is word (codes "add") then store_in how.Add key text
    else if is word (codes "replace") then store_in how.Replace key text
    else if is word (codes "delete") then call.Delete key
    else incr_in key text

-- what stands after that call and a space
abbrev pub after_keyed : List ℕ → List ℕ → List ℕ
after_keyed word text =
    if is word (codes "get") then text
    else if is word (codes "set") then after_store text
    else if is word (codes "add") then after_store text
    else if is word (codes "replace") then after_store text
    else if is word (codes "delete") then text
    else after_incr text

-- a call of a dictionary, by its first word and what stands after that
abbrev pub call_of : List ℕ → List ℕ → DictCall
call_of word rest = if begins double_quote rest then keyed_call word (unquoted rest) (after_quoted rest) else plain_call word rest

-- what stands after that call and a space
abbrev pub after_call : List ℕ → List ℕ → List ℕ
after_call word rest = if begins double_quote rest then after_keyed word (after_quoted rest) else after_plain word rest

-- at most so many quoted texts
abbrev pub names_in : ℕ → List ℕ → List (List ℕ)
names_in most [] = []
names_in zero (b ∷ text) = []
names_in (suc most) (b ∷ text) = unquoted (b ∷ text) ∷ names_in most (after_quoted (b ∷ text))

-- the answer of a dictionary but names, by its first word and what stands after that
abbrev pub answer_of : List ℕ → List ℕ → DictAnswer
answer_of word rest =
    if is word (codes "found") then answer.Found (value_in rest) (small_in (after_value rest))
    else if is word (codes "done") then answer.Done (not (empty rest))
    else if is word (codes "exists") then answer.Exists
    else if is word (codes "missing") then answer.Missing
    else if is word (codes "no") then answer.NoMemory (not (empty (rest_of rest)))
    else if is word (codes "not") then answer.NotNumber
    else if is word (codes "range") then answer.OutOfRange
    else if is word (codes "number") then answer.Number (integer_in (word_of rest)) (not (empty (rest_of rest)))
    else if is word (codes "count") then answer.Count (small_in rest)
    else answer.Nothing

-- the answer of a dictionary
abbrev pub answer_in : List ℕ → DictAnswer
answer_in text =
    if is (word_of text) (codes "keys") then answer.Names (names_in (length (rest_of text)) (rest_of text))
    else answer_of (word_of text) (rest_of text)

-- a dial, of which the text begins after the strand
abbrev pub dial_in : StrandId → List ℕ → Entry
dial_in who text = entry.Dial who (host_in (word_of text)) (port_in (word_of (rest_of text))) (socket_in (rest_of (rest_of text)))

-- a line of a log, of which the text begins after the strand
abbrev pub log_in : StrandId → List ℕ → Entry
log_in who text = if begins letter_f text then entry.Log who (unquoted (rest_of text)) false else entry.Log who (unquoted text) true

-- a call of a dictionary with its answer, of which the text begins after the strand
abbrev pub dict_in : StrandId → List ℕ → Entry
dict_in who text =
    entry.Dict who (word_of text) (call_of (word_of (rest_of text)) (rest_of (rest_of text)))
    (answer_in (rest_of (after_call (word_of (rest_of text)) (rest_of (rest_of text)))))

-- what a pool gave
abbrev pub taken_in : List ℕ → Option (ℕ × ℕ)
taken_in text = if begins letter_s text then Some (numbered (word_of text), small_in (rest_of text)) else None

-- the taking of a socket from a pool, of which the text begins after the strand
abbrev pub take_in : StrandId → List ℕ → Entry
take_in who text = entry.Take who (unquoted text) (taken_in (rest_of (after_quoted text)))

-- the keeping of a socket, of which the text begins after the key
abbrev pub kept_in : StrandId → ℕ → List ℕ → List ℕ → Entry
kept_in who n key text =
    entry.Keep who n key record { 0 = number_in (word_of text) } (small_in (word_of (rest_of text))) (socket_in (rest_of (rest_of (rest_of (rest_of text)))))

-- the keeping of a socket, of which the text begins after the strand
abbrev pub keep_in : StrandId → List ℕ → Entry
keep_in who text = kept_in who (numbered (word_of text)) (unquoted (rest_of text)) (after_quoted (rest_of text))

-- what was returned where a timer was asked for
abbrev pub timer_answer_in : List ℕ → TimerAnswer
timer_answer_in text =
    if begins letter_t text then timer.Job (numbered text) else if begins letter_f text then timer.Full else timer.Exiting

-- the asking for a timer, of which the text begins after the strand
abbrev pub timer_in : StrandId → List ℕ → Entry
timer_in who text = entry.Timer who record { 0 = number_in (word_of text) } (timer_answer_in (rest_of (rest_of text)))

-- an entry of one word and one name, else a given event
abbrev pub plain_entry : List ℕ → List ℕ → List ℕ → Entry
plain_entry word rest text =
    if is word (codes "later") then entry.Later (id_in rest)
    else if is word (codes "lost") then entry.Lost (id_in rest)
    else if is word (codes "close") then entry.Close (id_in rest)
    else if is word (codes "start") then entry.Start (numbered rest)
    else if is word (codes "turned") then entry.Turned (numbered rest)
    else if is word (codes "dropped") then entry.Dropped (strand_in rest)
    else entry.Given (event_in text)

-- an entry of what a strand did, else another
abbrev pub strand_entry : List ℕ → List ℕ → List ℕ → Entry
strand_entry word rest text =
    if is word (codes "dial") then dial_in (strand_in (word_of rest)) (rest_of rest)
    else if is word (codes "log") then log_in (strand_in (word_of rest)) (rest_of rest)
    else if is word (codes "dict") then dict_in (strand_in (word_of rest)) (rest_of rest)
    else if is word (codes "take") then take_in (strand_in (word_of rest)) (rest_of rest)
    else if is word (codes "keep") then keep_in (strand_in (word_of rest)) (rest_of rest)
    else if is word (codes "timer") then timer_in (strand_in (word_of rest)) (rest_of rest)
    else plain_entry word rest text

-- an entry
abbrev pub entry_in : List ℕ → Entry
entry_in text =
    if is (word_of text) (codes "put") then entry.Put (id_in (word_of (rest_of text))) (unquoted (rest_of (rest_of text)))
    else strand_entry (word_of text) (rest_of text) text
