-- No text of an entry has an end of line in it.
use Rattle.std.proofs.Common.{◌≡◌, ℕ, ℤ, Bool, true, false, List, [], ◌∷◌, ◌++◌, Option, Some, None, refl, ap, ◌∙◌, arith}
use Rattle.std.specs.Fmt.{signed_decimal}
use Rattle.std.specs.List.{flat_map}
use Rattle.std.specs.Prelude.{codes, decimal}
use Rattle.resty_base.specs.declared.dictionary.DictAnswer.{DictAnswer}
use Rattle.resty_base.specs.declared.dictionary.DictAnswer.TheVariants as answer
use Rattle.resty_base.specs.declared.dictionary.DictCall.{DictCall}
use Rattle.resty_base.specs.declared.dictionary.DictCall.TheVariants as call
use Rattle.resty_base.specs.declared.dictionary.DictValue.{DictValue}
use Rattle.resty_base.specs.declared.dictionary.DictValue.TheVariants as value
use Rattle.resty_base.specs.declared.dictionary.How.TheVariants as how
use Rattle.resty_base.specs.declared.names.StrandId.{StrandId}
use Rattle.resty_world.specs.declared.answers.TimerAnswer.{TimerAnswer}
use Rattle.resty_world.specs.declared.answers.TimerAnswer.TheVariants as timer
use Rattle.resty_world.specs.declared.entry.Entry.{Entry}
use Rattle.resty_world.specs.declared.entry.Entry.TheVariants as entry
use Rattle.schedule_text.specs.EntryTexts.{answer_text, call_text, closed_text, entry_text, forcible_text, host_text, init_text, name_text, socket_or, taken_text, timer_text, value_text}
use Rattle.schedule_text.specs.Ranges.{IsAnswer, IsCall, IsEntry, IsInit, IsNumber, IsSmall, IsSocket, IsStrand, IsTaken, IsTimer, IsValue}
use Rattle.schedule_text.specs.Words.{id_text, quoted, strand_text}
use Rattle.schedule_text.proofs.Finding.{decimal-lacks, id-lacks, integer-lacks, strand-lacks}
use Rattle.schedule_text.proofs.LinesFound.{both-lack, event-unbroken, quoted-lacks, spaced-lack}
use Rattle.schedule_text.proofs.ByTest.{lacks}
use Rattle.schedule_text.proofs.EntriesFound.{dial-parts, dict-parts, failed-parts, host-lacks, keep-parts, log-parts, take-parts, timer-parts, zone-lacks}

value-lacks : (v : DictValue) → IsValue v → lacks 10 (value_text v) ≡ true
value-lacks (value.Text bytes) fits = quoted-lacks bytes
value-lacks (value.Number n) fits = integer-lacks 10 n (omega arith) fits
value-lacks (value.Truth true) fits = refl
value-lacks (value.Truth false) fits = refl

forcible-lacks : (forcible : Bool) → lacks 10 (forcible_text forcible) ≡ true
forcible-lacks true = refl
forcible-lacks false = refl

small-lacks : (n : ℕ) → IsSmall n → lacks 10 (decimal n) ≡ true
small-lacks n small = decimal-lacks 10 n (omega arith) (omega arith)

store-lacks : (key : List ℕ) (v : DictValue) (ttl flags : ℕ) → IsValue v → IsNumber ttl → IsSmall flags
    → lacks 10 ((((((quoted key ++ codes " ") ++ value_text v) ++ codes " ") ++ decimal ttl) ++ codes " ") ++ decimal flags) ≡ true
store-lacks key v ttl flags good long small =
    spaced-lack (((quoted key ++ codes " ") ++ value_text v) ++ codes " " ++ decimal ttl) (decimal flags)
    (spaced-lack ((quoted key ++ codes " ") ++ value_text v) (decimal ttl) (spaced-lack (quoted key) (value_text v) (quoted-lacks key) (value-lacks v good)) (decimal-lacks 10 ttl (omega arith) long))
    (small-lacks flags small)

init-lacks : (init : Option ℤ) (ttl : ℕ) → IsInit init ttl → lacks 10 (init_text init ttl) ≡ true
init-lacks None ttl fits = refl
init-lacks (Some n) ttl fits = spaced-lack (signed_decimal n) (decimal ttl) (integer-lacks 10 n (omega arith) fits.0) (decimal-lacks 10 ttl (omega arith) fits.1)

call-lacks : (c : DictCall) → IsCall c → lacks 10 (call_text c) ≡ true
call-lacks (call.Get key) fits = quoted-lacks key
call-lacks (call.Store how.Set key v ttl flags) fits = store-lacks key v ttl flags fits.1 fits.2 fits.3
call-lacks (call.Store how.Add key v ttl flags) fits = store-lacks key v ttl flags fits.1 fits.2 fits.3
call-lacks (call.Store how.Replace key v ttl flags) fits = store-lacks key v ttl flags fits.1 fits.2 fits.3
call-lacks (call.Delete key) fits = quoted-lacks key
call-lacks (call.Incr key by init ttl) fits =
    both-lack ((quoted key ++ codes " ") ++ signed_decimal by) (init_text init ttl)
    (spaced-lack (quoted key) (signed_decimal by) (quoted-lacks key) (integer-lacks 10 by (omega arith) fits.1)) (init-lacks init ttl fits.2)
call-lacks call.FlushAll fits = refl
call-lacks (call.FlushExpired most) fits = small-lacks most fits
call-lacks (call.Keys most) fits = small-lacks most fits

names-lack : (names : List (List ℕ)) → lacks 10 (flat_map name_text names) ≡ true
names-lack [] = refl
names-lack (n ∷ names) = both-lack (quoted n) (flat_map name_text names) (quoted-lacks n) (names-lack names)

answer-lacks : (a : DictAnswer) → IsAnswer a → lacks 10 (answer_text a) ≡ true
answer-lacks (answer.Found v flags) fits = spaced-lack (value_text v) (decimal flags) (value-lacks v fits.0) (small-lacks flags fits.1)
answer-lacks answer.Nothing fits = refl
answer-lacks (answer.Done forcible) fits = forcible-lacks forcible
answer-lacks answer.Exists fits = refl
answer-lacks answer.Missing fits = refl
answer-lacks (answer.NoMemory forcible) fits = forcible-lacks forcible
answer-lacks answer.NotNumber fits = refl
answer-lacks answer.OutOfRange fits = refl
answer-lacks (answer.Number n forcible) fits = both-lack (signed_decimal n) (forcible_text forcible) (integer-lacks 10 n (omega arith) fits) (forcible-lacks forcible)
answer-lacks (answer.Count n) fits = small-lacks n fits
answer-lacks (answer.Names names) fits = names-lack names

socket-lacks : (none : List ℕ) (n : Option ℕ) → lacks 10 none ≡ true → IsSocket n → lacks 10 (socket_or none n) ≡ true
socket-lacks none None out fits = out
socket-lacks none (Some n) out fits = decimal-lacks 10 n (omega arith) fits.1

taken-lacks : (got : Option (ℕ × ℕ)) → IsTaken got → lacks 10 (taken_text got) ≡ true
taken-lacks None fits = refl
taken-lacks (Some got) fits = spaced-lack (decimal got.0) (decimal got.1) (decimal-lacks 10 got.0 (omega arith) fits.0.1) (small-lacks got.1 fits.1)

closed-lacks : (closed : Option ℕ) → IsSocket closed → lacks 10 (closed_text closed) ≡ true
closed-lacks None fits = refl
closed-lacks (Some n) fits = decimal-lacks 10 n (omega arith) fits.1

timer-lacks : (a : TimerAnswer) → IsTimer a → lacks 10 (timer_text a) ≡ true
timer-lacks (timer.Job n) fits = decimal-lacks 10 n (omega arith) fits.1
timer-lacks timer.Full fits = refl
timer-lacks timer.Exiting fits = refl

-- a strand, and what stands after it
who-lacks : (who : StrandId) (rest : List ℕ) → IsStrand who → lacks 10 rest ≡ true → lacks 10 (strand_text who ++ 32 ∷ rest) ≡ true
who-lacks who rest named out = both-lack (strand_text who) (32 ∷ rest) (strand-lacks 10 who (omega arith) named) out

-- two parts with a space between them, grouped to the right
then-lacks : (xs ys : List ℕ) → lacks 10 xs ≡ true → lacks 10 ys ≡ true → lacks 10 (xs ++ 32 ∷ ys) ≡ true
then-lacks xs ys out_x out_y = both-lack xs (32 ∷ ys) out_x out_y

pub entry-unbroken : (e : Entry) → IsEntry e → lacks 10 (entry_text e) ≡ true
entry-unbroken (entry.Given e) fits = event-unbroken e fits
entry-unbroken (entry.Put i bytes) fits = spaced-lack (id_text i) (quoted bytes) (id-lacks 10 i (omega arith) fits.0) (quoted-lacks bytes)
entry-unbroken (entry.Later i) fits = id-lacks 10 i (omega arith) fits
entry-unbroken (entry.Lost i) fits = id-lacks 10 i (omega arith) fits
entry-unbroken (entry.Close i) fits = id-lacks 10 i (omega arith) fits
entry-unbroken (entry.Dial who host port n) fits =
    ap (lacks 10) (dial-parts who host port n)
    ∙ who-lacks who (host_text host ++ 32 ∷ (decimal port ++ 32 ∷ socket_or (codes "failed") n)) fits.0
    (then-lacks (host_text host) (decimal port ++ 32 ∷ socket_or (codes "failed") n) (host-lacks 10 host (omega arith) fits.1)
    (then-lacks (decimal port) (socket_or (codes "failed") n) (decimal-lacks 10 port (omega arith) (let p = fits.2 in omega arith)) (socket-lacks (codes "failed") n refl fits.3)))
entry-unbroken (entry.Log who text true) fits = ap (lacks 10) (log-parts who text) ∙ who-lacks who (quoted text) fits.0 (quoted-lacks text)
entry-unbroken (entry.Log who text false) fits = ap (lacks 10) (failed-parts who text) ∙ who-lacks who (codes "failed " ++ quoted text) fits.0 (quoted-lacks text)
entry-unbroken (entry.Dict who zone c a) fits =
    ap (lacks 10) (dict-parts who zone (call_text c) (answer_text a))
    ∙ who-lacks who (zone ++ 32 ∷ (call_text c ++ 32 ∷ (codes "= " ++ answer_text a))) fits.0
    (then-lacks zone (call_text c ++ 32 ∷ (codes "= " ++ answer_text a)) (zone-lacks 10 zone refl fits.1.each)
    (then-lacks (call_text c) (codes "= " ++ answer_text a) (call-lacks c fits.2) (answer-lacks a fits.3)))
entry-unbroken (entry.Take who key got) fits =
    ap (lacks 10) (take-parts who (quoted key) (taken_text got))
    ∙ who-lacks who (quoted key ++ 32 ∷ (codes "= " ++ taken_text got)) fits.0 (then-lacks (quoted key) (codes "= " ++ taken_text got) (quoted-lacks key) (taken-lacks got fits.2))
entry-unbroken (entry.Keep who n key idle size closed) fits =
    let last = codes "= kept" ++ closed_text closed in
    let pool = decimal idle.0 ++ 32 ∷ (decimal size ++ 32 ∷ last) in
    ap (lacks 10) (keep-parts who (decimal n) (quoted key) (decimal idle.0) (decimal size) (closed_text closed))
    ∙ who-lacks who (115 ∷ (decimal n ++ 32 ∷ (quoted key ++ 32 ∷ pool))) fits.0
    (then-lacks (decimal n) (quoted key ++ 32 ∷ pool) (decimal-lacks 10 n (omega arith) fits.1.1)
    (then-lacks (quoted key) pool (quoted-lacks key)
    (then-lacks (decimal idle.0) (decimal size ++ 32 ∷ last) (decimal-lacks 10 idle.0 (omega arith) fits.3)
    (then-lacks (decimal size) last (small-lacks size fits.4) (closed-lacks closed fits.5)))))
entry-unbroken (entry.Timer who due a) fits =
    ap (lacks 10) (timer-parts who (decimal due.0) (timer_text a))
    ∙ who-lacks who (decimal due.0 ++ 32 ∷ (codes "= " ++ timer_text a)) fits.0
    (then-lacks (decimal due.0) (codes "= " ++ timer_text a) (decimal-lacks 10 due.0 (omega arith) fits.1) (timer-lacks a fits.2))
entry-unbroken (entry.Start n) fits = decimal-lacks 10 n (omega arith) fits.1
entry-unbroken (entry.Turned c) fits = decimal-lacks 10 c (omega arith) fits.1
entry-unbroken (entry.Dropped who) fits = strand-lacks 10 who (omega arith) fits
