-- What is found in the text of an entry is that entry.
use Rattle.std.proofs.Common.{◌≡◌, ◌≢◌, ℕ, ℤ, pos, negsuc, zero, suc, ◌<◌, ◌≤◌, Bool, true, false, eqb, List, [], ◌∷◌, ◌++◌, All, Option, Some, None, length, drop, refl, sym, ap, ◌∙◌, append_assoc, append-nil, length-append, arith}
use Rattle.std.specs.Bool.{if◌then◌else◌}
use Rattle.std.specs.Fmt.{signed_decimal}
use Rattle.std.specs.List.{flat_map}
use Rattle.std.specs.Prelude.{codes, decimal, not}
use Rattle.std.specs.Str.Parse.{AllDigits}
use Rattle.std.proofs.lemmas.Bool.{le-leb}
use Rattle.std.proofs.lemmas.Fmt.{decimal_is_IsNumeral}
use Rattle.std.proofs.lemmas.Str.Parse.{digit_from_value}
use Rattle.resty_base.specs.declared.dictionary.DictAnswer.{DictAnswer}
use Rattle.resty_base.specs.declared.dictionary.DictAnswer.TheVariants as answer
use Rattle.resty_base.specs.declared.dictionary.DictCall.{DictCall}
use Rattle.resty_base.specs.declared.dictionary.DictCall.TheVariants as call
use Rattle.resty_base.specs.declared.dictionary.DictValue.{DictValue}
use Rattle.resty_base.specs.declared.dictionary.DictValue.TheVariants as value
use Rattle.resty_base.specs.declared.dictionary.How.{How}
use Rattle.resty_base.specs.declared.dictionary.How.TheVariants as how
use Rattle.resty_base.specs.declared.names.StrandId.{StrandId}
use Rattle.resty_world.specs.declared.answers.TimerAnswer.{TimerAnswer}
use Rattle.resty_world.specs.declared.answers.TimerAnswer.TheVariants as timer
use Rattle.resty_world.specs.declared.entry.Entry.{Entry}
use Rattle.resty_world.specs.declared.entry.Entry.TheVariants as entry
use Rattle.resty_world.specs.declared.event.Event.TheVariants as event
use Rattle.schedule_text.specs.EntryTexts.{answer_text, call_text, closed_text, entry_text, host_text, name_text, socket_or, taken_text, timer_text, value_text}
use Rattle.schedule_text.specs.Found.{after_quoted, begins, integer_in, limited, number_in, octet_in, port_in, rest_of, small_in, socket_in, strand_in, unquoted, word_of}
use Rattle.schedule_text.specs.FoundEntries.{empty, after_call, after_incr, after_store, after_value, answer_in, call_of, dial_in, dict_in, entry_in, host_in, incr_in, keep_in, kept_in, log_in, names_in, plain_value, store_in, take_in, taken_in, timer_answer_in, timer_in, value_in}
use Rattle.schedule_text.specs.Ranges.{IsAnswer, IsBytes, IsCall, IsEntry, IsHost, IsInteger, IsNumber, IsOrdinal, IsSmall, IsSocket, IsStrand, IsTaken, IsTimer, IsValue, IsZone, is_zone_byte}
use Rattle.schedule_text.specs.Words.{quoted, strand_text}
use Rattle.schedule_text.proofs.Finding.{after-found, before-split, before-whole, after_quotes-found, after-split, after-whole, decimal-lacks, id-found, integer-begins, integer-found, integer-lacks, lacks-append, number-found, strand-found, strand-lacks, unquoted-all, unquoted-found}
use Rattle.schedule_text.proofs.LinesFound.{event-found, id-and-bytes}
use Rattle.schedule_text.proofs.ByTest.{apart-false, lacks}

-- ---- numbers within a limit

limited-found : (most n : ℕ) → n ≤ most → limited most n ≡ n
limited-found most n within = rw (le-leb n most within) refl

pub small-found : (n : ℕ) → IsSmall n → small_in (decimal n) ≡ n
small-found n within = ap (limited 4_294_967_295) (number-found n (omega arith)) ∙ limited-found 4_294_967_295 n within

port-found : (n : ℕ) → n ≤ 65_535 → port_in (decimal n) ≡ n
port-found n within = ap (limited 65_535) (number-found n (omega arith)) ∙ limited-found 65_535 n within

octet-found : (n : ℕ) → n < 256 → octet_in (decimal n) ≡ n
octet-found n within = ap (limited 255) (number-found n (omega arith)) ∙ limited-found 255 n (omega arith)

socket-found : (none : List ℕ) (n : Option ℕ) → begins 115 none ≡ false → IsSocket n → socket_in (socket_or none n) ≡ n
socket-found none None other fits = rw other refl
socket-found none (Some n) other fits = ap (λ m. Some m) (number-found n fits.1)

-- ---- hosts

pub octets-found : (a b c d : ℕ) → a < 256 → b < 256 → c < 256 → d < 256 → host_in (host_text (a ∷ b ∷ c ∷ d ∷ [])) ≡ a ∷ b ∷ c ∷ d ∷ []
octets-found a b c d small_a small_b small_c small_d =
    let x = decimal a in let y = decimal b in let z = decimal c in let w = decimal d in
    let out_a : lacks 46 x ≡ true = decimal-lacks 46 a (omega arith) (omega arith) in
    let out_b : lacks 46 y ≡ true = decimal-lacks 46 b (omega arith) (omega arith) in
    let out_c : lacks 46 z ≡ true = decimal-lacks 46 c (omega arith) (omega arith) in
    let parts : host_text (a ∷ b ∷ c ∷ d ∷ []) ≡ x ++ 46 ∷ (y ++ 46 ∷ (z ++ 46 ∷ w)) = simp append_assoc in
    ap host_in parts
    ∙ rw (before-split 46 x (y ++ 46 ∷ (z ++ 46 ∷ w)) out_a, after-split 46 x (y ++ 46 ∷ (z ++ 46 ∷ w)) out_a)
    (rw (before-split 46 y (z ++ 46 ∷ w) out_b, after-split 46 y (z ++ 46 ∷ w) out_b)
    (rw (before-split 46 z w out_c, after-split 46 z w out_c)
    (rw (octet-found a small_a, octet-found b small_b, octet-found c small_c, octet-found d small_d) refl)))

pub host-found : (host : List ℕ) → IsHost host → host_in (host_text host) ≡ host
host-found [] is = absurd (let f = is.four in omega arith)
host-found (a ∷ []) is = absurd (let f = is.four in omega arith)
host-found (a ∷ b ∷ []) is = absurd (let f = is.four in omega arith)
host-found (a ∷ b ∷ c ∷ []) is = absurd (let f = is.four in omega arith)
host-found (a ∷ b ∷ c ∷ d ∷ []) is = octets-found a b c d (is.each 0 a (omega arith)) (is.each 1 b (omega arith)) (is.each 2 c (omega arith)) (is.each 3 d (omega arith))
host-found (a ∷ b ∷ c ∷ d ∷ e ∷ others) is = absurd (let f = is.four in omega arith)

octets-lack : (k a b c d : ℕ) → k < 46 → a < 256 → b < 256 → c < 256 → d < 256 → lacks k (host_text (a ∷ b ∷ c ∷ d ∷ [])) ≡ true
octets-lack k a b c d low small_a small_b small_c small_d =
    let parts : host_text (a ∷ b ∷ c ∷ d ∷ []) ≡ decimal a ++ 46 ∷ (decimal b ++ 46 ∷ (decimal c ++ 46 ∷ decimal d)) = simp append_assoc in
    let dot : eqb 46 k ≡ false = apart-false 46 k (λ same. omega arith) in
    ap (lacks k) parts
    ∙ rw (lacks-append k (decimal a) (46 ∷ (decimal b ++ 46 ∷ (decimal c ++ 46 ∷ decimal d))), decimal-lacks k a (omega arith) (omega arith), dot)
    (rw (lacks-append k (decimal b) (46 ∷ (decimal c ++ 46 ∷ decimal d)), decimal-lacks k b (omega arith) (omega arith), dot)
    (rw (lacks-append k (decimal c) (46 ∷ decimal d), decimal-lacks k c (omega arith) (omega arith), dot)
    (decimal-lacks k d (omega arith) (omega arith))))

pub host-lacks : (k : ℕ) (host : List ℕ) → k < 46 → IsHost host → lacks k (host_text host) ≡ true
host-lacks k [] low is = absurd (let f = is.four in omega arith)
host-lacks k (a ∷ []) low is = absurd (let f = is.four in omega arith)
host-lacks k (a ∷ b ∷ []) low is = absurd (let f = is.four in omega arith)
host-lacks k (a ∷ b ∷ c ∷ []) low is = absurd (let f = is.four in omega arith)
host-lacks k (a ∷ b ∷ c ∷ d ∷ []) low is = octets-lack k a b c d low (is.each 0 a (omega arith)) (is.each 1 b (omega arith)) (is.each 2 c (omega arith)) (is.each 3 d (omega arith))
host-lacks k (a ∷ b ∷ c ∷ d ∷ e ∷ others) low is = absurd (let f = is.four in omega arith)

-- ---- parts of a text

-- the first word and what stands after it
first-found : {A : Type 0} (made : List ℕ → List ℕ → A) (w rest : List ℕ) → lacks 32 w ≡ true → made (word_of (w ++ 32 ∷ rest)) (rest_of (w ++ 32 ∷ rest)) ≡ made w rest
first-found made w rest out = ap (λ x. made x (rest_of (w ++ 32 ∷ rest))) (before-split 32 w rest out) ∙ ap (made w) (after-split 32 w rest out)

-- quoted bytes and what stands after them
key-found : {A : Type 0} (made : List ℕ → List ℕ → A) (key rest : List ℕ) → IsBytes key → made (unquoted (quoted key ++ 32 ∷ rest)) (after_quoted (quoted key ++ 32 ∷ rest)) ≡ made key rest
key-found made key rest small = ap (λ x. made x (after_quoted (quoted key ++ 32 ∷ rest))) (unquoted-found key (32 ∷ rest) small) ∙ ap (made key) (after-found key rest small)

-- ---- values

-- the byte is no digit
abbrev NoDigit : ℕ → Type 0
NoDigit d = (c : ℕ) → 48 ≤ c → c ≤ 57 → c ≢ d

digits-go_on : (d : ℕ) (ds rest : List ℕ) → NoDigit d → AllDigits 10 ds → 0 < length ds → begins d (ds ++ rest) ≡ false
digits-go_on d [] rest other digits some = absurd (omega arith)
digits-go_on d (c ∷ cs) rest other digits some =
    let range = digit_from_value c digits.0 in let least : 48 ≤ c = (let low = range.0 in omega arith) in let most : c ≤ 57 = (let top = range.1 in omega arith) in
    apart-false c d (other c least most)

number-goes_on : (d n : ℕ) (rest : List ℕ) → NoDigit d → IsNumber n → begins d (decimal n ++ rest) ≡ false
number-goes_on d n rest other within = let numeral = (decimal_is_IsNumeral n (omega arith)).0 in digits-go_on d (decimal n) rest other numeral.1 numeral.0

integer-goes_on : (d : ℕ) (n : ℤ) (rest : List ℕ) → NoDigit d → 45 ≢ d → IsInteger n → begins d (signed_decimal n ++ rest) ≡ false
integer-goes_on d (pos n) rest other minus within = number-goes_on d n rest other within
integer-goes_on d (negsuc n) rest other minus within = apart-false 45 d minus

-- a value is found with what stands after it
pub record ValueFound (v : DictValue) (rest : List ℕ) : Type 0 where
  pub found : value_in (value_text v ++ 32 ∷ rest) ≡ v
  pub after : after_value (value_text v ++ 32 ∷ rest) ≡ rest

number-value : (n : ℤ) → IsInteger n → plain_value (signed_decimal n) ≡ value.Number n
number-value n fits = rw (integer-begins 116 n (omega arith) fits, integer-begins 102 n (omega arith) fits) (ap value.Number (integer-found n fits))

pub value-found : (v : DictValue) (rest : List ℕ) → IsValue v → ValueFound v rest
value-found (value.Text bytes) rest fits = record { found = ap value.Text (unquoted-found bytes (32 ∷ rest) fits); after = after-found bytes rest fits }
value-found (value.Number n) rest fits =
    let plain = integer-goes_on 34 n (32 ∷ rest) (λ c least most same. absurd (omega arith)) (λ same. absurd (omega arith)) fits in
    let out = integer-lacks 32 n (omega arith) fits in record {
      found = rw (plain, before-split 32 (signed_decimal n) rest out) (number-value n fits);
      after = rw (plain, after-split 32 (signed_decimal n) rest out) refl;
    }
value-found (value.Truth true) rest fits = record { found = refl; after = refl }
value-found (value.Truth false) rest fits = record { found = refl; after = refl }

-- ---- calls of a dictionary

-- what stands after the key of a call that stores
abbrev stored : DictValue → ℕ → ℕ → List ℕ → List ℕ
stored v ttl flags rest = value_text v ++ 32 ∷ (decimal ttl ++ 32 ∷ (decimal flags ++ 32 ∷ rest))

store-found : (h : How) (key : List ℕ) (v : DictValue) (ttl flags : ℕ) (rest : List ℕ) → IsValue v → IsNumber ttl → IsSmall flags
    → store_in h key (stored v ttl flags rest) ≡ call.Store h key v ttl flags
store-found h key v ttl flags rest good long small =
    let last = decimal flags ++ 32 ∷ rest in
    let known = value-found v (decimal ttl ++ 32 ∷ last) good in
    ap (λ x. call.Store h key x (number_in (word_of (after_value (stored v ttl flags rest)))) (small_in (word_of (rest_of (after_value (stored v ttl flags rest)))))) known.found
    ∙ ap (λ t. call.Store h key v (number_in (word_of t)) (small_in (word_of (rest_of t)))) known.after
    ∙ first-found (λ x t. call.Store h key v (number_in x) (small_in (word_of t))) (decimal ttl) last (decimal-lacks 32 ttl (omega arith) long)
    ∙ ap (λ n. call.Store h key v n (small_in (word_of last))) (number-found ttl long)
    ∙ ap (λ w. call.Store h key v ttl (small_in w)) (before-split 32 (decimal flags) rest (decimal-lacks 32 flags (omega arith) (omega arith)))
    ∙ ap (λ n. call.Store h key v ttl n) (small-found flags small)

store-after : (v : DictValue) (ttl flags : ℕ) (rest : List ℕ) → IsValue v → IsNumber ttl → IsSmall flags → after_store (stored v ttl flags rest) ≡ rest
store-after v ttl flags rest good long small =
    let last = decimal flags ++ 32 ∷ rest in
    ap (λ t. rest_of (rest_of t)) (value-found v (decimal ttl ++ 32 ∷ last) good).after
    ∙ ap rest_of (after-split 32 (decimal ttl) last (decimal-lacks 32 ttl (omega arith) long))
    ∙ after-split 32 (decimal flags) rest (decimal-lacks 32 flags (omega arith) (omega arith))

-- a call is found with what stands after it
pub record CallFound (c : DictCall) (rest : List ℕ) : Type 0 where
  pub found : call_of (word_of (call_text c ++ 32 ∷ rest)) (rest_of (call_text c ++ 32 ∷ rest)) ≡ c
  pub after : after_call (word_of (call_text c ++ 32 ∷ rest)) (rest_of (call_text c ++ 32 ∷ rest)) ≡ rest

-- the text of a call that stores, after its word
store-parts : (key : List ℕ) (v : DictValue) (ttl flags : ℕ) (rest : List ℕ)
    → ((((((quoted key ++ codes " ") ++ value_text v) ++ codes " ") ++ decimal ttl) ++ codes " ") ++ decimal flags) ++ 32 ∷ rest ≡ quoted key ++ 32 ∷ stored v ttl flags rest
store-parts key v ttl flags rest = simp append_assoc

-- how a call that stores is found after its word
stored-found : (h : How) (key : List ℕ) (v : DictValue) (ttl flags : ℕ) (text rest : List ℕ) → IsBytes key → IsValue v → IsNumber ttl → IsSmall flags
    → text ≡ quoted key ++ 32 ∷ stored v ttl flags rest → (store_in h (unquoted text) (after_quoted text) ≡ call.Store h key v ttl flags) × (after_store (after_quoted text) ≡ rest)
stored-found h key v ttl flags text rest each good long small is = (
  ap (λ t. store_in h (unquoted t) (after_quoted t)) is ∙ key-found (store_in h) key (stored v ttl flags rest) each ∙ store-found h key v ttl flags rest good long small,
  ap (λ t. after_store (after_quoted t)) is ∙ ap after_store (after-found key (stored v ttl flags rest) each) ∙ store-after v ttl flags rest good long small,
)

incr-none : (key : List ℕ) (by : ℤ) (ttl : ℕ) (text rest : List ℕ) → IsBytes key → IsInteger by → ttl ≡ 0 → text ≡ quoted key ++ 32 ∷ (signed_decimal by ++ 32 ∷ (codes "none" ++ 32 ∷ rest))
    → (incr_in (unquoted text) (after_quoted text) ≡ call.Incr key by None ttl) × (after_incr (after_quoted text) ≡ rest)
incr-none key by ttl text rest each good none is =
    let last = codes "none" ++ 32 ∷ rest in
    let after_key = signed_decimal by ++ 32 ∷ last in
    let out = integer-lacks 32 by (omega arith) good in (
      ap (λ t. incr_in (unquoted t) (after_quoted t)) is ∙ key-found incr_in key after_key each
          ∙ first-found (λ x t. if begins 110 t then call.Incr key (integer_in x) None 0
          else call.Incr key (integer_in x) (Some (integer_in (word_of t))) (number_in (word_of (rest_of t)))) (signed_decimal by) last out
          ∙ ap (λ n. call.Incr key n None 0) (integer-found by good) ∙ ap (λ n. call.Incr key by None n) (sym none),
      ap (λ t. after_incr (after_quoted t)) is ∙ ap after_incr (after-found key after_key each)
          ∙ ap (λ t. if begins 110 t then rest_of t else rest_of (rest_of t)) (after-split 32 (signed_decimal by) last out),
    )

incr-some : (key : List ℕ) (by first : ℤ) (ttl : ℕ) (text rest : List ℕ) → IsBytes key → IsInteger by → IsInteger first → IsNumber ttl
    → text ≡ quoted key ++ 32 ∷ (signed_decimal by ++ 32 ∷ (signed_decimal first ++ 32 ∷ (decimal ttl ++ 32 ∷ rest)))
    → (incr_in (unquoted text) (after_quoted text) ≡ call.Incr key by (Some first) ttl) × (after_incr (after_quoted text) ≡ rest)
incr-some key by first ttl text rest each good fine long is =
    let last = decimal ttl ++ 32 ∷ rest in
    let more = signed_decimal first ++ 32 ∷ last in
    let after_key = signed_decimal by ++ 32 ∷ more in
    let out = integer-lacks 32 by (omega arith) good in
    let out_first = integer-lacks 32 first (omega arith) fine in
    let out_ttl = decimal-lacks 32 ttl (omega arith) long in
    let other = integer-goes_on 110 first (32 ∷ last) (λ c least most same. absurd (omega arith)) (λ same. absurd (omega arith)) fine in (
      ap (λ t. incr_in (unquoted t) (after_quoted t)) is ∙ key-found incr_in key after_key each
          ∙ first-found (λ x t. if begins 110 t then call.Incr key (integer_in x) None 0
          else call.Incr key (integer_in x) (Some (integer_in (word_of t))) (number_in (word_of (rest_of t)))) (signed_decimal by) more out
          ∙ ap (λ b. if b then call.Incr key (integer_in (signed_decimal by)) None 0
          else call.Incr key (integer_in (signed_decimal by)) (Some (integer_in (word_of more))) (number_in (word_of (rest_of more)))) other
          ∙ ap (λ n. call.Incr key n (Some (integer_in (word_of more))) (number_in (word_of (rest_of more)))) (integer-found by good)
          ∙ first-found (λ x t. call.Incr key by (Some (integer_in x)) (number_in (word_of t))) (signed_decimal first) last out_first
          ∙ ap (λ n. call.Incr key by (Some n) (number_in (word_of last))) (integer-found first fine)
          ∙ ap (λ w. call.Incr key by (Some first) (number_in w)) (before-split 32 (decimal ttl) rest out_ttl)
          ∙ ap (λ n. call.Incr key by (Some first) n) (number-found ttl long),
      ap (λ t. after_incr (after_quoted t)) is ∙ ap after_incr (after-found key after_key each)
          ∙ ap (λ t. if begins 110 t then rest_of t else rest_of (rest_of t)) (after-split 32 (signed_decimal by) more out)
          ∙ ap (λ b. if b then rest_of more else rest_of (rest_of more)) other
          ∙ ap rest_of (after-split 32 (signed_decimal first) last out_first) ∙ after-split 32 (decimal ttl) rest out_ttl,
    )

incr-parts : (key by first ttl rest : List ℕ)
    → (((key ++ codes " ") ++ by) ++ (((codes " " ++ first) ++ codes " ") ++ ttl)) ++ 32 ∷ rest ≡ key ++ 32 ∷ (by ++ 32 ∷ (first ++ 32 ∷ (ttl ++ 32 ∷ rest)))
incr-parts key by first ttl rest = simp append_assoc

counted-found : {A : Type 0} (made : ℕ → A) (n : ℕ) (rest : List ℕ) → IsSmall n → made (small_in (word_of (decimal n ++ 32 ∷ rest))) ≡ made n
counted-found made n rest small = ap (λ w. made (small_in w)) (before-split 32 (decimal n) rest (decimal-lacks 32 n (omega arith) (omega arith))) ∙ ap made (small-found n small)

counted-after : (n : ℕ) (rest : List ℕ) → IsSmall n → rest_of (decimal n ++ 32 ∷ rest) ≡ rest
counted-after n rest small = after-split 32 (decimal n) rest (decimal-lacks 32 n (omega arith) (omega arith))

counted-goes_on : (n : ℕ) (rest : List ℕ) → IsSmall n → begins 34 (decimal n ++ 32 ∷ rest) ≡ false
counted-goes_on n rest small = number-goes_on 34 n (32 ∷ rest) (λ c least most same. absurd (omega arith)) (omega arith)

pub call-found : (c : DictCall) (rest : List ℕ) → IsCall c → begins 34 rest ≡ false → CallFound c rest
call-found (call.Get key) rest fits plain = record { found = ap (λ k. call.Get k) (unquoted-found key (32 ∷ rest) fits); after = after-found key rest fits }
call-found (call.Store how.Set key v ttl flags) rest fits plain =
    let known = stored-found how.Set key v ttl flags _ rest fits.0 fits.1 fits.2 fits.3 (store-parts key v ttl flags rest) in record { found = known.0; after = known.1 }
call-found (call.Store how.Add key v ttl flags) rest fits plain =
    let known = stored-found how.Add key v ttl flags _ rest fits.0 fits.1 fits.2 fits.3 (store-parts key v ttl flags rest) in record { found = known.0; after = known.1 }
call-found (call.Store how.Replace key v ttl flags) rest fits plain =
    let known = stored-found how.Replace key v ttl flags _ rest fits.0 fits.1 fits.2 fits.3 (store-parts key v ttl flags rest) in record { found = known.0; after = known.1 }
call-found (call.Delete key) rest fits plain = record { found = ap (λ k. call.Delete k) (unquoted-found key (32 ∷ rest) fits); after = after-found key rest fits }
call-found (call.Incr key by None ttl) rest fits plain =
    let parts : (((quoted key ++ codes " ") ++ signed_decimal by) ++ codes " none") ++ 32 ∷ rest ≡ quoted key ++ 32 ∷ (signed_decimal by ++ 32 ∷ (codes "none" ++ 32 ∷ rest)) = simp append_assoc in
    let known = incr-none key by ttl _ rest fits.0 fits.1 fits.2 parts in record { found = known.0; after = known.1 }
call-found (call.Incr key by (Some first) ttl) rest fits plain =
    let parts = incr-parts (quoted key) (signed_decimal by) (signed_decimal first) (decimal ttl) rest in
    let known = incr-some key by first ttl _ rest fits.0 fits.1 fits.2.0 fits.2.1 parts in record { found = known.0; after = known.1 }
call-found call.FlushAll rest fits plain = record { found = rw plain refl; after = rw plain refl }
call-found (call.FlushExpired most) rest fits plain =
    let other = counted-goes_on most rest fits in
    record { found = rw other (counted-found call.FlushExpired most rest fits); after = rw other (counted-after most rest fits) }
call-found (call.Keys most) rest fits plain =
    let other = counted-goes_on most rest fits in
    record { found = rw other (counted-found call.Keys most rest fits); after = rw other (counted-after most rest fits) }

-- ---- answers of a dictionary

-- quoted texts with a space between two
abbrev joined : List (List ℕ) → List ℕ
joined names = drop 1 (flat_map name_text names)

names-found : (most : ℕ) (names : List (List ℕ)) → length names ≤ most → All IsBytes names → names_in most (joined names) ≡ names
names-found zero [] few small = refl
names-found (suc most) [] few small = refl
names-found zero (n ∷ names) few small = absurd (omega arith)
names-found (suc most) (n ∷ names) few small =
    let others = flat_map name_text names in
    let each = small 0 n (omega arith) in
    ap (λ x. x ∷ names_in most (after_quoted (quoted n ++ others))) (unquoted-found n others each)
    ∙ ap (λ t. n ∷ names_in most (drop 1 t)) (after_quotes-found n others each)
    ∙ ap (λ ns. n ∷ ns) (names-found most names (omega arith) (λ k e within. small (suc k) e (omega arith)))

names-short : (names : List (List ℕ)) → length names ≤ length (flat_map name_text names)
names-short [] = omega arith
names-short (n ∷ names) = omega (arith, names-short names, length-append (name_text n) (flat_map name_text names))

names-all : (names : List (List ℕ)) → All IsBytes names → answer_in (answer_text (answer.Names names)) ≡ answer.Names names
names-all [] small = refl
names-all (n ∷ names) small =
    ap answer.Names (names-found (length (joined (n ∷ names))) (n ∷ names) (omega (arith, names-short names, length-append (quoted n) (flat_map name_text names))) small)

number-answer : (n : ℤ) (forcible : Bool) → IsInteger n → answer_in (answer_text (answer.Number n forcible)) ≡ answer.Number n forcible
number-answer n true fits =
    first-found (λ x t. answer.Number (integer_in x) (not (empty t))) (signed_decimal n) (codes "forcible") (integer-lacks 32 n (omega arith) fits)
    ∙ ap (λ m. answer.Number m true) (integer-found n fits)
number-answer n false fits =
    let out = integer-lacks 32 n (omega arith) fits in
    ap (λ t. answer.Number (integer_in (word_of t)) (not (empty (rest_of t)))) (append-nil (signed_decimal n))
    ∙ ap (λ x. answer.Number (integer_in x) (not (empty (rest_of (signed_decimal n))))) (before-whole 32 (signed_decimal n) out)
    ∙ ap (λ t. answer.Number (integer_in (signed_decimal n)) (not (empty t))) (after-whole 32 (signed_decimal n) out)
    ∙ ap (λ m. answer.Number m false) (integer-found n fits)

found-answer : (v : DictValue) (flags : ℕ) → IsValue v → IsSmall flags → answer_in (answer_text (answer.Found v flags)) ≡ answer.Found v flags
found-answer v flags good small =
    let known = value-found v (decimal flags) good in
    ap (λ t. answer.Found (value_in t) (small_in (after_value t))) (append_assoc (value_text v) (32 ∷ []) (decimal flags))
    ∙ ap (λ x. answer.Found x (small_in (after_value (value_text v ++ 32 ∷ decimal flags)))) known.found
    ∙ ap (λ t. answer.Found v (small_in t)) known.after
    ∙ ap (answer.Found v) (small-found flags small)

pub answer-found : (a : DictAnswer) → IsAnswer a → answer_in (answer_text a) ≡ a
answer-found (answer.Found v flags) fits = found-answer v flags fits.0 fits.1
answer-found answer.Nothing fits = refl
answer-found (answer.Done true) fits = refl
answer-found (answer.Done false) fits = refl
answer-found answer.Exists fits = refl
answer-found answer.Missing fits = refl
answer-found (answer.NoMemory true) fits = refl
answer-found (answer.NoMemory false) fits = refl
answer-found answer.NotNumber fits = refl
answer-found answer.OutOfRange fits = refl
answer-found (answer.Number n forcible) fits = number-answer n forcible fits
answer-found (answer.Count n) fits = ap answer.Count (small-found n fits)
answer-found (answer.Names names) fits = names-all names fits

-- ---- entries

pub zone-lacks : (d : ℕ) (zone : List ℕ) → is_zone_byte d ≡ false → All (λ b. is_zone_byte b ≡ true) zone → lacks d zone ≡ true
zone-lacks d [] other each = refl
zone-lacks d (b ∷ zone) other each =
    rw (apart-false b d (λ same. let here = each 0 b (omega arith) in absurd (let e : true ≡ false = sym here ∙ ap is_zone_byte same ∙ other in cc)))
    (zone-lacks d zone other (λ k e within. each (suc k) e (omega arith)))

-- the strand that an entry names, and what stands after it
who-found : (made : StrandId → List ℕ → Entry) (who : StrandId) (text rest : List ℕ) → IsStrand who → text ≡ strand_text who ++ 32 ∷ rest
    → made (strand_in (word_of text)) (rest_of text) ≡ made who rest
who-found made who text rest named is =
    ap (λ t. made (strand_in (word_of t)) (rest_of t)) is ∙ first-found (λ x t. made (strand_in x) t) (strand_text who) rest (strand-lacks 32 who (omega arith) named)
    ∙ ap (λ s. made s rest) (strand-found who named)

dial-found : (who : StrandId) (host : List ℕ) (port : ℕ) (n : Option ℕ) → IsHost host → port ≤ 65_535 → IsSocket n
    → dial_in who (host_text host ++ 32 ∷ (decimal port ++ 32 ∷ socket_or (codes "failed") n)) ≡ entry.Dial who host port n
dial-found who host port n four small named =
    let last = socket_or (codes "failed") n in
    first-found (λ x t. entry.Dial who (host_in x) (port_in (word_of t)) (socket_in (rest_of t))) (host_text host) (decimal port ++ 32 ∷ last) (host-lacks 32 host (omega arith) four)
    ∙ ap (λ h. entry.Dial who h (port_in (word_of (decimal port ++ 32 ∷ last))) (socket_in (rest_of (decimal port ++ 32 ∷ last)))) (host-found host four)
    ∙ first-found (λ x t. entry.Dial who host (port_in x) (socket_in t)) (decimal port) last (decimal-lacks 32 port (omega arith) (omega arith))
    ∙ ap (λ p. entry.Dial who host p (socket_in last)) (port-found port small)
    ∙ ap (λ s. entry.Dial who host port s) (socket-found (codes "failed") n refl named)

dict-found : (who : StrandId) (zone : List ℕ) (c : DictCall) (a : DictAnswer) → IsZone zone → IsCall c → IsAnswer a
    → dict_in who (zone ++ 32 ∷ (call_text c ++ 32 ∷ (codes "= " ++ answer_text a))) ≡ entry.Dict who zone c a
dict-found who zone c a named called answered =
    let last = codes "= " ++ answer_text a in
    let known = call-found c last called refl in
    first-found (λ x t. entry.Dict who x (call_of (word_of t) (rest_of t)) (answer_in (rest_of (after_call (word_of t) (rest_of t))))) zone (call_text c ++ 32 ∷ last) (zone-lacks 32 zone refl named.each)
    ∙ ap (λ k. entry.Dict who zone k (answer_in (rest_of (after_call (word_of (call_text c ++ 32 ∷ last)) (rest_of (call_text c ++ 32 ∷ last)))))) known.found
    ∙ ap (λ t. entry.Dict who zone c (answer_in (rest_of t))) known.after
    ∙ ap (λ x. entry.Dict who zone c x) (answer-found a answered)

taken-found : (got : Option (ℕ × ℕ)) → IsTaken got → taken_in (taken_text got) ≡ got
taken-found None fits = refl
taken-found (Some got) fits =
    let out = decimal-lacks 32 got.0 (omega arith) fits.0.1 in
    ap (λ t. Some (number_in (word_of t), small_in (rest_of t))) (append_assoc (decimal got.0) (32 ∷ []) (decimal got.1))
    ∙ first-found (λ x t. Some (number_in x, small_in t)) (decimal got.0) (decimal got.1) out
    ∙ ap (λ n. Some (n, small_in (decimal got.1))) (number-found got.0 fits.0.1)
    ∙ ap (λ n. Some (got.0, n)) (small-found got.1 fits.1)

take-found : (who : StrandId) (key : List ℕ) (got : Option (ℕ × ℕ)) → IsBytes key → IsTaken got
    → take_in who (quoted key ++ 32 ∷ (codes "= " ++ taken_text got)) ≡ entry.Take who key got
take-found who key got each fits =
    key-found (λ k t. entry.Take who k (taken_in (rest_of t))) key (codes "= " ++ taken_text got) each ∙ ap (entry.Take who key) (taken-found got fits)

closed-found : (closed : Option ℕ) → IsSocket closed → socket_in (rest_of (codes "kept" ++ closed_text closed)) ≡ closed
closed-found None fits = refl
closed-found (Some n) fits = ap (λ m. Some m) (number-found n fits.1)

kept-found : (who : StrandId) (n : ℕ) (key : List ℕ) (idle size : ℕ) (closed : Option ℕ) → IsNumber idle → IsSmall size → IsSocket closed
    → kept_in who n key (decimal idle ++ 32 ∷ (decimal size ++ 32 ∷ (codes "= kept" ++ closed_text closed))) ≡ entry.Keep who n key record { 0 = idle } size closed
kept-found who n key idle size closed long small named =
    let last = codes "= kept" ++ closed_text closed in
    first-found (λ x t. entry.Keep who n key record { 0 = number_in x } (small_in (word_of t)) (socket_in (rest_of (rest_of (rest_of t))))) (decimal idle) (decimal size ++ 32 ∷ last)
    (decimal-lacks 32 idle (omega arith) long)
    ∙ ap (λ m. entry.Keep who n key record { 0 = m } (small_in (word_of (decimal size ++ 32 ∷ last))) (socket_in (rest_of (rest_of (rest_of (decimal size ++ 32 ∷ last)))))) (number-found idle long)
    ∙ first-found (λ x t. entry.Keep who n key record { 0 = idle } (small_in x) (socket_in (rest_of (rest_of t)))) (decimal size) last (decimal-lacks 32 size (omega arith) (omega arith))
    ∙ ap (λ m. entry.Keep who n key record { 0 = idle } m (socket_in (rest_of (rest_of last)))) (small-found size small)
    ∙ ap (entry.Keep who n key record { 0 = idle } size) (closed-found closed named)

keep-found : (who : StrandId) (n : ℕ) (key rest : List ℕ) → IsOrdinal n → IsBytes key → keep_in who (115 ∷ (decimal n ++ 32 ∷ (quoted key ++ 32 ∷ rest))) ≡ kept_in who n key rest
keep-found who n key rest named each =
    first-found (λ x t. kept_in who (number_in x) (unquoted t) (after_quoted t)) (decimal n) (quoted key ++ 32 ∷ rest) (decimal-lacks 32 n (omega arith) named.1)
    ∙ ap (λ m. kept_in who m (unquoted (quoted key ++ 32 ∷ rest)) (after_quoted (quoted key ++ 32 ∷ rest))) (number-found n named.1)
    ∙ key-found (kept_in who n) key rest each

answered-found : (a : TimerAnswer) → IsTimer a → timer_answer_in (timer_text a) ≡ a
answered-found (timer.Job n) fits = ap timer.Job (number-found n fits.1)
answered-found timer.Full fits = refl
answered-found timer.Exiting fits = refl

timer-found : (who : StrandId) (due : ℕ) (a : TimerAnswer) → IsNumber due → IsTimer a
    → timer_in who (decimal due ++ 32 ∷ (codes "= " ++ timer_text a)) ≡ entry.Timer who record { 0 = due } a
timer-found who due a long fits =
    first-found (λ x t. entry.Timer who record { 0 = number_in x } (timer_answer_in (rest_of t))) (decimal due) (codes "= " ++ timer_text a) (decimal-lacks 32 due (omega arith) long)
    ∙ ap (λ n. entry.Timer who record { 0 = n } (timer_answer_in (timer_text a))) (number-found due long)
    ∙ ap (entry.Timer who record { 0 = due }) (answered-found a fits)

-- the texts of entries of a strand, grouped to the right
pub dial-parts : (who : StrandId) (host : List ℕ) (port : ℕ) (n : Option ℕ)
    → (((((strand_text who ++ codes " ") ++ host_text host) ++ codes " ") ++ decimal port) ++ codes " ") ++ socket_or (codes "failed") n
    ≡ strand_text who ++ 32 ∷ (host_text host ++ 32 ∷ (decimal port ++ 32 ∷ socket_or (codes "failed") n))
dial-parts who host port n = simp append_assoc

pub log-parts : (who : StrandId) (text : List ℕ) → ((strand_text who ++ codes " ") ++ []) ++ quoted text ≡ strand_text who ++ 32 ∷ quoted text
log-parts who text = simp (append_assoc, append-nil {A = ℕ})

pub failed-parts : (who : StrandId) (text : List ℕ) → ((strand_text who ++ codes " ") ++ codes "failed ") ++ quoted text ≡ strand_text who ++ 32 ∷ (codes "failed " ++ quoted text)
failed-parts who text = simp append_assoc

pub dict-parts : (who : StrandId) (zone c a : List ℕ)
    → (((((strand_text who ++ codes " ") ++ zone) ++ codes " ") ++ c) ++ codes " = ") ++ a ≡ strand_text who ++ 32 ∷ (zone ++ 32 ∷ (c ++ 32 ∷ (codes "= " ++ a)))
dict-parts who zone c a = simp append_assoc

pub take-parts : (who : StrandId) (key got : List ℕ) → (((strand_text who ++ codes " ") ++ key) ++ codes " = ") ++ got ≡ strand_text who ++ 32 ∷ (key ++ 32 ∷ (codes "= " ++ got))
take-parts who key got = simp append_assoc

pub keep-parts : (who : StrandId) (n key idle size closed : List ℕ)
    → (((((strand_text who ++ codes " s") ++ n) ++ codes " ") ++ key) ++ codes " ") ++ (((((idle ++ codes " ") ++ size) ++ codes " = kept") ++ closed))
    ≡ strand_text who ++ 32 ∷ (115 ∷ (n ++ 32 ∷ (key ++ 32 ∷ (idle ++ 32 ∷ (size ++ 32 ∷ (codes "= kept" ++ closed))))))
keep-parts who n key idle size closed = simp append_assoc

pub timer-parts : (who : StrandId) (due a : List ℕ) → (((strand_text who ++ codes " ") ++ due) ++ codes " = ") ++ a ≡ strand_text who ++ 32 ∷ (due ++ 32 ∷ (codes "= " ++ a))
timer-parts who due a = simp append_assoc

pub entry-found : (e : Entry) → IsEntry e → entry_in (entry_text e) ≡ e
entry-found (entry.Given (event.Arrive k)) fits = ap entry.Given (event-found (event.Arrive k) fits)
entry-found (entry.Given (event.Bytes i bytes)) fits = ap entry.Given (event-found (event.Bytes i bytes) fits)
entry-found (entry.Given (event.Ended i)) fits = ap entry.Given (event-found (event.Ended i) fits)
entry-found (entry.Given (event.Broken i)) fits = ap entry.Given (event-found (event.Broken i) fits)
entry-found (entry.Given (event.Ready i)) fits = ap entry.Given (event-found (event.Ready i) fits)
entry-found (entry.Given (event.Dialled n)) fits = ap entry.Given (event-found (event.Dialled n) fits)
entry-found (entry.Given (event.Refused n)) fits = ap entry.Given (event-found (event.Refused n) fits)
entry-found (entry.Given (event.Moment t)) fits = ap entry.Given (event-found (event.Moment t) fits)
entry-found (entry.Given event.Stop) fits = refl
entry-found (entry.Given event.Fault) fits = absurd fits
entry-found (entry.Given (event.BadLine n)) fits = absurd fits
entry-found (entry.Given event.Memory) fits = absurd fits
entry-found (entry.Put i bytes) fits = id-and-bytes entry.Put i bytes fits.0 fits.1
entry-found (entry.Later i) fits = ap entry.Later (id-found i fits)
entry-found (entry.Lost i) fits = ap entry.Lost (id-found i fits)
entry-found (entry.Close i) fits = ap entry.Close (id-found i fits)
entry-found (entry.Dial who host port n) fits =
    who-found dial_in who _ (host_text host ++ 32 ∷ (decimal port ++ 32 ∷ socket_or (codes "failed") n)) fits.0 (dial-parts who host port n)
    ∙ dial-found who host port n fits.1 fits.2 fits.3
entry-found (entry.Log who text true) fits = who-found log_in who _ (quoted text) fits.0 (log-parts who text) ∙ ap (λ t. entry.Log who t true) (unquoted-all text fits.1)
entry-found (entry.Log who text false) fits = who-found log_in who _ (codes "failed " ++ quoted text) fits.0 (failed-parts who text) ∙ ap (λ t. entry.Log who t false) (unquoted-all text fits.1)
entry-found (entry.Dict who zone c a) fits =
    who-found dict_in who _ (zone ++ 32 ∷ (call_text c ++ 32 ∷ (codes "= " ++ answer_text a))) fits.0 (dict-parts who zone (call_text c) (answer_text a))
    ∙ dict-found who zone c a fits.1 fits.2 fits.3
entry-found (entry.Take who key got) fits =
    who-found take_in who _ (quoted key ++ 32 ∷ (codes "= " ++ taken_text got)) fits.0 (take-parts who (quoted key) (taken_text got)) ∙ take-found who key got fits.1 fits.2
entry-found (entry.Keep who n key idle size closed) fits =
    let last = decimal idle.0 ++ 32 ∷ (decimal size ++ 32 ∷ (codes "= kept" ++ closed_text closed)) in
    who-found keep_in who _ (115 ∷ (decimal n ++ 32 ∷ (quoted key ++ 32 ∷ last))) fits.0 (keep-parts who (decimal n) (quoted key) (decimal idle.0) (decimal size) (closed_text closed))
    ∙ keep-found who n key last fits.1 fits.2 ∙ kept-found who n key idle.0 size closed fits.3 fits.4 fits.5
entry-found (entry.Timer who due a) fits =
    who-found timer_in who _ (decimal due.0 ++ 32 ∷ (codes "= " ++ timer_text a)) fits.0 (timer-parts who (decimal due.0) (timer_text a)) ∙ timer-found who due.0 a fits.1 fits.2
entry-found (entry.Start n) fits = ap entry.Start (number-found n fits.1)
entry-found (entry.Turned c) fits = ap entry.Turned (number-found c fits.1)
entry-found (entry.Dropped who) fits = ap entry.Dropped (strand-found who fits)
