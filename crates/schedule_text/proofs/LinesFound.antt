-- What is found in the text of an event, or of a line of a schedule, is that event or line; and no such text has an end of
-- line in it.
use Rattle.std.proofs.Common.{◌≡◌, ℕ, ◌+◌, ◌/◌, ◌%◌, true, false, ◌&&◌, eqb, leb, ltb, List, [], ◌∷◌, ◌++◌, Option, Some, None, refl, sym, ap, ◌∙◌, append_assoc, arith}
use Rattle.std.specs.Bool.{if◌then◌else◌}
use Rattle.std.specs.List.{flat_map}
use Rattle.std.specs.Prelude.{codes, decimal}
use Rattle.resty_base.specs.declared.names.Id.{Id}
use Rattle.resty_base.specs.BoolLaws.{by_test}
use Rattle.resty_world.specs.declared.event.Event.{Event}
use Rattle.resty_world.specs.declared.event.Event.TheVariants as event
use Rattle.resty_world.specs.declared.schedule_line.SchedLine.{SchedLine}
use Rattle.resty_world.specs.declared.schedule_line.SchedLine.TheVariants as line
use Rattle.schedule_text.specs.Found.{id_in, rest_of, unquoted, word_of}
use Rattle.schedule_text.specs.FoundLines.{event_in, line_in, room_in}
use Rattle.schedule_text.specs.LineTexts.{event_text, line_text}
use Rattle.schedule_text.specs.Ranges.{IsEvent, IsId, IsBytes, IsLine}
use Rattle.schedule_text.specs.Words.{hex_digit, id_text, quoted, quoted_byte}
use Rattle.schedule_text.proofs.Finding.{before-split, after-split, decimal-begins, decimal-lacks, id-found, id-lacks, lacks-append, number-found, unquoted-all}
use Rattle.schedule_text.proofs.ByTest.{apart-false, lacks}

-- the word before a space, and what stands after it
pub word-found : (w rest : List ℕ) → lacks 32 w ≡ true → word_of ((w ++ 32 ∷ []) ++ rest) ≡ w
word-found w rest out = ap word_of (append_assoc w (32 ∷ []) rest) ∙ before-split 32 w rest out

pub rest-found : (w rest : List ℕ) → lacks 32 w ≡ true → rest_of ((w ++ 32 ∷ []) ++ rest) ≡ rest
rest-found w rest out = ap rest_of (append_assoc w (32 ∷ []) rest) ∙ after-split 32 w rest out

-- an id and quoted bytes after it
pub id-and-bytes : {A : Type 0} (made : Id → List ℕ → A) (i : Id) (bytes : List ℕ) → IsId i → IsBytes bytes
    → made (id_in (word_of ((id_text i ++ 32 ∷ []) ++ quoted bytes))) (unquoted (rest_of ((id_text i ++ 32 ∷ []) ++ quoted bytes))) ≡ made i bytes
id-and-bytes made i bytes named small =
    let out = id-lacks 32 i (omega arith) named in
    ap (λ w. made (id_in w) (unquoted (rest_of ((id_text i ++ 32 ∷ []) ++ quoted bytes)))) (word-found (id_text i) (quoted bytes) out)
    ∙ ap (λ j. made j (unquoted (rest_of ((id_text i ++ 32 ∷ []) ++ quoted bytes)))) (id-found i named)
    ∙ ap (λ r. made i (unquoted r)) (rest-found (id_text i) (quoted bytes) out)
    ∙ ap (made i) (unquoted-all bytes small)

pub event-found : (e : Event) → IsEvent e → event_in (event_text e) ≡ e
event-found (event.Arrive k) fits = ap (λ n. event.Arrive n) (number-found k fits.1)
event-found (event.Bytes i bytes) fits = id-and-bytes (λ j b. event.Bytes j b) i bytes fits.0 fits.1.each
event-found (event.Ended i) fits = ap (λ j. event.Ended j) (id-found i fits)
event-found (event.Broken i) fits = ap (λ j. event.Broken j) (id-found i fits)
event-found (event.Ready i) fits = ap (λ j. event.Ready j) (id-found i fits)
event-found (event.Dialled n) fits = ap (λ m. event.Dialled m) (number-found n fits.1)
event-found (event.Refused n) fits = ap (λ m. event.Refused m) (number-found n fits.1)
event-found (event.Moment t) fits = ap (λ m. event.Moment record { 0 = m }) (number-found t.0 (omega arith))
event-found event.Stop fits = refl
event-found event.Fault fits = absurd fits
event-found (event.BadLine n) fits = absurd fits
event-found event.Memory fits = absurd fits

room-found : (i : Id) (rest : List ℕ) (room : Option ℕ) → IsId i → room_in rest ≡ room
    → line.Room (id_in (word_of ((id_text i ++ 32 ∷ []) ++ rest))) (room_in (rest_of ((id_text i ++ 32 ∷ []) ++ rest))) ≡ line.Room i room
room-found i rest room named is =
    let out = id-lacks 32 i (omega arith) named in
    ap (λ w. line.Room (id_in w) (room_in (rest_of ((id_text i ++ 32 ∷ []) ++ rest)))) (word-found (id_text i) rest out)
    ∙ ap (λ j. line.Room j (room_in (rest_of ((id_text i ++ 32 ∷ []) ++ rest)))) (id-found i named)
    ∙ ap (λ r. line.Room i (room_in r)) (rest-found (id_text i) rest out)
    ∙ ap (line.Room i) is

pub line-found : (l : SchedLine) → IsLine l → line_in (line_text l) ≡ l
line-found (line.Given (event.Arrive k)) fits = ap line.Given (event-found (event.Arrive k) fits)
line-found (line.Given (event.Bytes i bytes)) fits = ap line.Given (event-found (event.Bytes i bytes) fits)
line-found (line.Given (event.Ended i)) fits = ap line.Given (event-found (event.Ended i) fits)
line-found (line.Given (event.Broken i)) fits = ap line.Given (event-found (event.Broken i) fits)
line-found (line.Given (event.Ready i)) fits = ap line.Given (event-found (event.Ready i) fits)
line-found (line.Given (event.Dialled n)) fits = ap line.Given (event-found (event.Dialled n) fits)
line-found (line.Given (event.Refused n)) fits = ap line.Given (event-found (event.Refused n) fits)
line-found (line.Given (event.Moment t)) fits = ap line.Given (event-found (event.Moment t) fits)
line-found (line.Given event.Stop) fits = refl
line-found (line.Given event.Fault) fits = absurd fits
line-found (line.Given (event.BadLine n)) fits = absurd fits
line-found (line.Given event.Memory) fits = absurd fits
line-found (line.Room i None) fits =
    ap (λ t. line.Room (id_in (word_of t)) (room_in (rest_of t))) (sym (append_assoc (id_text i) (32 ∷ []) (codes "all"))) ∙ room-found i (codes "all") None fits.0 refl
line-found (line.Room i (Some n)) fits =
    room-found i (decimal n) (Some n) fits.0 (rw (decimal-begins 97 n (omega arith) fits.1) (ap (λ m. Some m) (number-found n fits.1)))
line-found line.FailNext fits = refl
line-found line.FailDial fits = refl
line-found line.FailLog fits = refl
line-found line.FailListen fits = refl
line-found (line.FailPut i) fits = ap (λ j. line.FailPut j) (id-found i fits)

-- ---- ends of lines

hex-plain : (d : ℕ) → eqb (hex_digit d) 10 ≡ false
hex-plain d = by_test (ltb d 10)
    (λ on. apart-false (hex_digit d) 10 (λ same. let e : 48 + d ≡ 10 = sym (ap (λ b. if b then 48 + d else 87 + d) on) ∙ same in absurd (omega arith)))
    (λ off. apart-false (hex_digit d) 10 (λ same. let e : 87 + d ≡ 10 = sym (ap (λ b. if b then 48 + d else 87 + d) off) ∙ same in absurd (omega arith)))

spelling-lacks : (x : ℕ) → lacks 10 (quoted_byte x) ≡ true
spelling-lacks x = by_test (eqb x 34)
    (λ is. rw is refl)
    (λ not_quote. by_test (eqb x 92)
    (λ is. rw (not_quote, is) refl)
    (λ not_slash. by_test (eqb x 10)
    (λ is. rw (not_quote, not_slash, is) refl)
    (λ not_lf. by_test (eqb x 13)
    (λ is. rw (not_quote, not_slash, not_lf, is) refl)
    (λ not_cr. by_test (leb 32 x && leb x 126)
    (λ is. simp (not_quote, not_slash, not_lf, not_cr, is))
    (λ other. rw (not_quote, not_slash, not_lf, not_cr, other) (rw (hex-plain (x / 16), hex-plain (x % 16)) refl))))))

spellings-lack : (bytes : List ℕ) → lacks 10 (flat_map quoted_byte bytes) ≡ true
spellings-lack [] = refl
spellings-lack (x ∷ xs) = lacks-append 10 (quoted_byte x) (flat_map quoted_byte xs) ∙ rw (spelling-lacks x) (spellings-lack xs)

pub quoted-lacks : (bytes : List ℕ) → lacks 10 (quoted bytes) ≡ true
quoted-lacks bytes = lacks-append 10 (flat_map quoted_byte bytes) (34 ∷ []) ∙ rw (spellings-lack bytes) refl

-- two parts, with a space between them
pub both-lack : (xs ys : List ℕ) → lacks 10 xs ≡ true → lacks 10 ys ≡ true → lacks 10 (xs ++ ys) ≡ true
both-lack xs ys out_x out_y = lacks-append 10 xs ys ∙ rw (out_x, out_y) refl

pub spaced-lack : (xs ys : List ℕ) → lacks 10 xs ≡ true → lacks 10 ys ≡ true → lacks 10 ((xs ++ 32 ∷ []) ++ ys) ≡ true
spaced-lack xs ys out_x out_y = ap (lacks 10) (append_assoc xs (32 ∷ []) ys) ∙ both-lack xs (32 ∷ ys) out_x out_y

pub event-unbroken : (e : Event) → IsEvent e → lacks 10 (event_text e) ≡ true
event-unbroken (event.Arrive k) fits = decimal-lacks 10 k (omega arith) fits.1
event-unbroken (event.Bytes i bytes) fits = spaced-lack (id_text i) (quoted bytes) (id-lacks 10 i (omega arith) fits.0) (quoted-lacks bytes)
event-unbroken (event.Ended i) fits = id-lacks 10 i (omega arith) fits
event-unbroken (event.Broken i) fits = id-lacks 10 i (omega arith) fits
event-unbroken (event.Ready i) fits = id-lacks 10 i (omega arith) fits
event-unbroken (event.Dialled n) fits = decimal-lacks 10 n (omega arith) fits.1
event-unbroken (event.Refused n) fits = decimal-lacks 10 n (omega arith) fits.1
event-unbroken (event.Moment t) fits = decimal-lacks 10 t.0 (omega arith) (omega arith)
event-unbroken event.Stop fits = refl
event-unbroken event.Fault fits = absurd fits
event-unbroken (event.BadLine n) fits = absurd fits
event-unbroken event.Memory fits = absurd fits

pub line-unbroken : (l : SchedLine) → IsLine l → lacks 10 (line_text l) ≡ true
line-unbroken (line.Given e) fits = event-unbroken e fits
line-unbroken (line.Room i None) fits = both-lack (id_text i) (codes " all") (id-lacks 10 i (omega arith) fits.0) refl
line-unbroken (line.Room i (Some n)) fits = spaced-lack (id_text i) (decimal n) (id-lacks 10 i (omega arith) fits.0) (decimal-lacks 10 n (omega arith) fits.1)
line-unbroken line.FailNext fits = refl
line-unbroken line.FailDial fits = refl
line-unbroken line.FailLog fits = refl
line-unbroken line.FailListen fits = refl
line-unbroken (line.FailPut i) fits = id-lacks 10 i (omega arith) fits
