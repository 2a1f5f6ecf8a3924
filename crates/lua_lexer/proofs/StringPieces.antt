-- Strings in quotes as the lexical rules have them.
use Rattle.std.proofs.Common.{◌≡◌, ℕ, zero, suc, ◌+◌, ◌-◌, ◌<◌, ◌≤◌, max, Bool, true, false, cond, List, [], ◌∷◌, ◌++◌, length, get_or, drop, take, Option, Some, None, Result, Ok, Err, inl, inr, ⊎_elim, refl, ap, sym, subst, ◌∙◌, arith, lit<, append_assoc, append-nil, length-append}
use Rattle.std.specs.Prelude.{◌==◌, ◌&&◌, ◌||◌, not, nat_lt, nat_le, option_map, ok_or}
use Rattle.std.specs.List.{prefix_len, AllPass}
use Rattle.std.specs.Char.{is_ascii_digit}
use Rattle.std.specs.Str.Parse.{digits_value}
use Rattle.std.proofs.lemmas.Bool.{cond_both, eqb-true, eqb-false, eq-eqb, ne_eqb, le-leb, lt-leb, lt-ltb, cases_lt, cases_Bool}
use Rattle.std.proofs.lemmas.Bool.Decides.{nat_tests}
use Rattle.std.proofs.lemmas.List.{take_at, take_all, drop_at, take-append-drop, get_or-take, get_or_past, length-take, length-drop, length-take-le, take-take}
use Rattle.std.proofs.lemmas.List.Sums.{prefix_len-le-length}
use Rattle.std.proofs.Math.Seq.{take-append_seam}
use Rattle.lua_lexer.specs.declared.strings.Element.{Element}
use Rattle.lua_lexer.specs.declared.tokens.LexFault.{LexFault}
use Rattle.lua_lexer.specs.declared.tokens.LexFault.TheVariants.{BadEscape, OpenString}
use Rattle.lua_lexer.specs.declared.tokens.Piece.{Piece}
use Rattle.lua_lexer.specs.declared.tokens.TokenKind.TheVariants.{Text}
use Rattle.lua_numbers.specs.NumberText.{is_blank}
use Rattle.lua_lexer.specs.Characters.{is_line_byte, is_word_start, line_end, line_ends, line_ends_after}
use Rattle.lua_lexer.specs.Lexical.{BreaksOff, IsBody, IsDigits, IsElement, IsFault, IsLineEnd, IsNoEscape, IsPiece}
use Rattle.lua_lexer.specs.Strings.{is_quote, taken_along, body_after, body_len, escaped_byte, digits_escape, escape, first_element, decoded, decoded_after, short_string}
use Rattle.lua_lexer.specs.Tokens.{piece}
use Rattle.lua_lexer.proofs.Bodies.{body_step, decoded_step, decoded_fault, decoded_none}
use Rattle.lua_lexer.proofs.Fronts.{with_front, with_front-nil, with_front-with_front}
use Rattle.lua_lexer.proofs.PieceReadings.{IsRead, Sound, Covers, covers_whole, parts_read}
use Rattle.lua_lexer.proofs.Prefixes.{line_end_within}
use Rattle.lua_lexer.proofs.Runs.{run_all, run_exact, run_some, run_stops, all_rest, first_after}
use Rattle.lua_lexer.proofs.Steps.{line_ends_step}

-- classes of bytes that don't overlap
pub digit_no_line : (c : ℕ) → is_ascii_digit c ≡ true → is_line_byte c ≡ false
digit_no_line c digit = grind (arith, nat_tests)

digit_no_quote : (quote c : ℕ) → is_quote quote ≡ true → is_ascii_digit c ≡ true → (c == quote) ≡ false
digit_no_quote quote c is digit = grind (arith, nat_tests)

digit_no_backslash : (c : ℕ) → is_ascii_digit c ≡ true → (c == 92) ≡ false
digit_no_backslash c digit = grind (arith, nat_tests)

line_no_quote : (quote c : ℕ) → is_quote quote ≡ true → is_line_byte c ≡ true → (c == quote) ≡ false
line_no_quote quote c is line = grind (arith, nat_tests)

line_no_backslash : (c : ℕ) → is_line_byte c ≡ true → (c == 92) ≡ false
line_no_backslash c line = grind (arith, nat_tests)

quote_no_line : (quote : ℕ) → is_quote quote ≡ true → is_line_byte quote ≡ false
quote_no_line quote is = grind (arith, nat_tests)

quote_no_backslash : (quote : ℕ) → is_quote quote ≡ true → (quote == 92) ≡ false
quote_no_backslash quote is = grind (arith, nat_tests)

backslash_no_quote : (quote : ℕ) → is_quote quote ≡ true → (92 == quote) ≡ false
backslash_no_quote quote is = grind (arith, nat_tests)

nothing_no_quote : (quote : ℕ) → is_quote quote ≡ true → (0 == quote) ≡ false
nothing_no_quote quote is = grind (arith, nat_tests)

-- a letter of an escape is no line byte and no digit
letter_case : (c k byte value : ℕ) (rest : Option ℕ) (P : ℕ → Type 0) → P k → (rest ≡ Some byte → P c) → cond (c == k) (Some value) rest ≡ Some byte → P c
letter_case c k byte value rest P here more is = by (c == k) refl is
  where
    by : (b : Bool) → (c == k) ≡ b → cond b (Some value) rest ≡ Some byte → P c
    by true same found = subst P (sym (eqb-true c k same)) here
    by false other found = more found

-- what a letter of an escape is not
record IsLetter (c : ℕ) : Type 0 where
  line : is_line_byte c ≡ false
  digit : is_ascii_digit c ≡ false

letter_kind : (c byte : ℕ) → escaped_byte c ≡ Some byte → IsLetter c
unfolding escaped_byte
letter_kind c byte =
    letter_case c 97 byte 7 _ IsLetter (record { line = refl; digit = refl })
    (letter_case c 98 byte 8 _ IsLetter (record { line = refl; digit = refl })
    (letter_case c 102 byte 12 _ IsLetter (record { line = refl; digit = refl })
    (letter_case c 110 byte 10 _ IsLetter (record { line = refl; digit = refl })
    (letter_case c 114 byte 13 _ IsLetter (record { line = refl; digit = refl })
    (letter_case c 116 byte 9 _ IsLetter (record { line = refl; digit = refl })
    (letter_case c 118 byte 11 _ IsLetter (record { line = refl; digit = refl })
    (last (c == 92 || is_quote c) refl)))))))
  where
    quoted : (d : ℕ) → (d == 92 || is_quote d) ≡ true → IsLetter d
    quoted d is = record { line = grind (arith, nat_tests); digit = grind (arith, nat_tests) }

    last : (b : Bool) → (c == 92 || is_quote c) ≡ b → cond b (Some c) None ≡ Some byte → IsLetter c
    last true is found = quoted c is
    last false other found = absurd (cc found)

-- the line end at the front of a text that begins with no line byte
no_line_end : (c : ℕ) (cs : List ℕ) → is_line_byte c ≡ false → line_end (c ∷ cs) ≡ 0
unfolding line_end
no_line_end c cs other = rw other refl

-- where a line end begins, there is a line byte, and it is taken whole
line_first : (ends after : List ℕ) → 0 < length ends → line_end (ends ++ after) ≡ length ends → is_line_byte (get_or ends 0 0) ≡ true
line_first [] after some whole = absurd (omega arith)
line_first (c ∷ cs) after some whole = by (is_line_byte c) refl
  where
    by : (b : Bool) → is_line_byte c ≡ b → b ≡ true
    by true is = refl
    by false other = absurd (omega (arith, no_line_end c (cs ++ after) other, whole))

-- elements, and what stands after them cut off after some bytes
cut_next : (p : ℕ → Bool) → p 0 ≡ false → (j : ℕ) (after : List ℕ) → p (get_or after 0 0) ≡ false → p (get_or (take j after) 0 0) ≡ false
cut_next p none zero after stops = none
cut_next p none (suc j) [] stops = none
cut_next p none (suc j) (c ∷ cs) stops = stops

cut_line : (ends : List ℕ) (j : ℕ) (after : List ℕ) → 0 < length ends → line_end (ends ++ after) ≡ length ends → line_end (ends ++ take j after) ≡ length ends
unfolding line_end
cut_line [] j after some whole = absurd (omega arith)
cut_line (c ∷ []) zero after some whole = rw (line_first (c ∷ []) after some whole) refl
cut_line (c ∷ []) (suc j) [] some whole = whole
cut_line (c ∷ []) (suc j) (d ∷ ds) some whole = whole
cut_line (c ∷ d ∷ ds) j after some whole = whole

cut_element : (quote j : ℕ) (after element : List ℕ) (byte : ℕ) → IsElement quote after element byte → IsElement quote (take j after) element byte
cut_element quote j after element byte (IsElement.plain other no_backslash no_line) = IsElement.plain other no_backslash no_line
cut_element quote j after element byte (IsElement.letter is) = IsElement.letter is
cut_element quote j after element byte (IsElement.line {ends} is) =
    IsElement.line (record { some = is.some; whole = cut_line ends j after is.some is.whole })
cut_element quote j after element byte (IsElement.digits is value) =
    IsElement.digits (record { some = is.some; most = is.most; all = is.all; whole = λ fewer. cut_next is_ascii_digit refl j after (is.whole fewer) }) value

take_over : (j : ℕ) (xs ys : List ℕ) → take (length xs + j) (xs ++ ys) ≡ xs ++ take j ys
take_over j [] ys = let same : 0 + j ≡ j = omega arith in ap (λ n. take n ys) same
take_over j (x ∷ xs) ys =
    let same : suc (length xs) + j ≡ suc (length xs + j) = omega arith in
    rw same (ap (λ zs. x ∷ zs) (take_over j xs ys))

cut_body : (quote j : ℕ) (after body bytes : List ℕ) → IsBody quote after body bytes → IsBody quote (take j after) body bytes
cut_body quote j after body bytes IsBody.empty = IsBody.empty
cut_body quote j after body bytes (IsBody.more {element} {rest} {bytes = others} {byte} here later) =
    IsBody.more (subst (λ z. IsElement quote z element byte) (take_over j rest after) (cut_element quote (length rest + j) (rest ++ after) element byte here))
    (cut_body quote j after rest others later)

-- how far the search for the body's end goes over an element
digits_over : (quote : ℕ) (digits after : List ℕ) → is_quote quote ≡ true → AllPass is_ascii_digit digits
    → body_after quote 0 (digits ++ after) ≡ length digits + body_after quote 0 after
unfolding body_after taken_along
digits_over quote [] after is all = omega arith
digits_over quote (c ∷ cs) after is all =
    let digit = all 0 0 (omega arith) in
    let more = digits_over quote cs after is (all_rest is_ascii_digit c cs all) in
    rw (digit_no_quote quote c is digit, digit_no_line c digit, digit_no_backslash c digit) (omega (arith, more))

drop_front : (xs ys : List ℕ) (n : ℕ) → n ≡ length xs → drop n (xs ++ ys) ≡ ys
drop_front xs ys n is = drop_at xs ys n (sym is)

-- one byte that is taken along after a backslash
taken_one : (c : ℕ) (rest : List ℕ) → is_line_byte c ≡ false → taken_along 92 (c ∷ rest) ≡ 1
unfolding taken_along
taken_one c rest other = rw (no_line_end c rest other) (omega arith)

taken_line : (ends after : List ℕ) → 0 < length ends → line_end (ends ++ after) ≡ length ends → taken_along 92 (ends ++ after) ≡ length ends
unfolding taken_along
taken_line ends after some whole = rw whole (omega (arith, length-append ends after))

-- after a backslash
slash_step : (quote : ℕ) (taken after : List ℕ) → is_quote quote ≡ true → taken_along 92 (taken ++ after) ≡ length taken
    → body_after quote 0 (92 ∷ (taken ++ after)) ≡ 1 + length taken + body_after quote 0 after
slash_step quote taken after is along =
    let step = body_step quote (92 ∷ (taken ++ after)) (omega arith) (rw (backslash_no_quote quote is) refl) in
    let left = drop_front taken after (taken_along 92 (taken ++ after)) along in
    let same : body_after quote 0 (drop (taken_along 92 (taken ++ after)) (taken ++ after)) ≡ body_after quote 0 after = ap (body_after quote 0) left in
    omega (arith, step, along, same)

digit_first : (digits : List ℕ) → AllPass is_ascii_digit digits → 0 < length digits → (c : ℕ) × (cs : List ℕ) × (digits ≡ c ∷ cs) × (is_ascii_digit c ≡ true)
digit_first [] all some = absurd (omega arith)
digit_first (c ∷ cs) all some = (c, cs, refl, all 0 0 some)

slash_digits : (quote c : ℕ) (cs after : List ℕ) → is_quote quote ≡ true → AllPass is_ascii_digit (c ∷ cs)
    → body_after quote 0 (92 ∷ (c ∷ cs ++ after)) ≡ length (92 ∷ c ∷ cs) + body_after quote 0 after
slash_digits quote c cs after is all =
    let digit = all 0 0 (omega arith) in
    let one = slash_step quote (c ∷ []) (cs ++ after) is (taken_one c (cs ++ after) (digit_no_line c digit)) in
    let more = digits_over quote cs after is (all_rest is_ascii_digit c cs all) in
    omega (arith, one, more)

plain_over : (quote c : ℕ) (after : List ℕ) → (c == quote) ≡ false → (c == 92) ≡ false → is_line_byte c ≡ false
    → body_after quote 0 (c ∷ after) ≡ 1 + body_after quote 0 after
unfolding body_after taken_along
plain_over quote c after other no_backslash no_line = rw (other, no_line, no_backslash) (omega arith)

element_over : (quote : ℕ) (after element : List ℕ) (byte : ℕ) → is_quote quote ≡ true → IsElement quote after element byte
    → body_after quote 0 (element ++ after) ≡ length element + body_after quote 0 after
element_over quote after element byte is (IsElement.plain {c} other no_backslash no_line) =
    plain_over quote c after (ne_eqb c quote other) (ne_eqb c 92 no_backslash) no_line
element_over quote after element byte is (IsElement.letter {c} {byte = b} escaped) =
    slash_step quote (c ∷ []) after is (taken_one c after (letter_kind c b escaped).line)
element_over quote after element byte is (IsElement.line {ends} ended) =
    let step = slash_step quote ends after is (taken_line ends after ended.some ended.whole) in
    omega (arith, step)
element_over quote after element byte is (IsElement.digits {digits} escaped value) =
    let first = digit_first digits escaped.all escaped.some in
    let all = subst (AllPass is_ascii_digit) first.2 escaped.all in
    rw first.2 (slash_digits quote first.0 first.1 after is all)

body_over : (quote : ℕ) (after body bytes : List ℕ) → is_quote quote ≡ true → IsBody quote after body bytes
    → body_after quote 0 (body ++ after) ≡ length body + body_after quote 0 after
body_over quote after body bytes is IsBody.empty = omega arith
body_over quote after body bytes is (IsBody.more {element} {rest} {bytes = others} {byte} here later) =
    let first = element_over quote (rest ++ after) element byte is here in
    let next = body_over quote after rest others is later in
    ap (body_after quote 0) (append_assoc element rest after) ∙ omega (arith, first, next, length-append element rest)

-- what an element stands for
pub plain_element : (line c : ℕ) (after : List ℕ) → (c == 92) ≡ false → first_element line (c ∷ after) ≡ Ok (record { byte = c; size = 1 })
unfolding first_element
plain_element line c after other = rw other refl

-- what was read of an escape, with its backslash
abbrev with_slash : ℕ → Option Element → Result Element LexFault
with_slash line escaped = ok_or (option_map (λ (e : Element). record { byte = e.byte; size = e.size + 1 }) escaped) (BadEscape line)

longer : (c : ℕ) (cs : List ℕ) → nat_lt 1 (length (92 ∷ c ∷ cs)) ≡ true
longer c cs = lt-ltb 1 (length (92 ∷ c ∷ cs)) (omega arith)

slash_element : (line c : ℕ) (cs : List ℕ)
    → first_element line (92 ∷ c ∷ cs) ≡ with_slash line (escape (c ∷ cs))
unfolding first_element
slash_element line c cs = rw (longer c cs) refl

letter_escape : (c byte : ℕ) (after : List ℕ) → escaped_byte c ≡ Some byte → escape (c ∷ after) ≡ Some (record { byte = byte; size = 1 })
unfolding escape
letter_escape c byte after is = let kind = letter_kind c byte is in rw (kind.line, kind.digit, is) refl

line_escape : (c : ℕ) (cs : List ℕ) → is_line_byte c ≡ true → escape (c ∷ cs) ≡ Some (record { byte = 10; size = line_end (c ∷ cs) })
unfolding escape
line_escape c cs is = rw is refl

digit_escape : (c : ℕ) (cs : List ℕ) → is_ascii_digit c ≡ true → escape (c ∷ cs) ≡ digits_escape (c ∷ cs)
unfolding escape
digit_escape c cs is = rw (digit_no_line c is, is) refl

other_escape : (c : ℕ) (cs : List ℕ) → is_line_byte c ≡ false → is_ascii_digit c ≡ false → escaped_byte c ≡ None → escape (c ∷ cs) ≡ None
unfolding escape
other_escape c cs line digit none = rw (line, digit, none) refl

cut_none : (j : ℕ) (after : List ℕ) → j ≡ 0 → is_ascii_digit (get_or (take j after) 0 0) ≡ false
cut_none zero after none = refl
cut_none (suc j) after none = absurd (omega arith)

three_run : (j : ℕ) (digits after : List ℕ) → AllPass is_ascii_digit digits → 3 ≡ length digits + j → is_ascii_digit (get_or (take j after) 0 0) ≡ false
    → prefix_len is_ascii_digit (take 3 (digits ++ after)) ≡ length digits
three_run j digits after all three stops =
    ap (λ n. prefix_len is_ascii_digit (take n (digits ++ after))) three
    ∙ ap (prefix_len is_ascii_digit) (take_over j digits after)
    ∙ run_exact is_ascii_digit digits (take j after) all stops

-- as many digits as stand there, at most three
run_of_three : (digits after : List ℕ) → IsDigits digits after → prefix_len is_ascii_digit (take 3 (digits ++ after)) ≡ length digits
run_of_three digits after is =
    let j = 3 - length digits in
    let most = is.most in
    let three : 3 ≡ length digits + j = omega arith in
    three_run j digits after is.all three
    (⊎_elim
    (λ fewer. cut_next is_ascii_digit refl j after (is.whole fewer))
    (λ enough. cut_none j after (omega arith))
    (cases_lt (length digits) 3))

digits_at : (digits after : List ℕ) → IsDigits digits after
    → digits_escape (digits ++ after) ≡ cond (nat_le (digits_value 10 digits) 255) (Some (record { byte = digits_value 10 digits; size = length digits })) None
unfolding digits_escape
digits_at digits after is = rw (run_of_three digits after is, take-append_seam digits after) refl

digits_escaped : (digits after : List ℕ) → IsDigits digits after → escape (digits ++ after) ≡ digits_escape (digits ++ after)
digits_escaped digits after is =
    let first = digit_first digits is.all is.some in
    rw first.2 (digit_escape first.0 (first.1 ++ after) first.3)

-- what was read of an element
line_element : (line : ℕ) (ends after : List ℕ) → 0 < length ends → line_end (ends ++ after) ≡ length ends
    → first_element line (92 ∷ (ends ++ after)) ≡ Ok (record { byte = 10; size = length (92 ∷ ends) })
line_element line [] after some whole = absurd (omega arith)
line_element line (c ∷ cs) after some whole =
    let size : line_end (c ∷ cs ++ after) + 1 ≡ length (92 ∷ c ∷ cs) = omega (arith, whole) in
    slash_element line c (cs ++ after)
    ∙ ap (with_slash line) (line_escape c (cs ++ after) (line_first (c ∷ cs) after some whole))
    ∙ ap (λ n. Ok (record { byte = 10; size = n })) size

value_case : (line n : ℕ) (digits : List ℕ) (b : Bool)
    → with_slash line (cond b (Some (record { byte = n; size = length digits })) None)
    ≡ cond b (Ok (record { byte = n; size = length (92 ∷ digits) })) (Err (BadEscape line))
value_case line n digits true = let size : length digits + 1 ≡ length (92 ∷ digits) = omega arith in ap (λ k. Ok (record { byte = n; size = k })) size
value_case line n digits false = refl

digits_element : (line : ℕ) (digits after : List ℕ) → IsDigits digits after
    → first_element line (92 ∷ (digits ++ after))
    ≡ cond (nat_le (digits_value 10 digits) 255) (Ok (record { byte = digits_value 10 digits; size = length (92 ∷ digits) })) (Err (BadEscape line))
digits_element line digits after is =
    let first = digit_first digits is.all is.some in
    let slash : first_element line (92 ∷ (digits ++ after)) ≡ with_slash line (escape (digits ++ after)) =
    subst (λ ds. first_element line (92 ∷ (ds ++ after)) ≡ with_slash line (escape (ds ++ after))) (sym first.2)
    (slash_element line first.0 (first.1 ++ after))
    in
    slash
    ∙ ap (with_slash line) (digits_escaped digits after is ∙ digits_at digits after is)
    ∙ value_case line (digits_value 10 digits) digits (nat_le (digits_value 10 digits) 255)

element_read : (line quote : ℕ) (after element : List ℕ) (byte : ℕ) → IsElement quote after element byte
    → first_element line (element ++ after) ≡ Ok (record { byte = byte; size = length element })
element_read line quote after element byte (IsElement.plain {c} other no_backslash no_line) = plain_element line c after (ne_eqb c 92 no_backslash)
element_read line quote after element byte (IsElement.letter {c} {byte = b} escaped) =
    slash_element line c after
    ∙ ap (with_slash line) (letter_escape c b after escaped)
element_read line quote after element byte (IsElement.line {ends} ended) = line_element line ends after ended.some ended.whole
element_read line quote after element byte (IsElement.digits {digits} escaped value) =
    digits_element line digits after escaped ∙ rw (le-leb (digits_value 10 digits) 255 value) refl

element_some : (quote : ℕ) (after element : List ℕ) (byte : ℕ) → IsElement quote after element byte → 0 < length element
element_some quote after element byte (IsElement.plain {c} other no_backslash no_line) = omega arith
element_some quote after element byte (IsElement.letter {c} {byte = b} escaped) = omega arith
element_some quote after element byte (IsElement.line {ends} ended) = omega arith
element_some quote after element byte (IsElement.digits {digits} escaped value) = omega arith

-- line ends in an element
pub line_quiet : (c : ℕ) (rest : List ℕ) → is_line_byte c ≡ false → line_ends (c ∷ rest) ≡ line_ends rest
unfolding line_ends_after
line_quiet c rest other = rw (other, no_line_end c rest other) (omega arith)

digits_quiet : (digits rest : List ℕ) → AllPass is_ascii_digit digits → line_ends (digits ++ rest) ≡ line_ends rest
digits_quiet [] rest all = refl
digits_quiet (c ∷ cs) rest all =
    line_quiet c (cs ++ rest) (digit_no_line c (all 0 0 (omega arith))) ∙ digits_quiet cs rest (all_rest is_ascii_digit c cs all)

ends_lines : (ends rest : List ℕ) → 0 < length ends → line_end (ends ++ rest) ≡ length ends → line_ends (ends ++ rest) ≡ 1 + line_ends rest
ends_lines [] rest some whole = absurd (omega arith)
ends_lines (c ∷ cs) rest some whole =
    let step = line_ends_step (c ∷ cs ++ rest) (omega arith) in
    let all : max (line_end (c ∷ cs ++ rest)) 1 ≡ length (c ∷ cs) = omega (arith, whole) in
    let left : drop (max (line_end (c ∷ cs ++ rest)) 1) (c ∷ cs ++ rest) ≡ rest = drop_front (c ∷ cs) rest _ all in
    step ∙ rw (line_first (c ∷ cs) rest some whole, left) refl

no_lines : line_ends [] ≡ 0
unfolding line_ends_after
no_lines = refl

-- how many line ends an element has, whatever follows it
record HasLines (element rest : List ℕ) : Type 0 where
  count : ℕ
  before : line_ends (element ++ rest) ≡ count + line_ends rest
  alone : line_ends element ≡ count

element_lines : (quote : ℕ) (rest element : List ℕ) (byte : ℕ) → IsElement quote rest element byte → HasLines element rest
element_lines quote rest element byte (IsElement.plain {c} other no_backslash no_line) = record {
  count = 0;
  before = omega (arith, line_quiet c rest no_line);
  alone = line_quiet c [] no_line ∙ no_lines;
}
element_lines quote rest element byte (IsElement.letter {c} {byte = b} escaped) =
    let no_line = (letter_kind c b escaped).line in
    record {
      count = 0;
      before = omega (arith, line_quiet 92 (c ∷ rest) refl, line_quiet c rest no_line);
      alone = line_quiet 92 (c ∷ []) refl ∙ line_quiet c [] no_line ∙ no_lines;
    }
element_lines quote rest element byte (IsElement.line {ends} ended) =
    let alone : line_end (ends ++ []) ≡ length ends = cut_line ends 0 rest ended.some ended.whole in
    record {
      count = 1;
      before = line_quiet 92 (ends ++ rest) refl ∙ ends_lines ends rest ended.some ended.whole;
      alone = line_quiet 92 ends refl ∙ ap line_ends (sym (append-nil ends)) ∙ ends_lines ends [] ended.some alone ∙ ap (λ n. 1 + n) no_lines;
    }
element_lines quote rest element byte (IsElement.digits {digits} escaped value) = record {
  count = 0;
  before = omega (arith, line_quiet 92 (digits ++ rest) refl, digits_quiet digits rest escaped.all);
  alone = line_quiet 92 digits refl ∙ ap line_ends (sym (append-nil digits)) ∙ digits_quiet digits [] escaped.all ∙ no_lines;
}

body_of : (quote : ℕ) (rest tail element : List ℕ) (byte : ℕ) → IsElement quote (rest ++ tail) element byte → IsElement quote rest element byte
body_of quote rest tail element byte here =
    subst (λ z. IsElement quote z element byte) (take_at rest tail (length rest) refl) (cut_element quote (length rest) (rest ++ tail) element byte here)

-- what a body stands for, before whatever follows it
decoded_over : (quote : ℕ) (tail : List ℕ) (line : ℕ) (body bytes : List ℕ) → IsBody quote tail body bytes
    → decoded_after 0 line (body ++ tail) ≡ with_front bytes (decoded_after 0 (line + line_ends body) tail)
decoded_over quote tail line body bytes IsBody.empty =
    let same : line ≡ line + line_ends [] = omega (arith, no_lines) in
    sym (with_front-nil (decoded_after 0 line tail)) ∙ ap (λ n. with_front [] (decoded_after 0 n tail)) same
decoded_over quote tail line body bytes (IsBody.more {element} {rest} {bytes = others} {byte} here later) =
    let text : List ℕ = element ++ (rest ++ tail) in
    let some = element_some quote (rest ++ tail) element byte here in
    let long : 0 < length text = omega (arith, some, length-append element (rest ++ tail)) in
    let step = decoded_step line text (record { byte = byte; size = length element }) long (element_read line quote (rest ++ tail) element byte here) some in
    let lines = element_lines quote rest element byte (body_of quote rest tail element byte here) in
    let next = decoded_over quote tail (line + line_ends element) rest others later in
    let whole : line + line_ends element + line_ends rest ≡ line + line_ends (element ++ rest) = omega (arith, lines.before, lines.alone) in
    ap (decoded_after 0 line) (append_assoc element rest tail)
    ∙ step
    ∙ ap (λ b. with_front (byte ∷ []) (decoded_after 0 (line + line_ends b) (drop (length element) text))) (take_at element (rest ++ tail) (length element) refl)
    ∙ ap (λ t. with_front (byte ∷ []) (decoded_after 0 (line + line_ends element) t)) (drop_at element (rest ++ tail) (length element) refl)
    ∙ ap (with_front (byte ∷ [])) next
    ∙ with_front-with_front (byte ∷ []) others _
    ∙ ap (λ n. with_front (byte ∷ others) (decoded_after 0 n tail)) whole

body_alone : (quote : ℕ) (after body bytes : List ℕ) → IsBody quote after body bytes → IsBody quote [] body bytes
body_alone quote after body bytes is = cut_body quote 0 after body bytes is

decoded_body : (line quote : ℕ) (after body bytes : List ℕ) → IsBody quote after body bytes → decoded line body ≡ Ok bytes
decoded_body line quote after body bytes is =
    ap (decoded line) (sym (append-nil body))
    ∙ decoded_over quote [] line body bytes (body_alone quote after body bytes is)
    ∙ ap (with_front bytes) (decoded_none (line + line_ends body) [] refl)
    ∙ ap Ok (append-nil bytes)

-- a string's piece by its body's length and what the body stands for
short_closed : (line quote len : ℕ) (inside bytes : List ℕ) → body_len quote inside ≡ len → decoded line (take len inside) ≡ Ok bytes
    → (get_or inside len 0 == quote) ≡ true → short_string line (quote ∷ inside) ≡ Ok (record { kind = Some (Text bytes); size = len + 2 })
unfolding short_string
short_closed line quote len inside bytes length_is value closed = rw (length_is, value, closed) refl

short_open : (line quote len : ℕ) (inside bytes : List ℕ) → body_len quote inside ≡ len → decoded line (take len inside) ≡ Ok bytes
    → (get_or inside len 0 == quote) ≡ false → short_string line (quote ∷ inside) ≡ Err (OpenString line)
unfolding short_string
short_open line quote len inside bytes length_is value shut = rw (length_is, value, shut) refl

short_bad : (line quote len : ℕ) (inside : List ℕ) (fault : LexFault) → body_len quote inside ≡ len → decoded line (take len inside) ≡ Err fault
    → short_string line (quote ∷ inside) ≡ Err fault
unfolding short_string
short_bad line quote len inside fault length_is value = rw (length_is, value) refl

quote_ends : (quote : ℕ) (after : List ℕ) → body_after quote 0 (quote ∷ after) ≡ 0
unfolding body_after
quote_ends quote after = rw (eq-eqb quote quote refl) refl

line_stops : (quote c : ℕ) (after : List ℕ) → is_quote quote ≡ true → is_line_byte c ≡ true → body_after quote 0 (c ∷ after) ≡ 0
unfolding body_after
line_stops quote c after is line = rw (line_no_quote quote c is line, line) refl

text_ends : (quote : ℕ) → body_after quote 0 [] ≡ 0
unfolding body_after
text_ends quote = refl

slash_last : (quote : ℕ) → is_quote quote ≡ true → body_after quote 0 (92 ∷ []) ≡ 1
unfolding body_after
slash_last quote is = rw (backslash_no_quote quote is) (omega arith)

last_element : (line : ℕ) → first_element line (92 ∷ []) ≡ Ok (record { byte = 92; size = 1 })
unfolding first_element
last_element line = refl

seam : (xs ys : List ℕ) → get_or (xs ++ ys) (length xs) 0 ≡ get_or ys 0 0
seam [] ys = refl
seam (x ∷ xs) ys = seam xs ys

string_closed : (line quote : ℕ) (body after bytes : List ℕ) → is_quote quote ≡ true → IsBody quote (quote ∷ after) body bytes
    → short_string line (quote ∷ (body ++ quote ∷ after)) ≡ Ok (record { kind = Some (Text bytes); size = length body + 2 })
string_closed line quote body after bytes is inside =
    let over = body_over quote (quote ∷ after) body bytes is inside in
    short_closed line quote (length body) (body ++ quote ∷ after) bytes (omega (arith, over, quote_ends quote after))
    (ap (decoded line) (take_at body (quote ∷ after) (length body) refl) ∙ decoded_body line quote (quote ∷ after) body bytes inside)
    (eq-eqb _ quote (seam body (quote ∷ after)))

-- a string that breaks off where its body does
broken : (line quote : ℕ) (body after bytes : List ℕ) → is_quote quote ≡ true → IsBody quote after body bytes → body_after quote 0 after ≡ 0
    → (get_or after 0 0 == quote) ≡ false → short_string line (quote ∷ (body ++ after)) ≡ Err (OpenString line)
broken line quote body after bytes is inside ends other =
    let over = body_over quote after body bytes is inside in
    short_open line quote (length body) (body ++ after) bytes (omega (arith, over, ends))
    (ap (decoded line) (take_at body after (length body) refl) ∙ decoded_body line quote after body bytes inside)
    (ap (λ c. c == quote) (seam body after) ∙ other)

broken_slash : (line quote : ℕ) (body bytes : List ℕ) → is_quote quote ≡ true → IsBody quote (92 ∷ []) body bytes
    → short_string line (quote ∷ (body ++ 92 ∷ [])) ≡ Err (OpenString line)
broken_slash line quote body bytes is inside =
    let over = body_over quote (92 ∷ []) body bytes is inside in
    let long = length-append body (92 ∷ []) in
    let last = decoded_step (line + line_ends body) (92 ∷ []) (record { byte = 92; size = 1 }) (omega arith) (last_element (line + line_ends body)) (lit< tt) in
    short_open line quote (length (body ++ 92 ∷ [])) (body ++ 92 ∷ []) (bytes ++ 92 ∷ []) (omega (arith, over, long, slash_last quote is))
    (ap (decoded line) (take_all (length (body ++ 92 ∷ [])) (body ++ 92 ∷ []) (omega arith))
    ∙ decoded_over quote (92 ∷ []) line body bytes inside
    ∙ ap (with_front bytes) (last ∙ ap (with_front (92 ∷ [])) (decoded_none _ [] refl)))
    (ap (λ c. c == quote) (get_or_past (body ++ 92 ∷ []) (length (body ++ 92 ∷ [])) 0 (omega arith)) ∙ nothing_no_quote quote is)

string_open : (line quote : ℕ) (body after bytes : List ℕ) → is_quote quote ≡ true → IsBody quote after body bytes → BreaksOff after
    → short_string line (quote ∷ (body ++ after)) ≡ Err (OpenString line)
string_open line quote body after bytes is inside stops =
    ⊎_elim
    (λ none. broken line quote body after bytes is inside (ap (body_after quote 0) none ∙ text_ends quote) (ap (λ t. get_or t 0 0 == quote) none ∙ nothing_no_quote quote is))
    (λ more.
    ⊎_elim
    (λ slash.
    subst (λ t. short_string line (quote ∷ (body ++ t)) ≡ Err (OpenString line)) (sym slash)
    (broken_slash line quote body bytes is (subst (λ t. IsBody quote t body bytes) slash inside)))
    (λ ends. broken line quote body after bytes is inside (at_line after ends) (line_no_quote quote (get_or after 0 0) is ends))
    more)
    stops
  where
    at_line : (t : List ℕ) → is_line_byte (get_or t 0 0) ≡ true → body_after quote 0 t ≡ 0
    at_line [] ends = text_ends quote
    at_line (c ∷ cs) ends = line_stops quote c cs is ends

-- a body, and no escape after a backslash
bad_at : (line quote m : ℕ) (body after bytes : List ℕ) → is_quote quote ≡ true → IsBody quote (92 ∷ after) body bytes
    → body_after quote 0 (92 ∷ after) ≡ suc m
    → first_element (line + line_ends body) (92 ∷ take m after) ≡ Err (BadEscape (line + line_ends body))
    → short_string line (quote ∷ (body ++ 92 ∷ after)) ≡ Err (BadEscape (line + line_ends body))
bad_at line quote m body after bytes is inside far wrong =
    let over = body_over quote (92 ∷ after) body bytes is inside in
    let kept : IsBody quote (92 ∷ take m after) body bytes = cut_body quote (suc m) (92 ∷ after) body bytes inside in
    short_bad line quote (length body + suc m) (body ++ 92 ∷ after) (BadEscape (line + line_ends body)) (omega (arith, over, far))
    (ap (decoded line) (take_over (suc m) body (92 ∷ after))
    ∙ decoded_over quote (92 ∷ take m after) line body bytes kept
    ∙ ap (with_front bytes) (decoded_fault (line + line_ends body) (92 ∷ take m after) (BadEscape (line + line_ends body)) (omega arith) wrong))

string_bad : (line quote : ℕ) (body after bytes : List ℕ) → is_quote quote ≡ true → IsBody quote (92 ∷ after) body bytes → IsNoEscape after
    → short_string line (quote ∷ (body ++ 92 ∷ after)) ≡ Err (BadEscape (line + line_ends body))
string_bad line quote body after bytes is inside (IsNoEscape.letter {c} {after = rest} same line_byte digit none) =
    let far = slash_step quote (c ∷ []) rest is (taken_one c rest line_byte) in
    let inner = subst (λ t. IsBody quote (92 ∷ t) body bytes) same inside in
    let m = body_after quote 0 rest in
    let long : body_after quote 0 (92 ∷ c ∷ rest) ≡ suc (suc m) = omega (arith, far) in
    rw same
    (bad_at line quote (suc m) body (c ∷ rest) bytes is inner long
    (slash_element (line + line_ends body) c (take m rest)
    ∙ ap (with_slash (line + line_ends body)) (other_escape c (take m rest) line_byte digit none)))
string_bad line quote body after bytes is inside (IsNoEscape.number {digits} {after = rest} same run high) =
    let first = digit_first digits run.all run.some in
    let m = body_after quote 0 rest in
    let far : body_after quote 0 (92 ∷ (digits ++ rest)) ≡ length (92 ∷ digits) + m =
    subst (λ ds. body_after quote 0 (92 ∷ (ds ++ rest)) ≡ length (92 ∷ ds) + m) (sym first.2)
    (slash_digits quote first.0 first.1 rest is (subst (AllPass is_ascii_digit) first.2 run.all))
    in
    let inner = subst (λ t. IsBody quote (92 ∷ t) body bytes) same inside in
    let cut : IsDigits digits (take m rest) = record { some = run.some; most = run.most; all = run.all; whole = λ fewer. cut_next is_ascii_digit refl m rest (run.whole fewer) } in
    let long : body_after quote 0 (92 ∷ (digits ++ rest)) ≡ suc (length digits + m) = omega (arith, far) in
    rw same
    (bad_at line quote (length digits + m) body (digits ++ rest) bytes is inner long
    (ap (λ t. first_element (line + line_ends body) (92 ∷ t)) (take_over m digits rest)
    ∙ digits_element (line + line_ends body) digits (take m rest) cut
    ∙ rw (lt-leb (digits_value 10 digits) 255 high) refl))

-- what becomes of a string after its first quote
data Outcome (quote : ℕ) (text : List ℕ) : Type 0 where
  closed : (body after bytes : List ℕ) → text ≡ body ++ quote ∷ after → IsBody quote (quote ∷ after) body bytes → Outcome quote text
  broken_off : (body after bytes : List ℕ) → text ≡ body ++ after → IsBody quote after body bytes → BreaksOff after → Outcome quote text
  bad : (body after bytes : List ℕ) → text ≡ body ++ 92 ∷ after → IsBody quote (92 ∷ after) body bytes → IsNoEscape after → Outcome quote text

extend : (quote : ℕ) (element rest : List ℕ) (byte : ℕ) → IsElement quote rest element byte → Outcome quote rest → Outcome quote (element ++ rest)
extend quote element rest byte here (Outcome.closed body after bytes same inside) =
    Outcome.closed (element ++ body) after (byte ∷ bytes) (ap (λ t. element ++ t) same ∙ sym (append_assoc element body (quote ∷ after)))
    (IsBody.more (subst (λ t. IsElement quote t element byte) same here) inside)
extend quote element rest byte here (Outcome.broken_off body after bytes same inside stops) =
    Outcome.broken_off (element ++ body) after (byte ∷ bytes) (ap (λ t. element ++ t) same ∙ sym (append_assoc element body after))
    (IsBody.more (subst (λ t. IsElement quote t element byte) same here) inside) stops
extend quote element rest byte here (Outcome.bad body after bytes same inside wrong) =
    Outcome.bad (element ++ body) after (byte ∷ bytes) (ap (λ t. element ++ t) same ∙ sym (append_assoc element body (92 ∷ after)))
    (IsBody.more (subst (λ t. IsElement quote t element byte) same here) inside) wrong

abbrev Later : ℕ → List ℕ → Type 0
Later quote text = (rest : List ℕ) → length rest ≤ length text → Outcome quote rest

line_some : (c : ℕ) (cs : List ℕ) → is_line_byte c ≡ true → 0 < line_end (c ∷ cs)
unfolding line_end
line_some c cs has = rw has (cond_both (is_line_byte (get_or cs 0 0) && not (c == get_or cs 0 0)) 2 1 (λ k. 0 < k) (λ two. omega arith) (λ one. omega arith))

line_outcome : (quote d : ℕ) (ds : List ℕ) → is_line_byte d ≡ true → Later quote (d ∷ ds) → Outcome quote (92 ∷ d ∷ ds)
line_outcome quote d ds is later =
    let text : List ℕ = d ∷ ds in
    let n = line_end text in
    let within : n ≤ length text = line_end_within text in
    let some : 0 < n = line_some d ds is in
    let whole = take-append-drop n text in
    let len = length-take-le n text within in
    let ended : IsLineEnd (take n text) (drop n text) = record { some = omega (arith, some, len); whole = ap line_end whole ∙ sym len } in
    subst (λ t. Outcome quote (92 ∷ t)) whole
    (extend quote (92 ∷ take n text) (drop n text) 10 (IsElement.line ended) (later (drop n text) (omega (arith, length-drop n text))))

digits_run : (text : List ℕ) → is_ascii_digit (get_or text 0 0) ≡ true → 0 < length text
    → let n = prefix_len is_ascii_digit (take 3 text) in IsDigits (take n text) (drop n text)
digits_run text is some =
    let n = prefix_len is_ascii_digit (take 3 text) in
    let most : n ≤ 3 = omega (arith, prefix_len-le-length is_ascii_digit (take 3 text), length-take 3 text) in
    let within : n ≤ length text = omega (arith, prefix_len-le-length is_ascii_digit (take 3 text), length-take 3 text) in
    let len = length-take-le n text within in
    let front : get_or (take 3 text) 0 0 ≡ get_or text 0 0 = get_or-take 3 text 0 0 (lit< tt) in
    let more : 0 < n = run_some is_ascii_digit (take 3 text) (omega (arith, length-take 3 text, some)) (ap is_ascii_digit front ∙ is) in
    let same : take n (take 3 text) ≡ take n text = take-take n 3 text most in
    let stops = run_stops is_ascii_digit (take 3 text) refl in
    record {
      some = omega (arith, more, len);
      most = omega (arith, most, len);
      all = subst (AllPass is_ascii_digit) same (run_all is_ascii_digit (take 3 text));
      whole = λ fewer.
          let less : n < 3 = omega (arith, fewer, len) in
          ap is_ascii_digit (first_after n text ∙ sym (get_or-take 3 text n 0 less) ∙ sym (first_after n (take 3 text))) ∙ stops;
    }

digits_outcome : (quote d : ℕ) (ds : List ℕ) → is_ascii_digit d ≡ true → Later quote (d ∷ ds) → Outcome quote (92 ∷ d ∷ ds)
digits_outcome quote d ds is later =
    let text : List ℕ = d ∷ ds in
    let n = prefix_len is_ascii_digit (take 3 text) in
    let whole = take-append-drop n text in
    let run = digits_run text is (omega arith) in
    ⊎_elim
    (λ high. Outcome.bad [] text [] refl IsBody.empty (IsNoEscape.number (sym whole) run high))
    (λ low.
    subst (λ t. Outcome quote (92 ∷ t)) whole
    (extend quote (92 ∷ take n text) (drop n text) (digits_value 10 (take n text)) (IsElement.digits run low) (later (drop n text) (omega (arith, length-drop n text)))))
    (cases_lt 255 (digits_value 10 (take n text)))

letter_outcome : (quote d : ℕ) (ds : List ℕ) → is_line_byte d ≡ false → is_ascii_digit d ≡ false → Later quote (d ∷ ds) → Outcome quote (92 ∷ d ∷ ds)
letter_outcome quote d ds line digit later = by (escaped_byte d) refl
  where
    by : (found : Option ℕ) → escaped_byte d ≡ found → Outcome quote (92 ∷ d ∷ ds)
    by None is = Outcome.bad [] (d ∷ ds) [] refl IsBody.empty (IsNoEscape.letter refl line digit is)
    by (Some byte) is = extend quote (92 ∷ d ∷ []) ds byte (IsElement.letter is) (later ds (omega arith))

slash_outcome : (quote : ℕ) (cs : List ℕ) → Later quote cs → Outcome quote (92 ∷ cs)
slash_outcome quote [] later = Outcome.broken_off [] (92 ∷ []) [] refl IsBody.empty (inr (inl refl))
slash_outcome quote (d ∷ ds) later =
    ⊎_elim
    (λ line. line_outcome quote d ds line later)
    (λ no_line.
    ⊎_elim
    (λ digit. digits_outcome quote d ds digit later)
    (λ no_digit. letter_outcome quote d ds no_line no_digit later)
    (cases_Bool (is_ascii_digit d)))
    (cases_Bool (is_line_byte d))

step_outcome : (quote c : ℕ) (cs : List ℕ) → Later quote cs → Outcome quote (c ∷ cs)
step_outcome quote c cs later =
    ⊎_elim
    (λ is. Outcome.closed [] cs [] (ap (λ d. d ∷ cs) (eqb-true c quote is)) IsBody.empty)
    (λ other.
    ⊎_elim
    (λ line. Outcome.broken_off [] (c ∷ cs) [] refl IsBody.empty (inr (inr line)))
    (λ no_line.
    ⊎_elim
    (λ slash. subst (λ d. Outcome quote (d ∷ cs)) (sym (eqb-true c 92 slash)) (slash_outcome quote cs later))
    (λ no_slash. extend quote (c ∷ []) cs c (IsElement.plain (eqb-false c quote other) (eqb-false c 92 no_slash) no_line) (later cs (omega arith)))
    (cases_Bool (c == 92)))
    (cases_Bool (is_line_byte c)))
    (cases_Bool (c == quote))

outcome : (fuel quote : ℕ) (text : List ℕ) → length text ≤ fuel → Outcome quote text
outcome fuel quote [] bound = Outcome.broken_off [] [] [] refl IsBody.empty (inl refl)
outcome zero quote (c ∷ cs) bound = absurd (omega arith)
outcome (suc fuel) quote (c ∷ cs) bound = step_outcome quote c cs (λ rest less. outcome fuel quote rest (omega arith))

string_case : (line quote : ℕ) (inside : List ℕ) → is_quote quote ≡ true → Outcome quote inside → Sound line (quote ∷ inside) (short_string line (quote ∷ inside))
string_case line quote inside is (Outcome.closed body after bytes same within) =
    let found : Piece = record { kind = Some (Text bytes); size = length body + 2 } in
    let bytes_of : List ℕ = quote ∷ (body ++ quote ∷ []) in
    let read : IsRead (bytes_of ++ after) found =
    parts_read bytes_of after found (omega (arith, length-append body (quote ∷ []))) (omega arith) (IsPiece.short_string is refl within)
    in
    let whole : bytes_of ++ after ≡ quote ∷ (body ++ quote ∷ after) = ap (λ t. quote ∷ t) (append_assoc body (quote ∷ []) after) in
    rw same
    (subst (Sound line (quote ∷ (body ++ quote ∷ after))) (sym (string_closed line quote body after bytes is within))
    (subst (λ t. IsRead t found) whole read))
string_case line quote inside is (Outcome.broken_off body after bytes same within stops) =
    rw same (subst (Sound line (quote ∷ (body ++ after))) (sym (string_open line quote body after bytes is within stops)) (IsFault.open_quote is refl within stops))
string_case line quote inside is (Outcome.bad body after bytes same within wrong) =
    rw same (subst (Sound line (quote ∷ (body ++ 92 ∷ after))) (sym (string_bad line quote body after bytes is within wrong)) (IsFault.bad_escape is refl within wrong))

pub short_string_read : (line : ℕ) (text : List ℕ) → 0 < length text → is_quote (get_or text 0 0) ≡ true → Sound line text (short_string line text)
short_string_read line [] some is = absurd (omega arith)
short_string_read line (c ∷ cs) some is = string_case line c cs is (outcome (length cs) c cs (omega arith))

no_blank : (quote : ℕ) → is_quote quote ≡ true → is_blank quote ≡ false
no_blank quote is = grind (arith, nat_tests)

no_start : (quote : ℕ) → is_quote quote ≡ true → is_word_start quote ≡ false
no_start quote is = grind (arith, nat_tests)

no_digit : (quote : ℕ) → is_quote quote ≡ true → is_ascii_digit quote ≡ false
no_digit quote is = grind (arith, nat_tests)

piece_quoted : (line quote : ℕ) (inside : List ℕ) → is_quote quote ≡ true → piece line (quote ∷ inside) ≡ short_string line (quote ∷ inside)
unfolding piece
piece_quoted line quote inside is = rw (no_blank quote is, no_start quote is, no_digit quote is, is) refl

pub short_string_covers : (line quote : ℕ) (bytes after body value : List ℕ) → is_quote quote ≡ true → bytes ≡ quote ∷ (body ++ quote ∷ [])
    → IsBody quote (quote ∷ after) body value → Covers line bytes after (Some (Text value))
short_string_covers line quote bytes after body value is parts inside =
    let size : length body + 2 ≡ length (quote ∷ (body ++ quote ∷ [])) = omega (arith, length-append body (quote ∷ [])) in
    let here : piece line ((quote ∷ (body ++ quote ∷ [])) ++ after) ≡ Ok (record { kind = Some (Text value); size = length (quote ∷ (body ++ quote ∷ [])) }) =
    ap (λ t. piece line (quote ∷ t)) (append_assoc body (quote ∷ []) after)
    ∙ piece_quoted line quote (body ++ quote ∷ after) is
    ∙ string_closed line quote body after value is inside
    ∙ ap (λ n. Ok (record { kind = Some (Text value); size = n })) size
    in
    covers_whole line bytes after (Some (Text value))
    (subst (λ b. piece line (b ++ after) ≡ Ok (record { kind = Some (Text value); size = length b })) (sym parts) here)

pub open_quote_met : (line quote : ℕ) (body after bytes : List ℕ) → is_quote quote ≡ true → IsBody quote after body bytes → BreaksOff after
    → piece line (quote ∷ (body ++ after)) ≡ Err (OpenString line)
open_quote_met line quote body after bytes is inside stops =
    piece_quoted line quote (body ++ after) is ∙ string_open line quote body after bytes is inside stops

pub bad_escape_met : (line quote : ℕ) (body after bytes : List ℕ) → is_quote quote ≡ true → IsBody quote (92 ∷ after) body bytes → IsNoEscape after
    → piece line (quote ∷ (body ++ 92 ∷ after)) ≡ Err (BadEscape (line + line_ends body))
bad_escape_met line quote body after bytes is inside wrong =
    piece_quoted line quote (body ++ 92 ∷ after) is ∙ string_bad line quote body after bytes is inside wrong
