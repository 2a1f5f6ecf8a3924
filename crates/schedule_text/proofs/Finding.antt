-- What is found within a text that was put together from words.
use Rattle.std.proofs.Common.{◌≡◌, ◌≢◌, ℕ, zero, suc, ◌-◌, ◌/◌, ◌%◌, ◌^◌, ◌<◌, ◌≤◌, ℤ, pos, negsuc, true, false, ◌&&◌, eqb, leb, ltb, nat_eq, List, [], ◌∷◌, ◌++◌, All, Option, Some, None, MatchOption, length, drop, unwrap_or, refl, sym, ap, ◌∙◌, append_assoc, append-nil, arith}
use Rattle.std.specs.Bool.{if◌then◌else◌}
use Rattle.std.specs.Cmp.Lexicographic.{pointwise, bytes_decides}
use Rattle.std.specs.Fmt.{signed_decimal}
use Rattle.std.specs.List.{flat_map}
use Rattle.std.specs.Prelude.{decimal}
use Rattle.std.specs.Str.Parse.{AllDigits, digits_value}
use Rattle.std.proofs.lemmas.Bool.{eqb-true, eqb-false, ltb-true, ltb-false}
use Rattle.std.proofs.lemmas.Bool.Decides.{nat_tests}
use Rattle.std.proofs.lemmas.Fmt.{decimal_is_IsNumeral}
use Rattle.std.proofs.lemmas.Str.Parse.{digit_from_value}
use Rattle.resty_base.specs.declared.names.Id.{Id}
use Rattle.resty_base.specs.declared.names.Id.TheVariants as id
use Rattle.resty_base.specs.declared.names.StrandId.{StrandId}
use Rattle.resty_base.specs.declared.names.StrandId.TheVariants as strand
use Rattle.resty_base.specs.BoolLaws.{by_test}
use Rattle.schedule_text.specs.Found.{before, after, begins, byte_in, spelled_after, hex_value, id_in, integer_in, number_in, spelling_length, strand_in, rest_after, unquoted, after_quotes, after_quoted}
use Rattle.schedule_text.specs.Ranges.{IsBytes, IsId, IsInteger, IsNumber, IsStrand, last_number}
use Rattle.schedule_text.specs.Words.{hex_digit, id_text, quoted, quoted_byte, strand_text}
use Rattle.schedule_text.proofs.ByTest.{same-true, apart-false, lacks}

-- ---- words

on-absurd : {C : Type 0} → false ≡ true → C
on-absurd h = absurd (let e : false ≡ true = h in cc)

-- a byte that a text lacks isn't its first
first-lacks : (d x : ℕ) (xs : List ℕ) → lacks d (x ∷ xs) ≡ true → eqb x d ≡ false
first-lacks d x xs out = by_test (eqb x d) (λ same. on-absurd (sym (ap (λ b. if b then false else lacks d xs) same) ∙ out)) (λ other. other)

rest-lacks : (d x : ℕ) (xs : List ℕ) → lacks d (x ∷ xs) ≡ true → lacks d xs ≡ true
rest-lacks d x xs out = sym (ap (λ b. if b then false else lacks d xs) (first-lacks d x xs out)) ∙ out

pub before-split : (d : ℕ) (xs ys : List ℕ) → lacks d xs ≡ true → before d (xs ++ d ∷ ys) ≡ xs
before-split d [] ys out = rw (same-true d) refl
before-split d (x ∷ xs) ys out = rw (first-lacks d x xs out) (ap (λ t. x ∷ t) (before-split d xs ys (rest-lacks d x xs out)))

pub after-split : (d : ℕ) (xs ys : List ℕ) → lacks d xs ≡ true → after d (xs ++ d ∷ ys) ≡ ys
after-split d [] ys out = rw (same-true d) refl
after-split d (x ∷ xs) ys out = rw (first-lacks d x xs out) (after-split d xs ys (rest-lacks d x xs out))

pub before-whole : (d : ℕ) (xs : List ℕ) → lacks d xs ≡ true → before d xs ≡ xs
before-whole d [] out = refl
before-whole d (x ∷ xs) out = rw (first-lacks d x xs out) (ap (λ t. x ∷ t) (before-whole d xs (rest-lacks d x xs out)))

pub after-whole : (d : ℕ) (xs : List ℕ) → lacks d xs ≡ true → after d xs ≡ []
after-whole d [] out = refl
after-whole d (x ∷ xs) out = rw (first-lacks d x xs out) (after-whole d xs (rest-lacks d x xs out))

-- the test and the fact that it says
pub lacks-tells : (d : ℕ) (xs : List ℕ) → lacks d xs ≡ true → All (λ b. b ≢ d) xs
lacks-tells d [] out = λ k e within. absurd (omega arith)
lacks-tells d (x ∷ xs) out = lack-cons d x xs (eqb-false x d (first-lacks d x xs out)) (lacks-tells d xs (rest-lacks d x xs out))
  where
    lack-cons : (d x : ℕ) (xs : List ℕ) → x ≢ d → All (λ b. b ≢ d) xs → All (λ b. b ≢ d) (x ∷ xs)
    lack-cons d x xs apart rest zero e within = apart
    lack-cons d x xs apart rest (suc k) e within = rest k e (omega arith)

pub tells-lacks : (d : ℕ) (xs : List ℕ) → All (λ b. b ≢ d) xs → lacks d xs ≡ true
tells-lacks d [] out = refl
tells-lacks d (x ∷ xs) out = rw (apart-false x d (out 0 x (omega arith))) (tells-lacks d xs (λ k e within. out (suc k) e (omega arith)))

pub lacks-append : (d : ℕ) (xs ys : List ℕ) → lacks d (xs ++ ys) ≡ lacks d xs && lacks d ys
lacks-append d [] ys = refl
lacks-append d (x ∷ xs) ys = by_test (eqb x d) (λ same. rw same refl) (λ other. rw other (lacks-append d xs ys))

-- what `split` returns
pub before-parts : (d : ℕ) (text xs ys : List ℕ) → text ≡ xs ++ d ∷ ys → All (λ b. b ≢ d) xs → xs ≡ before d text
before-parts d text xs ys is out = sym (ap (before d) is ∙ before-split d xs ys (tells-lacks d xs out))

pub after-parts : (d : ℕ) (text xs ys : List ℕ) → text ≡ xs ++ d ∷ ys → All (λ b. b ≢ d) xs → ys ≡ after d text
after-parts d text xs ys is out = sym (ap (after d) is ∙ after-split d xs ys (tells-lacks d xs out))

drop-whole : (xs : List ℕ) → drop (length xs) xs ≡ []
drop-whole [] = refl
drop-whole (x ∷ xs) = drop-whole xs

pub before-none : (d : ℕ) (text : List ℕ) → All (λ b. b ≢ d) text → text ≡ before d text
before-none d text out = sym (before-whole d text (tells-lacks d text out))

pub after-none : (d : ℕ) (text : List ℕ) → All (λ b. b ≢ d) text → drop (length text) text ≡ after d text
after-none d text out = drop-whole text ∙ sym (after-whole d text (tells-lacks d text out))

-- ---- numbers

digits-lack : (d : ℕ) (ds : List ℕ) → d < 48 → AllDigits 10 ds → lacks d ds ≡ true
digits-lack d [] small digits = refl
digits-lack d (c ∷ cs) small digits =
    rw (apart-false c d (λ same. let range = digit_from_value c digits.0 in let low = range.0 in omega (arith, same, low))) (digits-lack d cs small digits.1)

pub decimal-lacks : (d n : ℕ) → d < 48 → IsNumber n → lacks d (decimal n) ≡ true
decimal-lacks d n small within = digits-lack d (decimal n) small (decimal_is_IsNumeral n (omega arith)).0.1

-- no number begins with a byte that is no digit
no-digit : (d : ℕ) (ds : List ℕ) → 57 < d → AllDigits 10 ds → begins d ds ≡ false
no-digit d [] high digits = refl
no-digit d (c ∷ cs) high digits = apart-false c d (λ same. let range = digit_from_value c digits.0 in let top = range.1 in omega (arith, same, top))

pub decimal-begins : (d n : ℕ) → 57 < d → IsNumber n → begins d (decimal n) ≡ false
decimal-begins d n high within = no-digit d (decimal n) high (decimal_is_IsNumeral n (omega arith)).0.1

no-minus : (ds : List ℕ) → AllDigits 10 ds → begins 45 ds ≡ false
no-minus [] digits = refl
no-minus (c ∷ cs) digits = apart-false c 45 (λ same. let range = digit_from_value c digits.0 in let low = range.0 in omega (arith, same, low))

number-of-decimal : (n : ℕ) → n < 2 ^ 64 → number_in (decimal n) ≡ n
unfolding number_in
number-of-decimal n small =
    let value : digits_value 10 (decimal n) ≡ n = (decimal_is_IsNumeral n small).1 in
    let within : ltb n (2 ^ 64) ≡ true = by_test (ltb n (2 ^ 64)) (λ on. on) (λ off. let big = ltb-false n (2 ^ 64) off in absurd (omega arith)) in
    let same : pointwise nat_eq (decimal n) (decimal n) ≡ true = (bytes_decides (decimal n) (decimal n)).1 refl in
    rw (value, within, same) refl

pub number-found : (n : ℕ) → IsNumber n → number_in (decimal n) ≡ n
number-found n within = number-of-decimal n (omega arith)

no-number : (text : List ℕ) → ((n : ℕ) → n < 2 ^ 64 → text ≢ decimal n) → number_in text ≡ 0
unfolding number_in
no-number text none =
    let n = digits_value 10 text in
    by_test (ltb n (2 ^ 64))
    (λ small. by_test (pointwise nat_eq (decimal n) text)
    (λ same. absurd (none n (ltb-true n (2 ^ 64) small) (sym ((bytes_decides (decimal n) text).0 same))))
    (λ other. rw (small, other) refl))
    (λ large. rw large refl)

-- what `number_in` returns
pub number_read : (text : List ℕ) (o : Option ℕ) → MatchOption o ((n : ℕ) → n < 2 ^ 64 → text ≢ decimal n) (λ n. (text ≡ decimal n) × (n < 2 ^ 64)) → unwrap_or o 0 ≡ number_in text
number_read text None none = sym (no-number text none)
number_read text (Some n) known = sym (ap number_in known.0 ∙ number-of-decimal n known.1)

at-most : (n m : ℕ) → n ≤ m → leb n m ≡ true
at-most n m within = grind (arith, nat_tests)

pub integer-found : (n : ℤ) → IsInteger n → integer_in (signed_decimal n) ≡ n
integer-found (pos n) within =
    let digits = no-minus (decimal n) (decimal_is_IsNumeral n (omega arith)).0.1 in
    let top : leb n last_number ≡ true = at-most n last_number within in
    rw (digits, number-found n within, top) refl
integer-found (negsuc n) within =
    let value = number-found (suc n) (omega arith) in
    let top : leb (suc n) last_number ≡ true = at-most (suc n) last_number (omega arith) in
    rw (value, top) refl

pub integer-lacks : (d : ℕ) (n : ℤ) → d < 45 → IsInteger n → lacks d (signed_decimal n) ≡ true
integer-lacks d (pos n) small within = decimal-lacks d n (omega arith) within
integer-lacks d (negsuc n) small within = rw (apart-false 45 d (λ same. omega arith)) (decimal-lacks d (suc n) (omega arith) (omega arith))

pub integer-begins : (d : ℕ) (n : ℤ) → 57 < d → IsInteger n → begins d (signed_decimal n) ≡ false
integer-begins d (pos n) high within = decimal-begins d n high within
integer-begins d (negsuc n) high within = apart-false 45 d (λ same. omega arith)

-- ---- names

pub id-found : (i : Id) → IsId i → id_in (id_text i) ≡ i
id-found (id.Conn c) within = ap (λ n. id.Conn n) (number-found c within.1)
id-found (id.Sock n) within = ap (λ m. id.Sock m) (number-found n within.1)

pub id-lacks : (d : ℕ) (i : Id) → d < 48 → IsId i → lacks d (id_text i) ≡ true
id-lacks d (id.Conn c) small within = rw (apart-false 99 d (λ same. omega arith)) (decimal-lacks d c small within.1)
id-lacks d (id.Sock n) small within = rw (apart-false 115 d (λ same. omega arith)) (decimal-lacks d n small within.1)

pub strand-found : (s : StrandId) → IsStrand s → strand_in (strand_text s) ≡ s
strand-found (strand.Conn c) within = ap (λ n. strand.Conn n) (number-found c within.1)
strand-found (strand.Job n) within = ap (λ m. strand.Job m) (number-found n within.1)

pub strand-lacks : (d : ℕ) (s : StrandId) → d < 48 → IsStrand s → lacks d (strand_text s) ≡ true
strand-lacks d (strand.Conn c) small within = rw (apart-false 99 d (λ same. omega arith)) (decimal-lacks d c small within.1)
strand-lacks d (strand.Job n) small within = rw (apart-false 116 d (λ same. omega arith)) (decimal-lacks d n small within.1)

-- ---- quoted bytes

hex_value-digit : (d : ℕ) → d < 16 → hex_value (hex_digit d) ≡ d
hex_value-digit d small = grind (arith, nat_tests)

-- a spelling is read as its byte, and the reading goes on after it
pub record Spells (x : ℕ) (rest : List ℕ) : Type 0 where
  pub bytes : spelled_after 0 (quoted_byte x ++ rest) ≡ x ∷ spelled_after 0 rest
  pub text : rest_after 0 (quoted_byte x ++ rest) ≡ rest_after 0 rest

spells : (x : ℕ) (rest : List ℕ) → x < 256 → Spells x rest
spells x rest small = by_test (eqb x 34)
    (λ is. let e = sym (eqb-true x 34 is) in record { bytes = rw is (ap (λ z. z ∷ spelled_after 0 rest) e); text = rw is refl })
    (λ not_quote. by_test (eqb x 92)
    (λ is. let e = sym (eqb-true x 92 is) in record { bytes = rw (not_quote, is) (ap (λ z. z ∷ spelled_after 0 rest) e); text = rw (not_quote, is) refl })
    (λ not_slash. by_test (eqb x 10)
    (λ is. let e = sym (eqb-true x 10 is) in record {
      bytes = rw (not_quote, not_slash, is) (ap (λ z. z ∷ spelled_after 0 rest) e);
      text = rw (not_quote, not_slash, is) refl;
    })
    (λ not_lf. by_test (eqb x 13)
    (λ is. let e = sym (eqb-true x 13 is) in record {
      bytes = rw (not_quote, not_slash, not_lf, is) (ap (λ z. z ∷ spelled_after 0 rest) e);
      text = rw (not_quote, not_slash, not_lf, is) refl;
    })
    (λ not_cr. by_test (leb 32 x && leb x 126)
    (λ is. record { bytes = simp (not_quote, not_slash, not_lf, not_cr, is); text = simp (not_quote, not_slash, not_lf, not_cr, is) })
    (λ other. record {
      bytes = rw (not_quote, not_slash, not_lf, not_cr, other)
          (ap (λ z. z ∷ spelled_after 0 rest) (rw (hex_value-digit (x / 16) (omega arith), hex_value-digit (x % 16) (omega arith)) (omega arith)));
      text = rw (not_quote, not_slash, not_lf, not_cr, other) refl;
    })))))

-- the bytes of a text up to its second quote, and what stands after that
all-spelled : (bytes rest : List ℕ) → IsBytes bytes
    → (spelled_after 0 (flat_map quoted_byte bytes ++ 34 ∷ rest) ≡ bytes) × (rest_after 0 (flat_map quoted_byte bytes ++ 34 ∷ rest) ≡ rest)
all-spelled [] rest small = (refl, refl)
all-spelled (x ∷ xs) rest small =
    let first = spells x (flat_map quoted_byte xs ++ 34 ∷ rest) (small 0 x (omega arith)) in
    let others = all-spelled xs rest (λ k e within. small (suc k) e (omega arith)) in
    let whole = append_assoc (quoted_byte x) (flat_map quoted_byte xs) (34 ∷ rest) in
    (ap (spelled_after 0) whole ∙ first.bytes ∙ ap (λ t. x ∷ t) others.0, ap (rest_after 0) whole ∙ first.text ∙ others.1)

quoted-whole : (bytes rest : List ℕ) → quoted bytes ++ rest ≡ 34 ∷ (flat_map quoted_byte bytes ++ 34 ∷ rest)
quoted-whole bytes rest = ap (λ t. 34 ∷ t) (append_assoc (flat_map quoted_byte bytes) (34 ∷ []) rest)

pub unquoted-found : (bytes rest : List ℕ) → IsBytes bytes → unquoted (quoted bytes ++ rest) ≡ bytes
unfolding unquoted
unquoted-found bytes rest small = ap (spelled_after 1) (quoted-whole bytes rest) ∙ (all-spelled bytes rest small).0

pub after_quotes-found : (bytes rest : List ℕ) → IsBytes bytes → after_quotes (quoted bytes ++ rest) ≡ rest
unfolding after_quotes
after_quotes-found bytes rest small = ap (rest_after 1) (quoted-whole bytes rest) ∙ (all-spelled bytes rest small).1

pub unquoted-all : (bytes : List ℕ) → IsBytes bytes → unquoted (quoted bytes) ≡ bytes
unquoted-all bytes small = ap unquoted (sym (append-nil (quoted bytes))) ∙ unquoted-found bytes [] small

pub after_quotes-all : (bytes : List ℕ) → IsBytes bytes → after_quotes (quoted bytes) ≡ []
after_quotes-all bytes small = ap after_quotes (sym (append-nil (quoted bytes))) ∙ after_quotes-found bytes [] small

pub after-found : (bytes rest : List ℕ) → IsBytes bytes → after_quoted (quoted bytes ++ 32 ∷ rest) ≡ rest
after-found bytes rest small = ap (drop 1) (after_quotes-found bytes (32 ∷ rest) small)

-- ---- the loop over quoted bytes

bytes-drop : (k : ℕ) (xs : List ℕ) → spelled_after k xs ≡ spelled_after 0 (drop k xs)
bytes-drop zero xs = refl
bytes-drop (suc k) [] = refl
bytes-drop (suc k) (x ∷ xs) = bytes-drop k xs

text-drop : (k : ℕ) (xs : List ℕ) → rest_after k xs ≡ rest_after 0 (drop k xs)
text-drop zero xs = refl
text-drop (suc k) [] = refl
text-drop (suc k) (x ∷ xs) = text-drop k xs

pub spelling-some : (text : List ℕ) → 0 < spelling_length text
spelling-some [] = omega arith
spelling-some (b ∷ rest) = by_test (eqb b 92) (λ is. by_test (begins 120 rest) (λ hex. rw (is, hex) (omega arith)) (λ plain. rw (is, plain) (omega arith))) (λ other. rw other (omega arith))

drop-before : (n b : ℕ) (rest : List ℕ) → 0 < n → drop n (b ∷ rest) ≡ drop (n - 1) rest
drop-before zero b rest some = absurd (omega arith)
drop-before (suc n) b rest some = ap (λ m. drop m rest) (let e : n ≡ suc n - 1 = omega arith in e)

-- how far the loop came: these bytes, and the text that is left
pub record Unquotes (text bytes rest : List ℕ) : Type 0 where
  pub bytes_are : unquoted text ≡ bytes ++ spelled_after 0 rest
  pub after_is : after_quotes text ≡ rest_after 0 rest

pub unquotes-start : (text rest : List ℕ) → rest ≡ drop 1 text → Unquotes text [] rest
unfolding unquoted after_quotes
unquotes-start text rest is = record {
  bytes_are = bytes-drop 1 text ∙ ap (spelled_after 0) (sym is);
  after_is = text-drop 1 text ∙ ap (rest_after 0) (sym is);
}

pub unquotes-more : (text bytes more rest after : List ℕ) (x : ℕ) → Unquotes text bytes rest → 0 < length rest → begins 34 rest ≡ false → x ≡ byte_in rest
    → more ≡ bytes ++ x ∷ [] → after ≡ drop (spelling_length rest) rest → Unquotes text more after
unquotes-more text bytes more [] after x before some going spelled pushed is = absurd (omega arith)
unquotes-more text bytes more (b ∷ rest) after x before some going spelled pushed is =
    let left : after ≡ drop (spelling_length (b ∷ rest) - 1) rest = is ∙ drop-before (spelling_length (b ∷ rest)) b rest (spelling-some (b ∷ rest)) in
    let step : spelled_after 0 (b ∷ rest) ≡ x ∷ spelled_after 0 after =
    ap (λ t. if t then [] else byte_in (b ∷ rest) ∷ spelled_after (spelling_length (b ∷ rest) - 1) rest) going
    ∙ ap (λ z. z ∷ spelled_after (spelling_length (b ∷ rest) - 1) rest) (sym spelled)
    ∙ ap (λ t. x ∷ t) (bytes-drop (spelling_length (b ∷ rest) - 1) rest ∙ ap (spelled_after 0) (sym left)) in
    record {
      bytes_are = before.bytes_are ∙ ap (λ t. bytes ++ t) step ∙ sym (append_assoc bytes (x ∷ []) (spelled_after 0 after)) ∙ ap (λ t. t ++ spelled_after 0 after) (sym pushed);
      after_is = before.after_is ∙ ap (λ t. if t then rest else rest_after (spelling_length (b ∷ rest) - 1) rest) going
          ∙ text-drop (spelling_length (b ∷ rest) - 1) rest ∙ ap (rest_after 0) (sym left);
    }

-- the reading is over at the end of the text
pub unquotes-end : (text bytes rest : List ℕ) → Unquotes text bytes rest → length rest ≡ 0 → (bytes ≡ unquoted text) × (drop 1 rest ≡ after_quotes text)
unquotes-end text bytes [] before none = (sym (before.bytes_are ∙ append-nil bytes), sym before.after_is)
unquotes-end text bytes (b ∷ rest) before none = absurd (omega arith)

-- and at a quote
pub unquotes-quote : (text bytes rest : List ℕ) → Unquotes text bytes rest → begins 34 rest ≡ true → (bytes ≡ unquoted text) × (drop 1 rest ≡ after_quotes text)
unquotes-quote text bytes [] before quote = on-absurd quote
unquotes-quote text bytes (b ∷ rest) before quote = (
  sym (before.bytes_are
      ∙ ap (λ t. bytes ++ (if t then [] else byte_in (b ∷ rest) ∷ spelled_after (spelling_length (b ∷ rest) - 1) rest)) quote ∙ append-nil bytes),
  sym (before.after_is ∙ ap (λ t. if t then rest else rest_after (spelling_length (b ∷ rest) - 1) rest) quote),
)
