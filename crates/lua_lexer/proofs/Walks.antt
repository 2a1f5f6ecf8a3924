-- The search for a block's end goes over a piece of the text before the end, and knows its braces.
use Rattle.std.proofs.Common.{◌≡◌, ℕ, suc, ◌+◌, ◌<◌, ◌≤◌, Bool, true, false, cond, List, [], ◌∷◌, ◌++◌, length, get_or, drop, take, Option, Some, None, Result, Ok, Err, ◌⊎◌, inl, inr, ⊎_elim, refl, ap, sym, subst, ◌∙◌, arith, lit<}
use Rattle.std.proofs.Math.ListN.{get_or-append}
use Rattle.std.specs.Prelude.{◌==◌, ◌&&◌, ◌||◌, ℤ, option_map, ok_or, unwrap_or}
use Rattle.std.specs.List.{prefix_len}
use Rattle.std.specs.Char.{is_ascii_digit, is_ascii_hexdigit}
use Rattle.std.proofs.lemmas.Bool.{eqb-true, and_parts}
use Rattle.std.proofs.lemmas.Bool.Decides.{nat_tests}
use Rattle.std.proofs.lemmas.List.{drop-append-le, length-take-le}
use Rattle.std.proofs.lemmas.List.Folds.{length-prefix_len}
use Rattle.std.proofs.lemmas.List.Sums.{prefix_len-le-length}
use Rattle.lua_numbers.specs.NumberText.{is_blank, number_in}
use Rattle.lua_lexer.specs.declared.words.Word.{Word}
use Rattle.lua_lexer.specs.declared.tokens.LexFault.{LexFault}
use Rattle.lua_lexer.specs.declared.tokens.LexFault.TheVariants.{BadByte, Fraction, Range, OpenString}
use Rattle.lua_lexer.specs.declared.tokens.Piece.{Piece}
use Rattle.lua_lexer.specs.declared.tokens.TokenKind.{TokenKind}
use Rattle.lua_lexer.specs.declared.tokens.TokenKind.TheVariants.{Name, Text, Word as WordKind}
use Rattle.lua_lexer.specs.Characters.{is_word_start, is_word_byte}
use Rattle.lua_lexer.specs.Readings.{◌>>=◌}
use Rattle.lua_lexer.specs.Brackets.{opens, is_bracket, inside_len, long_size}
use Rattle.lua_lexer.specs.Comments.{is_comment}
use Rattle.lua_lexer.specs.Strings.{is_quote, body_len, decoded, short_string, long_string, long_string_of}
use Rattle.lua_lexer.specs.Numerals.{number_piece, number_of, decimal, hexadecimal, numeral, is_fraction_mark}
use Rattle.lua_lexer.specs.Words.{word_of, kind_of_word, name_or_word}
use Rattle.lua_lexer.specs.Blocks.{short_string_size, stretch, depth_after, closing_after}
use Rattle.lua_lexer.specs.Balance.{braces_after}
use Rattle.lua_lexer.proofs.Prefixes.{in_range, comment_same, opens_same, inside_same, body_same}
use Rattle.lua_lexer.proofs.Braces.{closing_step}

-- the braces after a piece
abbrev pub braces_with : ℕ → Option TokenKind → Option ℕ
braces_with depth None = Some depth
braces_with depth (Some kind) = braces_after depth kind

-- the search goes over a piece of that kind and size
pub record Walks (depth index : ℕ) (ys zs : List ℕ) (kind : Option TokenKind) (size : ℕ) : Type 0 where
  pub some : 0 < size
  pub within : size ≤ length ys
  pub next : ℕ
  pub goes :
      closing_after 0 depth index (ys ++ 125 ∷ zs) ≡ closing_after 0 next (index + size) (drop size ys ++ 125 ∷ zs)
  pub braces : braces_with depth kind ≡ Some next

abbrev pub Reads : Result Piece LexFault → Piece → Type 0
Reads reading found = reading ≡ Ok found

pub chosen : (b : Bool) (x y : Result Piece LexFault) (found : Piece) → Reads (cond b x y) found
    → ((b ≡ true) × Reads x found) ⊎ ((b ≡ false) × Reads y found)
chosen true x y found reads = inl (refl, reads)
chosen false x y found reads = inr (refl, reads)

pub ok_same : (x y : Piece) → Reads (Ok x) y → x ≡ y
ok_same x y same = cc

pub err_ok : (fault : LexFault) (found : Piece) → Reads (Err fault) found → ⊥
err_ok fault found same = cc

-- the byte is no brace, and begins no string and no comment
pub record IsPlain (c : ℕ) : Type 0 where
  pub opening : (c == 123) ≡ false
  pub closing : (c == 125) ≡ false
  pub quote : is_quote c ≡ false
  pub dash : (c == 45) ≡ false
  pub bracket : (c == 91) ≡ false

pub plain_blank : (c : ℕ) → is_blank c ≡ true → IsPlain c
plain_blank c is = record {
  opening = grind (arith, nat_tests);
  closing = grind (arith, nat_tests);
  quote = grind (arith, nat_tests);
  dash = grind (arith, nat_tests);
  bracket = grind (arith, nat_tests);
}

plain_word : (c : ℕ) → is_word_byte c ≡ true → IsPlain c
plain_word c is = record {
  opening = grind (arith, nat_tests);
  closing = grind (arith, nat_tests);
  quote = grind (arith, nat_tests);
  dash = grind (arith, nat_tests);
  bracket = grind (arith, nat_tests);
}

plain_digit : (c : ℕ) → is_ascii_digit c ≡ true → IsPlain c
plain_digit c is = record {
  opening = grind (arith, nat_tests);
  closing = grind (arith, nat_tests);
  quote = grind (arith, nat_tests);
  dash = grind (arith, nat_tests);
  bracket = grind (arith, nat_tests);
}

plain_hexdigit : (c : ℕ) → is_ascii_hexdigit c ≡ true → IsPlain c
plain_hexdigit c is = record {
  opening = grind (arith, nat_tests);
  closing = grind (arith, nat_tests);
  quote = grind (arith, nat_tests);
  dash = grind (arith, nat_tests);
  bracket = grind (arith, nat_tests);
}

-- a byte of that code
pub plain_code : (k c : ℕ) → IsPlain k → (c == k) ≡ true → IsPlain c
plain_code k c plain same = subst IsPlain (sym (eqb-true c k same)) plain

stretch_one : (c : ℕ) (text : List ℕ) → is_quote c ≡ false → is_comment (c ∷ text) ≡ false → opens (c ∷ text) ≡ false → stretch (c ∷ text) ≡ Some 1
unfolding stretch
stretch_one c text quote dashes bracket = rw (quote, dashes, bracket) refl

-- a byte that stands alone
pub single_step : (depth index c : ℕ) (cs zs : List ℕ) → (c == 125 && depth == 0) ≡ false → is_quote c ≡ false → is_comment (c ∷ cs) ≡ false
    → opens (c ∷ cs) ≡ false
    → closing_after 0 depth index (c ∷ cs ++ 125 ∷ zs) ≡ closing_after 0 (depth_after depth c) (index + 1) (cs ++ 125 ∷ zs)
single_step depth index c cs zs here quote dashes bracket =
    closing_step depth index 1 (c ∷ cs ++ 125 ∷ zs) (omega arith) here
    (stretch_one c (cs ++ 125 ∷ zs) quote (comment_same (c ∷ cs) zs (omega arith) ∙ dashes) (opens_same (c ∷ cs) zs ∙ bracket)) (lit< tt)

no_comment : (c : ℕ) (cs : List ℕ) → (c == 45) ≡ false → is_comment (c ∷ cs) ≡ false
unfolding is_comment
no_comment c cs dash = rw dash refl

no_bracket : (c : ℕ) (cs : List ℕ) → (c == 91) ≡ false → opens (c ∷ cs) ≡ false
unfolding is_bracket
no_bracket c cs bracket = rw bracket refl

plain_depth : (depth c : ℕ) → IsPlain c → depth_after depth c ≡ depth
plain_depth depth c plain = rw (plain.opening, plain.closing) refl

pub plain_step : (depth index c : ℕ) (cs zs : List ℕ) → IsPlain c
    → closing_after 0 depth index (c ∷ cs ++ 125 ∷ zs) ≡ closing_after 0 depth (index + 1) (cs ++ 125 ∷ zs)
plain_step depth index c cs zs plain =
    single_step depth index c cs zs (rw plain.closing refl) plain.quote (no_comment c cs plain.dash) (no_bracket c cs plain.bracket)
    ∙ ap (λ n. closing_after 0 n (index + 1) (cs ++ 125 ∷ zs)) (plain_depth depth c plain)

run_case :
    (b : Bool) (depth index c n : ℕ) (cs zs : List ℕ)
    → (b ≡ true → closing_after 0 depth index (c ∷ cs ++ 125 ∷ zs) ≡ closing_after 0 depth (index + 1 + n) (drop n cs ++ 125 ∷ zs))
    → closing_after 0 depth index (c ∷ cs ++ 125 ∷ zs)
    ≡ closing_after 0 depth (index + cond b (1 + n) 0) (drop (cond b (1 + n) 0) (c ∷ cs) ++ 125 ∷ zs)
run_case true depth index c n cs zs more =
    let next : 1 + n ≡ suc n = omega arith in
    let index_is : index + 1 + n ≡ index + suc n = omega arith in
    rw next (more refl ∙ ap (λ at. closing_after 0 depth at (drop n cs ++ 125 ∷ zs)) index_is)
run_case false depth index c n cs zs more =
    let same : index ≡ index + 0 = omega arith in
    ap (λ at. closing_after 0 depth at (c ∷ cs ++ 125 ∷ zs)) same

-- a run of plain bytes
run_walk : (p : ℕ → Bool) → ((c : ℕ) → p c ≡ true → IsPlain c) → (depth index : ℕ) (ys zs : List ℕ)
    → closing_after 0 depth index (ys ++ 125 ∷ zs)
    ≡ closing_after 0 depth (index + prefix_len p ys) (drop (prefix_len p ys) ys ++ 125 ∷ zs)
run_walk p plain depth index [] zs =
    let same : index ≡ index + 0 = omega arith in
    ap (λ at. closing_after 0 depth at (125 ∷ zs)) same
run_walk p plain depth index (c ∷ cs) zs =
    let more = run_walk p plain depth (index + 1) cs zs in
    run_case (p c) depth index c (prefix_len p cs) cs zs (λ is. plain_step depth index c cs zs (plain c is) ∙ more)

run_some : (p : ℕ → Bool) (ys : List ℕ) → 0 < length ys → p (get_or ys 0 0) ≡ true → 0 < prefix_len p ys
run_some p [] some is = absurd (omega arith)
run_some p (c ∷ cs) some is = rw is (omega arith)

pub walks_run : (p : ℕ → Bool) → ((c : ℕ) → p c ≡ true → IsPlain c) → (depth index : ℕ) (ys zs : List ℕ) (kind : Option TokenKind)
    → 0 < length ys → p (get_or ys 0 0) ≡ true → braces_with depth kind ≡ Some depth → Walks depth index ys zs kind (prefix_len p ys)
walks_run p plain depth index ys zs kind some is same = record {
  some = run_some p ys some is;
  within = prefix_len-le-length p ys;
  next = depth;
  goes = run_walk p plain depth index ys zs;
  braces = same;
}

word_braces : (depth : ℕ) (name : List ℕ) (found : Option Word) → braces_after depth (unwrap_or (option_map WordKind found) (Name name)) ≡ Some depth
word_braces depth name (Some word) = refl
word_braces depth name None = refl

pub walks_word : (depth index : ℕ) (ys zs : List ℕ) → 0 < length ys → is_word_start (get_or ys 0 0) ≡ true
    → Walks depth index ys zs (name_or_word ys).kind (name_or_word ys).size
unfolding name_or_word kind_of_word
walks_word depth index ys zs some starts =
    walks_run is_word_byte plain_word depth index ys zs (Some (kind_of_word (take (prefix_len is_word_byte ys) ys))) some (rw starts refl)
    (word_braces depth (take (prefix_len is_word_byte ys) ys) (word_of (take (prefix_len is_word_byte ys) ys)))

-- the piece has that size and is no brace
pub record IsBare (found : Piece) (size : ℕ) : Type 0 where
  pub sized : found.size ≡ size
  pub plain : (depth : ℕ) → braces_with depth found.kind ≡ Some depth

number_read : (line : ℕ) (text : List ℕ) (found : Piece) → number_of line text ≡ Ok found → IsBare found (length text)
unfolding number_of
number_read line text found reads = by (length text) (number_in text) reads
  where
    by : (n : ℕ) (read : Option ℤ) → ok_or (option_map (number_piece n) read) (Range line) ≡ Ok found → IsBare found n
    by n (Some number) same = subst (λ f. IsBare f n) (ok_same (number_piece n number) found same) (record { sized = refl; plain = λ depth. refl })
    by n None same = absurd (err_ok (Range line) found same)

pub walks_sized : (depth index size : ℕ) (ys zs : List ℕ) (found : Piece) → IsBare found size → Walks depth index ys zs found.kind size
    → Walks depth index ys zs found.kind found.size
walks_sized depth index size ys zs found bare walks = subst (λ n. Walks depth index ys zs found.kind n) (sym bare.sized) walks

walks_decimal : (line depth index : ℕ) (ys zs : List ℕ) (found : Piece) → 0 < length ys → is_ascii_digit (get_or ys 0 0) ≡ true
    → decimal line ys ≡ Ok found → Walks depth index ys zs found.kind found.size
unfolding decimal
walks_decimal line depth index ys zs found some is reads =
    let size = prefix_len is_ascii_digit ys in
    let next = get_or ys size 0 in
    let number = number_of line (take size ys) in
    ⊎_elim
    (λ fraction. absurd (err_ok (Fraction line) found fraction.1))
    (λ whole.
    ⊎_elim
    (λ word. absurd (err_ok (BadByte line) found word.1))
    (λ ends.
    let bare = subst (IsBare found) (length-prefix_len is_ascii_digit ys) (number_read line (take size ys) found ends.1) in
    walks_sized depth index size ys zs found bare
    (walks_run is_ascii_digit plain_digit depth index ys zs found.kind some is (bare.plain depth)))
    (chosen (is_word_byte next) (Err (BadByte line)) number found whole.1))
    (chosen (is_fraction_mark next) (Err (Fraction line)) (cond (is_word_byte next) (Err (BadByte line)) number) found reads)

plain_zero : IsPlain 48
plain_zero = record { opening = refl; closing = refl; quote = refl; dash = refl; bracket = refl }

plain_x : IsPlain 120
plain_x = record { opening = refl; closing = refl; quote = refl; dash = refl; bracket = refl }

walks_hexadecimal : (line depth index : ℕ) (ys zs : List ℕ) (found : Piece) → (get_or ys 0 0 == 48) ≡ true → (get_or ys 1 0 == 120) ≡ true
    → hexadecimal line ys ≡ Ok found → Walks depth index ys zs found.kind found.size
unfolding hexadecimal
walks_hexadecimal line depth index [] zs found zero_is x_is reads = absurd (cc)
walks_hexadecimal line depth index (c ∷ []) zs found zero_is x_is reads = absurd (cc)
walks_hexadecimal line depth index (c ∷ d ∷ ds) zs found zero_is x_is reads =
    let n = prefix_len is_ascii_hexdigit ds in
    let two : n + 2 ≡ suc (suc n) = omega arith in
    let at : index + 1 + 1 + n ≡ index + suc (suc n) = omega arith in
    let within : n ≤ length ds = prefix_len-le-length is_ascii_hexdigit ds in
    ⊎_elim
    (λ wrong. absurd (err_ok (BadByte line) found wrong.1))
    (λ right.
    let bare = subst (IsBare found) (length-take-le (n + 2) (c ∷ d ∷ ds) (omega arith)) (number_read line (take (n + 2) (c ∷ d ∷ ds)) found right.1) in
    walks_sized depth index (n + 2) (c ∷ d ∷ ds) zs found bare (record {
      some = omega arith;
      within = omega arith;
      next = depth;
      goes =
          rw two (plain_step depth index c (d ∷ ds) zs (plain_code 48 c plain_zero zero_is)
          ∙ plain_step depth (index + 1) d ds zs (plain_code 120 d plain_x x_is)
          ∙ run_walk is_ascii_hexdigit plain_hexdigit depth (index + 1 + 1) ds zs
          ∙ ap (λ k. closing_after 0 depth k (drop n ds ++ 125 ∷ zs)) at);
      braces = bare.plain depth;
    }))
    (chosen (n == 0 || is_word_byte (get_or (c ∷ d ∷ ds) (n + 2) 0)) (Err (BadByte line)) (number_of line (take (n + 2) (c ∷ d ∷ ds))) found reads)

pub walks_numeral : (line depth index : ℕ) (ys zs : List ℕ) (found : Piece) → 0 < length ys → is_ascii_digit (get_or ys 0 0) ≡ true
    → numeral line ys ≡ Ok found → Walks depth index ys zs found.kind found.size
unfolding numeral
walks_numeral line depth index ys zs found some is reads =
    ⊎_elim
    (λ hex. let parts = and_parts (get_or ys 0 0 == 48) (get_or ys 1 0 == 120) hex.0 in walks_hexadecimal line depth index ys zs found parts.0 parts.1 hex.1)
    (λ other. walks_decimal line depth index ys zs found some is other.1)
    (chosen (get_or ys 0 0 == 48 && get_or ys 1 0 == 120) (hexadecimal line ys) (decimal line ys) found reads)

-- a string or a comment that the search goes over as a whole
pub stretch_walks : (depth index n : ℕ) (ys zs : List ℕ) (kind : Option TokenKind) → 0 < length ys → (get_or ys 0 0 == 125) ≡ false
    → (get_or ys 0 0 == 123) ≡ false → stretch (ys ++ 125 ∷ zs) ≡ Some n → 0 < n → n ≤ length ys → braces_with depth kind ≡ Some depth
    → Walks depth index ys zs kind n
stretch_walks depth index n [] zs kind some closing opening ends positive within same = absurd (omega arith)
stretch_walks depth index n (c ∷ cs) zs kind some closing opening ends positive within same = record {
  some = positive;
  within = within;
  next = depth;
  goes =
      closing_step depth index n (c ∷ cs ++ 125 ∷ zs) (omega arith) (rw closing refl) ends positive
      ∙ ap (λ k. closing_after 0 k (index + n) (drop n (c ∷ cs ++ 125 ∷ zs))) (rw (opening, closing) refl)
      ∙ ap (closing_after 0 depth (index + n)) (drop-append-le n (c ∷ cs) (125 ∷ zs) within);
  braces = same;
}

short_case : (reading : Result (List ℕ) LexFault) (b : Bool) (size : ℕ) (fault : LexFault) (found : Piece)
    → (reading >>= (λ bytes. cond b (Ok (record { kind = Some (Text bytes); size = size })) (Err fault))) ≡ Ok found
    → (b ≡ true) × IsBare found size
short_case (Ok bytes) b size fault found reads =
    let text : Piece = record { kind = Some (Text bytes); size = size } in
    ⊎_elim
    (λ closed. (closed.0, subst (λ f. IsBare f size) (ok_same text found closed.1) (record { sized = refl; plain = λ depth. refl })))
    (λ unclosed. absurd (err_ok fault found unclosed.1))
    (chosen b (Ok text) (Err fault) found reads)
short_case (Err other) b size fault found reads = absurd (err_ok other found reads)

quote_no_closing : (c : ℕ) → is_quote c ≡ true → (c == 125) ≡ false
quote_no_closing c is = grind (arith, nat_tests)

quote_no_opening : (c : ℕ) → is_quote c ≡ true → (c == 123) ≡ false
quote_no_opening c is = grind (arith, nat_tests)

quote_some : (c : ℕ) → is_quote c ≡ true → 0 < c
quote_some c is = grind (arith, nat_tests)

short_stretch : (c : ℕ) (cs zs : List ℕ) → is_quote c ≡ true → (get_or cs (body_len c cs) 0 == c) ≡ true
    → stretch (c ∷ cs ++ 125 ∷ zs) ≡ Some (body_len c cs + 2)
unfolding stretch short_string_size
short_stretch c cs zs is closed =
    let some = quote_some c is in
    let within = in_range cs (body_len c cs) c some closed in
    let there : (get_or (cs ++ 125 ∷ zs) (body_len c cs) 0 == c) ≡ true = ap (λ d. d == c) (get_or-append cs (125 ∷ zs) 0 (body_len c cs) within) ∙ closed in
    rw (is, body_same c 0 cs zs some closed, there) refl

pub walks_short : (line depth index : ℕ) (ys zs : List ℕ) (found : Piece) → 0 < length ys → is_quote (get_or ys 0 0) ≡ true
    → short_string line ys ≡ Ok found → Walks depth index ys zs found.kind found.size
unfolding short_string
walks_short line depth index [] zs found some is reads = absurd (omega arith)
walks_short line depth index (c ∷ cs) zs found some is reads =
    let len = body_len c cs in
    let result = short_case (decoded line (take len cs)) (get_or cs len 0 == c) (len + 2) (OpenString line) found reads in
    let within = in_range cs len c (quote_some c is) result.0 in
    walks_sized depth index (len + 2) (c ∷ cs) zs found result.1
    (stretch_walks depth index (len + 2) (c ∷ cs) zs found.kind some (quote_no_closing c is) (quote_no_opening c is) (short_stretch c cs zs is result.0) (omega arith) (omega (arith, within)) (result.1.plain depth))

long_case : (found_len : Option ℕ) (ys : List ℕ) (fault : LexFault) (found : Piece) → ok_or (option_map (long_string_of ys) found_len) fault ≡ Ok found
    → (len : ℕ) × (found_len ≡ Some len) × IsBare found (long_size ys len)
unfolding long_string_of
long_case (Some len) ys fault found reads =
    (len, refl, subst (λ f. IsBare f (long_size ys len)) (ok_same (long_string_of ys len) found reads) (record { sized = refl; plain = λ depth. refl }))
long_case None ys fault found reads = absurd (err_ok fault found reads)

pub bracket_first : (ys : List ℕ) → opens ys ≡ true → get_or ys 0 0 ≡ 91
unfolding is_bracket
bracket_first ys is = eqb-true (get_or ys 0 0) 91 (and_parts _ _ is).0

long_stretch : (ys zs : List ℕ) (len : ℕ) → 0 < length ys → is_comment ys ≡ false → opens ys ≡ true → inside_len ys ≡ Some len
    → stretch (ys ++ 125 ∷ zs) ≡ Some (long_size ys len)
unfolding stretch
long_stretch [] zs len some dashes is found = absurd (omega arith)
long_stretch (c ∷ cs) zs len some dashes is found =
    let alike = inside_same (c ∷ cs) zs len is found in
    let first = bracket_first (c ∷ cs) is in
    let quote : is_quote c ≡ false = rw first refl in
    rw (quote, comment_same (c ∷ cs) zs some, dashes, opens_same (c ∷ cs) zs, is, alike.len) (ap Some alike.size)

pub walks_long : (line depth index : ℕ) (ys zs : List ℕ) (found : Piece) → 0 < length ys → is_comment ys ≡ false → opens ys ≡ true
    → long_string line ys ≡ Ok found → Walks depth index ys zs found.kind found.size
unfolding long_string
walks_long line depth index ys zs found some dashes is reads =
    let result = long_case (inside_len ys) ys (OpenString line) found reads in
    let alike = inside_same ys zs result.0 is result.1 in
    let first = bracket_first ys is in
    walks_sized depth index (long_size ys result.0) ys zs found result.2
    (stretch_walks depth index (long_size ys result.0) ys zs found.kind some (rw first refl) (rw first refl) (long_stretch ys zs result.0 some dashes is result.1) (omega arith) alike.within (result.2.plain depth))
