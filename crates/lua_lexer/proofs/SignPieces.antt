-- Signs as the lexical rules have them.
use Rattle.std.proofs.Common.{◌≡◌, ℕ, ◌<◌, ◌≤◌, Bool, true, false, cond, List, [], ◌∷◌, ◌++◌, length, get_or, drop, take, Option, Some, None, Result, Ok, Err, ◌⊎◌, inl, inr, ⊎_elim, refl, ap, sym, subst, ◌∙◌, arith, lit<}
use Rattle.std.specs.Prelude.{◌≢◌, ◌==◌, ◌&&◌, option_map, ok_or}
use Rattle.std.specs.Char.{is_ascii_digit}
use Rattle.std.proofs.lemmas.Bool.{cond_both, eqb-true, eq-eqb, false_from_ne_true, and_parts, and_right, or_parts}
use Rattle.std.proofs.lemmas.List.{take-append-drop}
use Rattle.std.proofs.lemmas.Bool.Decides.{nat_tests}
use Rattle.lua_lexer.specs.declared.signs.Sign.{Sign}
use Rattle.lua_lexer.specs.declared.signs.Sign.TheVariants.{Plus, Minus, Star, Slash, Percent, Caret, Hash, Equal, NotEqual, LessEqual, GreaterEqual, Less, Greater, Assign, OpenParenthesis, CloseParenthesis, OpenBrace, CloseBrace, OpenBracket, CloseBracket, Semicolon, Colon, Comma, Dot, Concat, Ellipsis}
use Rattle.lua_lexer.specs.declared.tokens.LexFault.{LexFault}
use Rattle.lua_lexer.specs.declared.tokens.LexFault.TheVariants.{BadByte, Fraction}
use Rattle.lua_lexer.specs.declared.tokens.Piece.{Piece}
use Rattle.lua_lexer.specs.declared.tokens.TokenKind.TheVariants.{Sign as SignKind}
use Rattle.lua_lexer.specs.Brackets.{is_bracket, opens}
use Rattle.lua_numbers.specs.NumberText.{is_blank}
use Rattle.lua_lexer.specs.Characters.{is_word_byte, is_word_start}
use Rattle.lua_lexer.specs.Comments.{is_comment}
use Rattle.lua_lexer.specs.Lexical.{BeginsSign, IsFault, IsPiece}
use Rattle.lua_lexer.specs.Signs.{sign_of_one, sign_of_two, sign_piece, sign_or, short_sign, longest_sign}
use Rattle.lua_lexer.specs.Strings.{is_quote}
use Rattle.lua_lexer.specs.Tokens.{piece}
use Rattle.lua_lexer.specs.Writing.{sign_bytes}
use Rattle.lua_lexer.proofs.BracketPieces.{opens_so, opens_not}
use Rattle.lua_lexer.proofs.PieceReadings.{IsRead, Sound, Covers}
use Rattle.lua_lexer.proofs.Prefixes.{in_range}
use Rattle.lua_lexer.proofs.Walks.{bracket_first}

-- the sign of one byte is written by it
sign_case : (c k : ℕ) (sign found : Sign) (rest : Option Sign) → sign_bytes sign ≡ k ∷ [] → (rest ≡ Some found → sign_bytes found ≡ c ∷ [])
    → cond (c == k) (Some sign) rest ≡ Some found → sign_bytes found ≡ c ∷ []
sign_case c k sign found rest this others reads = by (c == k) refl reads
  where
    by : (b : Bool) → (c == k) ≡ b → cond b (Some sign) rest ≡ Some found → sign_bytes found ≡ c ∷ []
    by true is same =
        let which : sign ≡ found = cc in
        subst (λ s. sign_bytes s ≡ c ∷ []) which (this ∙ ap (λ d. d ∷ []) (sym (eqb-true c k is)))
    by false is same = others same

one_written : (c : ℕ) (found : Sign) → sign_of_one c ≡ Some found → sign_bytes found ≡ c ∷ []
unfolding sign_of_one sign_bytes
one_written c found =
    sign_case c 43 Plus found _ refl
    (sign_case c 45 Minus found _ refl
    (sign_case c 42 Star found _ refl
    (sign_case c 47 Slash found _ refl
    (sign_case c 37 Percent found _ refl
    (sign_case c 94 Caret found _ refl
    (sign_case c 35 Hash found _ refl
    (sign_case c 60 Less found _ refl
    (sign_case c 62 Greater found _ refl
    (sign_case c 61 Assign found _ refl
    (sign_case c 40 OpenParenthesis found _ refl
    (sign_case c 41 CloseParenthesis found _ refl
    (sign_case c 123 OpenBrace found _ refl
    (sign_case c 125 CloseBrace found _ refl
    (sign_case c 91 OpenBracket found _ refl
    (sign_case c 93 CloseBracket found _ refl
    (sign_case c 59 Semicolon found _ refl
    (sign_case c 58 Colon found _ refl
    (sign_case c 44 Comma found _ refl
    (sign_case c 46 Dot found None refl (λ same. absurd (cc same)))))))))))))))))))))

two_case : (a b k : ℕ) (sign found : Sign) (rest : Option Sign) → b ≡ 61 → sign_bytes sign ≡ k ∷ 61 ∷ []
    → (rest ≡ Some found → sign_bytes found ≡ a ∷ b ∷ []) → cond (a == k) (Some sign) rest ≡ Some found → sign_bytes found ≡ a ∷ b ∷ []
two_case a b k sign found rest second this others reads = by (a == k) refl reads
  where
    by : (t : Bool) → (a == k) ≡ t → cond t (Some sign) rest ≡ Some found → sign_bytes found ≡ a ∷ b ∷ []
    by true is same =
        let which : sign ≡ found = cc in
        let first = eqb-true a k is in
        subst (λ s. sign_bytes s ≡ a ∷ b ∷ []) which (rw (first, second) this)
    by false is same = others same

two_written : (a b : ℕ) (found : Sign) → sign_of_two a b ≡ Some found → sign_bytes found ≡ a ∷ b ∷ []
unfolding sign_of_two sign_bytes
two_written a b found reads = by (a == 46 && b == 46) refl (b == 61) refl reads
  where
    by : (s : Bool) → (a == 46 && b == 46) ≡ s → (t : Bool) → (b == 61) ≡ t
        → cond s (Some Concat) (cond t (cond (a == 61) (Some Equal) (cond (a == 126) (Some NotEqual) (cond (a == 60) (Some LessEqual) (cond (a == 62) (Some GreaterEqual) None)))) None) ≡ Some found
        → sign_bytes found ≡ a ∷ b ∷ []
    by true dots t is same =
        let both = and_parts (a == 46) (b == 46) dots in
        let which : Concat ≡ found = cc in
        subst (λ s. sign_bytes s ≡ a ∷ b ∷ []) which (rw (eqb-true a 46 both.0, eqb-true b 46 both.1) refl)
    by false dots true is same =
        let second = eqb-true b 61 is in
        two_case a b 61 Equal found _ second refl
        (two_case a b 126 NotEqual found _ second refl
        (two_case a b 60 LessEqual found _ second refl
        (two_case a b 62 GreaterEqual found None second refl (λ none. absurd (cc none))))) same
    by false dots false is same = absurd (cc same)

two_second : (a b : ℕ) (found : Sign) → sign_of_two a b ≡ Some found → (b ≡ 46) ⊎ (b ≡ 61)
unfolding sign_of_two
two_second a b found reads = by (a == 46 && b == 46) refl (b == 61) refl reads
  where
    by : (s : Bool) → (a == 46 && b == 46) ≡ s → (t : Bool) → (b == 61) ≡ t
        → cond s (Some Concat) (cond t (cond (a == 61) (Some Equal) (cond (a == 126) (Some NotEqual) (cond (a == 60) (Some LessEqual) (cond (a == 62) (Some GreaterEqual) None)))) None) ≡ Some found
        → (b ≡ 46) ⊎ (b ≡ 61)
    by true dots t is same = inl (eqb-true b 46 (and_parts (a == 46) (b == 46) dots).1)
    by false dots true is same = inr (eqb-true b 61 is)
    by false dots false is same = absurd (cc same)

-- a text whose first two bytes are no point and digit
no_point : (text : List ℕ) → (get_or text 0 0 == 46 && is_ascii_digit (get_or text 1 0)) ≡ false
    → (digit : ℕ) (after : List ℕ) → is_ascii_digit digit ≡ true → text ≢ 46 ∷ digit ∷ after
no_point text other digit after is same = clash (rw same at other)
  where
    clash : is_ascii_digit digit ≡ false → ⊥
    clash none = cc

point_not : (text : List ℕ) → ((digit : ℕ) (after : List ℕ) → is_ascii_digit digit ≡ true → text ≢ 46 ∷ digit ∷ after)
    → (get_or text 0 0 == 46 && is_ascii_digit (get_or text 1 0)) ≡ false
point_not [] none = refl
point_not (c ∷ []) none = false_from_ne_true (c == 46 && is_ascii_digit 0) (λ is. clash (and_parts (c == 46) (is_ascii_digit 0) is).1)
  where
    clash : is_ascii_digit 0 ≡ true → ⊥
    clash same = cc
point_not (c ∷ d ∷ ds) none =
    false_from_ne_true (c == 46 && is_ascii_digit d)
    (λ is. let both = and_parts (c == 46) (is_ascii_digit d) is in none d ds both.1 (rw (eqb-true c 46 both.0) refl))

second_no_digit : (a b : ℕ) (found : Sign) → sign_of_two a b ≡ Some found → is_ascii_digit b ≡ false
second_no_digit a b found two = ⊎_elim (λ is. rw is refl) (λ is. rw is refl) (two_second a b found two)

second_there : (text : List ℕ) (b : ℕ) → get_or text 1 0 ≡ b → 0 < b → 1 < length text
second_there text b is some = in_range text 1 b some (eq-eqb (get_or text 1 0) b is)

two_long : (text : List ℕ) (found : Sign) → sign_of_two (get_or text 0 0) (get_or text 1 0) ≡ Some found → 1 < length text
two_long text found two =
    ⊎_elim (λ is. second_there text 46 is (lit< tt)) (λ is. second_there text 61 is (lit< tt)) (two_second (get_or text 0 0) (get_or text 1 0) found two)

front_one : (text : List ℕ) → 0 < length text → take 1 text ≡ get_or text 0 0 ∷ []
front_one [] some = absurd (omega arith)
front_one (c ∷ cs) some = refl

front_two : (text : List ℕ) → 1 < length text → take 2 text ≡ get_or text 0 0 ∷ get_or text 1 0 ∷ []
front_two [] some = absurd (omega arith)
front_two (c ∷ []) some = absurd (omega arith)
front_two (c ∷ d ∷ ds) some = refl

front_three : (text : List ℕ) → 2 < length text → take 3 text ≡ get_or text 0 0 ∷ get_or text 1 0 ∷ get_or text 2 0 ∷ []
front_three [] some = absurd (omega arith)
front_three (c ∷ []) some = absurd (omega arith)
front_three (c ∷ d ∷ []) some = absurd (omega arith)
front_three (c ∷ d ∷ e ∷ es) some = refl

no_comment : (text : List ℕ) → is_comment text ≡ false → (after : List ℕ) → text ≢ 45 ∷ 45 ∷ after
unfolding is_comment
no_comment text dashes after is = clash (rw is at dashes)
  where
    clash : true ≡ false → ⊥
    clash same = cc

-- a sign that stands at the front of a text where no comment, no long bracket and no numeral begins
sign_is : (text : List ℕ) (size : ℕ) (sign : Sign) → 0 < size → size ≤ length text → take size text ≡ sign_bytes sign → is_comment text ≡ false
    → opens text ≡ false → (get_or text 0 0 == 46 && is_ascii_digit (get_or text 1 0)) ≡ false → IsRead text (sign_piece sign size)
sign_is text size sign some within is dashes brackets point = record {
  some = some;
  within = within;
  is = IsPiece.sign is (subst BeginsSign (sym (take-append-drop size text)) (record {
    no_comment = no_comment text dashes;
    no_bracket = opens_not text brackets;
    no_numeral = no_point text point;
  }));
}

point_fault : (line : ℕ) (text : List ℕ) → (get_or text 0 0 == 46 && is_ascii_digit (get_or text 1 0)) ≡ true → IsFault line text (Fraction line)
point_fault line [] is = absurd (cc)
point_fault line (c ∷ []) is = absurd (clash (and_parts (c == 46) (is_ascii_digit 0) is).1)
  where
    clash : is_ascii_digit 0 ≡ true → ⊥
    clash same = cc
point_fault line (c ∷ d ∷ ds) is =
    let both = and_parts (c == 46) (is_ascii_digit d) is in
    let first : c ∷ d ∷ ds ≡ 46 ∷ d ∷ ds = rw (eqb-true c 46 both.0) refl in
    IsFault.point first both.1

some_none : (sign : Sign) → Some sign ≡ None → ⊥
some_none sign same = cc

-- no sign stands at the front
no_sign : (sign : Sign) (text rest : List ℕ) → sign_of_one (get_or text 0 0) ≡ None → sign_of_two (get_or text 0 0) (get_or text 1 0) ≡ None
    → text ≢ sign_bytes sign ++ rest
unfolding sign_of_one sign_of_two sign_bytes
no_sign NotEqual text rest one two is = some_none NotEqual (rw is at two)
no_sign Plus text rest one two is = some_none Plus (rw is at one)
no_sign Minus text rest one two is = some_none Minus (rw is at one)
no_sign Star text rest one two is = some_none Star (rw is at one)
no_sign Slash text rest one two is = some_none Slash (rw is at one)
no_sign Percent text rest one two is = some_none Percent (rw is at one)
no_sign Caret text rest one two is = some_none Caret (rw is at one)
no_sign Hash text rest one two is = some_none Hash (rw is at one)
no_sign Equal text rest one two is = some_none Assign (rw is at one)
no_sign LessEqual text rest one two is = some_none Less (rw is at one)
no_sign GreaterEqual text rest one two is = some_none Greater (rw is at one)
no_sign Less text rest one two is = some_none Less (rw is at one)
no_sign Greater text rest one two is = some_none Greater (rw is at one)
no_sign Assign text rest one two is = some_none Assign (rw is at one)
no_sign OpenParenthesis text rest one two is = some_none OpenParenthesis (rw is at one)
no_sign CloseParenthesis text rest one two is = some_none CloseParenthesis (rw is at one)
no_sign OpenBrace text rest one two is = some_none OpenBrace (rw is at one)
no_sign CloseBrace text rest one two is = some_none CloseBrace (rw is at one)
no_sign OpenBracket text rest one two is = some_none OpenBracket (rw is at one)
no_sign CloseBracket text rest one two is = some_none CloseBracket (rw is at one)
no_sign Semicolon text rest one two is = some_none Semicolon (rw is at one)
no_sign Colon text rest one two is = some_none Colon (rw is at one)
no_sign Comma text rest one two is = some_none Comma (rw is at one)
no_sign Dot text rest one two is = some_none Dot (rw is at one)
no_sign Concat text rest one two is = some_none Dot (rw is at one)
no_sign Ellipsis text rest one two is = some_none Dot (rw is at one)

word_byte_not : (c : ℕ) → is_word_start c ≡ false → is_ascii_digit c ≡ false → is_word_byte c ≡ false
word_byte_not c start digit = rw (start, digit) refl

-- the first byte begins none of the classes before signs
pub record IsOther (text : List ℕ) : Type 0 where
  pub blank : is_blank (get_or text 0 0) ≡ false
  pub start : is_word_start (get_or text 0 0) ≡ false
  pub digit : is_ascii_digit (get_or text 0 0) ≡ false
  pub quote : is_quote (get_or text 0 0) ≡ false
  pub dashes : is_comment text ≡ false
  pub brackets : opens text ≡ false

dots_read : (text : List ℕ) → IsOther text → (get_or text 0 0 == 46 && get_or text 1 0 == 46 && get_or text 2 0 == 46) ≡ true
    → IsRead text (sign_piece Ellipsis 3)
unfolding sign_bytes
dots_read text other dots =
    let three = and_parts (get_or text 0 0 == 46 && get_or text 1 0 == 46) (get_or text 2 0 == 46) dots in
    let two = and_parts (get_or text 0 0 == 46) (get_or text 1 0 == 46) three.0 in
    let long = in_range text 2 46 (lit< tt) three.1 in
    let first = eqb-true (get_or text 0 0) 46 two.0 in
    let second = eqb-true (get_or text 1 0) 46 two.1 in
    let third = eqb-true (get_or text 2 0) 46 three.1 in
    let bytes : take 3 text ≡ 46 ∷ 46 ∷ 46 ∷ [] = front_three text long ∙ rw (first, second, third) refl in
    sign_is text 3 Ellipsis (omega arith) long bytes other.dashes other.brackets (rw (first, second) refl)

two_read : (text : List ℕ) (sign : Sign) → IsOther text → sign_of_two (get_or text 0 0) (get_or text 1 0) ≡ Some sign → IsRead text (sign_piece sign 2)
two_read text sign other two =
    let long = two_long text sign two in
    sign_is text 2 sign (omega arith) long (front_two text long ∙ sym (two_written (get_or text 0 0) (get_or text 1 0) sign two)) other.dashes other.brackets
    (and_right (get_or text 0 0 == 46) (is_ascii_digit (get_or text 1 0)) (second_no_digit (get_or text 0 0) (get_or text 1 0) sign two))

one_case : (line : ℕ) (text : List ℕ) (sign : Option Sign) → 0 < length text → IsOther text
    → (get_or text 0 0 == 46 && is_ascii_digit (get_or text 1 0)) ≡ false → sign_of_two (get_or text 0 0) (get_or text 1 0) ≡ None
    → sign_of_one (get_or text 0 0) ≡ sign → Sound line text (ok_or (option_map (λ sign. sign_piece sign 1) sign) (BadByte line))
one_case line text (Some sign) some other point two is =
    sign_is text 1 sign (omega arith) some (front_one text some ∙ sym (one_written (get_or text 0 0) sign is)) other.dashes other.brackets point
one_case line [] None some other point two is = absurd (omega arith)
one_case line (c ∷ cs) None some other point two is =
    IsFault.no_piece refl other.blank (word_byte_not c other.start other.digit) other.quote (λ sign rest. no_sign sign (c ∷ cs) rest is two)

short_read : (line : ℕ) (text : List ℕ) → 0 < length text → IsOther text → sign_of_two (get_or text 0 0) (get_or text 1 0) ≡ None
    → Sound line text (short_sign line text)
unfolding short_sign
short_read line text some other two =
    cond_both (get_or text 0 0 == 46 && is_ascii_digit (get_or text 1 0)) _ _ (Sound line text)
    (λ point. point_fault line text point)
    (λ no_digit. one_case line text (sign_of_one (get_or text 0 0)) some other no_digit two refl)

two_or_short : (line : ℕ) (text : List ℕ) (sign : Option Sign) → 0 < length text → IsOther text
    → sign_of_two (get_or text 0 0) (get_or text 1 0) ≡ sign → Sound line text (sign_or sign (short_sign line text))
two_or_short line text (Some sign) some other two = two_read text sign other two
two_or_short line text None some other two = short_read line text some other two

pub sign_read : (line : ℕ) (text : List ℕ) → 0 < length text → IsOther text → Sound line text (longest_sign line text)
unfolding longest_sign
sign_read line text some other =
    cond_both (get_or text 0 0 == 46 && get_or text 1 0 == 46 && get_or text 2 0 == 46) _ _ (Sound line text)
    (λ dots. dots_read text other dots)
    (λ fewer. two_or_short line text (sign_of_two (get_or text 0 0) (get_or text 1 0)) some other refl)

-- a reading of a sign at least as long as that one
record AtLeast (reading : Result Piece LexFault) (size : ℕ) (sign : Sign) : Type 0 where
  found : Piece
  is : reading ≡ Ok found
  least : size ≤ found.size
  same : size ≡ found.size → Some (SignKind sign) ≡ found.kind

exactly : (reading : Result Piece LexFault) (size : ℕ) (sign : Sign) → reading ≡ Ok (sign_piece sign size) → AtLeast reading size sign
exactly reading size sign is = record { found = sign_piece sign size; is = is; least = omega arith; same = λ whole. refl }

longer : (size more : ℕ) (sign other : Sign) → size < more → AtLeast (Ok (sign_piece other more)) size sign
longer size more sign other less = record { found = sign_piece other more; is = refl; least = omega arith; same = λ whole. absurd (omega arith) }

or_longer : (sign : Sign) (other : Option Sign) (short : Result Piece LexFault) → AtLeast short 1 sign → AtLeast (sign_or other short) 1 sign
or_longer sign (Some other) short was = longer 1 2 sign other (omega arith)
or_longer sign None short was = was

one_short : (line c : ℕ) (after : List ℕ) (sign : Sign) → sign_of_one c ≡ Some sign → (c == 46 && is_ascii_digit (get_or after 0 0)) ≡ false
    → short_sign line (c ∷ after) ≡ Ok (sign_piece sign 1)
unfolding short_sign
one_short line c after sign one point = rw (point, one) refl

one_longest : (line c : ℕ) (after : List ℕ) (sign : Sign) → sign_of_one c ≡ Some sign → (c == 46 && is_ascii_digit (get_or after 0 0)) ≡ false
    → AtLeast (longest_sign line (c ∷ after)) 1 sign
unfolding longest_sign
one_longest line c after sign one point =
    cond_both (c == 46 && get_or after 0 0 == 46 && get_or after 1 0 == 46) _ _ (λ reading. AtLeast reading 1 sign)
    (λ dots. longer 1 3 sign Ellipsis (omega arith))
    (λ fewer. or_longer sign (sign_of_two c (get_or after 0 0)) (short_sign line (c ∷ after)) (exactly _ 1 sign (one_short line c after sign one point)))

two_longest : (line a b : ℕ) (after : List ℕ) (sign : Sign) → sign_of_two a b ≡ Some sign → AtLeast (longest_sign line (a ∷ b ∷ after)) 2 sign
unfolding longest_sign
two_longest line a b after sign two =
    cond_both (a == 46 && b == 46 && get_or after 0 0 == 46) _ _ (λ reading. AtLeast reading 2 sign)
    (λ dots. longer 2 3 sign Ellipsis (omega arith))
    (λ fewer. exactly _ 2 sign (rw two refl))

sign_longest : (sign : Sign) (line : ℕ) (after : List ℕ)
    → (get_or (sign_bytes sign ++ after) 0 0 == 46 && is_ascii_digit (get_or (sign_bytes sign ++ after) 1 0)) ≡ false
    → AtLeast (longest_sign line (sign_bytes sign ++ after)) (length (sign_bytes sign)) sign
unfolding longest_sign sign_bytes sign_of_one sign_of_two
sign_longest Plus line after point = one_longest line 43 after Plus refl point
sign_longest Minus line after point = one_longest line 45 after Minus refl point
sign_longest Star line after point = one_longest line 42 after Star refl point
sign_longest Slash line after point = one_longest line 47 after Slash refl point
sign_longest Percent line after point = one_longest line 37 after Percent refl point
sign_longest Caret line after point = one_longest line 94 after Caret refl point
sign_longest Hash line after point = one_longest line 35 after Hash refl point
sign_longest Less line after point = one_longest line 60 after Less refl point
sign_longest Greater line after point = one_longest line 62 after Greater refl point
sign_longest Assign line after point = one_longest line 61 after Assign refl point
sign_longest OpenParenthesis line after point = one_longest line 40 after OpenParenthesis refl point
sign_longest CloseParenthesis line after point = one_longest line 41 after CloseParenthesis refl point
sign_longest OpenBrace line after point = one_longest line 123 after OpenBrace refl point
sign_longest CloseBrace line after point = one_longest line 125 after CloseBrace refl point
sign_longest OpenBracket line after point = one_longest line 91 after OpenBracket refl point
sign_longest CloseBracket line after point = one_longest line 93 after CloseBracket refl point
sign_longest Semicolon line after point = one_longest line 59 after Semicolon refl point
sign_longest Colon line after point = one_longest line 58 after Colon refl point
sign_longest Comma line after point = one_longest line 44 after Comma refl point
sign_longest Dot line after point = one_longest line 46 after Dot refl point
sign_longest Equal line after point = two_longest line 61 61 after Equal refl
sign_longest NotEqual line after point = two_longest line 126 61 after NotEqual refl
sign_longest LessEqual line after point = two_longest line 60 61 after LessEqual refl
sign_longest GreaterEqual line after point = two_longest line 62 61 after GreaterEqual refl
sign_longest Concat line after point = two_longest line 46 46 after Concat refl
sign_longest Ellipsis line after point = exactly _ 3 Ellipsis refl

before_signs : (sign : Sign) (line : ℕ) (after : List ℕ) → is_comment (sign_bytes sign ++ after) ≡ false → opens (sign_bytes sign ++ after) ≡ false
    → piece line (sign_bytes sign ++ after) ≡ longest_sign line (sign_bytes sign ++ after)
unfolding piece sign_bytes
before_signs Plus line after dashes brackets = rw (dashes, brackets) refl
before_signs Minus line after dashes brackets = rw (dashes, brackets) refl
before_signs Star line after dashes brackets = rw (dashes, brackets) refl
before_signs Slash line after dashes brackets = rw (dashes, brackets) refl
before_signs Percent line after dashes brackets = rw (dashes, brackets) refl
before_signs Caret line after dashes brackets = rw (dashes, brackets) refl
before_signs Hash line after dashes brackets = rw (dashes, brackets) refl
before_signs Less line after dashes brackets = rw (dashes, brackets) refl
before_signs Greater line after dashes brackets = rw (dashes, brackets) refl
before_signs Assign line after dashes brackets = rw (dashes, brackets) refl
before_signs OpenParenthesis line after dashes brackets = rw (dashes, brackets) refl
before_signs CloseParenthesis line after dashes brackets = rw (dashes, brackets) refl
before_signs OpenBrace line after dashes brackets = rw (dashes, brackets) refl
before_signs CloseBrace line after dashes brackets = rw (dashes, brackets) refl
before_signs OpenBracket line after dashes brackets = rw (dashes, brackets) refl
before_signs CloseBracket line after dashes brackets = rw (dashes, brackets) refl
before_signs Semicolon line after dashes brackets = rw (dashes, brackets) refl
before_signs Colon line after dashes brackets = rw (dashes, brackets) refl
before_signs Comma line after dashes brackets = rw (dashes, brackets) refl
before_signs Dot line after dashes brackets = rw (dashes, brackets) refl
before_signs Equal line after dashes brackets = rw (dashes, brackets) refl
before_signs NotEqual line after dashes brackets = rw (dashes, brackets) refl
before_signs LessEqual line after dashes brackets = rw (dashes, brackets) refl
before_signs GreaterEqual line after dashes brackets = rw (dashes, brackets) refl
before_signs Concat line after dashes brackets = rw (dashes, brackets) refl
before_signs Ellipsis line after dashes brackets = rw (dashes, brackets) refl

dashes_so : (text : List ℕ) → is_comment text ≡ true → (after : List ℕ) × (text ≡ 45 ∷ 45 ∷ after)
unfolding is_comment
dashes_so [] is = absurd (cc)
dashes_so (c ∷ []) is = absurd (clash (and_parts (c == 45) false is).1)
  where
    clash : false ≡ true → ⊥
    clash same = cc
dashes_so (c ∷ d ∷ ds) is = let both = and_parts (c == 45) (d == 45) is in (ds, rw (eqb-true c 45 both.0, eqb-true d 45 both.1) refl)

pub sign_covers : (line : ℕ) (bytes after : List ℕ) (sign : Sign) → bytes ≡ sign_bytes sign → BeginsSign (bytes ++ after)
    → Covers line bytes after (Some (SignKind sign))
sign_covers line bytes after sign is begins =
    let text : List ℕ = sign_bytes sign ++ after in
    let here : BeginsSign (sign_bytes sign ++ after) = subst (λ b. BeginsSign (b ++ after)) is begins in
    let dashes = false_from_ne_true (is_comment text) (λ has. let rest = dashes_so text has in here.no_comment rest.0 rest.1) in
    let brackets = false_from_ne_true (opens text) (λ has. here.no_bracket (opens_so text has)) in
    let read = sign_longest sign line after (point_not text here.no_numeral) in
    rw is (record {
      found = read.found;
      reads = before_signs sign line after dashes brackets ∙ read.is;
      least = read.least;
      same = read.same;
    })

no_piece_signs : (line c : ℕ) (after : List ℕ) → is_blank c ≡ false → is_word_byte c ≡ false → is_quote c ≡ false → is_comment (c ∷ after) ≡ false
    → opens (c ∷ after) ≡ false → piece line (c ∷ after) ≡ longest_sign line (c ∷ after)
unfolding piece
no_piece_signs line c after blank word quote dashes brackets =
    let sides = or_parts (is_word_start c) (is_ascii_digit c) word in
    rw (blank, sides.0, sides.1, quote, dashes, brackets) refl

no_longest : (line c : ℕ) (after : List ℕ) → (c == 46) ≡ false → sign_of_two c (get_or after 0 0) ≡ None → sign_of_one c ≡ None
    → longest_sign line (c ∷ after) ≡ Err (BadByte line)
unfolding longest_sign short_sign
no_longest line c after dot two one = rw (dot, two, one) refl

none_of : (option : Option Sign) → ((sign : Sign) → option ≡ Some sign → ⊥) → option ≡ None
none_of (Some sign) never = absurd (never sign refl)
none_of None never = refl

pub no_piece_met : (line c : ℕ) (after : List ℕ) → is_blank c ≡ false → is_word_byte c ≡ false → is_quote c ≡ false
    → ((sign : Sign) (rest : List ℕ) → c ∷ after ≢ sign_bytes sign ++ rest) → piece line (c ∷ after) ≡ Err (BadByte line)
unfolding sign_bytes
no_piece_met line c after blank word quote none =
    let dashes = false_from_ne_true (is_comment (c ∷ after)) (λ has. let rest = dashes_so (c ∷ after) has in none Minus (45 ∷ rest.0) rest.1) in
    let brackets = false_from_ne_true (opens (c ∷ after)) (λ has. none OpenBracket after (ap (λ d. d ∷ after) (bracket_first (c ∷ after) has))) in
    let dot = false_from_ne_true (c == 46) (λ is. none Dot after (ap (λ d. d ∷ after) (eqb-true c 46 is))) in
    let two = none_of (sign_of_two c (get_or after 0 0)) (λ sign is. none sign (drop 1 after) (two_front c after sign is)) in
    let one = none_of (sign_of_one c) (λ sign is. none sign after (ap (λ bytes. bytes ++ after) (sym (one_written c sign is)))) in
    no_piece_signs line c after blank word quote dashes brackets ∙ no_longest line c after dot two one
  where
    two_front : (a : ℕ) (bs : List ℕ) (sign : Sign) → sign_of_two a (get_or bs 0 0) ≡ Some sign → a ∷ bs ≡ sign_bytes sign ++ drop 1 bs
    two_front a [] sign is = absurd (omega (arith, two_long (a ∷ []) sign is))
    two_front a (b ∷ bs) sign is = ap (λ bytes. bytes ++ bs) (sym (two_written a b sign is))

digit_no_point : (c : ℕ) → is_ascii_digit c ≡ true → (c == 46) ≡ false
digit_no_point c digit = grind (arith, nat_tests)

digit_no_equals : (c : ℕ) → is_ascii_digit c ≡ true → (c == 61) ≡ false
digit_no_equals c digit = grind (arith, nat_tests)

pub point_met : (line digit : ℕ) (after : List ℕ) → is_ascii_digit digit ≡ true → piece line (46 ∷ digit ∷ after) ≡ Err (Fraction line)
unfolding piece is_comment is_bracket longest_sign short_sign sign_of_two
point_met line digit after is =
    rw (digit_no_point digit is, digit_no_equals digit is, is) refl
