-- Up to a block's end the braces of the tokens balance.
use Rattle.std.proofs.Common.{◌≡◌, ℕ, zero, suc, ◌+◌, ◌-◌, ◌<◌, ◌≤◌, Bool, true, false, cond, List, [], ◌∷◌, ◌++◌, length, get_or, drop, take, Option, Some, None, Result, Ok, Err, ◌⊎◌, inl, inr, ⊎_elim, refl, ap, sym, subst, ◌∙◌, arith, lit<, eqb, length-drop, length-take-le, take-append-drop}
use Rattle.std.specs.Prelude.{◌==◌, ◌&&◌, not, option_map, option_and_then, ok_or, slice_range}
use Rattle.std.specs.List.{prefix_len}
use Rattle.std.specs.Char.{is_ascii_digit}
use Rattle.std.proofs.lemmas.Bool.{eqb-true, eq-eqb, and_parts}
use Rattle.std.proofs.lemmas.List.{drop_more}
use Rattle.std.proofs.lemmas.List.Folds.{prefix_len-append}
use Rattle.std.proofs.lemmas.List.Sums.{prefix_len-le-length}
use Rattle.lua_lexer.specs.declared.signs.Sign.{Sign}
use Rattle.lua_lexer.specs.declared.signs.Sign.TheVariants.{Plus, Minus, Star, Slash, Percent, Caret, Hash, Equal, NotEqual, LessEqual, GreaterEqual, Less, Greater, Assign, OpenParenthesis, CloseParenthesis, OpenBrace, CloseBrace, OpenBracket, CloseBracket, Semicolon, Colon, Comma, Dot, Concat, Ellipsis}
use Rattle.lua_lexer.specs.declared.tokens.LexFault.{LexFault}
use Rattle.lua_lexer.specs.declared.tokens.LexFault.TheVariants.{BadByte, Fraction, OpenComment}
use Rattle.lua_lexer.specs.declared.tokens.Piece.{Piece}
use Rattle.lua_lexer.specs.declared.tokens.Token.{Token}
use Rattle.lua_lexer.specs.declared.tokens.TokenKind.{TokenKind}
use Rattle.lua_lexer.specs.declared.tokens.TokenKind.TheVariants.{Sign as SignKind}
use Rattle.lua_numbers.specs.NumberText.{is_blank}
use Rattle.lua_lexer.specs.Characters.{is_line_byte, is_word_start, line_ends}
use Rattle.lua_lexer.specs.Brackets.{opens, is_bracket, inside_len, long_size}
use Rattle.lua_lexer.specs.Comments.{is_comment, comment_size}
use Rattle.lua_lexer.specs.Strings.{is_quote, short_string, long_string}
use Rattle.lua_lexer.specs.Numerals.{numeral}
use Rattle.lua_lexer.specs.Words.{name_or_word}
use Rattle.lua_lexer.specs.Signs.{sign_of_one, sign_of_two, sign_or, sign_piece, short_sign, longest_sign}
use Rattle.lua_lexer.specs.Tokens.{skipped_piece, comment, piece, token_of, tokens_after, tokens_of}
use Rattle.lua_lexer.specs.Blocks.{stretch, depth_after, closing_after, block_end_of}
use Rattle.lua_lexer.specs.Balance.{braces_after, braces_of}
use Rattle.lua_lexer.proofs.Fronts.{with_front}
use Rattle.lua_lexer.proofs.Prefixes.{in_range, comment_same, opens_same, inside_same}
use Rattle.lua_lexer.proofs.Braces.{closing_here, closing_step}
use Rattle.lua_lexer.proofs.Listing.{tokens_step, tokens_fault}
use Rattle.lua_lexer.proofs.Walks.{Walks, braces_with, Reads, chosen, ok_same, err_ok, IsBare, IsPlain, plain_code, plain_step, single_step, stretch_walks, walks_sized, walks_run, plain_blank, walks_word, walks_numeral, walks_short, walks_long}

-- where the search ends
record IsFound (k index : ℕ) (xs : List ℕ) (end : ℕ) : Type 0 where
  after : index + k ≤ end
  brace : get_or xs (end - index) 0 ≡ 125

found_next : (k index end c : ℕ) (cs : List ℕ) → IsFound k (index + 1) cs end → IsFound (suc k) index (c ∷ cs) end
found_next k index end c cs more =
    let later = more.after in
    let next : end - index ≡ suc (end - (index + 1)) = omega arith in
    record {
      after = omega arith;
      brace = ap (λ n. get_or (c ∷ cs) n 0) next ∙ more.brace;
    }

found_case :
    (b : Bool) (size : Option ℕ) (goes : ℕ → Option ℕ) (index end c : ℕ) (cs : List ℕ) → (b ≡ true → c ≡ 125)
    → cond b (Some index) (option_and_then goes size) ≡ Some end → ((n : ℕ) → goes n ≡ Some end → IsFound (n - 1) (index + 1) cs end)
    → IsFound 0 index (c ∷ cs) end
found_case true size goes index end c cs brace ends more =
    let same : index ≡ end = cc in
    let none : end - index ≡ 0 = omega arith in
    record { after = omega arith; brace = ap (λ n. get_or (c ∷ cs) n 0) none ∙ brace refl }
found_case false None goes index end c cs brace ends more = absurd (cc)
found_case false (Some n) goes index end c cs brace ends more =
    let next = found_next (n - 1) index end c cs (more n ends) in
    let later = next.after in
    record { after = omega arith; brace = next.brace }

closing_found : (k depth index : ℕ) (xs : List ℕ) (end : ℕ) → closing_after k depth index xs ≡ Some end → IsFound k index xs end
unfolding closing_after
closing_found k depth index [] end ends = absurd (cc)
closing_found (suc k) depth index (c ∷ cs) end ends = found_next k index end c cs (closing_found k depth (index + 1) cs end ends)
closing_found zero depth index (c ∷ cs) end ends =
    found_case (c == 125 && depth == 0) (stretch (c ∷ cs)) (λ size. closing_after (size - 1) (depth_after depth c) (index + 1) cs) index end c cs
    (λ here. eqb-true c 125 (and_parts (c == 125) (depth == 0) here).0) ends
    (λ n more. closing_found (n - 1) (depth_after depth c) (index + 1) cs end more)

comment_case : (size : Option ℕ) (fault : LexFault) (found : Piece) → ok_or (option_map skipped_piece size) fault ≡ Ok found
    → (n : ℕ) × (size ≡ Some n) × IsBare found n
comment_case (Some n) fault found reads =
    (n, refl, subst (λ f. IsBare f n) (ok_same (skipped_piece n) found reads) (record { sized = refl; plain = λ depth. refl }))
comment_case None fault found reads = absurd (err_ok fault found reads)

some_map : (f : ℕ → ℕ) (o : Option ℕ) (n : ℕ) → option_map f o ≡ Some n → (k : ℕ) × (o ≡ Some k) × (f k ≡ n)
some_map f None n same = absurd (cc)
some_map f (Some k) n same = (k, refl, cc)

pick : (b : Bool) (x y : Option ℕ) (n : ℕ) → cond b x y ≡ Some n → ((b ≡ true) × (x ≡ Some n)) ⊎ ((b ≡ false) × (y ≡ Some n))
pick true x y n same = inl (refl, same)
pick false x y n same = inr (refl, same)

-- the comment is closed alike, or it goes on past the brace after the text
abbrev ClosedOrOn : List ℕ → List ℕ → ℕ → Type 0
ClosedOrOn ys zs n =
    ((comment_size (ys ++ 125 ∷ zs) ≡ Some n) × (n ≤ length ys)) ⊎ ((m : ℕ) × (comment_size (ys ++ 125 ∷ zs) ≡ Some m) × (length ys < m))

abbrev no_line_byte : ℕ → Bool
no_line_byte c = not (is_line_byte c)

long_comment : (c d : ℕ) (ds zs : List ℕ) (n : ℕ) → opens ds ≡ true → option_map (λ k. long_size ds k + 2) (inside_len ds) ≡ Some n
    → ClosedOrOn (c ∷ d ∷ ds) zs n
unfolding comment_size
long_comment c d ds zs n opened sized =
    let inner = some_map (λ k. long_size ds k + 2) (inside_len ds) n sized in
    let alike = inside_same ds zs inner.0 opened inner.1 in
    inl (
      rw (opens_same ds zs, opened, alike.len) (ap (λ k. Some (k + 2)) alike.size ∙ ap Some inner.2),
      omega (arith, alike.within, inner.2),
    )

-- how far a comment goes that ends with its line, where it has so many bytes in the text
abbrev LineEnds : ℕ → ℕ → ℕ → ℕ → Type 0
LineEnds run len more n =
    ((cond (eqb run len) (len + (1 + more)) run + 2 ≡ n) × (n ≤ len + 2)) ⊎ (len + 2 < cond (eqb run len) (len + (1 + more)) run + 2)

line_ends_case : (run len more n : ℕ) → run ≤ len → run + 2 ≡ n → LineEnds run len more n
line_ends_case run len more n within sized = by (eqb run len) refl
  where
    by : (b : Bool) → eqb run len ≡ b
        → ((cond b (len + (1 + more)) run + 2 ≡ n) × (n ≤ len + 2)) ⊎ (len + 2 < cond b (len + (1 + more)) run + 2)
    by true same = inr (omega arith)
    by false same = inl (sized, omega arith)

line_comment : (c d : ℕ) (ds zs : List ℕ) (n : ℕ) → opens ds ≡ false → Some (prefix_len no_line_byte ds + 2) ≡ Some n
    → ClosedOrOn (c ∷ d ∷ ds) zs n
unfolding comment_size
line_comment c d ds zs n shut sized =
    finish (line_ends_case (prefix_len no_line_byte ds) (length ds) (prefix_len no_line_byte zs) n (prefix_len-le-length no_line_byte ds) cc)
  where
    whole : prefix_len no_line_byte (ds ++ 125 ∷ zs) ≡ cond (eqb (prefix_len no_line_byte ds) (length ds)) (length ds + (1 + prefix_len no_line_byte zs)) (prefix_len no_line_byte ds)
    whole = prefix_len-append no_line_byte ds (125 ∷ zs)

    finish : LineEnds (prefix_len no_line_byte ds) (length ds) (prefix_len no_line_byte zs) n → ClosedOrOn (c ∷ d ∷ ds) zs n
    finish (inl ends) = inl (rw (opens_same ds zs, shut, whole) (ap Some ends.0), omega (arith, ends.1))
    finish (inr on) =
        inr (
          cond (eqb (prefix_len no_line_byte ds) (length ds)) (length ds + (1 + prefix_len no_line_byte zs)) (prefix_len no_line_byte ds) + 2,
          rw (opens_same ds zs, shut, whole) refl,
          omega (arith, on),
        )

comment_alike : (ys zs : List ℕ) (n : ℕ) → is_comment ys ≡ true → comment_size ys ≡ Some n → ClosedOrOn ys zs n
unfolding comment_size is_comment
comment_alike [] zs n is sized = absurd (cc)
comment_alike (c ∷ []) zs n is sized = absurd (no_second (and_parts (c == 45) false is).1)
  where
    no_second : false ≡ true → ⊥
    no_second same = cc
comment_alike (c ∷ d ∷ ds) zs n is sized =
    ⊎_elim (λ long. long_comment c d ds zs n long.0 long.1) (λ short. line_comment c d ds zs n short.0 short.1)
    (pick (opens ds) (option_map (λ k. long_size ds k + 2) (inside_len ds)) (Some (prefix_len no_line_byte ds + 2)) n sized)

first_dash : (text : List ℕ) → is_comment text ≡ true → get_or text 0 0 ≡ 45
unfolding is_comment
first_dash text begins = eqb-true (get_or text 0 0) 45 (and_parts (get_or text 0 0 == 45) (get_or text 1 0 == 45) begins).0

comment_stretch : (ys zs : List ℕ) (size : Option ℕ) → 0 < length ys → is_comment ys ≡ true → comment_size (ys ++ 125 ∷ zs) ≡ size
    → stretch (ys ++ 125 ∷ zs) ≡ size
unfolding stretch
comment_stretch [] zs size some is sized = absurd (omega arith)
comment_stretch (c ∷ cs) zs size some is sized =
    let quote : is_quote c ≡ false = rw (first_dash (c ∷ cs) is) refl in
    rw (quote, comment_same (c ∷ cs) zs some, is) sized

comment_long_enough : (text : List ℕ) (n : ℕ) → comment_size text ≡ Some n → 0 < n
unfolding comment_size
comment_long_enough text n sized =
    ⊎_elim
    (λ long. let inner = some_map (λ k. long_size (drop 2 text) k + 2) (inside_len (drop 2 text)) n long.1 in omega (arith, inner.2))
    (λ short. let is : prefix_len no_line_byte (drop 2 text) + 2 ≡ n = cc short.1 in omega arith)
    (pick (opens (drop 2 text)) (option_map (λ k. long_size (drop 2 text) k + 2) (inside_len (drop 2 text))) (Some (prefix_len no_line_byte (drop 2 text) + 2)) n sized)

walks_comment : (line depth index : ℕ) (ys zs : List ℕ) (found : Piece) → 0 < length ys
    → closing_after 0 depth index (ys ++ 125 ∷ zs) ≡ Some (index + length ys) → is_comment ys ≡ true → comment line ys ≡ Ok found
    → Walks depth index ys zs found.kind found.size
unfolding comment
walks_comment line depth index [] zs found some ends is reads = absurd (omega arith)
walks_comment line depth index (c ∷ cs) zs found some ends is reads =
    finish (comment_case (comment_size (c ∷ cs)) (OpenComment line) found reads)
  where
    closing : (c == 125) ≡ false
    closing = rw (first_dash (c ∷ cs) is) refl

    opening : (c == 123) ≡ false
    opening = rw (first_dash (c ∷ cs) is) refl

    finish : ((n : ℕ) × (comment_size (c ∷ cs) ≡ Some n) × IsBare found n) → Walks depth index (c ∷ cs) zs found.kind found.size
    finish (n, sized, bare) = by (comment_alike (c ∷ cs) zs n is sized)
      where
        by : ClosedOrOn (c ∷ cs) zs n → Walks depth index (c ∷ cs) zs found.kind found.size
        by (inl alike) =
            walks_sized depth index n (c ∷ cs) zs found bare
            (stretch_walks depth index n (c ∷ cs) zs found.kind some closing opening (comment_stretch (c ∷ cs) zs (Some n) some is alike.0) (comment_long_enough (c ∷ cs) n sized) alike.1 (bare.plain depth))
        by (inr on) =
            let here : (c == 125 && depth == 0) ≡ false = rw closing refl in
            let step = closing_step depth index on.0 (c ∷ cs ++ 125 ∷ zs) (omega arith) here (comment_stretch (c ∷ cs) zs (Some on.0) some is on.1) (omega (arith, on.2)) in
            let later = closing_found 0 (depth_after depth c) (index + on.0) (drop on.0 (c ∷ cs ++ 125 ∷ zs)) (index + length (c ∷ cs)) (sym step ∙ ends) in
            absurd (omega (arith, later.after, on.2))

-- how many braces are open after the sign of one byte
sign_case : (depth k c : ℕ) (sign found : Sign) (rest : Option Sign)
    → ((c == k) ≡ true → braces_after depth (SignKind sign) ≡ Some (depth_after depth k))
    → (rest ≡ Some found → braces_after depth (SignKind found) ≡ Some (depth_after depth c))
    → cond (c == k) (Some sign) rest ≡ Some found → braces_after depth (SignKind found) ≡ Some (depth_after depth c)
sign_case depth k c sign found rest this others reads = by (c == k) refl reads
  where
    by : (b : Bool) → (c == k) ≡ b → cond b (Some sign) rest ≡ Some found → braces_after depth (SignKind found) ≡ Some (depth_after depth c)
    by true is same =
        let code = eqb-true c k is in
        let which : sign ≡ found = cc in
        subst (λ s. braces_after depth (SignKind s) ≡ Some (depth_after depth c)) which (rw code (this is))
    by false is same = others same

no_depth : (depth c : ℕ) → (c == 125 && depth == 0) ≡ false → (c == 125) ≡ true → (depth == 0) ≡ false
no_depth depth c here is = rw is at here

sign_braces : (depth c : ℕ) (found : Sign) → (c == 125 && depth == 0) ≡ false → sign_of_one c ≡ Some found
    → braces_after depth (SignKind found) ≡ Some (depth_after depth c)
unfolding sign_of_one
sign_braces depth c found here =
    sign_case depth 43 c Plus found _ (λ _. refl)
    (sign_case depth 45 c Minus found _ (λ _. refl)
    (sign_case depth 42 c Star found _ (λ _. refl)
    (sign_case depth 47 c Slash found _ (λ _. refl)
    (sign_case depth 37 c Percent found _ (λ _. refl)
    (sign_case depth 94 c Caret found _ (λ _. refl)
    (sign_case depth 35 c Hash found _ (λ _. refl)
    (sign_case depth 60 c Less found _ (λ _. refl)
    (sign_case depth 62 c Greater found _ (λ _. refl)
    (sign_case depth 61 c Assign found _ (λ _. refl)
    (sign_case depth 40 c OpenParenthesis found _ (λ _. refl)
    (sign_case depth 41 c CloseParenthesis found _ (λ _. refl)
    (sign_case depth 123 c OpenBrace found _ (λ _. refl)
    (sign_case depth 125 c CloseBrace found _ (λ is. rw (no_depth depth c here is) refl)
    (sign_case depth 91 c OpenBracket found _ (λ _. refl)
    (sign_case depth 93 c CloseBracket found _ (λ _. refl)
    (sign_case depth 59 c Semicolon found _ (λ _. refl)
    (sign_case depth 58 c Colon found _ (λ _. refl)
    (sign_case depth 44 c Comma found _ (λ _. refl)
    (sign_case depth 46 c Dot found None (λ _. refl) (λ same. absurd (cc same)))))))))))))))))))))

one_case : (sign : Option Sign) (fault : LexFault) (found : Piece) → ok_or (option_map (λ s. sign_piece s 1) sign) fault ≡ Ok found
    → (s : Sign) × (sign ≡ Some s) × (sign_piece s 1 ≡ found)
one_case (Some s) fault found reads = (s, refl, ok_same (sign_piece s 1) found reads)
one_case None fault found reads = absurd (err_ok fault found reads)

walks_one : (line depth index c : ℕ) (cs zs : List ℕ) (found : Piece) → (c == 125 && depth == 0) ≡ false → is_quote c ≡ false
    → is_comment (c ∷ cs) ≡ false → opens (c ∷ cs) ≡ false → short_sign line (c ∷ cs) ≡ Ok found
    → Walks depth index (c ∷ cs) zs found.kind found.size
unfolding short_sign
walks_one line depth index c cs zs found here quote dashes bracket reads =
    ⊎_elim
    (λ fraction. absurd (err_ok (Fraction line) found fraction.1))
    (λ whole.
    let one = one_case (sign_of_one c) (BadByte line) found whole.1 in
    let walk : Walks depth index (c ∷ cs) zs (Some (SignKind one.0)) 1 = record {
      some = lit< tt;
      within = omega arith;
      next = depth_after depth c;
      goes = single_step depth index c cs zs here quote dashes bracket;
      braces = sign_braces depth c one.0 here one.1;
    } in
    subst (λ f. Walks depth index (c ∷ cs) zs f.kind f.size) one.2 walk)
    (chosen (c == 46 && is_ascii_digit (get_or (c ∷ cs) 1 0)) (Err (Fraction line)) (ok_or (option_map (λ s. sign_piece s 1) (sign_of_one c)) (BadByte line)) found reads)

plain_dot : IsPlain 46
plain_dot = record { opening = refl; closing = refl; quote = refl; dash = refl; bracket = refl }

plain_equals : IsPlain 61
plain_equals = record { opening = refl; closing = refl; quote = refl; dash = refl; bracket = refl }

plain_tilde : IsPlain 126
plain_tilde = record { opening = refl; closing = refl; quote = refl; dash = refl; bracket = refl }

plain_less : IsPlain 60
plain_less = record { opening = refl; closing = refl; quote = refl; dash = refl; bracket = refl }

plain_greater : IsPlain 62
plain_greater = record { opening = refl; closing = refl; quote = refl; dash = refl; bracket = refl }

-- a sign of two bytes
record IsDouble (c d : ℕ) (found : Sign) : Type 0 where
  first : IsPlain c
  second : IsPlain d
  some : 0 < d
  braces : (depth : ℕ) → braces_after depth (SignKind found) ≡ Some depth

double_case : (k c d : ℕ) (sign found : Sign) (rest : Option Sign) → IsPlain k → (d == 61) ≡ true
    → ((depth : ℕ) → braces_after depth (SignKind sign) ≡ Some depth) → (rest ≡ Some found → IsDouble c d found)
    → cond (c == k) (Some sign) rest ≡ Some found → IsDouble c d found
double_case k c d sign found rest plain equals bare others reads = by (c == k) refl reads
  where
    by : (b : Bool) → (c == k) ≡ b → cond b (Some sign) rest ≡ Some found → IsDouble c d found
    by true is same =
        let which : sign ≡ found = cc in
        let code = eqb-true d 61 equals in
        subst (IsDouble c d) which (record {
          first = plain_code k c plain is;
          second = plain_code 61 d plain_equals equals;
          some = omega (arith, code);
          braces = bare;
        })
    by false is same = others same

sign_chosen : (b : Bool) (x y : Option Sign) (found : Sign) → cond b x y ≡ Some found → ((b ≡ true) × (x ≡ Some found)) ⊎ ((b ≡ false) × (y ≡ Some found))
sign_chosen true x y found same = inl (refl, same)
sign_chosen false x y found same = inr (refl, same)

no_sign : (found : Sign) → None ≡ Some found → ⊥
no_sign found same = cc

double_read : (c d : ℕ) (found : Sign) → sign_of_two c d ≡ Some found → IsDouble c d found
unfolding sign_of_two
double_read c d found reads =
    ⊎_elim
    (λ dots.
    let parts = and_parts (c == 46) (d == 46) dots.0 in
    let which : Concat ≡ found = cc dots.1 in
    let code = eqb-true d 46 parts.1 in
    subst (IsDouble c d) which (record {
      first = plain_code 46 c plain_dot parts.0;
      second = plain_code 46 d plain_dot parts.1;
      some = omega (arith, code);
      braces = λ depth. refl;
    }))
    (λ others.
    ⊎_elim
    (λ equals.
    double_case 61 c d Equal found _ plain_equals equals.0 (λ depth. refl)
    (double_case 126 c d NotEqual found _ plain_tilde equals.0 (λ depth. refl)
    (double_case 60 c d LessEqual found _ plain_less equals.0 (λ depth. refl)
    (double_case 62 c d GreaterEqual found None plain_greater equals.0 (λ depth. refl) (λ none. absurd (no_sign found none))))) equals.1)
    (λ none. absurd (no_sign found none.1))
    (sign_chosen (d == 61) (cond (c == 61) (Some Equal) (cond (c == 126) (Some NotEqual) (cond (c == 60) (Some LessEqual) (cond (c == 62) (Some GreaterEqual) None)))) None found others.1))
    (sign_chosen (c == 46 && d == 46) (Some Concat) (cond (d == 61) (cond (c == 61) (Some Equal) (cond (c == 126) (Some NotEqual) (cond (c == 60) (Some LessEqual) (cond (c == 62) (Some GreaterEqual) None)))) None) found reads)

two_or_one : (sign : Option Sign) (other : Result Piece LexFault) (found : Piece) → sign_or sign other ≡ Ok found
    → ((s : Sign) × (sign ≡ Some s) × (sign_piece s 2 ≡ found)) ⊎ Reads other found
two_or_one (Some s) other found reads = inl (s, refl, ok_same (sign_piece s 2) found reads)
two_or_one None other found reads = inr reads

walks_two : (depth index c : ℕ) (cs zs : List ℕ) (sign : Sign) → IsDouble c (get_or cs 0 0) sign
    → Walks depth index (c ∷ cs) zs (Some (SignKind sign)) 2
walks_two depth index c [] zs sign double = absurd (omega (arith, double.some))
walks_two depth index c (d ∷ ds) zs sign double =
    let at : index + 1 + 1 ≡ index + 2 = omega arith in
    record {
      some = lit< tt;
      within = omega arith;
      next = depth;
      goes =
          plain_step depth index c (d ∷ ds) zs double.first ∙ plain_step depth (index + 1) d ds zs double.second
          ∙ ap (λ k. closing_after 0 depth k (ds ++ 125 ∷ zs)) at;
      braces = double.braces depth;
    }

walks_dots : (depth index : ℕ) (ys zs : List ℕ) → (get_or ys 0 0 == 46) ≡ true → (get_or ys 1 0 == 46) ≡ true → (get_or ys 2 0 == 46) ≡ true
    → Walks depth index ys zs (Some (SignKind Ellipsis)) 3
walks_dots depth index [] zs first second third = absurd (cc)
walks_dots depth index (c ∷ []) zs first second third = absurd (cc)
walks_dots depth index (c ∷ d ∷ []) zs first second third = absurd (cc)
walks_dots depth index (c ∷ d ∷ e ∷ es) zs first second third =
    let at : index + 1 + 1 + 1 ≡ index + 3 = omega arith in
    record {
      some = lit< tt;
      within = omega arith;
      next = depth;
      goes =
          plain_step depth index c (d ∷ e ∷ es) zs (plain_code 46 c plain_dot first)
          ∙ plain_step depth (index + 1) d (e ∷ es) zs (plain_code 46 d plain_dot second)
          ∙ plain_step depth (index + 1 + 1) e es zs (plain_code 46 e plain_dot third)
          ∙ ap (λ k. closing_after 0 depth k (es ++ 125 ∷ zs)) at;
      braces = refl;
    }

walks_sign : (line depth index c : ℕ) (cs zs : List ℕ) (found : Piece) → (c == 125 && depth == 0) ≡ false → is_quote c ≡ false
    → is_comment (c ∷ cs) ≡ false → opens (c ∷ cs) ≡ false → longest_sign line (c ∷ cs) ≡ Ok found
    → Walks depth index (c ∷ cs) zs found.kind found.size
unfolding longest_sign
walks_sign line depth index c cs zs found here quote dashes bracket reads =
    ⊎_elim
    (λ dots.
    let outer = and_parts (c == 46 && get_or cs 0 0 == 46) (get_or cs 1 0 == 46) dots.0 in
    let inner = and_parts (c == 46) (get_or cs 0 0 == 46) outer.0 in
    subst (λ f. Walks depth index (c ∷ cs) zs f.kind f.size) (ok_same (sign_piece Ellipsis 3) found dots.1)
    (walks_dots depth index (c ∷ cs) zs inner.0 inner.1 outer.1))
    (λ others.
    ⊎_elim
    (λ two.
    subst (λ f. Walks depth index (c ∷ cs) zs f.kind f.size) two.2
    (walks_two depth index c cs zs two.0 (double_read c (get_or cs 0 0) two.0 two.1)))
    (λ one. walks_one line depth index c cs zs found here quote dashes bracket one)
    (two_or_one (sign_of_two c (get_or cs 0 0)) (short_sign line (c ∷ cs)) found others.1))
    (chosen (c == 46 && get_or cs 0 0 == 46 && get_or cs 1 0 == 46) (Ok (sign_piece Ellipsis 3)) (sign_or (sign_of_two c (get_or cs 0 0)) (short_sign line (c ∷ cs))) found reads)

-- before the end no brace closes the block
not_here : (depth index c : ℕ) (cs zs : List ℕ) → closing_after 0 depth index (c ∷ cs ++ 125 ∷ zs) ≡ Some (index + length (c ∷ cs))
    → (c == 125 && depth == 0) ≡ false
not_here depth index c cs zs ends = by (c == 125 && depth == 0) refl
  where
    by : (b : Bool) → (c == 125 && depth == 0) ≡ b → (c == 125 && depth == 0) ≡ false
    by true here =
        let now = sym (closing_here depth index (c ∷ cs ++ 125 ∷ zs) (omega arith) here) ∙ ends in
        let same : index ≡ index + length (c ∷ cs) = cc now in
        absurd (omega (arith, same))
    by false here = here

-- each rule in turn
module _ (line depth index c : ℕ) (cs zs : List ℕ) (found : Piece) (ends : closing_after 0 depth index (c ∷ cs ++ 125 ∷ zs) ≡ Some (index + length (c ∷ cs))) where
  abbrev Goal : Type 0
  Goal = Walks depth index (c ∷ cs) zs found.kind found.size

  by_bracket : is_quote c ≡ false → is_comment (c ∷ cs) ≡ false → Reads (cond (opens (c ∷ cs)) (long_string line (c ∷ cs)) (longest_sign line (c ∷ cs))) found → Goal
  by_bracket quote dashes reads =
      ⊎_elim
      (λ long. walks_long line depth index (c ∷ cs) zs found (omega arith) dashes long.0 long.1)
      (λ sign. walks_sign line depth index c cs zs found (not_here depth index c cs zs ends) quote dashes sign.0 sign.1)
      (chosen (opens (c ∷ cs)) (long_string line (c ∷ cs)) (longest_sign line (c ∷ cs)) found reads)

  abbrev from_bracket : Result Piece LexFault
  from_bracket = cond (opens (c ∷ cs)) (long_string line (c ∷ cs)) (longest_sign line (c ∷ cs))

  by_comment : is_quote c ≡ false → Reads (cond (is_comment (c ∷ cs)) (comment line (c ∷ cs)) from_bracket) found → Goal
  by_comment quote reads =
      ⊎_elim
      (λ dashes. walks_comment line depth index (c ∷ cs) zs found (omega arith) ends dashes.0 dashes.1)
      (λ other. by_bracket quote other.0 other.1)
      (chosen (is_comment (c ∷ cs)) (comment line (c ∷ cs)) from_bracket found reads)

  abbrev from_comment : Result Piece LexFault
  from_comment = cond (is_comment (c ∷ cs)) (comment line (c ∷ cs)) from_bracket

  by_quote : Reads (cond (is_quote c) (short_string line (c ∷ cs)) from_comment) found → Goal
  by_quote reads =
      ⊎_elim
      (λ quote. walks_short line depth index (c ∷ cs) zs found (omega arith) quote.0 quote.1)
      (λ other. by_comment other.0 other.1)
      (chosen (is_quote c) (short_string line (c ∷ cs)) from_comment found reads)

  abbrev from_quote : Result Piece LexFault
  from_quote = cond (is_quote c) (short_string line (c ∷ cs)) from_comment

  by_digit : Reads (cond (is_ascii_digit c) (numeral line (c ∷ cs)) from_quote) found → Goal
  by_digit reads =
      ⊎_elim
      (λ digit. walks_numeral line depth index (c ∷ cs) zs found (omega arith) digit.0 digit.1)
      (λ other. by_quote other.1)
      (chosen (is_ascii_digit c) (numeral line (c ∷ cs)) from_quote found reads)

  abbrev from_digit : Result Piece LexFault
  from_digit = cond (is_ascii_digit c) (numeral line (c ∷ cs)) from_quote

  by_word : Reads (cond (is_word_start c) (Ok (name_or_word (c ∷ cs))) from_digit) found → Goal
  by_word reads =
      ⊎_elim
      (λ word. subst (λ f. Walks depth index (c ∷ cs) zs f.kind f.size) (ok_same (name_or_word (c ∷ cs)) found word.1) (walks_word depth index (c ∷ cs) zs (omega arith) word.0))
      (λ other. by_digit other.1)
      (chosen (is_word_start c) (Ok (name_or_word (c ∷ cs))) from_digit found reads)

  abbrev from_word : Result Piece LexFault
  from_word = cond (is_word_start c) (Ok (name_or_word (c ∷ cs))) from_digit

  piece_walks : Reads (piece line (c ∷ cs)) found → Goal
  unfolding piece
  piece_walks reads =
      ⊎_elim
      (λ blank.
      subst (λ f. Walks depth index (c ∷ cs) zs f.kind f.size) (ok_same (skipped_piece (prefix_len is_blank (c ∷ cs))) found blank.1)
      (walks_run is_blank plain_blank depth index (c ∷ cs) zs None (omega arith) blank.0 refl))
      (λ other. by_word other.1)
      (chosen (is_blank c) (Ok (skipped_piece (prefix_len is_blank (c ∷ cs)))) from_word found reads)

front_case : (front : List Token) (reading : Result (List Token) LexFault) (tokens : List Token) → with_front front reading ≡ Ok tokens
    → (more : List Token) × (reading ≡ Ok more) × (front ++ more ≡ tokens)
front_case front (Ok more) tokens same = (more, refl, cc)
front_case front (Err fault) tokens same = absurd (cc)

braces_front : (depth next line start end : ℕ) (kind : Option TokenKind) (more : List Token) → braces_with depth kind ≡ Some next
    → braces_of depth (token_of line start kind end ++ more) ≡ braces_of next more
braces_front depth next line start end None more same = let is : depth ≡ next = cc in ap (λ n. braces_of n more) is
braces_front depth next line start end (Some kind) more same = rw same refl

brace_stretch : (zs : List ℕ) → stretch (125 ∷ zs) ≡ Some 1
unfolding stretch is_comment is_bracket
brace_stretch zs = refl

some_depth : (depth index : ℕ) (zs : List ℕ) → closing_after 0 depth index (125 ∷ zs) ≡ Some (index + 0) → depth ≡ 0
some_depth depth index zs ends = by (depth == 0) refl
  where
    by : (b : Bool) → (depth == 0) ≡ b → depth ≡ 0
    by true none = eqb-true depth 0 none
    by false some =
        let here : (125 == 125 && depth == 0) ≡ false = some in
        let step = closing_step depth index 1 (125 ∷ zs) (omega arith) here (brace_stretch zs) (lit< tt) in
        let later = closing_found 0 (depth_after depth 125) (index + 1) zs (index + 0) (sym step ∙ ends) in
        absurd (omega (arith, later.after))

fault_ok : (fault : LexFault) (tokens : List Token) (reading : Result (List Token) LexFault) → reading ≡ Err fault → reading ≡ Ok tokens → ⊥
fault_ok fault tokens reading wrong right = cc

-- the braces balance in each text of at most so many bytes, up to its end
abbrev AllBalance : ℕ → Type 0
AllBalance n =
    (ys zs : List ℕ) (line start depth index : ℕ) (tokens : List Token) → length ys ≤ n
    → closing_after 0 depth index (ys ++ 125 ∷ zs) ≡ Some (index + length ys) → tokens_after 0 line start ys ≡ Ok tokens
    → braces_of depth tokens ≡ Some 0

balanced_more : (n line start depth index c : ℕ) (cs zs : List ℕ) (tokens : List Token) (reading : Result Piece LexFault) → AllBalance n
    → length (c ∷ cs) ≤ suc n → closing_after 0 depth index (c ∷ cs ++ 125 ∷ zs) ≡ Some (index + length (c ∷ cs))
    → tokens_after 0 line start (c ∷ cs) ≡ Ok tokens → piece line (c ∷ cs) ≡ reading → braces_of depth tokens ≡ Some 0
balanced_more n line start depth index c cs zs tokens (Err fault) shorter within ends reads wrong =
    absurd (fault_ok fault tokens (tokens_after 0 line start (c ∷ cs)) (tokens_fault line start (c ∷ cs) fault (omega arith) wrong) reads)
balanced_more n line start depth index c cs zs tokens (Ok found) shorter within ends reads right =
    let walk = piece_walks line depth index c cs zs found ends right in
    let positive = walk.some in
    let inside = walk.within in
    let step = tokens_step line start (c ∷ cs) found (omega arith) right walk.some in
    let rest : List ℕ = drop found.size (c ∷ cs) in
    let left = length-drop found.size (c ∷ cs) in
    let fewer : length rest ≤ n = omega (arith, left, positive, inside) in
    let same : index + length (c ∷ cs) ≡ index + found.size + length rest = omega (arith, left, inside) in
    let later = line + line_ends (take found.size (c ∷ cs)) in
    let split = front_case (token_of line start found.kind (start + found.size)) (tokens_after 0 later (start + found.size) rest) tokens (sym step ∙ reads) in
    let more = shorter rest zs later (start + found.size) walk.next (index + found.size) split.0 fewer (sym walk.goes ∙ ends ∙ ap Some same) split.1 in
    ap (braces_of depth) (sym split.2) ∙ braces_front depth walk.next line start (start + found.size) found.kind split.0 walk.braces ∙ more

balanced : (n : ℕ) → AllBalance n
unfolding tokens_after
balanced n [] zs line start depth index tokens within ends reads =
    let none : [] ≡ tokens = cc in
    subst (λ ts. braces_of depth ts ≡ Some 0) none (ap Some (some_depth depth index zs ends))
balanced zero (c ∷ cs) zs line start depth index tokens within ends reads = absurd (omega arith)
balanced (suc n) (c ∷ cs) zs line start depth index tokens within ends reads =
    balanced_more n line start depth index c cs zs tokens (piece line (c ∷ cs)) (balanced n) within ends reads refl

-- what stands before an index where a brace is
split_there : (xs : List ℕ) (m : ℕ) → m < length xs → get_or xs m 0 ≡ 125 → take m xs ++ 125 ∷ drop (m + 1) xs ≡ xs
split_there xs m within is =
    ap (λ rest. take m xs ++ rest) (ap (λ b. b ∷ drop (m + 1) xs) (sym is) ∙ sym (drop_more xs m 0 within)) ∙ take-append-drop m xs

pub balances : (line : ℕ) (text : List ℕ) (from index : ℕ) (tokens : List Token) → block_end_of text from ≡ Some index
    → tokens_of line (slice_range text from index) ≡ Ok tokens → braces_of 0 tokens ≡ Some 0
unfolding block_end_of
balances line text from index tokens ends reads =
    let xs = drop from text in
    let m = index - from in
    let found = closing_found 0 0 from xs index ends in
    let later = found.after in
    let within : m < length xs = in_range xs m 125 (lit< tt) (eq-eqb (get_or xs m 0) 125 found.brace) in
    let len = length-take-le m xs (omega (arith, within)) in
    let at : index ≡ from + length (take m xs) = omega (arith, later, len) in
    balanced (length (take m xs)) (take m xs) (drop (m + 1) xs) line 0 0 from tokens (omega arith)
    (ap (closing_after 0 0 from) (split_there xs m within found.brace) ∙ ends ∙ ap Some at) reads
