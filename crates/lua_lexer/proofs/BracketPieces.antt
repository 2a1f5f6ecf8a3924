-- Long brackets, and the strings and comments that stand in them, as the lexical rules have them.
use Rattle.std.proofs.Common.{◌≡◌, ℕ, zero, suc, ◌+◌, ◌*◌, ◌<◌, ◌≤◌, Bool, true, false, cond, List, [], ◌∷◌, ◌++◌, length, get_or, drop, take, Option, Some, None, Ok, Err, refl, ap, sym, subst, ◌∙◌, arith, lit<, append_assoc, length-append}
use Rattle.std.specs.Prelude.{◌==◌, not, option_map, ok_or, replicate}
use Rattle.std.specs.List.{prefix_len, AllPass}
use Rattle.std.proofs.lemmas.Bool.{eqb-true, eq-eqb, and_parts}
use Rattle.std.proofs.lemmas.List.{take_at, drop_at, drop_more, get_or_at, length-replicate, take-append-drop}
use Rattle.std.proofs.lemmas.List.Folds.{length-prefix_len}
use Rattle.lua_lexer.specs.declared.tokens.LexFault.TheVariants.{OpenComment, OpenString}
use Rattle.lua_lexer.specs.declared.tokens.Piece.{Piece}
use Rattle.lua_lexer.specs.declared.tokens.TokenKind.TheVariants.{Text}
use Rattle.lua_lexer.specs.Brackets.{level_of, is_bracket, opens, closes, before_closing, inside_len, after_opening, long_size}
use Rattle.lua_lexer.specs.Characters.{is_line_byte}
use Rattle.lua_lexer.specs.Comments.{is_comment, comment_size}
use Rattle.lua_lexer.specs.Lexical.{Closes, IsFault, IsInBrackets, IsPiece, Opens, closing, long_text, opening}
use Rattle.lua_lexer.specs.Strings.{long_string, long_string_of}
use Rattle.lua_lexer.specs.Tokens.{comment, piece, skipped_piece}
use Rattle.lua_lexer.proofs.PieceReadings.{IsRead, Sound, Covers, covers_whole, parts_read}
use Rattle.lua_lexer.proofs.Prefixes.{in_range}
use Rattle.lua_lexer.proofs.Runs.{run_all, run_over}

abbrev is_equals : ℕ → Bool
is_equals c = c == 61

-- a long bracket of a byte
abbrev mark : ℕ → ℕ → List ℕ
mark b level = b ∷ (replicate level 61 ++ b ∷ [])

run_case : (b : Bool) (c n : ℕ) (cs : List ℕ) → (b ≡ true → c ≡ 61) → cs ≡ replicate n 61 ++ drop n cs
    → c ∷ cs ≡ replicate (cond b (1 + n) 0) 61 ++ drop (cond b (1 + n) 0) (c ∷ cs)
run_case true c n cs is more =
    let next : 1 + n ≡ suc n = omega arith in
    rw next (ap (λ d. d ∷ cs) (is refl) ∙ ap (λ ds. 61 ∷ ds) more)
run_case false c n cs is more = refl

run_equals : (cs : List ℕ) → cs ≡ replicate (prefix_len is_equals cs) 61 ++ drop (prefix_len is_equals cs) cs
run_equals [] = refl
run_equals (c ∷ cs) = run_case (c == 61) c (prefix_len is_equals cs) cs (λ is. eqb-true c 61 is) (run_equals cs)

get_next : (c n : ℕ) (cs : List ℕ) → get_or (c ∷ cs) (n + 1) 0 ≡ get_or cs n 0
get_next c n cs = let next : n + 1 ≡ suc n = omega arith in rw next refl

bracket_parts : (b : ℕ) (text : List ℕ) → 0 < b → is_bracket b text ≡ true → text ≡ mark b (level_of text) ++ drop (level_of text + 2) text
unfolding is_bracket level_of
bracket_parts b [] some is = absurd (omega (arith, some, eqb-true 0 b (and_parts (0 == b) (0 == b) is).0))
bracket_parts b (c ∷ cs) some is =
    let n = prefix_len is_equals cs in
    let both = and_parts (c == b) (get_or (c ∷ cs) (n + 1) 0 == b) is in
    let here : (get_or cs n 0 == b) ≡ true = ap (λ d. d == b) (sym (get_next c n cs)) ∙ both.1 in
    let within = in_range cs n b some here in
    let two : n + 2 ≡ suc (suc n) = omega arith in
    let one : n + 1 ≡ suc n = omega arith in
    let rest : drop n cs ≡ b ∷ drop (suc n) cs = drop_more cs n 0 within ∙ ap (λ d. d ∷ drop (n + 1) cs) (eqb-true (get_or cs n 0) b here) ∙ ap (λ k. b ∷ drop k cs) one in
    rw two
    (ap (λ d. d ∷ cs) (eqb-true c b both.0)
    ∙ ap (λ ds. b ∷ ds) (run_equals cs ∙ ap (λ ds. replicate n 61 ++ ds) rest ∙ sym (append_assoc (replicate n 61) (b ∷ []) (drop (suc n) cs))))

run_of : (b level : ℕ) (after : List ℕ) → (b == 61) ≡ false → prefix_len is_equals (replicate level 61 ++ b ∷ after) ≡ level
run_of b zero after other = rw other refl
run_of b (suc level) after other = let more = run_of b level after other in omega (arith, more)

mark_rest : (b level : ℕ) (after : List ℕ) → (replicate level 61 ++ b ∷ []) ++ after ≡ replicate level 61 ++ b ∷ after
mark_rest b level after = append_assoc (replicate level 61) (b ∷ []) after

level_at : (b level : ℕ) (after : List ℕ) → (b == 61) ≡ false → level_of (mark b level ++ after) ≡ level
unfolding level_of
level_at b level after other = ap (prefix_len is_equals) (mark_rest b level after) ∙ run_of b level after other

bracket_at : (b level : ℕ) (after : List ℕ) → (b == 61) ≡ false → is_bracket b (mark b level ++ after) ≡ true
unfolding is_bracket
bracket_at b level after other =
    let second : get_or (mark b level ++ after) (level + 1) 0 ≡ b =
    get_next b level _ ∙ ap (λ text. get_or text level 0) (mark_rest b level after) ∙ get_or_at (replicate level 61) b after 0 level (length-replicate level 61)
    in
    rw (level_at b level after other, second, eq-eqb b b refl) refl

length-mark : (b level : ℕ) → length (mark b level) ≡ level + 2
length-mark b level = omega (arith, length-append (replicate level 61) (b ∷ []), length-replicate {A = ℕ} level 61)

pub opens_so : (text : List ℕ) → opens text ≡ true → Opens text
opens_so text is = record { level = level_of text; after = drop (level_of text + 2) text; parts = bracket_parts 91 text (lit< tt) is }

pub opens_at : (level : ℕ) (after : List ℕ) → opens (opening level ++ after) ≡ true
opens_at level after = bracket_at 91 level after refl

apart : (b : Bool) → b ≡ true → b ≡ false → ⊥
apart b is not_so = cc

pub opens_not : (text : List ℕ) → opens text ≡ false → Opens text → ⊥
opens_not text shut has = apart (opens text) (ap opens has.parts ∙ opens_at has.level has.after) shut

closes_so : (level : ℕ) (text : List ℕ) → closes level text ≡ true → text ≡ closing level ++ drop (level + 2) text
unfolding closes
closes_so level text is =
    let both = and_parts (is_bracket 93 text) (level_of text == level) is in
    let same = eqb-true (level_of text) level both.1 in
    rw same at (bracket_parts 93 text (lit< tt) both.0)

closes_at : (level : ℕ) (after : List ℕ) → closes level (closing level ++ after) ≡ true
unfolding closes
closes_at level after = rw (bracket_at 93 level after refl, level_at 93 level after refl, eq-eqb level level refl) refl

-- the first closing long bracket of the level stands after so many bytes
record IsClosed (level : ℕ) (text : List ℕ) (n : ℕ) : Type 0 where
  inside : List ℕ
  after : List ℕ
  parts : text ≡ inside ++ (closing level ++ after)
  len : length inside ≡ n
  first : (before : List ℕ) → Closes level text before → n ≤ length before

tail_same : (c b : ℕ) (cs bs : List ℕ) → c ∷ cs ≡ b ∷ bs → cs ≡ bs
tail_same c b cs bs same = ap (drop 1) same

later_first : (level c m : ℕ) (cs : List ℕ) → closes level (c ∷ cs) ≡ false → ((before : List ℕ) → Closes level cs before → m ≤ length before)
    → (before : List ℕ) → Closes level (c ∷ cs) before → m + 1 ≤ length before
later_first level c m cs shut more [] at = absurd (apart (closes level (c ∷ cs)) (ap (closes level) at.parts ∙ closes_at level at.after) shut)
later_first level c m cs shut more (b ∷ bs) at =
    let less = more bs (record { after = at.after; parts = tail_same c b cs (bs ++ (closing level ++ at.after)) at.parts }) in
    omega (arith, less)

found_case : (level c n : ℕ) (cs : List ℕ) (b : Bool) (more : Option ℕ) → closes level (c ∷ cs) ≡ b
    → cond b (Some 0) (option_map (λ k. k + 1) more) ≡ Some n → ((m : ℕ) → more ≡ Some m → IsClosed level cs m) → IsClosed level (c ∷ cs) n
found_case level c n cs true more here found next =
    let none : 0 ≡ n = cc in
    record {
      inside = [];
      after = drop (level + 2) (c ∷ cs);
      parts = closes_so level (c ∷ cs) here;
      len = none;
      first = λ before at. omega arith;
    }
found_case level c n cs false None here found next = absurd (cc)
found_case level c n cs false (Some m) here found next =
    let closed = next m refl in
    let size : m + 1 ≡ n = cc found in
    let len = closed.len in
    record {
      inside = c ∷ closed.inside;
      after = closed.after;
      parts = ap (λ ds. c ∷ ds) closed.parts;
      len = omega (arith, len, size);
      first = λ before at. omega (arith, size, later_first level c m cs here closed.first before at);
    }

closing_found : (level : ℕ) (text : List ℕ) (n : ℕ) → before_closing level text ≡ Some n → IsClosed level text n
unfolding before_closing
closing_found level [] n found = absurd (cc)
closing_found level (c ∷ cs) n found =
    found_case level c n cs (closes level (c ∷ cs)) (before_closing level cs) refl found (λ m is. closing_found level cs m is)

missing_case : (level c : ℕ) (cs : List ℕ) (b : Bool) (more : Option ℕ) → closes level (c ∷ cs) ≡ b
    → cond b (Some 0) (option_map (λ k. k + 1) more) ≡ None → (more ≡ None → (before : List ℕ) → Closes level cs before → ⊥)
    → (before : List ℕ) → Closes level (c ∷ cs) before → ⊥
missing_case level c cs true more here none next before at = absurd (cc)
missing_case level c cs false (Some m) here none next before at = absurd (cc)
missing_case level c cs false None here none next [] at = apart (closes level (c ∷ cs)) (ap (closes level) at.parts ∙ closes_at level at.after) here
missing_case level c cs false None here none next (b ∷ bs) at =
    next refl bs (record { after = at.after; parts = tail_same c b cs (bs ++ (closing level ++ at.after)) at.parts })

nothing : (level : ℕ) (before after : List ℕ) → [] ≡ before ++ (closing level ++ after) → ⊥
nothing level [] after same = cc
nothing level (b ∷ bs) after same = cc

closing_missing : (level : ℕ) (text : List ℕ) → before_closing level text ≡ None → (before : List ℕ) → Closes level text before → ⊥
unfolding before_closing
closing_missing level [] none before at = nothing level before at.after at.parts
closing_missing level (c ∷ cs) none before at =
    missing_case level c cs (closes level (c ∷ cs)) (before_closing level cs) refl none (λ is bs there. closing_missing level cs is bs there) before at

closing_first : (level : ℕ) (inside after : List ℕ)
    → ((before : List ℕ) → Closes level (inside ++ (closing level ++ after)) before → length inside ≤ length before)
    → before_closing level (inside ++ (closing level ++ after)) ≡ Some (length inside)
closing_first level inside after first = by (before_closing level (inside ++ (closing level ++ after))) refl
  where
    by : (found : Option ℕ) → before_closing level (inside ++ (closing level ++ after)) ≡ found → found ≡ Some (length inside)
    by None is = absurd (closing_missing level (inside ++ (closing level ++ after)) is inside (record { after = after; parts = refl }))
    by (Some n) is =
        let closed = closing_found level (inside ++ (closing level ++ after)) n is in
        let least = closed.first inside (record { after = after; parts = refl }) in
        let most = first closed.inside (record { after = closed.after; parts = closed.parts }) in
        let len = closed.len in
        ap Some (omega (arith, least, most, len))

closing_none : (level : ℕ) (text : List ℕ) → ((before : List ℕ) → Closes level text before → ⊥) → before_closing level text ≡ None
closing_none level text never = by (before_closing level text) refl
  where
    by : (found : Option ℕ) → before_closing level text ≡ found → found ≡ None
    by None is = refl
    by (Some n) is = let closed = closing_found level text n is in absurd (never closed.inside (record { after = closed.after; parts = closed.parts }))

-- what stands after an opening long bracket
after_at : (level : ℕ) (rest : List ℕ) → after_opening (opening level ++ rest) ≡ rest
after_at level rest =
    ap (λ n. drop (n + 2) (opening level ++ rest)) (level_at 91 level rest refl) ∙ drop_at (opening level) rest (level + 2) (length-mark 91 level)

inside_at : (level : ℕ) (rest : List ℕ) → inside_len (opening level ++ rest) ≡ before_closing level rest
unfolding inside_len
inside_at level rest =
    ap (λ n. before_closing n (after_opening (opening level ++ rest))) (level_at 91 level rest refl) ∙ ap (before_closing level) (after_at level rest)

in_brackets : (level n : ℕ) (rest : List ℕ) → (closed : IsClosed level rest n)
    → IsInBrackets (opening level ++ (closed.inside ++ closing level)) closed.after closed.inside
in_brackets level n rest closed = record {
  level = level;
  parts = refl;
  first = λ before at. let len = closed.len in omega (arith, len, closed.first before (record { after = at.after; parts = closed.parts ∙ at.parts }));
}

-- the brackets, what is inside and what stands after
joined : (level : ℕ) (inside after : List ℕ) → (opening level ++ (inside ++ closing level)) ++ after ≡ opening level ++ (inside ++ (closing level ++ after))
joined level inside after = append_assoc (opening level) (inside ++ closing level) after ∙ ap (λ rest. opening level ++ rest) (append_assoc inside (closing level) after)

size_of : (level : ℕ) (inside : List ℕ) → length (opening level ++ (inside ++ closing level)) ≡ length inside + 2 * (level + 2)
size_of level inside =
    omega (arith, length-append (opening level) (inside ++ closing level), length-append inside (closing level), length-mark 91 level, length-mark 93 level)

string_of : (level : ℕ) (inside rest : List ℕ) → long_string_of (opening level ++ (inside ++ rest)) (length inside)
    ≡ record { kind = Some (Text (long_text inside)); size = length inside + 2 * (level + 2) }
unfolding long_string_of
string_of level inside rest =
    rw (after_at level (inside ++ rest), take_at inside rest (length inside) refl, level_at 91 level (inside ++ rest) refl) refl

long_case : (line level : ℕ) (rest : List ℕ) (found : Option ℕ) → before_closing level rest ≡ found
    → Sound line (opening level ++ rest) (ok_or (option_map (long_string_of (opening level ++ rest)) found) (OpenString line))
long_case line level rest None is = IsFault.open_string level rest refl (closing_missing level rest is)
long_case line level rest (Some n) is =
    let closed = closing_found level rest n is in
    let bytes : List ℕ = opening level ++ (closed.inside ++ closing level) in
    let found : Piece = record { kind = Some (Text (long_text closed.inside)); size = length closed.inside + 2 * (level + 2) } in
    let string = string_of level closed.inside (closing level ++ closed.after) in
    let read : IsRead (bytes ++ closed.after) found =
    parts_read bytes closed.after found (size_of level closed.inside) (omega (arith, size_of level closed.inside)) (IsPiece.long_string (in_brackets level n rest closed))
    in
    let there : IsRead (opening level ++ (closed.inside ++ (closing level ++ closed.after))) found = subst (λ text. IsRead text found) (joined level closed.inside closed.after) read in
    subst (λ r. IsRead (opening level ++ r) (long_string_of (opening level ++ r) n)) (sym closed.parts)
    (subst (λ k. IsRead (opening level ++ (closed.inside ++ (closing level ++ closed.after))) (long_string_of (opening level ++ (closed.inside ++ (closing level ++ closed.after))) k)) closed.len
    (subst (IsRead (opening level ++ (closed.inside ++ (closing level ++ closed.after)))) (sym string) there))

pub long_string_read : (line : ℕ) (text : List ℕ) → opens text ≡ true → Sound line text (long_string line text)
unfolding long_string
long_string_read line text is =
    let has = opens_so text is in
    subst (λ t. Sound line t (ok_or (option_map (long_string_of t) (inside_len t)) (OpenString line))) (sym has.parts)
    (long_case line has.level has.after (inside_len (opening has.level ++ has.after)) (sym (inside_at has.level has.after)))

piece_opening : (line level : ℕ) (rest : List ℕ) → piece line (opening level ++ rest) ≡ long_string line (opening level ++ rest)
unfolding piece is_comment
piece_opening line level rest = rw (opens_at level rest) refl

long_string_at : (line level : ℕ) (inside after : List ℕ) → before_closing level (inside ++ (closing level ++ after)) ≡ Some (length inside)
    → long_string line (opening level ++ (inside ++ (closing level ++ after)))
    ≡ Ok (record { kind = Some (Text (long_text inside)); size = length inside + 2 * (level + 2) })
unfolding long_string
long_string_at line level inside after is =
    rw (inside_at level (inside ++ (closing level ++ after)), is) (ap Ok (string_of level inside (closing level ++ after)))

pub long_string_covers : (line : ℕ) (bytes after inside : List ℕ) → IsInBrackets bytes after inside
    → Covers line bytes after (Some (Text (long_text inside)))
long_string_covers line bytes after inside is =
    let level = is.level in
    let here : piece line ((opening level ++ (inside ++ closing level)) ++ after)
    ≡ Ok (record { kind = Some (Text (long_text inside)); size = length (opening level ++ (inside ++ closing level)) })
    =
    ap (piece line) (joined level inside after)
    ∙ piece_opening line level (inside ++ (closing level ++ after))
    ∙ long_string_at line level inside after (closing_first level inside after is.first)
    ∙ ap (λ n. Ok (record { kind = Some (Text (long_text inside)); size = n })) (sym (size_of level inside))
    in
    covers_whole line bytes after (Some (Text (long_text inside)))
    (subst (λ b. piece line (b ++ after) ≡ Ok (record { kind = Some (Text (long_text inside)); size = length b })) (sym is.parts) here)

long_string_open : (line level : ℕ) (after : List ℕ) → before_closing level after ≡ None → long_string line (opening level ++ after) ≡ Err (OpenString line)
unfolding long_string
long_string_open line level after is = rw (inside_at level after, is) refl

pub open_string_met : (line level : ℕ) (after : List ℕ) → ((before : List ℕ) → Closes level after before → ⊥)
    → piece line (opening level ++ after) ≡ Err (OpenString line)
open_string_met line level after never = piece_opening line level after ∙ long_string_open line level after (closing_none level after never)

-- comments
abbrev no_line_byte : ℕ → Bool
no_line_byte c = not (is_line_byte c)

comment_case : (line level : ℕ) (rest : List ℕ) (found : Option ℕ) → before_closing level rest ≡ found
    → Sound line (45 ∷ 45 ∷ (opening level ++ rest)) (ok_or (option_map skipped_piece (option_map (λ n. n + 2 * (level + 2) + 2) found)) (OpenComment line))
comment_case line level rest None is = IsFault.open_comment level rest refl (closing_missing level rest is)
comment_case line level rest (Some n) is =
    let closed = closing_found level rest n is in
    let brackets : List ℕ = opening level ++ (closed.inside ++ closing level) in
    let size = size_of level closed.inside in
    let len = closed.len in
    let read : IsRead (45 ∷ 45 ∷ (brackets ++ closed.after)) (skipped_piece (n + 2 * (level + 2) + 2)) =
    parts_read (45 ∷ 45 ∷ brackets) closed.after (skipped_piece (n + 2 * (level + 2) + 2)) (omega (arith, size, len)) (omega arith)
    (IsPiece.long_comment refl (in_brackets level n rest closed))
    in
    subst (λ r. IsRead (45 ∷ 45 ∷ r) (skipped_piece (n + 2 * (level + 2) + 2))) (joined level closed.inside closed.after ∙ ap (λ r. opening level ++ r) (sym closed.parts)) read

long_comment_read : (line : ℕ) (ds : List ℕ) → opens ds ≡ true
    → Sound line (45 ∷ 45 ∷ ds) (ok_or (option_map skipped_piece (option_map (λ n. long_size ds n + 2) (inside_len ds))) (OpenComment line))
long_comment_read line ds is =
    let has = opens_so ds is in
    let level = level_at 91 has.level has.after refl in
    subst (λ t. Sound line (45 ∷ 45 ∷ t) (ok_or (option_map skipped_piece (option_map (λ n. long_size t n + 2) (inside_len t))) (OpenComment line))) (sym has.parts)
    (rw level (comment_case line has.level has.after (inside_len (opening has.level ++ has.after)) (sym (inside_at has.level has.after))))

short_comment_read : (ds : List ℕ) → opens ds ≡ false → IsRead (45 ∷ 45 ∷ ds) (skipped_piece (prefix_len no_line_byte ds + 2))
short_comment_read ds shut =
    let n = prefix_len no_line_byte ds in
    let whole = take-append-drop n ds in
    let len = length-prefix_len no_line_byte ds in
    let read : IsRead (45 ∷ 45 ∷ (take n ds ++ drop n ds)) (skipped_piece (n + 2)) =
    parts_read (45 ∷ 45 ∷ take n ds) (drop n ds) (skipped_piece (n + 2)) (omega (arith, len)) (omega arith)
    (IsPiece.short_comment refl (run_all no_line_byte ds) (λ has. opens_not ds shut (subst Opens whole has)))
    in
    subst (λ t. IsRead (45 ∷ 45 ∷ t) (skipped_piece (n + 2))) whole read

pub comment_read : (line : ℕ) (text : List ℕ) → is_comment text ≡ true → Sound line text (comment line text)
unfolding comment comment_size is_comment
comment_read line [] is = absurd (cc)
comment_read line (c ∷ []) is = absurd (clash (and_parts (c == 45) false is).1)
  where
    clash : false ≡ true → ⊥
    clash same = cc
comment_read line (c ∷ d ∷ ds) is =
    let both = and_parts (c == 45) (d == 45) is in
    rw (eqb-true c 45 both.0, eqb-true d 45 both.1)
    (by (opens ds) refl)
  where
    by : (b : Bool) → opens ds ≡ b
        → Sound line (45 ∷ 45 ∷ ds) (ok_or (option_map skipped_piece (cond b (option_map (λ n. long_size ds n + 2) (inside_len ds)) (Some (prefix_len no_line_byte ds + 2)))) (OpenComment line))
    by true has = long_comment_read line ds has
    by false shut = short_comment_read ds shut

piece_dashes : (line : ℕ) (ds : List ℕ) → piece line (45 ∷ 45 ∷ ds) ≡ comment line (45 ∷ 45 ∷ ds)
unfolding piece is_comment
piece_dashes line ds = refl

comment_short : (line : ℕ) (ds : List ℕ) → opens ds ≡ false → comment line (45 ∷ 45 ∷ ds) ≡ Ok (skipped_piece (prefix_len no_line_byte ds + 2))
unfolding comment comment_size
comment_short line ds shut = rw shut refl

comment_long : (line level : ℕ) (rest : List ℕ) (found : Option ℕ) → before_closing level rest ≡ found
    → comment line (45 ∷ 45 ∷ (opening level ++ rest)) ≡ ok_or (option_map skipped_piece (option_map (λ n. n + 2 * (level + 2) + 2) found)) (OpenComment line)
unfolding comment comment_size
comment_long line level rest found is = rw (opens_at level rest, inside_at level rest, is, level_at 91 level rest refl) refl

no_opening : (text : List ℕ) → (Opens text → ⊥) → opens text ≡ false
no_opening text never = by (opens text) refl
  where
    by : (b : Bool) → opens text ≡ b → b ≡ false
    by true is = absurd (never (opens_so text is))
    by false is = refl

pub short_comment_covers : (line : ℕ) (bytes after text : List ℕ) → bytes ≡ 45 ∷ 45 ∷ text → AllPass no_line_byte text → (Opens (text ++ after) → ⊥)
    → Covers line bytes after None
short_comment_covers line bytes after text is all never =
    let over = run_over no_line_byte text after all in
    rw is (record {
      found = skipped_piece (prefix_len no_line_byte (text ++ after) + 2);
      reads = piece_dashes line (text ++ after) ∙ comment_short line (text ++ after) (no_opening (text ++ after) never);
      least = omega (arith, over);
      same = λ whole. refl;
    })

pub long_comment_covers : (line : ℕ) (bytes after brackets inside : List ℕ) → bytes ≡ 45 ∷ 45 ∷ brackets → IsInBrackets brackets after inside
    → Covers line bytes after None
long_comment_covers line bytes after brackets inside is within =
    let level = within.level in
    let here : piece line (45 ∷ 45 ∷ ((opening level ++ (inside ++ closing level)) ++ after)) ≡ Ok (skipped_piece (length (45 ∷ 45 ∷ (opening level ++ (inside ++ closing level))))) =
    ap (λ t. piece line (45 ∷ 45 ∷ t)) (joined level inside after)
    ∙ piece_dashes line (opening level ++ (inside ++ (closing level ++ after)))
    ∙ comment_long line level (inside ++ (closing level ++ after)) (Some (length inside)) (closing_first level inside after within.first)
    ∙ ap (λ n. Ok (skipped_piece n)) (omega (arith, size_of level inside))
    in
    covers_whole line bytes after None
    (subst (λ b. piece line (b ++ after) ≡ Ok (skipped_piece (length b))) (sym (is ∙ ap (λ b. 45 ∷ 45 ∷ b) within.parts)) here)

pub open_comment_met : (line level : ℕ) (after : List ℕ) → ((before : List ℕ) → Closes level after before → ⊥)
    → piece line (45 ∷ 45 ∷ (opening level ++ after)) ≡ Err (OpenComment line)
open_comment_met line level after never =
    piece_dashes line (opening level ++ after) ∙ comment_long line level after None (closing_none level after never)
