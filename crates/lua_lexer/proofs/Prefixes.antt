-- What stands at the front of a text is the same where a closing brace follows the text.
use Rattle.std.proofs.Common.{◌≡◌, ℕ, zero, suc, ◌+◌, ◌*◌, ◌<◌, ◌≤◌, Bool, true, false, cond, List, [], ◌∷◌, ◌++◌, length, get_or, drop, Option, Some, None, refl, ap, sym, ◌∙◌, arith, lit<, add-one, length-drop, length-append}
use Rattle.std.specs.Prelude.{◌==◌, ◌&&◌, ◌||◌, option_map, not}
use Rattle.std.specs.List.{prefix_len}
use Rattle.std.proofs.lemmas.Bool.{eqb-true, and_parts}
use Rattle.std.proofs.lemmas.List.{drop-append-le}
use Rattle.std.proofs.lemmas.List.Sums.{prefix_len-le-length}
use Rattle.lua_lexer.specs.Characters.{is_line_byte, line_end}
use Rattle.lua_lexer.specs.Brackets.{level_of, is_bracket, opens, closes, before_closing, inside_len, long_size}
use Rattle.lua_lexer.specs.Comments.{is_comment}
use Rattle.lua_lexer.specs.Strings.{taken_along, body_after}

-- one byte, at the latest the one after the text
look : (b : ℕ) → (125 == b) ≡ false → (0 == b) ≡ false → (ys zs : List ℕ) (i : ℕ) → i ≤ length ys
    → (get_or (ys ++ 125 ∷ zs) i 0 == b) ≡ (get_or ys i 0 == b)
look b brace none [] zs zero within = brace ∙ sym none
look b brace none [] zs (suc i) within = absurd (omega arith)
look b brace none (y ∷ ys) zs zero within = refl
look b brace none (y ∷ ys) zs (suc i) within = look b brace none ys zs i (omega arith)

-- a byte that isn't 0 stands within the text
pub in_range : (xs : List ℕ) (i b : ℕ) → 0 < b → (get_or xs i 0 == b) ≡ true → i < length xs
in_range [] i b some same = let none = eqb-true 0 b same in absurd (omega (arith, none))
in_range (x ∷ xs) zero b some same = omega arith
in_range (x ∷ xs) (suc i) b some same = let more = in_range xs i b some same in omega (arith, more)

pub run_stop : (p : ℕ → Bool) → p 125 ≡ false → (xs zs : List ℕ) → prefix_len p (xs ++ 125 ∷ zs) ≡ prefix_len p xs
run_stop p stops [] zs = rw stops refl
run_stop p stops (x ∷ xs) zs = ap (λ n. cond (p x) (1 + n) 0) (run_stop p stops xs zs)

pub comment_same : (ys zs : List ℕ) → 0 < length ys → is_comment (ys ++ 125 ∷ zs) ≡ is_comment ys
unfolding is_comment
comment_same ys zs some = rw (look 45 refl refl ys zs 0 (omega arith), look 45 refl refl ys zs 1 (omega arith)) refl

pub level_same : (ys zs : List ℕ) → 0 < length ys → level_of (ys ++ 125 ∷ zs) ≡ level_of ys
unfolding level_of
level_same [] zs some = absurd (omega arith)
level_same (c ∷ cs) zs some = run_stop (λ d. d == 61) refl cs zs

level_within : (ys : List ℕ) → 0 < length ys → level_of ys + 1 ≤ length ys
unfolding level_of
level_within [] some = absurd (omega arith)
level_within (c ∷ cs) some = omega (arith, prefix_len-le-length (λ d. d == 61) cs)

bracket_same : (b : ℕ) → (125 == b) ≡ false → (0 == b) ≡ false → (ys zs : List ℕ) → 0 < length ys
    → is_bracket b (ys ++ 125 ∷ zs) ≡ is_bracket b ys
unfolding is_bracket
bracket_same b brace none ys zs some =
    rw (level_same ys zs some, look b brace none ys zs 0 (omega arith), look b brace none ys zs (level_of ys + 1) (level_within ys some)) refl

pub opens_same : (ys zs : List ℕ) → opens (ys ++ 125 ∷ zs) ≡ opens ys
unfolding is_bracket
opens_same [] zs = refl
opens_same (c ∷ cs) zs = bracket_same 91 refl refl (c ∷ cs) zs (omega arith)

closes_same : (level : ℕ) (ys zs : List ℕ) → 0 < length ys → closes level (ys ++ 125 ∷ zs) ≡ closes level ys
unfolding closes
closes_same level ys zs some = rw (bracket_same 93 refl refl ys zs some, level_same ys zs some) refl

before_case : (b : Bool) (here there : Option ℕ) (k : ℕ) → cond b (Some 0) (option_map (λ n. n + 1) here) ≡ Some k
    → ((j : ℕ) → here ≡ Some j → there ≡ Some j) → cond b (Some 0) (option_map (λ n. n + 1) there) ≡ Some k
before_case true here there k found more = found
before_case false None there k found more = absurd (cc)
before_case false (Some j) there k found more = rw (more j refl) found

before_same : (level : ℕ) (ys zs : List ℕ) (k : ℕ) → before_closing level ys ≡ Some k → before_closing level (ys ++ 125 ∷ zs) ≡ Some k
unfolding before_closing
before_same level [] zs k found = absurd (cc)
before_same level (c ∷ cs) zs k found =
    rw (closes_same level (c ∷ cs) zs (omega arith))
    (before_case (closes level (c ∷ cs)) (before_closing level cs) (before_closing level (cs ++ 125 ∷ zs)) k found (λ j same. before_same level cs zs j same))

bracket_within : (b : ℕ) (ys : List ℕ) → 0 < b → is_bracket b ys ≡ true → level_of ys + 2 ≤ length ys
unfolding is_bracket
bracket_within b ys some here =
    let second = in_range ys (level_of ys + 1) b some (and_parts (get_or ys 0 0 == b) (get_or ys (level_of ys + 1) 0 == b) here).1 in
    omega (arith, second)

closes_within : (level : ℕ) (ys : List ℕ) → closes level ys ≡ true → level + 2 ≤ length ys
unfolding closes
closes_within level ys here =
    let parts = and_parts (is_bracket 93 ys) (level_of ys == level) here in
    omega (arith, bracket_within 93 ys (lit< tt) parts.0, eqb-true (level_of ys) level parts.1)

within_case : (b : Bool) (here : Option ℕ) (k level len : ℕ) → cond b (Some 0) (option_map (λ n. n + 1) here) ≡ Some k
    → (b ≡ true → level + 2 ≤ suc len) → ((j : ℕ) → here ≡ Some j → j + level + 2 ≤ len) → k + level + 2 ≤ suc len
within_case true here k level len found now more = let same : 0 ≡ k = cc in omega (arith, same, now refl)
within_case false None k level len found now more = absurd (cc)
within_case false (Some j) k level len found now more = let same : j + 1 ≡ k = cc in omega (arith, same, more j refl)

before_within : (level : ℕ) (ys : List ℕ) (k : ℕ) → before_closing level ys ≡ Some k → k + level + 2 ≤ length ys
unfolding before_closing
before_within level [] k found = absurd (cc)
before_within level (c ∷ cs) k found =
    within_case (closes level (c ∷ cs)) (before_closing level cs) k level (length cs) found (closes_within level (c ∷ cs)) (λ j same. before_within level cs j same)

-- long brackets that are closed within the text
pub record IsClosedAlike (ys zs : List ℕ) (k : ℕ) : Type 0 where
  pub len : inside_len (ys ++ 125 ∷ zs) ≡ Some k
  pub size : long_size (ys ++ 125 ∷ zs) k ≡ long_size ys k
  pub within : long_size ys k ≤ length ys

pub inside_same : (ys zs : List ℕ) (k : ℕ) → opens ys ≡ true → inside_len ys ≡ Some k → IsClosedAlike ys zs k
unfolding inside_len
inside_same ys zs k opened found =
    let bracket = bracket_within 91 ys (lit< tt) opened in
    let some : 0 < length ys = omega (arith, bracket) in
    let level = level_same ys zs some in
    let within = before_within (level_of ys) (drop (level_of ys + 2) ys) k found in
    record {
      len = rw (level, drop-append-le (level_of ys + 2) ys (125 ∷ zs) bracket) (before_same (level_of ys) (drop (level_of ys + 2) ys) zs k found);
      size = ap (λ n. k + 2 * (n + 2)) level;
      within = omega (arith, within, bracket, length-drop (level_of ys + 2) ys);
    }

line_end_same : (cs zs : List ℕ) → 0 < length cs → line_end (cs ++ 125 ∷ zs) ≡ line_end cs
unfolding line_end
line_end_same [] zs some = absurd (omega arith)
line_end_same (d ∷ []) zs some = refl
line_end_same (d ∷ e ∷ es) zs some = refl

pub line_end_within : (cs : List ℕ) → line_end cs ≤ length cs
unfolding line_end
line_end_within [] = omega arith
line_end_within (d ∷ []) = by (is_line_byte d)
  where
    by : (b : Bool) → cond b 1 0 ≤ 1
    by true = omega arith
    by false = omega arith
line_end_within (d ∷ e ∷ es) = by (is_line_byte d) (is_line_byte e && not (d == e))
  where
    by : (b c : Bool) → cond b (cond c 2 1) 0 ≤ length (d ∷ e ∷ es)
    by true true = omega arith
    by true false = omega arith
    by false c = omega arith

taken_same : (c : ℕ) (cs zs : List ℕ) → 0 < length cs → taken_along c (cs ++ 125 ∷ zs) ≡ taken_along c cs
unfolding taken_along
taken_same c cs zs some =
    let ends = line_end_same cs zs some in
    let within = line_end_within cs in
    rw ends (ap (λ n. cond (c == 92) n 0) (omega (arith, within, length-append cs (125 ∷ zs))))

get_next : (c n : ℕ) (cs : List ℕ) → get_or (c ∷ cs) (n + 1) 0 ≡ get_or cs n 0
get_next c n cs = rw add-one refl

none_there : (quote : ℕ) → 0 < quote → (0 == quote) ≡ true → ⊥
none_there quote some same = let none = eqb-true 0 quote same in omega (arith, none)

-- a short string that is closed within the text
pub body_same : (quote k : ℕ) (ys zs : List ℕ) → 0 < quote → (get_or ys (body_after quote k ys) 0 == quote) ≡ true
    → body_after quote k (ys ++ 125 ∷ zs) ≡ body_after quote k ys
unfolding body_after
body_same quote zero [] zs some closed = absurd (none_there quote some closed)
body_same quote (suc k) [] zs some closed = absurd (none_there quote some closed)
body_same quote (suc k) (c ∷ cs) zs some closed =
    ap (λ n. n + 1) (body_same quote k cs zs some (sym (ap (λ d. d == quote) (get_next c (body_after quote k cs) cs)) ∙ closed))
body_same quote zero (c ∷ []) zs some closed = by (c == quote || is_line_byte c) closed
  where
    by : (b : Bool) → (get_or (c ∷ []) (cond b 0 1) 0 == quote) ≡ true
        → cond b 0 (body_after quote (taken_along c (125 ∷ zs)) (125 ∷ zs) + 1) ≡ cond b 0 1
    by true at = refl
    by false at = absurd (none_there quote some at)
body_same quote zero (c ∷ d ∷ ds) zs some closed =
    let same = taken_same c (d ∷ ds) zs (omega arith) in
    let more = body_same quote (taken_along c (d ∷ ds)) (d ∷ ds) zs some in
    rw same (by (c == quote || is_line_byte c) (body_after quote (taken_along c (d ∷ ds)) (d ∷ ds ++ 125 ∷ zs)) (body_after quote (taken_along c (d ∷ ds)) (d ∷ ds)) closed more)
  where
    by : (b : Bool) (there here : ℕ) → (get_or (c ∷ d ∷ ds) (cond b 0 (here + 1)) 0 == quote) ≡ true
        → ((get_or (d ∷ ds) here 0 == quote) ≡ true → there ≡ here) → cond b 0 (there + 1) ≡ cond b 0 (here + 1)
    by true there here at more = refl
    by false there here at more = ap (λ n. n + 1) (more (sym (ap (λ e. e == quote) (get_next c here (d ∷ ds))) ∙ at))
