-- How many lines of a text aren't empty: at least as many as a head has fields.
use Rattle.std.specs.Prelude.{Bool, true, false, not, ◌==◌, ◌&&◌, if◌then◌else◌, flat_map}
use Rattle.std.proofs.Common.{◌≡◌, ℕ, ◌+◌, ◌≤◌, List, [], ◌∷◌, ◌++◌, length, refl, ap, subst, ◌∙◌, append_assoc, arith}
use Rattle.resty_base.specs.Ascii.{line_feed}
use Rattle.http_base.specs.Splitting.{before, after, onto_first, split, later_pieces}
use Rattle.http_base.proofs.Pieces.{split_first}
use Rattle.httparse.specs.Grammar.{LineEnd, crlf, lf, print_end, print_blank, print_section, print_field, print_version, Field, RequestHead, print_request}
use Rattle.httparse.proofs.PieceLemmas.{print_field-append}
use Rattle.httparse.proofs.GrammarLemmas.{cons-append}
use Rattle.http_in.specs.Lines.{is_empty_line, without_empty, full_lines}

abbrev pub count : List ℕ → ℕ
count text = length (full_lines text)

-- ---- one line after the other

keeps_full : (line : List ℕ) (lines : List (List ℕ)) → is_empty_line line ≡ false → without_empty (line ∷ lines) ≡ line ∷ without_empty lines
keeps_full line lines e = rw e refl

drops_empty : (line : List ℕ) (lines : List (List ℕ)) → is_empty_line line ≡ true → without_empty (line ∷ lines) ≡ without_empty lines
drops_empty line lines e = rw e refl

pub kept_full : (text : List ℕ) → is_empty_line (before line_feed text) ≡ false
    → full_lines text ≡ before line_feed text ∷ without_empty (later_pieces line_feed (after line_feed text))
kept_full text e = ap without_empty (split_first line_feed text) ∙ keeps_full (before line_feed text) (later_pieces line_feed (after line_feed text)) e

pub kept_empty : (text : List ℕ) → is_empty_line (before line_feed text) ≡ true → full_lines text ≡ without_empty (later_pieces line_feed (after line_feed text))
kept_empty text e = ap without_empty (split_first line_feed text) ∙ drops_empty (before line_feed text) (later_pieces line_feed (after line_feed text)) e

-- ---- there are no more lines than bytes, but for one

length-split : (s : ℕ) (text : List ℕ) → length (split s text) ≤ length text + 1
length-split s [] = omega arith
length-split s (b ∷ text) = test (b == s) (length-split s text)
  where
    test : (f : Bool) → length (split s text) ≤ length text + 1 → length (if f then [] ∷ split s text else onto_first b (split s text)) ≤ length (b ∷ text) + 1
    test true h = omega arith
    test false h = elim (split s text) as (λ ls. length ls ≤ length text + 1 → length (onto_first b ls) ≤ length (b ∷ text) + 1) [
      | [] ↦ λ k. omega arith
      | line ∷ lines ↦ λ k. omega arith
    ] h

length-without_empty : (lines : List (List ℕ)) → length (without_empty lines) ≤ length lines
length-without_empty [] = omega arith
length-without_empty (line ∷ lines) = test (is_empty_line line) (length-without_empty lines)
  where
    test : (f : Bool) → length (without_empty lines) ≤ length lines → length (if not f then line ∷ without_empty lines else without_empty lines) ≤ length (line ∷ lines)
    test true h = omega arith
    test false h = omega arith

pub count-bound : (text : List ℕ) → count text ≤ length text + 1
count-bound text = omega (arith, length-without_empty (split line_feed text), length-split line_feed text)

-- ---- a byte in front makes them no fewer

abbrev tail : List (List ℕ) → List (List ℕ)
tail [] = []
tail (line ∷ lines) = lines

-- how many of the lines after the first aren't empty
abbrev count_rest : List ℕ → ℕ
count_rest text = length (without_empty (tail (split line_feed text)))

onto_counts : (b : ℕ) (lines : List (List ℕ)) → length (without_empty lines) ≤ length (without_empty (onto_first b lines))
onto_counts b [] = omega arith
onto_counts b ([] ∷ lines) = test (b == 13)
  where
    test : (r : Bool) → length (without_empty lines) ≤ length (if not (r && true) then (b ∷ []) ∷ without_empty lines else without_empty lines)
    test true = omega arith
    test false = omega arith
onto_counts b ((x ∷ line) ∷ lines) = test (b == 13) (is_empty_line (x ∷ line))
  where
    test : (r e : Bool) → length (if not e then (x ∷ line) ∷ without_empty lines else without_empty lines) ≤ length (if not (r && false) then (b ∷ x ∷ line) ∷ without_empty lines else without_empty lines)
    test true true = omega arith
    test true false = omega arith
    test false true = omega arith
    test false false = omega arith

pub count-cons : (b : ℕ) (text : List ℕ) → count text ≤ count (b ∷ text)
count-cons b text = test (b == 10)
  where
    test : (f : Bool) → count text ≤ length (without_empty (if f then [] ∷ split line_feed text else onto_first b (split line_feed text)))
    test true = omega arith
    test false = onto_counts b (split line_feed text)

pub count-append : (xs ys : List ℕ) → count ys ≤ count (xs ++ ys)
count-append [] ys = omega arith
count-append (x ∷ xs) ys = omega (arith, count-append xs ys, count-cons x (xs ++ ys))

tail-onto : (b : ℕ) (lines : List (List ℕ)) → tail (onto_first b lines) ≡ tail lines
tail-onto b [] = refl
tail-onto b (line ∷ lines) = refl

-- all lines after an end of a line count
rest-counts : (xs ys : List ℕ) → count ys ≤ count_rest (xs ++ 10 ∷ ys)
rest-counts [] ys = omega arith
rest-counts (x ∷ xs) ys = test (x == 10) (rest-counts xs ys)
  where
    test : (f : Bool) → count ys ≤ count_rest (xs ++ 10 ∷ ys) → count ys ≤ length (without_empty (tail (if f then [] ∷ split line_feed (xs ++ 10 ∷ ys) else onto_first x (split line_feed (xs ++ 10 ∷ ys)))))
    test true h = omega (arith, count-append xs (10 ∷ ys), count-cons 10 ys)
    test false h = rw tail-onto h

-- a line that begins with a colon counts
colon-counts : (text : List ℕ) → count (58 ∷ text) ≡ 1 + count_rest text
colon-counts text = test (split line_feed text)
  where
    test : (lines : List (List ℕ)) → length (without_empty (onto_first 58 lines)) ≡ 1 + length (without_empty (tail lines))
    test [] = refl
    test (line ∷ lines) = omega arith

-- ---- fields are lines

field-counts : (f : Field) (ys : List ℕ) → 1 + count ys ≤ count (print_field f ++ ys)
field-counts f ys =
    rw (print_field-append f ys) (omega (arith, count-append f.name (58 ∷ (f.raw ++ (print_end f.end ++ ys))), colon-counts (f.raw ++ (print_end f.end ++ ys)), ended f.end))
  where
    ended : (e : LineEnd) → count ys ≤ count_rest (f.raw ++ (print_end e ++ ys))
    ended crlf = subst (λ (t : List ℕ). count ys ≤ count_rest t) (append_assoc f.raw (13 ∷ []) (10 ∷ ys)) (rest-counts (f.raw ++ 13 ∷ []) ys)
    ended lf = rest-counts f.raw ys

section-counts : (fs : List Field) (last : LineEnd) → length fs ≤ count (print_section fs last)
section-counts [] last = omega arith
section-counts (f ∷ fs) last =
    rw (append_assoc (print_field f) (flat_map print_field fs) (print_end last)) (omega (arith, field-counts f (print_section fs last), section-counts fs last))

pub request-text : (h : RequestHead) → print_request h
    ≡ print_blank h.blank ++ (h.method ++ 32 ∷ (h.target ++ 32 ∷ (print_version h.minor ++ (print_end h.line_end ++ print_section h.fields h.last))))
unfolding print_request
request-text h = regroup (print_blank h.blank) h.method h.target (print_version h.minor) (print_end h.line_end) (print_section h.fields h.last)
  where
    regroup : (a b c d e f : List ℕ) → a ++ b ++ 32 ∷ c ++ 32 ∷ d ++ e ++ f ≡ a ++ (b ++ 32 ∷ (c ++ 32 ∷ (d ++ (e ++ f))))
    regroup a b c d e f = simp (append_assoc, cons-append)

in_front : (a b c d e f : List ℕ) → count f ≤ count (a ++ (b ++ 32 ∷ (c ++ 32 ∷ (d ++ (e ++ f)))))
in_front a b c d e f =
    omega (
      arith,
      count-append a (b ++ 32 ∷ (c ++ 32 ∷ (d ++ (e ++ f)))),
      count-append b (32 ∷ (c ++ 32 ∷ (d ++ (e ++ f)))),
      count-cons 32 (c ++ 32 ∷ (d ++ (e ++ f))),
      count-append c (32 ∷ (d ++ (e ++ f))),
      count-cons 32 (d ++ (e ++ f)),
      count-append d (e ++ f),
      count-append e f,
    )

-- a head has no more fields than lines that aren't empty
pub fields-counted : (h : RequestHead) → length h.fields ≤ count (print_request h)
fields-counted h =
    rw (request-text h) (omega (
      arith,
      section-counts h.fields h.last,
      in_front (print_blank h.blank) h.method h.target (print_version h.minor) (print_end h.line_end) (print_section h.fields h.last),
    ))
