-- What the program's set of bytes escapes, and that unescaping undoes it.
use Rattle.std.proofs.Common.{◌≡◌, ℕ, zero, suc, ◌<◌, ◌≤◌, Bool, true, false, cond, List, [], ◌∷◌, ◌++◌, map, All, sym, refl, ap, subst, ◌∙◌, ⊎_elim, arith}
use Rattle.std.specs.Prelude.{not, ◌&&◌}
use Rattle.std.proofs.lemmas.Bool.{cond-true, cond-false, cases_Bool, cases_eq, cases_lt, ne_eqb, and_parts, both_ways}
use Rattle.std.proofs.lemmas.Bool.Decides.{nat_tests}
use Rattle.std.proofs.lemmas.List.Folds.{map_fixed}
use Rattle.percent_encoding.specs.declared.ascii_set.AsciiSet.{AsciiSet}
use Rattle.percent_encoding.specs.AsciiSet.{should_percent_encode}
use Rattle.percent_encoding.specs.Percent.{percent_encode_byte, percent_encode, percent_decode}
use Rattle.percent_encoding.proofs.AsciiSetLemmas.{ascii_from_kept}
use Rattle.percent_encoding.proofs.PercentLemmas.{IsByte, IsEscapeByte, percent_encode-nil, percent_encode_escaped, percent_encode_kept, All-percent_encode, round_trip}
use Rattle.uri_args.specs.Escapes.{is_unreserved, escape, plus_to_space, unescape}

-- the program's set, a bit a byte
abbrev pub escaped_set : AsciiSet
escaped_set = record { mask = 244577951340790884343731678625228914687 }

-- the set has the byte exactly where it isn't unreserved
abbrev agrees : ℕ → Bool
agrees b = cond (is_unreserved b) (not (should_percent_encode escaped_set b)) (should_percent_encode escaped_set b)

abbrev all_below : ℕ → Bool
all_below zero = true
all_below (suc n) = agrees n && all_below n

from_below : (n b : ℕ) → all_below n ≡ true → b < n → agrees b ≡ true
from_below zero b all within = absurd (omega arith)
from_below (suc n) b all within =
    let parts = and_parts (agrees n) (all_below n) all in
    ⊎_elim
    (λ same. subst (λ x. agrees x ≡ true) (sym same) parts.0)
    (λ other. from_below n b parts.1 (omega (arith, other)))
    (cases_eq b n)

ascii_agrees : all_below 128 ≡ true
unfolding should_percent_encode
ascii_agrees = refl

opposite : (u s : Bool) → cond u (not s) s ≡ true → s ≡ not u
opposite true true is = sym is
opposite true false is = refl
opposite false true is = refl
opposite false false is = is

-- no byte after ASCII is unreserved
reserved_after_ascii : (b : ℕ) → 128 ≤ b → is_unreserved b ≡ false
reserved_after_ascii b after = grind (arith, nat_tests)

escaped_after_ascii : (b : ℕ) → 128 ≤ b → should_percent_encode escaped_set b ≡ true
escaped_after_ascii b after =
    ⊎_elim (λ e. e) (λ e. absurd (let small = ascii_from_kept escaped_set b e in omega (arith, small))) (cases_Bool (should_percent_encode escaped_set b))

pub escaped_is : (b : ℕ) → should_percent_encode escaped_set b ≡ not (is_unreserved b)
escaped_is b =
    ⊎_elim
    (λ small. opposite (is_unreserved b) (should_percent_encode escaped_set b) (from_below 128 b ascii_agrees small))
    (λ after. escaped_after_ascii b after ∙ sym (ap not (reserved_after_ascii b after)))
    (cases_lt b 128)

unreserved_from : (u s : Bool) → s ≡ not u → s ≡ false → u ≡ true
unreserved_from true s is kept = refl
unreserved_from false s is kept = sym kept ∙ is

reserved_from : (u s : Bool) → s ≡ not u → s ≡ true → u ≡ false
reserved_from true s is escaped = sym escaped ∙ is
reserved_from false s is escaped = refl

-- the kit's escaping by this set is the definition's
pub escape_is : (text : List ℕ) → percent_encode escaped_set text ≡ escape text
escape_is [] = percent_encode-nil escaped_set
escape_is (b ∷ text) =
    ⊎_elim
    (λ e. percent_encode_escaped escaped_set b text e ∙ ap (λ x. percent_encode_byte b ++ x) (escape_is text)
    ∙ sym (ap (λ x. x ++ escape text) (cond-false _ _ _ (reserved_from (is_unreserved b) _ (escaped_is b) e))))
    (λ e. percent_encode_kept escaped_set b text e ∙ ap (λ x. b ∷ x) (escape_is text)
    ∙ sym (ap (λ x. x ++ escape text) (cond-true _ _ _ (unreserved_from (is_unreserved b) _ (escaped_is b) e))))
    (cases_Bool (should_percent_encode escaped_set b))

escaped_plus : should_percent_encode escaped_set 43 ≡ true
unfolding should_percent_encode
escaped_plus = refl

-- neither a byte that is kept nor one of an escape is `+`
kept_stays : (b : ℕ) → should_percent_encode escaped_set b ≡ false → plus_to_space b ≡ b
kept_stays b kept =
    ⊎_elim
    (λ same. absurd (both_ways _ kept (ap (should_percent_encode escaped_set) same ∙ escaped_plus)))
    (λ other. cond-false _ _ _ (ne_eqb b 43 other))
    (cases_eq b 43)

escape_stays : (b : ℕ) → IsEscapeByte b → plus_to_space b ≡ b
escape_stays b is = cond-false _ _ _ (ne_eqb b 43 (λ same. grind arith))

pub unescape-escape : (text : List ℕ) → All IsByte text → unescape (escape text) ≡ text
unescape-escape text small =
    let bytes = percent_encode escaped_set text in
    let plain : map plus_to_space bytes ≡ bytes = map_fixed plus_to_space bytes (All-percent_encode (λ b. plus_to_space b ≡ b) escaped_set text kept_stays escape_stays) in
    ap unescape (sym (escape_is text)) ∙ ap percent_decode plain ∙ round_trip escaped_set text refl small
