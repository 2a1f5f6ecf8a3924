-- A head by the grammar ends where the bytes have their first empty line after one that is not empty.
use Rattle.std.specs.Prelude.{Bool, true, false, ◌==◌, ◌||◌, ◌&&◌, Option, Some, option_map, suc, zero, if◌then◌else◌, All, flat_map, ◌<◌}
use Rattle.std.proofs.Common.{◌≡◌, ℕ, List, [], ◌∷◌, ◌++◌, ◌+◌, length, refl, sym, ap, ◌∙◌, append_assoc, eqb-true, arith}
use Rattle.std.proofs.lemmas.List.Elements.{All-head, All-tail}
use Rattle.httparse.specs.Grammar.{LineEnd, crlf, lf, print_end, print_blank, print_section, print_field, print_version, Field, IsField, RequestHead, print_request, ReadsRequest, AllPass, is_token_byte, is_value_byte, is_uri_byte}
use Rattle.httparse.proofs.PieceLemmas.{print_field-append}
use Rattle.httparse.proofs.GrammarLemmas.{print_request-append, cons-append}
use Rattle.http_in.specs.Ends.{begins_empty_line, begins_feed, empty_line_size, end_within, head_end}
use Rattle.http_in.proofs.Counts.{request-text}

-- no byte is LF
abbrev pub no_feed : List ℕ → Bool
no_feed [] = true
no_feed (b ∷ bs) = if b == 10 then false else no_feed bs

abbrev pub shift : ℕ → Option ℕ → Option ℕ
shift zero o = o
shift (suc n) o = option_map suc (shift n o)

pub shift-append : (a b : List ℕ) (o : Option ℕ) → shift (length (a ++ b)) o ≡ shift (length a) (shift (length b) o)
shift-append [] b o = refl
shift-append (x ∷ a) b o = ap (option_map suc) (shift-append a b o)

pub shift-some : (n : ℕ) → shift n (Some 0) ≡ Some n
shift-some zero = refl
shift-some (suc n) = ap (option_map suc) (shift-some n)

-- within a line, bytes that aren't LF are passed over
pub within : (xs ys : List ℕ) → no_feed xs ≡ true → end_within (xs ++ ys) ≡ shift (length xs) (end_within ys)
within [] ys h = refl
within (b ∷ xs) ys h = test (b == 10) (within xs ys) h
  where
    test : (f : Bool) → (no_feed xs ≡ true → end_within (xs ++ ys) ≡ shift (length xs) (end_within ys)) → (if f then false else no_feed xs) ≡ true
        → (if f && begins_empty_line (xs ++ ys) then Some (1 + empty_line_size (xs ++ ys)) else option_map suc (end_within (xs ++ ys))) ≡ option_map suc (shift (length xs) (end_within ys))
    test true ih e = absurd (let f : false ≡ true = e in cc)
    test false ih e = ap (option_map suc) (ih e)

-- the end of a line before an empty one is the end
pub last-line : (e last : LineEnd) (rest : List ℕ) → end_within (print_end e ++ (print_end last ++ rest)) ≡ shift (length (print_end e)) (shift (length (print_end last)) (Some 0))
last-line crlf crlf rest = refl
last-line crlf lf rest = refl
last-line lf crlf rest = refl
last-line lf lf rest = refl

-- the end of a line before one that isn't empty is passed over
pub next-line : (e : LineEnd) (ys : List ℕ) → begins_empty_line ys ≡ false → end_within (print_end e ++ ys) ≡ shift (length (print_end e)) (end_within ys)
next-line crlf ys h = rw h refl
next-line lf ys h = rw h refl

-- bytes that pass a test which LF doesn't pass hold no LF
pub passes : (test : ℕ → Bool) → test 10 ≡ false → (xs : List ℕ) → AllPass test xs → no_feed xs ≡ true
passes test fails [] h = refl
passes test fails (b ∷ xs) h = decide (b == 10) refl (passes test fails xs (All-tail (λ v. test v ≡ true) b xs h))
  where
    decide : (f : Bool) → (b == 10) ≡ f → no_feed xs ≡ true → (if f then false else no_feed xs) ≡ true
    decide true e ih = absurd (let w : true ≡ false = sym (All-head (λ v. test v ≡ true) b xs h) ∙ ap test (eqb-true b 10 e) ∙ fails in cc)
    decide false e ih = ih

pub feed-is-no-token : is_token_byte 10 ≡ false
unfolding is_token_byte
feed-is-no-token = refl

pub return-is-no-token : is_token_byte 13 ≡ false
unfolding is_token_byte
return-is-no-token = refl

-- a line that begins with a token isn't empty
pub starts : (word rest : List ℕ) → 0 < length word → AllPass is_token_byte word → begins_empty_line (word ++ rest) ≡ false
starts [] rest some all = absurd (omega arith)
starts (b ∷ word) rest some all = both (b == 10) (b == 13) refl refl
  where
    is : is_token_byte b ≡ true
    is = All-head (λ v. is_token_byte v ≡ true) b word all

    both : (f r : Bool) → (b == 10) ≡ f → (b == 13) ≡ r → (f || (r && begins_feed (word ++ rest))) ≡ false
    both true r e g = absurd (let w : true ≡ false = sym is ∙ ap is_token_byte (eqb-true b 10 e) ∙ feed-is-no-token in cc)
    both false true e g = absurd (let w : true ≡ false = sym is ∙ ap is_token_byte (eqb-true b 13 g) ∙ return-is-no-token in cc)
    both false false e g = refl

-- a field line is passed over up to its end
pub field-line : (f : Field) (ys : List ℕ) → IsField f → end_within (print_field f ++ ys) ≡ shift (length f.name) (option_map suc (shift (length f.raw) (end_within (print_end f.end ++ ys))))
field-line f ys is =
    ap end_within (print_field-append f ys)
    ∙ within f.name _ (passes is_token_byte feed-is-no-token f.name is.name.1)
    ∙ ap (λ o. shift (length f.name) (option_map suc o)) (within f.raw _ (passes is_value_byte refl f.raw is.raw))

pub field-text : (f : Field) → print_field f ≡ f.name ++ 58 ∷ (f.raw ++ print_end f.end)
field-text f = simp (append_assoc, cons-append)

pub field-size : (f : Field) (o : Option ℕ) → shift (length (print_field f)) o ≡ shift (length f.name) (option_map suc (shift (length f.raw) (shift (length (print_end f.end)) o)))
field-size f o =
    ap (λ t. shift (length t) o) (field-text f)
    ∙ shift-append f.name (58 ∷ (f.raw ++ print_end f.end)) o
    ∙ ap (λ p. shift (length f.name) (option_map suc p)) (shift-append f.raw (print_end f.end) o)

-- a section behind the end of a line ends with its empty line
pub section-end : (e : LineEnd) (fs : List Field) (last : LineEnd) (rest : List ℕ) → All IsField fs
    → end_within (print_end e ++ (print_section fs last ++ rest)) ≡ shift (length (print_end e)) (shift (length (print_section fs last)) (Some 0))
section-end e [] last rest all = last-line e last rest
section-end e (f ∷ fs) last rest all =
    ap (λ t. end_within (print_end e ++ t)) grouped
    ∙ next-line e _ (subst-begins (starts f.name _ (All-head IsField f fs all).name.0 (All-head IsField f fs all).name.1))
    ∙ ap (shift (length (print_end e))) (field-line f (print_section fs last ++ rest) (All-head IsField f fs all)
    ∙ ap (λ o. shift (length f.name) (option_map suc (shift (length f.raw) o))) (section-end f.end fs last rest (All-tail IsField f fs all))
    ∙ sym (field-size f (shift (length (print_section fs last)) (Some 0)))
    ∙ sym (shift-append (print_field f) (print_section fs last) (Some 0))
    ∙ ap (λ t. shift (length t) (Some 0)) (sym (append_assoc (print_field f) (flat_map print_field fs) (print_end last))))
  where
    grouped : print_section (f ∷ fs) last ++ rest ≡ print_field f ++ (print_section fs last ++ rest)
    grouped = ap (λ (t : List ℕ). t ++ rest) (append_assoc (print_field f) (flat_map print_field fs) (print_end last)) ∙ append_assoc (print_field f) (flat_map print_field fs ++ print_end last) rest

    subst-begins : begins_empty_line (f.name ++ 58 ∷ (f.raw ++ (print_end f.end ++ (print_section fs last ++ rest)))) ≡ false → begins_empty_line (print_field f ++ (print_section fs last ++ rest)) ≡ false
    subst-begins h = ap begins_empty_line (print_field-append f (print_section fs last ++ rest)) ∙ h

-- the empty lines in front
pub blank-lines : (ends : List LineEnd) (ys : List ℕ) → head_end (print_blank ends ++ ys) ≡ shift (length (print_blank ends)) (head_end ys)
blank-lines [] ys = refl
blank-lines (crlf ∷ ends) ys = ap (λ o. option_map suc (option_map suc o)) (blank-lines ends ys)
blank-lines (lf ∷ ends) ys = ap (option_map suc) (blank-lines ends ys)

pub not-blank : (ys : List ℕ) → begins_empty_line ys ≡ false → head_end ys ≡ end_within ys
not-blank [] h = refl
not-blank (b ∷ bs) h = rw h refl

pub version-digit : (m : ℕ) → no_feed ((48 + m) ∷ []) ≡ true
version-digit m = decide (48 + m == 10) refl
  where
    decide : (f : Bool) → (48 + m == 10) ≡ f → (if f then false else true) ≡ true
    decide true e = absurd (let w : 48 + m ≡ 10 = eqb-true (48 + m) 10 e in omega (arith, w))
    decide false e = refl

pub start-line : (h : RequestHead) (ys : List ℕ) → AllPass is_token_byte h.method → AllPass is_uri_byte h.target
    → end_within (h.method ++ 32 ∷ (h.target ++ 32 ∷ (print_version h.minor ++ ys)))
    ≡ shift (length h.method) (option_map suc (shift (length h.target) (option_map suc (shift (length (print_version h.minor)) (end_within ys)))))
start-line h ys m t =
    within h.method _ (passes is_token_byte feed-is-no-token h.method m)
    ∙ ap (λ o. shift (length h.method) (option_map suc o))
    (within h.target _ (passes is_uri_byte refl h.target t)
    ∙ ap (λ o. shift (length h.target) (option_map suc o)) (within (print_version h.minor) ys (version-digit h.minor)))

pub request-size : (h : RequestHead) → shift (length (print_request h)) (Some 0)
    ≡ shift (length (print_blank h.blank)) (shift (length h.method) (option_map suc (shift (length h.target) (option_map suc (shift (length (print_version h.minor))
    (shift (length (print_end h.line_end)) (shift (length (print_section h.fields h.last)) (Some 0))))))))
request-size h =
    ap (λ t. shift (length t) (Some 0)) (request-text h)
    ∙ shift-append (print_blank h.blank) (h.method ++ 32 ∷ (h.target ++ 32 ∷ (print_version h.minor ++ (print_end h.line_end ++ print_section h.fields h.last)))) (Some 0)
    ∙ ap (shift (length (print_blank h.blank))) (shift-append h.method (32 ∷ (h.target ++ 32 ∷ (print_version h.minor ++ (print_end h.line_end ++ print_section h.fields h.last)))) (Some 0)
    ∙ ap (λ o. shift (length h.method) (option_map suc o)) (shift-append h.target (32 ∷ (print_version h.minor ++ (print_end h.line_end ++ print_section h.fields h.last))) (Some 0)
    ∙ ap (λ o. shift (length h.target) (option_map suc o)) (shift-append (print_version h.minor) (print_end h.line_end ++ print_section h.fields h.last) (Some 0)
    ∙ ap (shift (length (print_version h.minor))) (shift-append (print_end h.line_end) (print_section h.fields h.last) (Some 0)))))

pub tree-end : (bytes : List ℕ) (h : RequestHead) (rest : List ℕ) → ReadsRequest bytes h rest → head_end bytes ≡ Some (length (print_request h))
tree-end bytes h rest x =
    ap head_end (x.1 ∙ print_request-append h rest)
    ∙ blank-lines h.blank _
    ∙ ap (shift (length (print_blank h.blank)))
    (not-blank (h.method ++ (32 ∷ (h.target ++ (32 ∷ (print_version h.minor ++ (print_end h.line_end ++ (print_section h.fields h.last ++ rest))))))) (starts h.method (32 ∷ (h.target ++ (32 ∷ (print_version h.minor ++ (print_end h.line_end ++ (print_section h.fields h.last ++ rest)))))) x.0.method.0 x.0.method.1)
    ∙ start-line h (print_end h.line_end ++ (print_section h.fields h.last ++ rest)) x.0.method.1 x.0.target.1
    ∙ ap (λ o. shift (length h.method) (option_map suc (shift (length h.target) (option_map suc (shift (length (print_version h.minor)) o)))))
    (section-end h.line_end h.fields h.last rest x.0.fields))
    ∙ sym (request-size h)
    ∙ shift-some (length (print_request h))
