-- There is one answer to the bytes that came, and it stays.
use Rattle.std.specs.Prelude.{Bool, true, false, ◌||◌, MatchBool, Option, Some, None, MatchOption, nat_lt, Ok, Err, if◌then◌else◌}
use Rattle.std.proofs.Common.{◌≡◌, ◌≢◌, ℕ, ◌-◌, ◌<◌, ◌≤◌, List, [], ◌∷◌, ◌++◌, length, map, take, drop, refl, sym, ap, subst, ◌∙◌, append_assoc, length-append, arith, inl, inr}
use Rattle.std.proofs.lemmas.List.{take-append-drop, take-append-le, drop-append-le, take_all, append-nil}
use Rattle.std.proofs.Math.Seq.{take-append_seam}
use Rattle.std.proofs.lemmas.Bool.{ltb-false, le-ltb, lt-ltb}
use Rattle.httparse.specs.Grammar.{Field, RequestHead, print_request, ReadsRequest, HasNoRequest}
use Rattle.httparse.proofs.GrammarLemmas.{request_unique}
use Rattle.http_in.specs.declared.heads.HeadRead.{HeadRead}
use Rattle.http_in.specs.declared.heads.HeadRead.TheVariants.{Whole, More, Refused}
use Rattle.http_in.specs.Ends.{head_end}
use Rattle.http_in.specs.Lines.{full_lines, first_line, without_return, has_other_version}
use Rattle.http_in.specs.Heads.{head_limit, has_too_many_lines, Parts, pair_of, parts_of, head_from, answer_of, ReadsTree, ReadsHead, unfinished, Reads}
use Rattle.http_in.proofs.Scans.{head_end-append_some, head_end-later, head_end-bound, head_end-take}
use Rattle.http_in.proofs.HeadEnds.{tree-end}
use Rattle.http_in.proofs.Counts.{count, fields-counted}
use Rattle.http_in.specs.Framing.{framing}
use Rattle.http_in.specs.Options.{has_bad_host}
use Rattle.http_in.specs.Standing.{pair_at}
use Rattle.http_in.specs.declared.framing.BodyKind.{BodyKind}
use Rattle.httparse.specs.Spans.{RequestOverflows, header_bytes, name_and_value}
use Rattle.httparse.specs.declared.spans.HeaderSpan.{HeaderSpan}
use Rattle.resty_base.specs.declared.names.Pair2.{Pair2}
use Rattle.std.proofs.lemmas.Simd.{map-map}

-- ---- one answer

one-tree : (bytes : List ℕ) (n : ℕ) (x y : HeadRead) → ReadsTree bytes n x → ReadsTree bytes n y → x ≡ y
one-tree bytes n x y a b =
    elim a [
      | inl t ↦ elim b [
        | inl u ↦ t.2 ∙ ap (λ h. answer_of (parts_of h) n) (request_unique bytes t.0 u.0 _ _ t.1 u.1).0 ∙ sym u.2
        | inr u ↦ absurd (u.0 t.0 _ t.1)
      ]
      | inr t ↦ elim b [
        | inl u ↦ absurd (t.0 u.0 _ u.1)
        | inr u ↦ t.1 ∙ sym u.1
      ]
    ]

one-of : (b : Bool) (P Q : HeadRead → Type 0) (x y : HeadRead) → (P x → P y → x ≡ y) → (Q x → Q y → x ≡ y) → MatchBool b (P x) (Q x) → MatchBool b (P y) (Q y) → x ≡ y
one-of true P Q x y p q a b = p a b
one-of false P Q x y p q a b = q a b

one-head : (bytes : List ℕ) (n : ℕ) (x y : HeadRead) → ReadsHead bytes n x → ReadsHead bytes n y → x ≡ y
one-head bytes n x y a b =
    let lines = full_lines (take n bytes) in
    one-of (nat_lt head_limit n || has_too_many_lines lines) (λ z. z ≡ Refused 431)
    (λ z. MatchBool (has_other_version (without_return (first_line lines))) (z ≡ Refused 505) (ReadsTree bytes n z)) x y
    (λ p q. p ∙ sym q)
    (λ c d. one-of (has_other_version (without_return (first_line lines))) (λ z. z ≡ Refused 505) (λ z. ReadsTree bytes n z) x y (λ p q. p ∙ sym q) (one-tree bytes n x y) c d) a b

pub one-answer : (bytes : List ℕ) (x y : HeadRead) → Reads bytes x → Reads bytes y → x ≡ y
one-answer bytes x y = from (head_end bytes)
  where
    from : (o : Option ℕ) → MatchOption o (x ≡ unfinished (length bytes)) (λ n. ReadsHead bytes n x) → MatchOption o (y ≡ unfinished (length bytes)) (λ n. ReadsHead bytes n y) → x ≡ y
    from None a b = a ∙ sym b
    from (Some n) a b = one-head bytes n x y a b

-- ---- the answer stays

-- what follows a head is no part of its tree
tree-stays : (bytes more : List ℕ) (n : ℕ) (x : HeadRead) → head_end bytes ≡ Some n → ReadsTree bytes n x → ReadsTree (bytes ++ more) n x
tree-stays bytes more n x ends a =
    let within : n ≤ length bytes = head_end-bound bytes n ends in
    elim a [
      | inl t ↦ inl (t.0, (t.1.0, ap (λ (b : List ℕ). b ++ more) t.1.1 ∙ append_assoc (print_request t.0) (drop n bytes) more ∙ ap (λ (r : List ℕ). print_request t.0 ++ r) (sym (drop-append-le n bytes more within))), t.2)
      | inr t ↦ inr (λ h rest y. t.0 h (drop n bytes) (y.0, cut h rest y within), t.1)
    ]
  where
    cut : (h : RequestHead) (rest : List ℕ) → ReadsRequest (bytes ++ more) h rest → n ≤ length bytes → bytes ≡ print_request h ++ drop n bytes
    cut h rest y within =
        let size : n ≡ length (print_request h) = let e : Some n ≡ Some (length (print_request h)) = sym (head_end-append_some bytes more n ends) ∙ tree-end (bytes ++ more) h rest y in cc in
        let front : take n bytes ≡ print_request h = sym (take-append-le n bytes more within) ∙ ap (take n) y.1 ∙ ap (λ k. take k (print_request h ++ rest)) size ∙ take-append_seam (print_request h) rest in
        sym (take-append-drop n bytes) ∙ ap (λ (t : List ℕ). t ++ drop n bytes) front

head-stays : (bytes more : List ℕ) (n : ℕ) (x : HeadRead) → head_end bytes ≡ Some n → ReadsHead bytes n x → ReadsHead (bytes ++ more) n x
head-stays bytes more n x ends a =
    let same : take n (bytes ++ more) ≡ take n bytes = take-append-le n bytes more (head_end-bound bytes n ends) in
    rw same (kept (nat_lt head_limit n || has_too_many_lines (full_lines (take n bytes))) (has_other_version (without_return (first_line (full_lines (take n bytes))))) a)
  where
    kept : (b c : Bool) → MatchBool b (x ≡ Refused 431) (MatchBool c (x ≡ Refused 505) (ReadsTree bytes n x)) → MatchBool b (x ≡ Refused 431) (MatchBool c (x ≡ Refused 505) (ReadsTree (bytes ++ more) n x))
    kept true c h = h
    kept false true h = h
    kept false false h = tree-stays bytes more n x ends h

long-unfinished : (k : ℕ) → head_limit ≤ k → unfinished k ≡ Refused 431
long-unfinished k h = rw (le-ltb k head_limit h) refl

too_long : (bytes : List ℕ) (n : ℕ) (x : HeadRead) → head_limit < n → x ≡ Refused 431 → ReadsHead bytes n x
too_long bytes n x h is = rw (lt-ltb head_limit n h) is

pub answer-stays : (bytes more : List ℕ) (x : HeadRead) → x ≢ More → Reads bytes x → Reads (bytes ++ more) x
answer-stays bytes more x settled = from (head_end bytes) refl
  where
    long : (f : Bool) → nat_lt (length bytes) head_limit ≡ f → x ≡ (if f then More else Refused 431) → (head_limit ≤ length bytes) × (x ≡ Refused 431)
    long true e h = absurd (settled h)
    long false e h = (ltb-false (length bytes) head_limit e, h)

    later : (k : Option ℕ) → head_end bytes ≡ None → head_end (bytes ++ more) ≡ k → (head_limit ≤ length bytes) × (x ≡ Refused 431)
        → MatchOption k (x ≡ unfinished (length (bytes ++ more))) (λ n. ReadsHead (bytes ++ more) n x)
    later None e f h = h.1 ∙ sym (long-unfinished (length (bytes ++ more)) (omega (arith, length-append bytes more, h.0)))
    later (Some n) e f h = too_long (bytes ++ more) n x (omega (arith, head_end-later bytes more n e f, h.0)) h.1

    from : (o : Option ℕ) → head_end bytes ≡ o → MatchOption o (x ≡ unfinished (length bytes)) (λ n. ReadsHead bytes n x) → Reads (bytes ++ more) x
    from None e h = later (head_end (bytes ++ more)) e refl (long (nat_lt (length bytes) head_limit) refl h)
    from (Some n) e h = rw (head_end-append_some bytes more n e) (head-stays bytes more n x e h)

-- ---- from a head to the bytes that begin with it

pub whole-reads : (bytes : List ℕ) (x : HeadRead) → head_end bytes ≡ Some (length bytes) → length bytes ≤ head_limit → length (full_lines bytes) ≤ 101
    → has_other_version (without_return (first_line (full_lines bytes))) ≡ false → ReadsTree bytes (length bytes) x → Reads bytes x
whole-reads bytes x ends short few version reads = rw (ends, take-all, le-ltb head_limit (length bytes) short, le-ltb 100 (length (full_lines bytes) - 1) (omega arith), version) reads
  where
    take-all : take (length bytes) bytes ≡ bytes
    take-all = take_all (length bytes) bytes (omega arith)

pub begins-with : (bytes : List ℕ) (n : ℕ) (x : HeadRead) → head_end bytes ≡ Some n → Reads (take n bytes) x → Reads bytes x
begins-with bytes n x ends reads =
    let cut : head_end (take n bytes) ≡ Some n = head_end-take bytes n ends in
    let read : ReadsHead (take n bytes) n x = rw cut at reads in
    rw ends (subst (λ (b : List ℕ). ReadsHead b n x) (take-append-drop n bytes) (head-stays (take n bytes) (drop n bytes) n x cut read))

-- ---- the parts of a head

pub bad-host : (parts : Parts) (n : ℕ) → has_bad_host parts.minor parts.fields ≡ true → Refused 400 ≡ answer_of parts n
bad-host parts n h = rw h refl

pub bad-framing : (parts : Parts) (n code : ℕ) → has_bad_host parts.minor parts.fields ≡ false → framing parts.minor parts.fields ≡ Err code → Refused code ≡ answer_of parts n
bad-framing parts n code h f = rw (h, f) refl

pub good-parts : (parts : Parts) (n : ℕ) (kind : BodyKind) → has_bad_host parts.minor parts.fields ≡ false → framing parts.minor parts.fields ≡ Ok kind
    → Whole (head_from parts kind) n ≡ answer_of parts n
good-parts parts n kind h f = rw (h, f) refl

-- ---- no head by the grammar

tree-is-all : (bytes : List ℕ) (h : RequestHead) (rest : List ℕ) → head_end bytes ≡ Some (length bytes) → ReadsRequest bytes h rest → bytes ≡ print_request h
tree-is-all bytes h rest ends x =
    let size : length bytes ≡ length (print_request h) = let e : Some (length bytes) ≡ Some (length (print_request h)) = sym ends ∙ tree-end bytes h rest x in cc in
    x.1 ∙ ap (λ (r : List ℕ). print_request h ++ r) (no_rest rest (omega (arith, size, ap length x.1, length-append (print_request h) rest))) ∙ append-nil (print_request h)
  where
    no_rest : (r : List ℕ) → length r ≡ 0 → r ≡ []
    no_rest [] z = refl
    no_rest (b ∷ r) z = absurd (omega (arith, z))

pub none-overflows : (bytes : List ℕ) (room : ℕ) → head_end bytes ≡ Some (length bytes) → length (full_lines bytes) ≤ room → RequestOverflows room bytes → HasNoRequest bytes
none-overflows bytes room ends few over h rest x =
    let more : room < length h.fields = over [] h rest (x.0, append-nil bytes ∙ x.1) in
    let lines : length (full_lines bytes) ≡ count (print_request h) = ap count (tree-is-all bytes h rest ends x) in
    omega (arith, more, lines, fields-counted h)

pub tree-size : (bytes : List ℕ) (n : ℕ) (h : RequestHead) (rest : List ℕ) → head_end bytes ≡ Some n → ReadsRequest bytes h rest → n ≡ length (print_request h)
tree-size bytes n h rest ends x = let e : Some n ≡ Some (length (print_request h)) = sym ends ∙ tree-end bytes h rest x in cc

-- the fields by their places are those of the tree
pub same-fields : (bytes : List ℕ) (spans : List HeaderSpan) (fields : List Field) → map (header_bytes bytes) spans ≡ map name_and_value fields → map (pair_at bytes) spans ≡ map pair_of fields
same-fields bytes spans fields same =
    sym (map-map pair_from (header_bytes bytes) spans) ∙ ap (map pair_from) same ∙ map-map pair_from name_and_value fields
  where
    pair_from : List ℕ × List ℕ → Pair2
    pair_from p = record { name = p.0; value = p.1 }
