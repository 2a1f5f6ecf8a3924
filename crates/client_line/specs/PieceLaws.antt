-- Whether a text begins with a piece of the grammar of heads: for each piece that is decided.
use Rattle.std.proofs.Common.{◌≡◌, ◌⊎◌, ℕ, zero, suc, ◌<◌, ◌≤◌, Bool, true, false, ◌==◌, List, [], ◌∷◌, ◌++◌, length, refl, sym, ap, ◌∙◌, subst, arith}
use Rattle.std.proofs.Common.{append_assoc, append-nil, length-append, inl, inr, flat_map}
use Rattle.std.specs.Str.{is_utf8}
use Rattle.std.proofs.lemmas.Bool.{both_ways, eqb-true}
use Rattle.std.proofs.lemmas.List.Elements.{All-cons, All-nil}
use Rattle.std.proofs.lemmas.Str.{IsUtf8-from_is_utf8, is_utf8-from_IsUtf8}
use Rattle.httparse.specs.Grammar.{is_token_byte, is_uri_byte, is_value_byte, AllPass, LineEnd, crlf, lf, print_end, print_blank, print_version, Field}
use Rattle.httparse.specs.Grammar.{print_field, IsField}
use Rattle.httparse.specs.Pieces.{Piece, Begins, Then, NotYet, Stops, is_newline, Newline, Blank, Word, Method, Target, Version, Text, FieldLine, FieldLines}
use Rattle.httparse.specs.Pieces.{Section, RequestStart}
use Rattle.httparse.proofs.PieceLemmas.{IsDeterministic, Refutes_first, Refutes_next, NotYet_intro, NotYet_elim, newline_not_stopped, Stops_value, Section_skip}
use Rattle.httparse.proofs.PieceLemmas.{Blank_deterministic, Word_deterministic, Name_deterministic, Method_deterministic, Target_deterministic}
use Rattle.httparse.proofs.PieceLemmas.{Version_deterministic, RequestStart_deterministic}
use Rattle.httparse.proofs.PieceLemmas.{space_ends_token, colon_ends_token}
use Rattle.httparse.proofs.ReadLemmas.{Target_word, Blank_after, Blank_open, Blank_newline, BeginsLine_either, FieldLine_row, FieldLine_done, Section_after}
use Rattle.httparse.proofs.ReadLemmas.{Section_done}
use Rattle.httparse.proofs.RunLemmas.{run_unique, run_unstopped}
use Rattle.http_in.proofs.HeadEnds.{field-text}

-- the text begins with the piece, or it doesn't
abbrev pub Decided : {A : Type 0} → Piece A → List ℕ → Type 0
Decided G text = Begins G text ⊎ NotYet (Begins G) text

-- one piece and then another
pub then-decided : {A B : Type 0} (G : Piece A) (H : Piece B) (text : List ℕ) → IsDeterministic G → Decided G text
    → ((rest : List ℕ) → Decided H rest) → Decided (Then G H) text
then-decided {A} {B} G H text det first next = elim first [
  | inl x ↦ after x.0 x.1 x.2 (next x.1)
  | inr never ↦ inr (Refutes_first G H never)
]
  where
    after : (a : A) (middle : List ℕ) → G a text middle → Decided H middle → Decided (Then G H) text
    after a middle x second = elim second [
      | inl y ↦ inl ((a, y.0), y.1, (middle, x, y.2))
      | inr never ↦ inr (Refutes_next H det x never)
    ]

-- ---- line ends

return-is-no-feed : ◌≡◌ {A = ℕ} 13 10 → ⊥
return-is-no-feed e = omega arith

no-end-of-nothing : (e : LineEnd) (rest : List ℕ) → Newline e [] rest → ⊥
no-end-of-nothing crlf rest h = cc
no-end-of-nothing lf rest h = cc

-- only an LF goes on with a line end that begins with a CR
after-return : (e : LineEnd) (text rest : List ℕ) → Newline e (13 ∷ text) rest → text ≡ 10 ∷ rest
after-return crlf text rest h = cc
after-return lf text rest h = absurd (return-is-no-feed (cc))

no-end-at : (b : ℕ) (text : List ℕ) → is_newline b ≡ false → NotYet (Begins Newline) (b ∷ text)
no-end-at b text other = NotYet_intro λ h. newline_not_stopped h.0 h.1 (b ∷ text) (sym h.2) other

return-decided : (text : List ℕ) → Decided Newline (13 ∷ text)
return-decided [] = inr (NotYet_intro λ h. let e = after-return h.0 [] h.1 h.2 in cc)
return-decided (b ∷ text) = by (b == 10) refl
  where
    by : (c : Bool) → (b == 10) ≡ c → Decided Newline (13 ∷ b ∷ text)
    by true e = inl (crlf, text, ap (λ (v : ℕ). 13 ∷ v ∷ text) (eqb-true b 10 e))
    by false e = inr (NotYet_intro λ h.
        let same : b ≡ 10 = let f = after-return h.0 (b ∷ text) h.1 h.2 in cc in
        both_ways (b == 10) e (ap (λ (v : ℕ). v == 10) same))

pub newline-decided : (text : List ℕ) → Decided Newline text
newline-decided [] = inr (NotYet_intro λ h. no-end-of-nothing h.0 h.1 h.2)
newline-decided (b ∷ text) = by (b == 13) (b == 10) refl refl
  where
    by : (c d : Bool) → (b == 13) ≡ c → (b == 10) ≡ d → Decided Newline (b ∷ text)
    by true d e f = subst (λ (v : ℕ). Decided Newline (v ∷ text)) (sym (eqb-true b 13 e)) (return-decided text)
    by false true e f = inl (lf, text, ap (λ (v : ℕ). v ∷ text) (eqb-true b 10 f))
    by false false e f = inr (no-end-at b text (rw (e, f) refl))

-- ---- the empty lines at the front

end-has-bytes : (e : LineEnd) → 0 < length (print_end e)
end-has-bytes crlf = omega arith
end-has-bytes lf = omega arith

shorter : (text front rest : List ℕ) (n : ℕ) → text ≡ front ++ rest → 0 < length front → length text ≤ suc n → length rest ≤ n
shorter text front rest n e some h = omega (arith, ap length e, length-append front rest, some, h)

no-blank-of-nothing : Decided Blank []
no-blank-of-nothing = inr (Blank_open [] 0 (omega arith))

blank-within : (n : ℕ) (text : List ℕ) → length text ≤ n → Decided Blank text
blank-within n [] h = no-blank-of-nothing
blank-within zero (b ∷ text) h = absurd (omega (arith, h))
blank-within (suc n) (b ∷ text) h = elim (newline-decided (b ∷ text)) [
  | inl x ↦ elim (blank-within n x.1 (shorter (b ∷ text) (print_end x.0) x.1 n x.2 (end-has-bytes x.0) h)) [
    | inl y ↦ inl (x.0 ∷ y.0, y.1, (x.2 ∙ ap (λ (t : List ℕ). print_end x.0 ++ t) y.2.0 ∙ sym (append_assoc (print_end x.0) (print_blank y.0) y.1), y.2.1))
    | inr never ↦ inr (Blank_after (x.0 ∷ []) (x.2 ∙ ap (λ (t : List ℕ). t ++ x.1) (sym (append-nil (print_end x.0)))) never)
  ]
  | inr never ↦ by (is_newline b) refl never
]
  where
    by : (c : Bool) → is_newline b ≡ c → NotYet (Begins Newline) (b ∷ text) → Decided Blank (b ∷ text)
    by true e never = inr (Blank_newline (b ∷ text) 0 (omega arith) e never)
    by false e never = inl ([], b ∷ text, (refl, e))

pub blank-decided : (text : List ℕ) → Decided Blank text
blank-decided text = blank-within (length text) text (omega arith)

-- ---- words

-- a text as its longest front of bytes that pass a test, and what comes after it
record Split (test : ℕ → Bool) (text : List ℕ) : Type 0 where
  run : List ℕ
  rest : List ℕ
  all : AllPass test run
  is : text ≡ run ++ rest
  end : (rest ≡ []) ⊎ Stops test rest

longer : (test : ℕ → Bool) (b : ℕ) (text : List ℕ) → test b ≡ true → Split test text → Split test (b ∷ text)
longer test b text e s = record {
  run = b ∷ s.run;
  rest = s.rest;
  all = All-cons (λ v. test v ≡ true) b s.run e s.all;
  is = ap (λ (t : List ℕ). b ∷ t) s.is;
  end = s.end;
}

split-at : (test : ℕ → Bool) (text : List ℕ) → Split test text
split-at test [] = record { run = []; rest = []; all = All-nil (λ v. test v ≡ true); is = refl; end = inl refl }
split-at test (b ∷ text) = by (test b) refl (split-at test text)
  where
    by : (c : Bool) → test b ≡ c → Split test text → Split test (b ∷ text)
    by true e s = longer test b text e s
    by false e s = record { run = []; rest = b ∷ text; all = All-nil (λ v. test v ≡ true); is = refl; end = inr e }

-- a text of bytes that pass has no stop in it
no-stop : (test : ℕ → Bool) (text run w r : List ℕ) → AllPass test run → text ≡ run ++ [] → text ≡ w ++ r → Stops test r → ⊥
no-stop test text run w r all e f s = run_unstopped test w r (subst (AllPass test) (sym (append-nil run) ∙ sym e ∙ f) all) s

pub word-decided : (test : ℕ → Bool) (stop : ℕ) → test stop ≡ false → (text : List ℕ) → Decided (Word test stop) text
word-decided test stop fails text = let s = split-at test text in from s.run s.rest s.all s.is s.end
  where
    some : (run rest : List ℕ) → AllPass test run → text ≡ run ++ stop ∷ rest → Decided (Word test stop) text
    some [] rest all e = inr (NotYet_intro λ h.
        let same = run_unique test [] h.0 (stop ∷ rest) (stop ∷ h.1) all h.2.1 fails fails (sym e ∙ h.2.2) in
        let none : 0 < 0 = subst (λ (w : List ℕ). 0 < length w) (sym same.0) h.2.0 in omega (arith, none))
    some (b ∷ run) rest all e = inl (b ∷ run, rest, (omega arith, all, e))

    at-stop : (run : List ℕ) (c : ℕ) (rest : List ℕ) (is : Bool) → (c == stop) ≡ is → AllPass test run → text ≡ run ++ c ∷ rest → test c ≡ false
        → Decided (Word test stop) text
    at-stop run c rest true f all e stops = some run rest all (e ∙ ap (λ (v : ℕ). run ++ v ∷ rest) (eqb-true c stop f))
    at-stop run c rest false f all e stops = inr (NotYet_intro λ h.
        let same = run_unique test run h.0 (c ∷ rest) (stop ∷ h.1) all h.2.1 stops fails (sym e ∙ h.2.2) in
        let is : c ≡ stop = let g = same.1 in cc in
        both_ways (c == stop) f (ap (λ (v : ℕ). v == stop) is ∙ same-byte stop))
      where
        same-byte : (v : ℕ) → (v == v) ≡ true
        same-byte v = grind arith

    from : (run rest : List ℕ) → AllPass test run → text ≡ run ++ rest → (rest ≡ []) ⊎ Stops test rest → Decided (Word test stop) text
    from run [] all e end = inr (NotYet_intro λ h. no-stop test text run h.0 (stop ∷ h.1) all e h.2.2 fails)
    from run (c ∷ rest) all e end = elim end [
      | inl none ↦ absurd (cc)
      | inr stops ↦ at-stop run c rest (c == stop) refl all e stops
    ]

pub target-decided : (text : List ℕ) → Decided Target text
target-decided text = elim (word-decided is_uri_byte 32 refl text) [
  | inl x ↦ by (is_utf8 x.0) refl x.0 x.1 x.2 refl
  | inr never ↦ inr (Target_word never)
]
  where
    by : (c : Bool) {u : List ℕ} → is_utf8 u ≡ c → (w rest : List ℕ) → Word is_uri_byte 32 w text rest → u ≡ w → Decided Target text
    by true e w rest h f = inl (w, rest, (h, IsUtf8-from_is_utf8 w (ap is_utf8 (sym f) ∙ e)))
    by false e w rest h f = inr (NotYet_intro λ g.
        let same = (Word_deterministic is_uri_byte 32 refl).unique w g.0 text rest g.1 h g.2.0 in
        both_ways (is_utf8 w) (ap is_utf8 (sym f) ∙ e) (ap is_utf8 same.0 ∙ is_utf8-from_IsUtf8 g.0 g.2.1))

-- ---- the version

bytes-decided : (front text : List ℕ) → ((rest : List ℕ) × (text ≡ front ++ rest)) ⊎ ((rest : List ℕ) → text ≡ front ++ rest → ⊥)
bytes-decided [] text = inl (text, refl)
bytes-decided (x ∷ front) [] = inr (λ rest e. cc)
bytes-decided (x ∷ front) (b ∷ text) = by (b == x) refl (bytes-decided front text)
  where
    same-byte : (v : ℕ) → (v == v) ≡ true
    same-byte v = grind arith

    by : (c : Bool) → (b == x) ≡ c → ((rest : List ℕ) × (text ≡ front ++ rest)) ⊎ ((rest : List ℕ) → text ≡ front ++ rest → ⊥)
        → ((rest : List ℕ) × (b ∷ text ≡ x ∷ front ++ rest)) ⊎ ((rest : List ℕ) → b ∷ text ≡ x ∷ front ++ rest → ⊥)
    by true e after = elim after [
      | inl y ↦ inl (y.0, let f = eqb-true b x e in let g = y.1 in cc)
      | inr never ↦ inr (λ rest g. never rest (cc))
    ]
    by false e after = inr (λ rest g.
        let is : b ≡ x = cc in
        both_ways (b == x) e (ap (λ (v : ℕ). v == x) is ∙ same-byte x))

pub version-decided : (text : List ℕ) → Decided Version text
version-decided text = elim (bytes-decided (print_version 0) text) [
  | inl x ↦ inl (0, x.0, (omega arith, x.1))
  | inr none ↦ elim (bytes-decided (print_version 1) text) [
    | inl x ↦ inl (1, x.0, (omega arith, x.1))
    | inr never ↦ inr (NotYet_intro λ h. neither none never h.0 h.1 h.2.0 h.2.1)
  ]
]
  where
    neither : ((rest : List ℕ) → text ≡ print_version 0 ++ rest → ⊥) → ((rest : List ℕ) → text ≡ print_version 1 ++ rest → ⊥)
        → (minor : ℕ) (rest : List ℕ) → minor ≤ 1 → text ≡ print_version minor ++ rest → ⊥
    neither none never zero rest h e = none rest e
    neither none never (suc zero) rest h e = never rest e
    neither none never (suc (suc m)) rest h e = omega (arith, h)

-- ---- the lines of a section

text-decided : (text : List ℕ) → Decided Text text
text-decided text =
    let s = split-at is_value_byte text in
    elim (newline-decided s.rest) [
      | inl x ↦ inl ((s.run, x.0), x.1, (s.all, s.is ∙ ap (λ (t : List ℕ). s.run ++ t) x.2))
      | inr never ↦ inr (NotYet_intro λ h. NotYet_elim never (h.0.1, h.1, rest-is s.run s.rest s.all s.is s.end h.0.0 h.0.1 h.1 h.2.0 h.2.1))
    ]
  where
    rest-is : (run rest : List ℕ) → AllPass is_value_byte run → text ≡ run ++ rest → (rest ≡ []) ⊎ Stops is_value_byte rest
        → (w : List ℕ) (e : LineEnd) (r : List ℕ) → AllPass is_value_byte w → text ≡ w ++ (print_end e ++ r) → rest ≡ print_end e ++ r
    rest-is run rest all is end w e r pass same = elim end [
      | inl none ↦ absurd (no-stop is_value_byte text run w (print_end e ++ r) all (is ∙ ap (λ (t : List ℕ). run ++ t) none) same (Stops_value e r))
      | inr stops ↦ (run_unique is_value_byte run w rest (print_end e ++ r) all pass stops (Stops_value e r) (sym is ∙ same)).1
    ]

field-decided : (text : List ℕ) → Decided FieldLine text
field-decided text =
    elim (then-decided (Word is_token_byte 58) Text text Name_deterministic (word-decided is_token_byte 58 colon_ends_token text) text-decided) [
      | inl x ↦ inl (record { name = x.0.0; raw = x.0.1.0; end = x.0.1.1 }, x.1, FieldLine_done x.0.0 x.0.1.0 x.0.1.1 text x.2.0 x.1 x.2.1 x.2.2)
      | inr never ↦ inr (FieldLine_row never)
    ]

no-lines : (text : List ℕ) → FieldLines [] text text
no-lines text = (All-nil _, refl)

one-line : (f : Field) (text middle : List ℕ) → FieldLine f text middle → FieldLines (f ∷ []) text middle
one-line f text middle x = (All-cons IsField f [] x.0 (All-nil IsField), x.1 ∙ ap (λ (t : List ℕ). t ++ middle) (sym (append-nil (print_field f))))

more-lines : (f : Field) (fs : List Field) (last : LineEnd) (text middle rest : List ℕ) → FieldLine f text middle → Section (fs, last) middle rest
    → Section (f ∷ fs, last) text rest
more-lines f fs last text middle rest x y = (
  All-cons IsField f fs x.0 y.0,
  x.1 ∙ ap (λ (t : List ℕ). print_field f ++ t) y.1 ∙ regroup (print_field f) (flat_map print_field fs) (print_end last),
)
  where
    regroup : (a b c : List ℕ) → a ++ ((b ++ c) ++ rest) ≡ ((a ++ b) ++ c) ++ rest
    regroup a b c = simp append_assoc

after-line : (f : Field) (text middle : List ℕ) → FieldLine f text middle → Decided Section middle → Decided Section text
after-line f text middle x section = elim section [
  | inl y ↦ inl ((f ∷ y.0.0, y.0.1), y.1, more-lines f y.0.0 y.0.1 text middle y.1 x y.2)
  | inr never ↦ inr (NotYet_intro λ g.
      let skipped = Section_skip (f ∷ []) g.0.0 g.0.1 text middle g.1 (one-line f text middle x) g.2 in
      NotYet_elim never ((skipped.0, g.0.1), g.1, skipped.2))
]

line-has-bytes : (f : Field) → 0 < length (print_field f)
line-has-bytes f =
    omega (arith, ap length (field-text f), length-append f.name (58 ∷ (f.raw ++ print_end f.end)))

section-within : (n : ℕ) (text : List ℕ) → length text ≤ n → Decided Section text
section-within zero text h = elim (newline-decided text) [
  | inl x ↦ inl (([], x.0), x.1, Section_done [] x.0 text text x.1 (no-lines text) x.2)
  | inr none ↦ elim (field-decided text) [
    | inl x ↦ absurd (omega (arith, ap length x.2.1, length-append (print_field x.0) x.1, line-has-bytes x.0, h))
    | inr never ↦ inr (Section_after [] (no-lines text) (BeginsLine_either none never))
  ]
]
section-within (suc n) text h = elim (newline-decided text) [
  | inl x ↦ inl (([], x.0), x.1, Section_done [] x.0 text text x.1 (no-lines text) x.2)
  | inr none ↦ elim (field-decided text) [
    | inl x ↦ after-line x.0 text x.1 x.2 (section-within n x.1 (shorter text (print_field x.0) x.1 n x.2.1 (line-has-bytes x.0) h))
    | inr never ↦ inr (Section_after [] (no-lines text) (BeginsLine_either none never))
  ]
]

pub section-decided : (text : List ℕ) → Decided Section text
section-decided text = section-within (length text) text (omega arith)

-- ---- a request's head

pub request-decided : (text : List ℕ) → Decided (Then RequestStart Section) text
request-decided text = then-decided RequestStart Section text RequestStart_deterministic (start text) section-decided
  where
    line : (text : List ℕ) → Decided (Then Version Newline) text
    line text = then-decided Version Newline text Version_deterministic (version-decided text) newline-decided

    target : (text : List ℕ) → Decided (Then Target (Then Version Newline)) text
    target text = then-decided Target (Then Version Newline) text Target_deterministic (target-decided text) line

    method : (text : List ℕ) → Decided (Then Method (Then Target (Then Version Newline))) text
    method text =
        let word = word-decided is_token_byte 32 space_ends_token text in
        then-decided Method (Then Target (Then Version Newline)) text Method_deterministic word target

    start : (text : List ℕ) → Decided RequestStart text
    start text = then-decided Blank (Then Method (Then Target (Then Version Newline))) text Blank_deterministic (blank-decided text) method
