-- Each text has an answer as the head of a request.
use Rattle.std.proofs.Common.{◌≡◌, ◌≢◌, ℕ, Bool, true, false, List, [], ◌∷◌, ◌++◌, length, drop, refl, sym, ap, ◌∙◌, subst, inl, inr, Option, Some, None}
use Rattle.std.specs.Prelude.{MatchBool, MatchOption, nat_lt, ◌||◌, take, if◌then◌else◌, Result, Ok, Err}
use Rattle.httparse.specs.Grammar.{RequestHead, print_request, ReadsRequest}
use Rattle.httparse.proofs.GrammarLemmas.{RequestTree, request_head, request_from_pieces}
use Rattle.httparse.proofs.HeadLemmas.{request_not_yet}
use Rattle.http_in.specs.declared.heads.HeadRead.{HeadRead}
use Rattle.http_in.specs.declared.framing.BodyKind.{BodyKind}
use Rattle.http_in.specs.declared.heads.HeadRead.TheVariants.{More, Refused, Memory}
use Rattle.http_in.specs.Ends.{head_end}
use Rattle.http_in.specs.Lines.{full_lines, first_line, without_return, has_other_version}
use Rattle.http_in.specs.Framing.{framing}
use Rattle.http_in.specs.Options.{has_bad_host}
use Rattle.http_in.specs.Heads.{head_limit, has_too_many_lines, Parts, parts_of, answer_framed, answer_of, unfinished, ReadsTree, ReadsHead, Reads}
use Rattle.http_in.proofs.Answers.{tree-size}
use Rattle.client_line.specs.PieceLaws.{request-decided}

drop-front : (front rest : List ℕ) → drop (length front) (front ++ rest) ≡ rest
drop-front [] rest = refl
drop-front (b ∷ front) rest = drop-front front rest

-- what comes after a head is what comes after its bytes
rest-is : (bytes : List ℕ) (n : ℕ) (h : RequestHead) (rest : List ℕ) → head_end bytes ≡ Some n → ReadsRequest bytes h rest → rest ≡ drop n bytes
rest-is bytes n h rest ends x =
    sym (drop-front (print_request h) rest) ∙ ap (drop (length (print_request h))) (sym x.1)
    ∙ ap (λ (k : ℕ). drop k bytes) (sym (tree-size bytes n h rest ends x))

tree-answer : (bytes : List ℕ) (n : ℕ) → head_end bytes ≡ Some n → (answer : HeadRead) × ReadsTree bytes n answer
tree-answer bytes n ends = elim (request-decided bytes) [
  | inl x ↦ by x.0 x.1 (request_from_pieces bytes x.0 x.1 x.2)
  | inr never ↦ (Refused 400, inr (request_not_yet never, refl))
]
  where
    by : (t : RequestTree) (rest : List ℕ) → ReadsRequest bytes (request_head t) rest → (answer : HeadRead) × ReadsTree bytes n answer
    by t rest x =
        let h = request_head t in
        (answer_of (parts_of h) n, inl (h, subst (ReadsRequest bytes h) (rest-is bytes n h rest ends x) x, refl))

head-answer : (bytes : List ℕ) (n : ℕ) → head_end bytes ≡ Some n → (answer : HeadRead) × ReadsHead bytes n answer
head-answer bytes n ends =
    let lines = full_lines (take n bytes) in
    by (nat_lt head_limit n || has_too_many_lines lines) (has_other_version (without_return (first_line lines)))
  where
    by : (long other : Bool)
        → (answer : HeadRead) × MatchBool long (answer ≡ Refused 431) (MatchBool other (answer ≡ Refused 505) (ReadsTree bytes n answer))
    by true other = (Refused 431, refl)
    by false true = (Refused 505, refl)
    by false false = tree-answer bytes n ends

pub read-of : (bytes : List ℕ) → (answer : HeadRead) × Reads bytes answer
read-of bytes = by (head_end bytes) refl
  where
    by : (end : Option ℕ) → head_end bytes ≡ end → (answer : HeadRead) × MatchOption end (answer ≡ unfinished (length bytes)) (λ n. ReadsHead bytes n answer)
    by None e = (unfinished (length bytes), refl)
    by (Some n) e = head-answer bytes n e

-- ---- none is out of memory

unfinished-says : (count : ℕ) → unfinished count ≢ Memory
unfinished-says count = by (nat_lt count head_limit)
  where
    by : (c : Bool) → (if c then More else Refused 431) ≢ Memory
    by true e = cc
    by false e = cc

framed-says : (parts : Parts) (n : ℕ) (r : Result BodyKind ℕ) → answer_framed parts n r ≢ Memory
framed-says parts n (Ok kind) e = cc
framed-says parts n (Err code) e = cc

parts-say : (parts : Parts) (n : ℕ) → answer_of parts n ≢ Memory
parts-say parts n = by (has_bad_host parts.minor parts.fields)
  where
    by : (c : Bool) → (if c then Refused 400 else answer_framed parts n (framing parts.minor parts.fields)) ≢ Memory
    by true e = cc
    by false e = framed-says parts n (framing parts.minor parts.fields) e

refused-says : (code : ℕ) (answer : HeadRead) → answer ≡ Refused code → answer ≢ Memory
refused-says code answer e f = let g : Refused code ≡ Memory = sym e ∙ f in cc

tree-says : (bytes : List ℕ) (n : ℕ) (answer : HeadRead) → ReadsTree bytes n answer → answer ≢ Memory
tree-says bytes n answer h f = elim h [
  | inl x ↦ parts-say (parts_of x.0) n (sym x.2 ∙ f)
  | inr x ↦ refused-says 400 answer x.1 f
]

head-says : (bytes : List ℕ) (n : ℕ) (answer : HeadRead) → ReadsHead bytes n answer → answer ≢ Memory
head-says bytes n answer =
    let lines = full_lines (take n bytes) in
    by (nat_lt head_limit n || has_too_many_lines lines) (has_other_version (without_return (first_line lines)))
  where
    by : (long other : Bool) → MatchBool long (answer ≡ Refused 431) (MatchBool other (answer ≡ Refused 505) (ReadsTree bytes n answer)) → answer ≢ Memory
    by true other h = refused-says 431 answer h
    by false true h = refused-says 505 answer h
    by false false h = tree-says bytes n answer h

pub read-says : (bytes : List ℕ) (answer : HeadRead) → Reads bytes answer → answer ≢ Memory
read-says bytes answer = by (head_end bytes)
  where
    by : (end : Option ℕ) → MatchOption end (answer ≡ unfinished (length bytes)) (λ n. ReadsHead bytes n answer) → answer ≢ Memory
    by None h f = unfinished-says (length bytes) (sym h ∙ f)
    by (Some n) h f = head-says bytes n answer h f
