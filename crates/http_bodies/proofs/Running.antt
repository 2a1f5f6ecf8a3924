-- A run of data is read as its bytes one by one.
use Rattle.std.specs.Prelude.{Bool, true, false, suc, nat_lt, if◌then◌else◌}
use Rattle.std.proofs.Common.{◌≡◌, ℕ, ◌+◌, ◌-◌, ◌<◌, ◌≤◌, List, [], ◌∷◌, ◌++◌, length, take, drop, get_or, refl, sym, ap, ◌∙◌, append_assoc, arith}
use Rattle.std.proofs.lemmas.Bool.{lt-ltb, le-ltb, ltb-true, ltb-false}
use Rattle.std.proofs.lemmas.List.{append-nil, take_all, drop_all, take-append-drop, length-take-le, length-take, take-append-le, take_more}
use Rattle.std.proofs.Math.Seq.{drop-cons}
use Rattle.http_bodies.specs.declared.states.DataOf.{DataOf}
use Rattle.http_bodies.specs.declared.states.BodyState.{BodyState}
use Rattle.http_bodies.specs.declared.states.BodyState.TheVariants.{Data}
use Rattle.http_bodies.specs.Records.{Body}
use Rattle.http_bodies.specs.States.{data_end}
use Rattle.http_bodies.specs.Bodies.{body_at, after_one, after_bytes, used}
use Rattle.http_bodies.specs.Runs.{run_length, after_run}

-- a body within data
abbrev in_data : ℕ → ℕ → DataOf → List ℕ → Body
in_data max more of content = body_at max (Data more of) content

-- a byte that isn't the last
next : (max more : ℕ) (of : DataOf) (content : List ℕ) (x : ℕ) → 0 < more → after_one (in_data max more of content) x ≡ in_data max (more - 1) of (content ++ x ∷ [])
next max more of content x h = rw (lt-ltb 0 more h) refl

-- the last byte
last : (max more : ℕ) (of : DataOf) (content : List ℕ) (x : ℕ) → more ≤ 0 → after_one (in_data max more of content) x ≡ body_at max (data_end of) (content ++ x ∷ [])
last max more of content x h = rw (le-ltb 0 more h) refl

-- ---- bytes of which none is the last

front : (max more : ℕ) (of : DataOf) (content xs ys : List ℕ) → length xs ≤ more
    → after_bytes (in_data max more of content) (xs ++ ys) ≡ after_bytes (in_data max (more - length xs) of (content ++ xs)) ys
front max more of content [] ys h =
    let left : more ≡ more - 0 = omega arith in
    let all : content ≡ content ++ [] = sym (append-nil content) in
    λ i. after_bytes (in_data max (left i) of (all i)) ys
front max more of content (x ∷ xs) ys h =
    let left : more - 1 - length xs ≡ more - suc (length xs) = omega arith in
    let all : (content ++ x ∷ []) ++ xs ≡ content ++ x ∷ xs = append_assoc content (x ∷ []) xs in
    ap (λ body. after_bytes body (xs ++ ys)) (next max more of content x (omega (arith, h)))
    ∙ front max (more - 1) of (content ++ x ∷ []) xs ys (omega (arith, h))
    ∙ (λ i. after_bytes (in_data max (left i) of (all i)) ys)

front-used : (max more : ℕ) (of : DataOf) (content xs ys : List ℕ) → length xs ≤ more
    → used (in_data max more of content) (xs ++ ys) ≡ length xs + used (in_data max (more - length xs) of (content ++ xs)) ys
front-used max more of content [] ys h =
    let left : more ≡ more - 0 = omega arith in
    let all : content ≡ content ++ [] = sym (append-nil content) in
    (λ i. used (in_data max (left i) of (all i)) ys) ∙ omega arith
front-used max more of content (x ∷ xs) ys h =
    let left : more - 1 - length xs ≡ more - suc (length xs) = omega arith in
    let all : (content ++ x ∷ []) ++ xs ≡ content ++ x ∷ xs = append_assoc content (x ∷ []) xs in
    ap suc (ap (λ body. used body (xs ++ ys)) (next max more of content x (omega (arith, h)))
    ∙ front-used max (more - 1) of (content ++ x ∷ []) xs ys (omega (arith, h))
    ∙ (λ i. length xs + used (in_data max (left i) of (all i)) ys))
    ∙ omega arith

-- ---- bytes up to the last one

upto : (max more : ℕ) (of : DataOf) (content xs : List ℕ) (x : ℕ) (ys : List ℕ) → length xs ≡ more
    → after_bytes (in_data max more of content) (xs ++ x ∷ ys) ≡ after_bytes (body_at max (data_end of) (content ++ (xs ++ x ∷ []))) ys
upto max more of content xs x ys is =
    front max more of content xs (x ∷ ys) (omega (arith, is))
    ∙ ap (λ body. after_bytes body ys) (last max (more - length xs) of (content ++ xs) x (omega (arith, is)) ∙ ap (body_at max (data_end of)) (append_assoc content xs (x ∷ [])))

upto-used : (max more : ℕ) (of : DataOf) (content xs : List ℕ) (x : ℕ) (ys : List ℕ) → length xs ≡ more
    → used (in_data max more of content) (xs ++ x ∷ ys) ≡ more + 1 + used (body_at max (data_end of) (content ++ (xs ++ x ∷ []))) ys
upto-used max more of content xs x ys is =
    front-used max more of content xs (x ∷ ys) (omega (arith, is))
    ∙ ap (λ n. length xs + suc n) (ap (λ body. used body ys) (last max (more - length xs) of (content ++ xs) x (omega (arith, is)) ∙ ap (body_at max (data_end of)) (append_assoc content xs (x ∷ []))))
    ∙ omega (arith, is)

-- ---- a run

parted : (more : ℕ) (rest : List ℕ) → more < length rest → (x : ℕ) × ((rest ≡ take more rest ++ x ∷ drop (more + 1) rest) × (take (more + 1) rest ≡ take more rest ++ x ∷ []))
parted more rest h = (get_or rest more 0, (sym (take-append-drop more rest) ∙ ap (λ (t : List ℕ). take more rest ++ t) (drop-cons rest more 0 h ∙ ap (λ k. get_or rest more 0 ∷ drop k rest) suc_is), take_more rest more 0 h))
  where
    suc_is : suc more ≡ more + 1
    suc_is = omega arith

pub run-moved : (max more : ℕ) (of : DataOf) (content rest : List ℕ)
    → after_bytes (in_data max more of content) rest
    ≡ after_bytes (body_at max (after_run more of (length rest)) (content ++ take (run_length more (length rest)) rest)) (drop (run_length more (length rest)) rest)
run-moved max more of content rest = test (nat_lt more (length rest)) refl
  where
    test : (f : Bool) → nat_lt more (length rest) ≡ f → after_bytes (in_data max more of content) rest
        ≡ after_bytes (body_at max (if f then data_end of else Data (more - length rest) of) (content ++ take (if f then more + 1 else length rest) rest)) (drop (if f then more + 1 else length rest) rest)
    test true e =
        let parts = parted more rest (ltb-true more (length rest) e) in
        ap (after_bytes (in_data max more of content)) parts.1.0
        ∙ upto max more of content (take more rest) parts.0 (drop (more + 1) rest) (length-take-le more rest (omega (arith, ltb-true more (length rest) e)))
        ∙ ap (λ (t : List ℕ). after_bytes (body_at max (data_end of) (content ++ t)) (drop (more + 1) rest)) (sym parts.1.1)
    test false e =
        let short : length rest ≤ more = ltb-false more (length rest) e in
        let taken : rest ≡ take (length rest) rest = sym (take_all (length rest) rest (omega arith)) in
        let left : [] ≡ drop (length rest) rest = sym (drop_all (length rest) rest (omega arith)) in
        ap (after_bytes (in_data max more of content)) (sym (append-nil rest))
        ∙ front max more of content rest [] short
        ∙ (λ i. after_bytes (in_data max (more - length rest) of (content ++ taken i)) (left i))

pub run-used : (max more : ℕ) (of : DataOf) (content rest : List ℕ)
    → used (in_data max more of content) rest
    ≡ run_length more (length rest) + used (body_at max (after_run more of (length rest)) (content ++ take (run_length more (length rest)) rest)) (drop (run_length more (length rest)) rest)
run-used max more of content rest = test (nat_lt more (length rest)) refl
  where
    test : (f : Bool) → nat_lt more (length rest) ≡ f → used (in_data max more of content) rest
        ≡ (if f then more + 1 else length rest) + used (body_at max (if f then data_end of else Data (more - length rest) of) (content ++ take (if f then more + 1 else length rest) rest)) (drop (if f then more + 1 else length rest) rest)
    test true e =
        let parts = parted more rest (ltb-true more (length rest) e) in
        ap (used (in_data max more of content)) parts.1.0
        ∙ upto-used max more of content (take more rest) parts.0 (drop (more + 1) rest) (length-take-le more rest (omega (arith, ltb-true more (length rest) e)))
        ∙ ap (λ (t : List ℕ). more + 1 + used (body_at max (data_end of) (content ++ t)) (drop (more + 1) rest)) (sym parts.1.1)
    test false e =
        let short : length rest ≤ more = ltb-false more (length rest) e in
        let taken : rest ≡ take (length rest) rest = sym (take_all (length rest) rest (omega arith)) in
        let left : [] ≡ drop (length rest) rest = sym (drop_all (length rest) rest (omega arith)) in
        ap (used (in_data max more of content)) (sym (append-nil rest))
        ∙ front-used max more of content rest [] short
        ∙ (λ i. length rest + used (in_data max (more - length rest) of (content ++ taken i)) (left i))

-- a run, by what the code computes of it
pub run-on : (max : ℕ) (state next : BodyState) (more : ℕ) (of : DataOf) (content grown rest left : List ℕ) (count : ℕ)
    → state ≡ Data more of → count ≡ run_length more (length rest) → next ≡ after_run more of (length rest) → grown ≡ content ++ take count rest → left ≡ drop count rest
    → (after_bytes (body_at max next grown) left ≡ after_bytes (body_at max state content) rest) × (used (body_at max state content) rest ≡ count + used (body_at max next grown) left)
run-on max state next more of content grown rest left count st cnt nx gr lf =
    let grows : grown ≡ content ++ take (run_length more (length rest)) rest = gr ∙ ap (λ k. content ++ take k rest) cnt in
    let leaves : left ≡ drop (run_length more (length rest)) rest = lf ∙ ap (λ k. drop k rest) cnt in (
      (λ i. after_bytes (body_at max (nx i) (grows i)) (leaves i)) ∙ sym (run-moved max more of content rest) ∙ ap (λ s. after_bytes (body_at max s content) rest) (sym st),
      ap (λ s. used (body_at max s content) rest) st ∙ run-used max more of content rest ∙ sym (λ i. cnt i + used (body_at max (nx i) (grows i)) (leaves i)),
    )

-- the content that there was stays at the front
pub kept-on : (first content xs grown : List ℕ) → take (length first) content ≡ first → grown ≡ content ++ xs → take (length first) grown ≡ first
kept-on first content xs grown h gr =
    ap (take (length first)) gr ∙ take-append-le (length first) content xs (omega (arith, ap length h, length-take (length first) content)) ∙ h
