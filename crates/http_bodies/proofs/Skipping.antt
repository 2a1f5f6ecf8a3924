-- A run of data is dropped as its bytes one by one, and what is whole or refused stays.
use Rattle.std.specs.Prelude.{Bool, true, false, suc, nat_lt, if◌then◌else◌}
use Rattle.std.proofs.Common.{◌≡◌, ℕ, ◌+◌, ◌-◌, ◌<◌, ◌≤◌, List, [], ◌∷◌, ◌++◌, length, take, drop, get_or, refl, sym, ap, ◌∙◌, arith}
use Rattle.std.proofs.lemmas.Bool.{lt-ltb, le-ltb, ltb-true, ltb-false}
use Rattle.std.proofs.lemmas.List.{append-nil, drop_all, take-append-drop, length-take-le}
use Rattle.std.proofs.Math.Seq.{drop-cons}
use Rattle.http_bodies.specs.declared.states.DataOf.{DataOf}
use Rattle.http_bodies.specs.declared.states.BodyState.{BodyState}
use Rattle.http_bodies.specs.declared.states.BodyState.TheVariants.{Data, Digits, Blanks, Extension, Return, DataEnd, DataReturn, Trailers, TrailersReturn, TrailersLine, Whole, Refused}
use Rattle.http_bodies.specs.States.{after_byte, data_end, is_settled}
use Rattle.http_bodies.specs.Runs.{run_length, after_run}
use Rattle.http_bodies.specs.Skips.{no_limit, skipped, skip_count}

pub skipped-append : (state : BodyState) (xs ys : List ℕ) → skipped (skipped state xs) ys ≡ skipped state (xs ++ ys)
skipped-append state [] ys = refl
skipped-append state (x ∷ xs) ys = skipped-append (after_byte no_limit state x) xs ys

stays : (state : BodyState) (b : ℕ) → is_settled state ≡ true → after_byte no_limit state b ≡ state
stays (Data more of) b h = absurd (let f : false ≡ true = h in cc)
stays (Digits size n) b h = absurd (let f : false ≡ true = h in cc)
stays (Blanks size n) b h = absurd (let f : false ≡ true = h in cc)
stays (Extension size n) b h = absurd (let f : false ≡ true = h in cc)
stays (Return size n) b h = absurd (let f : false ≡ true = h in cc)
stays DataEnd b h = absurd (let f : false ≡ true = h in cc)
stays DataReturn b h = absurd (let f : false ≡ true = h in cc)
stays (Trailers n) b h = absurd (let f : false ≡ true = h in cc)
stays (TrailersReturn n) b h = absurd (let f : false ≡ true = h in cc)
stays (TrailersLine n) b h = absurd (let f : false ≡ true = h in cc)
stays Whole b h = refl
stays (Refused code) b h = refl

pub settled-stays : (state : BodyState) (bs : List ℕ) → is_settled state ≡ true → skipped state bs ≡ state
settled-stays state [] h = refl
settled-stays state (b ∷ bs) h = ap (λ s. skipped s bs) (stays state b h) ∙ settled-stays state bs h

pub settled-counts : (state : BodyState) (bs : List ℕ) → is_settled state ≡ true → skip_count state bs ≡ 0
settled-counts state [] h = refl
settled-counts state (b ∷ bs) h = rw h refl

next : (more : ℕ) (of : DataOf) (x : ℕ) → 0 < more → after_byte no_limit (Data more of) x ≡ Data (more - 1) of
next more of x h = rw (lt-ltb 0 more h) refl

last : (more : ℕ) (of : DataOf) (x : ℕ) → more ≤ 0 → after_byte no_limit (Data more of) x ≡ data_end of
last more of x h = rw (le-ltb 0 more h) refl

front : (more : ℕ) (of : DataOf) (xs ys : List ℕ) → length xs ≤ more → skipped (Data more of) (xs ++ ys) ≡ skipped (Data (more - length xs) of) ys
front more of [] ys h = ap (λ m. skipped (Data m of) ys) (let left : more ≡ more - 0 = omega arith in left)
front more of (x ∷ xs) ys h =
    let left : more - 1 - length xs ≡ more - suc (length xs) = omega arith in
    ap (λ s. skipped s (xs ++ ys)) (next more of x (omega (arith, h))) ∙ front (more - 1) of xs ys (omega (arith, h)) ∙ ap (λ m. skipped (Data m of) ys) left

front-count : (more : ℕ) (of : DataOf) (xs ys : List ℕ) → length xs ≤ more → skip_count (Data more of) (xs ++ ys) ≡ length xs + skip_count (Data (more - length xs) of) ys
front-count more of [] ys h = ap (λ m. skip_count (Data m of) ys) (let left : more ≡ more - 0 = omega arith in left) ∙ omega arith
front-count more of (x ∷ xs) ys h =
    let left : more - 1 - length xs ≡ more - suc (length xs) = omega arith in
    ap suc (ap (λ s. skip_count s (xs ++ ys)) (next more of x (omega (arith, h))) ∙ front-count (more - 1) of xs ys (omega (arith, h)) ∙ ap (λ m. length xs + skip_count (Data m of) ys) left)
    ∙ omega arith

-- a run, by what the code computes of it
pub run-on : (state next : BodyState) (more : ℕ) (of : DataOf) (rest left : List ℕ) (count : ℕ)
    → state ≡ Data more of → count ≡ run_length more (length rest) → next ≡ after_run more of (length rest) → left ≡ drop count rest
    → (skipped next left ≡ skipped state rest) × (skip_count state rest ≡ count + skip_count next left)
run-on state next more of rest left count st cnt nx lf = rw (st, lf, cnt, nx) (test (nat_lt more (length rest)) refl)
  where
    test : (f : Bool) → nat_lt more (length rest) ≡ f
        → (skipped (if f then data_end of else Data (more - length rest) of) (drop (if f then more + 1 else length rest) rest) ≡ skipped (Data more of) rest)
        × (skip_count (Data more of) rest ≡ (if f then more + 1 else length rest) + skip_count (if f then data_end of else Data (more - length rest) of) (drop (if f then more + 1 else length rest) rest))
    test true e =
        let short : more < length rest = ltb-true more (length rest) e in
        let suc_is : suc more ≡ more + 1 = omega arith in
        let parted : rest ≡ take more rest ++ get_or rest more 0 ∷ drop (more + 1) rest =
        sym (take-append-drop more rest) ∙ ap (λ (t : List ℕ). take more rest ++ t) (drop-cons rest more 0 short ∙ ap (λ k. get_or rest more 0 ∷ drop k rest) suc_is) in
        let long : length (take more rest) ≡ more = length-take-le more rest (omega (arith, short)) in
        let ends : after_byte no_limit (Data (more - length (take more rest)) of) (get_or rest more 0) ≡ data_end of = last (more - length (take more rest)) of (get_or rest more 0) (omega (arith, long)) in (
          sym (ap (skipped (Data more of)) parted ∙ front more of (take more rest) (get_or rest more 0 ∷ drop (more + 1) rest) (omega (arith, long)) ∙ ap (λ s. skipped s (drop (more + 1) rest)) ends),
          ap (skip_count (Data more of)) parted ∙ front-count more of (take more rest) (get_or rest more 0 ∷ drop (more + 1) rest) (omega (arith, long))
              ∙ ap (λ n. length (take more rest) + suc n) (ap (λ s. skip_count s (drop (more + 1) rest)) ends) ∙ omega (arith, long),
        )
    test false e =
        let long : length rest ≤ more = ltb-false more (length rest) e in
        let left : drop (length rest) rest ≡ [] = drop_all (length rest) rest (omega arith) in (
          ap (skipped (Data (more - length rest) of)) left ∙ sym (ap (skipped (Data more of)) (sym (append-nil rest)) ∙ front more of rest [] long),
          ap (skip_count (Data more of)) (sym (append-nil rest)) ∙ front-count more of rest [] long ∙ ap (λ (t : List ℕ). length rest + skip_count (Data (more - length rest) of) t) (sym left),
        )

-- ---- bytes that come in two parts

pub counts-append : (state : BodyState) (xs ys : List ℕ) → skip_count state (xs ++ ys) ≡ skip_count state xs + skip_count (skipped state xs) ys
counts-append state [] ys = omega arith
counts-append state (x ∷ xs) ys = test (counts-append (after_byte no_limit state x) xs ys) (is_settled state) refl
  where
    test : skip_count (after_byte no_limit state x) (xs ++ ys) ≡ skip_count (after_byte no_limit state x) xs + skip_count (skipped (after_byte no_limit state x) xs) ys
        → (f : Bool) → is_settled state ≡ f → (if f then 0 else suc (skip_count (after_byte no_limit state x) (xs ++ ys)))
        ≡ (if f then 0 else suc (skip_count (after_byte no_limit state x) xs)) + skip_count (skipped (after_byte no_limit state x) xs) ys
    test more true e = omega (arith, settled-counts (skipped (after_byte no_limit state x) xs) ys (ap is_settled (settled-stays state (x ∷ xs) e) ∙ e))
    test more false e = omega (arith, more)

pub counts-within : (state : BodyState) (xs : List ℕ) → skip_count state xs ≤ length xs
counts-within state [] = omega arith
counts-within state (x ∷ xs) = test (counts-within (after_byte no_limit state x) xs) (is_settled state)
  where
    test : skip_count (after_byte no_limit state x) xs ≤ length xs → (f : Bool) → (if f then 0 else suc (skip_count (after_byte no_limit state x) xs)) ≤ suc (length xs)
    test more true = omega arith
    test more false = omega (arith, more)

pub counts-all : (state : BodyState) (xs : List ℕ) → is_settled (skipped state xs) ≡ false → skip_count state xs ≡ length xs
counts-all state [] h = refl
counts-all state (x ∷ xs) h = test (counts-all (after_byte no_limit state x) xs h) (is_settled state) refl
  where
    test : skip_count (after_byte no_limit state x) xs ≡ length xs → (f : Bool) → is_settled state ≡ f → (if f then 0 else suc (skip_count (after_byte no_limit state x) xs)) ≡ suc (length xs)
    test more true e = absurd (let f : true ≡ false = sym e ∙ ap is_settled (sym (settled-stays state (x ∷ xs) e)) ∙ h in cc)
    test more false e = ap suc more
