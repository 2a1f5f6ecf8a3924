-- Parts of texts.
use Rattle.std.proofs.Common.{◌≡◌, ◌≢◌, ℕ, suc, List, [], ◌∷◌, ◌++◌, All, refl, arith}

-- a text is split in one way at the first of a byte
pub split-unique : (d : ℕ) (xs ys us vs : List ℕ) → All (λ b. b ≢ d) xs → All (λ b. b ≢ d) ys → xs ++ d ∷ us ≡ ys ++ d ∷ vs → (xs ≡ ys) × (us ≡ vs)
split-unique d [] [] us vs out_x out_y same = (refl, (let e : us ≡ vs = cc in e))
split-unique d [] (y ∷ ys) us vs out_x out_y same = absurd (out_y 0 d (omega arith) (let e : y ≡ d = cc in e))
split-unique d (x ∷ xs) [] us vs out_x out_y same = absurd (out_x 0 d (omega arith) (let e : x ≡ d = cc in e))
split-unique d (x ∷ xs) (y ∷ ys) us vs out_x out_y same =
    let head : x ≡ y = cc in
    let tail : xs ++ d ∷ us ≡ ys ++ d ∷ vs = cc in
    let rest = split-unique d xs ys us vs (λ k e within. out_x (suc k) e (omega arith)) (λ k e within. out_y (suc k) e (omega arith)) tail in
    ((let e : x ∷ xs ≡ y ∷ ys = cc (head, rest.0) in e), rest.1)

-- a text without the byte isn't one with it
pub split-absent : (d : ℕ) (xs us text : List ℕ) → All (λ b. b ≢ d) text → text ≡ xs ++ d ∷ us → ⊥
split-absent d [] us [] out is = let e : [] ≡ d ∷ us = is in cc
split-absent d (x ∷ xs) us [] out is = let e : [] ≡ x ∷ (xs ++ d ∷ us) = is in cc
split-absent d [] us (t ∷ text) out is = out 0 d (omega arith) (let e : t ≡ d = cc in e)
split-absent d (x ∷ xs) us (t ∷ text) out is = split-absent d xs us text (λ k e within. out (suc k) e (omega arith)) (let e : text ≡ xs ++ d ∷ us = cc in e)
