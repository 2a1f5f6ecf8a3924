-- The names in functions, from the last to the first.
use Rattle.std.proofs.Common.{◌≡◌, ℕ, zero, suc, ◌+◌, ◌<◌, ◌≤◌, List, [], ◌∷◌, length, ◌++◌, get_or, drop, take, refl, ap, sym, subst, ◌∙◌, arith, add-one}
use Rattle.std.proofs.Math.Nat.{sub-zero}
use Rattle.std.proofs.lemmas.Bool.{le-ltb}
use Rattle.std.proofs.lemmas.Grind.{flat_map-append}
use Rattle.std.proofs.lemmas.List.{append-nil, take_more}
use Rattle.std.specs.Prelude.{flat_map, slice_get, unwrap_or}
use Rattle.lua_ast.specs.declared.programs.Function.{Function}
use Rattle.lua_linking.specs.Names.{Names, names_at, names_in_function, names_in_each, names_of}

more : (m : ℕ) (fs : List Function) (n : ℕ) (f : Function) → n < length fs → get_or fs n f ≡ f → names_in_each m (drop n fs)
    ≡ names_in_function (suc m) (names_in_each (suc m) (drop (suc n) fs)) f ∷ names_in_each (suc m) (drop (suc n) fs)
more m [] n f h e = absurd (omega (arith, h))
more m (x ∷ fs) zero f h e = rw e refl
more m (x ∷ fs) (suc n) f h e = more m fs n f (omega (arith, h)) e

-- the names in one function more
names_step : (fs : List Function) (n : ℕ) (f : Function) → n < length fs → get_or fs n f ≡ f →
    names_in_each n (drop n fs) ≡ names_in_function (n + 1) (names_in_each (n + 1) (drop (n + 1) fs)) f ∷ names_in_each (n + 1) (drop (n + 1) fs)
names_step fs n f h e = rw add-one (more n fs n f h e)

pub names_more : (fs : List Function) (m n : ℕ) (f : Function) (known more : List Names) (names : Names) → m ≡ n + 1 → n < length fs → f ≡ get_or fs n f
    → known ≡ names_in_each m (drop m fs) → names ≡ names_in_function (n + 1) known f → more ≡ names ∷ known → more ≡ names_in_each n (drop n fs)
names_more fs m n f known more names e lt at before one next =
    let same : known ≡ names_in_each (n + 1) (drop (n + 1) fs) = subst (λ j. known ≡ names_in_each j (drop j fs)) e before in
    next ∙ ap (λ x. x ∷ known) one ∙ ap (λ ks. names_in_function (n + 1) ks f ∷ ks) same ∙ sym (names_step fs n f lt (sym at))

pub names_end : (fs : List Function) (m n : ℕ) → length fs ≤ n → names_in_each m (drop n fs) ≡ []
names_end [] m zero h = refl
names_end [] m (suc n) h = refl
names_end (x ∷ fs) m zero h = absurd (omega (arith, h))
names_end (x ∷ fs) m (suc n) h = names_end fs m n (omega (arith, h))

-- the names in a function are the first of those from its number on
found : (m : ℕ) (fs : List Function) (n k : ℕ) → k ≡ m + n → slice_get (names_in_each m fs) n ≡ slice_get (names_in_each k (drop n fs)) 0
found m [] zero k e = refl
found m [] (suc n) k e = refl
found m (f ∷ fs) zero k e = let same : k ≡ m = omega (arith, e) in rw same refl
found m (f ∷ fs) (suc n) k e = found (suc m) fs n k (omega (arith, e))

pub names_of_first : (fs : List Function) (n : ℕ) → names_of fs n ≡ unwrap_or (slice_get (names_in_each n (drop n fs)) 0) []
names_of_first fs n = ap (λ o. unwrap_or o []) (found 0 fs n n (omega arith))

pub names_of_none : (fs : List Function) (n : ℕ) → length fs ≤ n → names_of fs n ≡ []
names_of_none fs n h = names_of_first fs n ∙ ap (λ each. unwrap_or (slice_get each 0) []) (names_end fs n n h)

-- where the names in all functions are known
names_at_all : (fs : List Function) (known : List Names) (n : ℕ) → known ≡ names_in_each 0 (drop 0 fs) → names_at 0 known n ≡ names_of fs n
names_at_all fs known n e = rw (e, le-ltb n 0 (omega arith), sub-zero n) refl

-- the names in one of these functions more
pub names_after : (fs : List Function) (known : List Names) (ns : List ℕ) (i n d : ℕ) (names others new : Names) → known ≡ names_in_each 0 (drop 0 fs) → i < length ns
    → n ≡ get_or ns i d → names ≡ flat_map (names_of fs) (take i ns) → others ≡ names_at 0 known n → new ≡ names ++ others → new ≡ flat_map (names_of fs) (take (i + 1) ns)
names_after fs known ns i n d names others new all less at before one next =
    let here : others ≡ names_of fs n = one ∙ names_at_all fs known n all in
    let longer : take (i + 1) ns ≡ take i ns ++ n ∷ [] = rw at (take_more ns i d less) in
    next ∙ ap (λ xs. xs ++ others) before ∙ ap (λ ys. flat_map (names_of fs) (take i ns) ++ ys) here ∙ rw (longer, flat_map-append, append-nil) refl
