-- Lists whose elements are related one by one.
use Rattle.std.proofs.Common.{◌≡◌, ℕ, suc, ◌<◌, List, [], ◌∷◌, length, get_or, arith}
use Rattle.std.specs.List.{All, AllZip}
use Rattle.std.proofs.lemmas.List.Elements.{All-cons}

-- related at each index
pub zipped : {X : Type 0} (R : X → X → Type 0) (xs ys : List X) → length xs ≡ length ys → ((k : ℕ) (d : X) → k < length xs → R (get_or xs k d) (get_or ys k d))
    → AllZip R xs ys
zipped R [] [] e h = tt
zipped R [] (y ∷ ys) e h = absurd (omega (arith, e))
zipped R (x ∷ xs) [] e h = absurd (omega (arith, e))
zipped R (x ∷ xs) (y ∷ ys) e h = (h 0 x (omega arith), zipped R xs ys (omega (arith, e)) (λ k d p. h (suc k) d (omega (arith, p))))

-- what holds of the elements of the first holds of those of the second
pub all_zipped : {X : Type 0} (R : X → X → Type 0) (P Q : X → Type 0) (xs ys : List X) → ((x y : X) → R x y → P x → Q y) → AllZip R xs ys → All P xs → All Q ys
all_zipped R P Q [] [] step z h = λ k d p. absurd (omega arith)
all_zipped R P Q [] (y ∷ ys) step z h = absurd z
all_zipped R P Q (x ∷ xs) [] step z h = absurd z
all_zipped R P Q (x ∷ xs) (y ∷ ys) step z h =
    All-cons Q y ys (step x y z.0 (h 0 x (omega arith))) (all_zipped R P Q xs ys step z.1 (λ k d p. h (suc k) d (omega (arith, p))))

-- what holds of all elements holds of the first, and of those after it
pub first_of : {X : Type 0} (P : X → Type 0) (x : X) (xs : List X) → All P (x ∷ xs) → P x
first_of P x xs all = all 0 x (omega arith)

pub rest_of : {X : Type 0} (P : X → Type 0) (x : X) (xs : List X) → All P (x ∷ xs) → All P xs
rest_of P x xs all = λ k d h. all (suc k) d (omega (arith, h))
