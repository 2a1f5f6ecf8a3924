-- What is read of a list all of whose elements have something in common.
use Rattle.std.specs.Prelude.{ℕ, zero, suc, List, [], ◌∷◌, IfSome}
use Rattle.std.specs.List.{All, slice_get}
use Rattle.std.specs.Option.{unwrap_or}
use Rattle.std.proofs.lemmas.List.Elements.{All-head, All-tail}

-- at an index, or instead of it where there is none
pub read_all : {X : Type 0} (P : X → Type 0) (xs : List X) (i : ℕ) (d : X) → All P xs → P d → P (unwrap_or (slice_get xs i) d)
read_all P [] i d h p = p
read_all P (x ∷ xs) zero d h p = All-head P x xs h
read_all P (x ∷ xs) (suc i) d h p = read_all P xs i d (All-tail P x xs h) p

-- at an index, where there is one
pub read_some : {X : Type 0} (P : X → Type 0) (xs : List X) (i : ℕ) → All P xs → IfSome (slice_get xs i) P
read_some P [] i h = tt
read_some P (x ∷ xs) zero h = All-head P x xs h
read_some P (x ∷ xs) (suc i) h = read_some P xs i (All-tail P x xs h)
