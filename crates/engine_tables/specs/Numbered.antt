-- Values by rising numbers, in the order in which they were put.
use Rattle.std.specs.Prelude.{◌≡◌, ℕ, zero, suc, ◌≤◌, ◌-◌, ◌^◌, nat_lt, List, [], ◌∷◌, ◌++◌, Option, Some, None, if◌then◌else◌}

-- the values with their numbers, and for how many more there is room
pub record NumberedView (V : Type 0) : Type 0 where
  pub entries : List (ℕ × V)
  pub room : ℕ

-- what is at a number, if anything is
abbrev pub at_number : {V : Type 0} → ℕ → Option V → List (ℕ × V)
at_number n None = []
at_number n (Some v) = (n, v) ∷ []

-- what is at the numbers below one
abbrev pub below : {V : Type 0} → (ℕ → Option V) → ℕ → List (ℕ × V)
below values zero = []
below values (suc n) = below values n ++ at_number n (values n)

-- there is room where memory is set aside and a number is left
abbrev pub room_of : ℕ → ℕ → ℕ
room_of next spare = if nat_lt next (2 ^ 64 - 1) then spare else 0

-- nothing is at a number that wasn't given out
abbrev pub IsFresh : {V : Type 0} → (ℕ → Option V) → ℕ → Type 0
IsFresh values next = (n : ℕ) → next ≤ n → values n ≡ None
